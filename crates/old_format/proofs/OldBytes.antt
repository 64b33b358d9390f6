-- The bytes of a table that the old format took: those that it gave are those of today, the job count and the rules as they stand. Assumes nothing.
use mathlib.Core.Path.{◌≡◌, refl, sym, ap, ap₂, ◌∙◌}
use mathlib.Core.Bool.{true}
use mathlib.Core.List.{List, [], ◌∷◌, ◌++◌}
use Prim.Native.Nat.{ℕ, zero, suc, ◌+◌, ◌*◌, ◌-◌, ◌/◌, ◌%◌, ◌≤◌, ◌<◌}
use native.Mathlib.Omega.{arith}
use lib.ListN.{length, get_or, take, drop, replicate, length-take, length-drop, replicate-append-replicate}
use Rattle.bpa.specs.Plans.{all_below, over}
use Rattle.bpa.proofs.Basics.Cases.{and_left, and_right}
use Rattle.rules.specs.Places.{move_in, rule_in, each_place, rules_in, rule_count, place_of, places_of, table_of, table_bytes}
use Rattle.image.specs.Image.{image_jobs, image_places}
use Rattle.image.proofs.ListRefusal.{good_list}
use Rattle.image.proofs.ByteRows.{byte_drop, places_bytes, first_low}
use Rattle.rules.proofs.PlaceBack.{after_few}
use Rattle.image.proofs.TableBytes.{bytes_of_list}
use Rattle.old_format.specs.OldFormat.{old_rule_in, old_rules_in, old_table_of, old_place_of, old_places_of, old_table_bytes, old_place_good, old_layout_refusal, old_table_in, old_list_refusal}
use Rattle.old_format.proofs.OldPlaces.{old_is_good, high_zero}
use Rattle.old_format.proofs.OldLists.{list_same, old_places_pass}
use Rattle.old_format.proofs.OldImages.{list_taken}

-- a place that the old format took is written by either
module _ (n : ℕ) (y : List ℕ) (low : get_or y 1 0 < 256) (h : old_place_good n y ≡ true) where
  abbrev after : List ℕ
  after = take (get_or y 2 0) (drop 3 y)

  few : length after ≤ 4
  few = let c = after_few n y (old_is_good n y h) in simp length-take (omega arith)

  old_place_same : old_place_of (old_rule_in y) ≡ place_of (rule_in y)
  unfolding old_place_of old_rule_in place_of rule_in move_in
  old_place_same =
      let low_part : get_or y 1 0 ≡ (get_or y 1 0 + 256 * get_or y 7 0) % 256 = omega (arith, high_zero n y h) in
      let high_part : 0 ≡ (get_or y 1 0 + 256 * get_or y 7 0) / 256 = omega (arith, high_zero n y h) in
      let one_more : 5 - length after ≡ 4 - length after + 1 = omega (arith, few) in
      let zeros : ◌≡◌ {A = List ℕ} (replicate (5 - length after) 0) (replicate (4 - length after) 0 ++ (0 ∷ [])) =
      ap (λ (m : ℕ). replicate m 0) one_more ∙ sym (replicate-append-replicate (4 - length after) 1 0) in
      (λ i. get_or y 0 0 ∷ low_part i ∷ length after ∷ (after ++ zeros i))
      ∙ ap (λ (v : ℕ). get_or y 0 0 ∷ ((get_or y 1 0 + 256 * get_or y 7 0) % 256) ∷ length after ∷ (after ++ (replicate (4 - length after) 0 ++ (v ∷ [])))) high_part

old_places_same : (n k : ℕ) (xs : List ℕ) → 8 * k ≤ length xs → all_below 256 xs ≡ true → each_place (old_place_good n) k xs ≡ true →
    old_places_of (old_rules_in k xs) ≡ places_of (rules_in k xs)
unfolding each_place old_rules_in rules_in old_places_of places_of over
old_places_same n zero xs room bytes h = refl
old_places_same n (suc k) xs room bytes h =
    let first = old_place_good n (take 8 xs) in
    let later = each_place (old_place_good n) k (drop 8 xs) in
    ap₂ ◌++◌ (old_place_same n (take 8 xs) (first_low xs bytes (omega arith)) (and_left first later h))
    (old_places_same n k (drop 8 xs) (simp length-drop (omega arith)) (byte_drop 8 xs bytes) (and_right first later h))

pub old_list_bytes : (n : ℕ) (rs : List ℕ) → all_below 256 rs ≡ true → old_list_refusal n rs ≡ 0 → old_table_bytes (old_table_of n rs) ≡ n ∷ rs
unfolding old_table_bytes old_table_of table_bytes table_of
old_list_bytes n rs bytes h =
    let g = good_list n rs (list_same n rs (λ e. omega arith) ∙ h) in
    ap (λ (l : List ℕ). n ∷ l) (old_places_same n (rule_count rs) rs (omega (arith, g.whole)) bytes (old_places_pass n rs h)) ∙ bytes_of_list n rs g bytes

pub old_image_bytes : (bs : List ℕ) → all_below 256 bs ≡ true → old_layout_refusal bs ≡ 0 → old_table_bytes (old_table_in bs) ≡ image_jobs bs ∷ image_places bs
unfolding old_table_in
old_image_bytes bs bytes h = old_list_bytes (image_jobs bs) (image_places bs) (places_bytes bs bytes) (list_taken bs h)
