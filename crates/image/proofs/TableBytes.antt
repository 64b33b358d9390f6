-- A table as bytes: the job count and the list of rules that it was made of. Assumes nothing.
use mathlib.Core.Path.{◌≡◌, refl, sym, ap, ◌∙◌}
use mathlib.Core.Bool.{true}
use mathlib.Core.List.{List, ◌∷◌, ◌++◌}
use Prim.Native.Nat.{ℕ, zero, suc, ◌+◌, ◌*◌, ◌≤◌}
use native.Mathlib.Omega.{arith}
use lib.ListN.{length, take, drop, length-drop}
use lib.Seq.{length-take-le, take_all, take-add}
use Rattle.bpa.specs.Plans.{all_below, over}
use Rattle.rules.specs.Places.{place_good, each_place, places_good, rules_in, rule_count, table_of, places_of, table_bytes}
use Rattle.rules.specs.Lists.{GoodList}
use Rattle.rules.proofs.PlaceBack.{place_back}
use Rattle.image.specs.Image.{image_jobs, image_places, table_in, layout_refusal}
use Rattle.bpa.proofs.Basics.Cases.{and_left, and_right}
use Rattle.image.proofs.ByteRows.{byte_drop, places_bytes, first_low}
use Rattle.image.proofs.ImageList.{image_good_list}

places_back : (k n : ℕ) (xs : List ℕ) → 8 * k ≤ length xs → all_below 256 xs ≡ true → places_good k n xs ≡ true →
    places_of (rules_in k xs) ≡ take (8 * k) xs
unfolding places_good each_place rules_in places_of over
places_back zero n xs room bytes good = refl
places_back (suc k) n xs room bytes good =
    let first = place_back n (take 8 xs) (length-take-le 8 xs (omega arith)) (first_low xs bytes (omega arith)) (and_left (place_good n (take 8 xs)) (places_good k n (drop 8 xs)) good) in
    let later = places_back k n (drop 8 xs) (simp length-drop (omega arith)) (byte_drop 8 xs bytes) (and_right (place_good n (take 8 xs)) (places_good k n (drop 8 xs)) good) in
    let next : 8 + 8 * k ≡ 8 * suc k = omega arith in
    (λ i. first i ++ later i) ∙ sym (take-add 8 (8 * k) xs) ∙ ap (λ m. take m xs) next

pub bytes_of_list : (n : ℕ) (rs : List ℕ) → GoodList n rs → all_below 256 rs ≡ true → table_bytes (table_of n rs) ≡ n ∷ rs
unfolding table_bytes table_of
bytes_of_list n rs g bytes =
    ap (λ l. n ∷ l) (places_back (rule_count rs) n rs (omega arith) bytes g.places ∙ take_all (8 * rule_count rs) rs (omega arith))

-- the bytes that a reader gives for an image
pub bytes_of_image : (bs : List ℕ) → all_below 256 bs ≡ true → layout_refusal bs ≡ 0 → table_bytes (table_in bs) ≡ image_jobs bs ∷ image_places bs
unfolding table_in
bytes_of_image bs bytes h = bytes_of_list (image_jobs bs) (image_places bs) (image_good_list bs h) (places_bytes bs bytes)
