-- AN IMAGE OF A JOINED TABLE: two accepted images that fit together have one, written from the places of both. Assumes nothing.
use mathlib.Core.Path.{◌≡◌, refl, sym, ap, ap₂, ◌∙◌}
use mathlib.Core.Bool.{Bool, true, false, ◌||◌, cond}
use mathlib.Core.List.{List, [], ◌∷◌, ◌++◌}
use Prim.Native.Nat.{ℕ, zero, suc, ◌+◌, ◌*◌, ◌≤◌, ◌<◌}
use native.Mathlib.Omega.{arith}
use lib.Dec.{ltb, eqb}
use lib.ListN.{length, get_or, take, drop, length-drop}
use lib.Seq.{length-take-le}
use Rattle.bpa.specs.Plans.{all_below, over}
use Rattle.bpa.specs.Norms.{norms}
use Rattle.bpa.proofs.Basics.Cases.{and_left, and_right, or_none}
use Rattle.bpa.proofs.Basics.Plans.{over_none, over_cons, over_append}
use Rattle.bpa.proofs.Basics.JobsBelow.{below_at}
use Rattle.rules.specs.Places.{place_good, each_place, places_good, changed_places, rule_count, table_of}
use Rattle.rules.specs.Lists.{GoodList}
use Rattle.rules.proofs.ListLaws.{length_rules_in}
use Rattle.answer.proofs.RefusalChains.{both_pass}
use Rattle.refusal.specs.Refusals.{any_zero, any_above, norms_refusal, table_refusal}
use Rattle.refusal.proofs.TableRefusals.{tests}
use Rattle.image.specs.Image.{image_jobs, image_places, table_in}
use Rattle.image.specs.Writing.{list_refusal, write_refusal, written}
use Rattle.image.proofs.ByteRows.{bytes, byte_take, byte_drop, places_bytes}
use Rattle.image.proofs.ImageList.{image_good_list}
use Rattle.image.proofs.ListRefusal.{list_passes}
use Rattle.image.proofs.TableBack.{table_held, table_back}
use Rattle.table.proofs.ImageTables.{image_passes, image_table}
use Rattle.joined.specs.Joined.{joined}
use Rattle.joined.proofs.JoinedNorms.{norms_joined}
use Rattle.joining.specs.JoinedBytes.{tables_refusal, numbered_on, renumbered_place, renumbered_places}
use Rattle.joining.proofs.JoinedSizes.{sizes_passed, sizes_tables}
use Rattle.joining.proofs.RenumberedPlaces.{job_fits, byte_fits}
use Rattle.joining.proofs.JoinedLists.{own_rules, joined_list, joined_table}
use Rattle.promises.specs.Promises.{all_bytes, AcceptedImage}
use Rattle.promises.proofs.WrittenBytes.{written_bytes}

-- REFUSALS 6 AND 7 of one row of norms behind another: what no number of either row meets, none of both does
module _ (some : List ℕ → Bool) (test : ℕ → Bool) (first : (v : ℕ) (ns : List ℕ) → some (v ∷ ns) ≡ (test v || some ns)) where
  none_append : (ns ms : List ℕ) → some ns ≡ false → some ms ≡ false → some (ns ++ ms) ≡ false
  none_append [] ms a b = b
  none_append (v ∷ ns) ms a b =
      let (h, k) = or_none (test v) (some ns) (sym (first v ns) ∙ a) in
      first v (ns ++ ms) ∙ ap₂ ◌||◌ h (none_append ns ms k b)

abbrev Passed : List ℕ → Type 0
Passed ns = (any_zero ns ≡ false) × (any_above 512 ns ≡ false)

norms_append : (ns ms : List ℕ) → Passed ns → Passed ms → norms_refusal (ns ++ ms) ≡ 0
unfolding norms_refusal any_zero any_above
norms_append ns ms p q =
    ap₂ (λ (x y : Bool). cond {A = ℕ} x 6 (cond y 7 0)) (none_append any_zero (λ v. eqb v 0) (λ v l. refl) ns ms p.0 q.0)
    (none_append (any_above 512) (ltb 512) (λ v l. refl) ns ms p.1 q.1)

-- PLACES WHOSE JOBS ARE NUMBERED ON stay bytes
module _ (n m : ℕ) (fits : n + m ≤ 256) where
  either : (b : Bool) (x : ℕ) → n + x < 256 → cond b (n + x) x < 256
  either true x h = h
  either false x h = omega (arith, h)

  place_bytes : (y : List ℕ) → length y ≡ 8 → place_good m y ≡ true → over bytes y ≡ true → over bytes (renumbered_place n y) ≡ true
  unfolding renumbered_place over
  place_bytes y size good b =
      let byte : (k : ℕ) → k < 8 → get_or y k 0 < 256 = λ k l. below_at 256 y k b (omega (arith, size, l)) in
      let on : (k : ℕ) → k < 4 → numbered_on n (get_or y 2 0) k (get_or y (3 + k) 0) < 256 =
      λ k l. either (ltb k (get_or y 2 0)) (get_or y (3 + k) 0) (byte_fits m y good n fits k l size) in
      over_cons bytes _ _ (job_fits m y good n fits)
      (over_cons bytes _ _ (byte 1 (omega arith))
      (over_cons bytes _ _ (byte 2 (omega arith))
      (over_cons bytes _ _ (on 0 (omega arith))
      (over_cons bytes _ _ (on 1 (omega arith))
      (over_cons bytes _ _ (on 2 (omega arith))
      (over_cons bytes _ _ (on 3 (omega arith)) (over_cons bytes _ _ (byte 7 (omega arith)) (over_none bytes))))))))

  row_bytes : (k : ℕ) (xs : List ℕ) → 8 * k ≤ length xs → places_good k m xs ≡ true → over bytes xs ≡ true →
      over bytes (changed_places (renumbered_place n) k xs) ≡ true
  unfolding changed_places places_good each_place
  row_bytes zero xs room good b = over_none bytes
  row_bytes (suc k) xs room good b =
      let first = place_good m (take 8 xs) in
      let rest = each_place (place_good m) k (drop 8 xs) in
      over_append bytes (renumbered_place n (take 8 xs)) (changed_places (renumbered_place n) k (drop 8 xs))
      (place_bytes (take 8 xs) (length-take-le 8 xs (omega arith)) (and_left first rest good) (byte_take 8 xs b))
      (row_bytes k (drop 8 xs) (omega (arith, length-drop 8 xs, room)) (and_right first rest good) (byte_drop 8 xs b))

-- THE IMAGE
module _ (bs cs : List ℕ) (b : AcceptedImage bs) (c : AcceptedImage cs) (z : tables_refusal (table_in bs) (table_in cs) ≡ 0) where
  abbrev n : ℕ
  n = image_jobs bs

  abbrev m : ℕ
  m = image_jobs cs

  abbrev rs : List ℕ
  rs = image_places bs

  abbrev os : List ℕ
  os = image_places cs

  abbrev both : List ℕ
  both = rs ++ renumbered_places n os

  left_list : GoodList n rs
  left_list = image_good_list bs (image_passes bs b.passed).0

  right_list : GoodList m os
  right_list = image_good_list cs (image_passes cs c.passed).0

  room : (n + m ≤ 24) × (length rs + length os ≤ 2016)
  unfolding table_in table_of
  room =
      sizes_passed (n + m) (length rs + length os)
      (sizes_tables (table_in bs) (table_in cs) n m (length rs) (length os) refl refl
      (left_list.whole ∙ ap (λ (k : ℕ). 8 * k) (sym (length_rules_in (rule_count rs) rs)))
      (right_list.whole ∙ ap (λ (k : ℕ). 8 * k) (sym (length_rules_in (rule_count os) os)))
      ∙ z)

  table : table_of (n + m) both ≡ joined (table_in bs) (table_in cs)
  unfolding table_in
  table = joined_table n m rs os left_list right_list room.0 room.1

  list : GoodList (n + m) both
  list = joined_list n m rs os left_list right_list room.0 room.1

  norms_pass : table_refusal (joined (table_in bs) (table_in cs)) ≡ 0
  unfolding table_refusal table_in
  norms_pass =
      ap norms_refusal (norms_joined (table_in bs) (table_in cs) (own_rules n rs left_list) (image_table bs b.passed).good (image_table cs c.passed).good)
      ∙ norms_append (norms (table_in bs)) (norms (table_in cs)) ((tests (table_in bs)).2 (image_passes bs b.passed).1)
      ((tests (table_in cs)).2 (image_passes cs c.passed).1)

  passes : write_refusal (n + m) both ≡ 0
  unfolding write_refusal
  passes =
      both_pass (list_refusal (n + m) both) (table_refusal (table_of (n + m) both)) (list_passes (n + m) both list) (ap table_refusal table ∙ norms_pass)

  both_bytes : all_below 256 both ≡ true
  unfolding over all_bytes
  both_bytes =
      over_append bytes rs (renumbered_places n os) (places_bytes bs b.bytes)
      (row_bytes n m (omega (arith, room.0)) (rule_count os) os (omega (arith, right_list.whole)) right_list.places (places_bytes cs c.bytes))

  pub has_image : (js : List ℕ) × AcceptedImage js × (table_in js ≡ joined (table_in bs) (table_in cs))
  unfolding all_bytes
  has_image = (
    written (n + m) both,
    record { bytes = written_bytes (n + m) both room.0 both_bytes; passed = table_back (n + m) both passes },
    table_held (n + m) both list ∙ table,
  )
