-- The table that an accepted image holds: how many rules, which bytes, and that it is one that the writer would accept. Assumes nothing.
use mathlib.Core.Path.{◌≡◌, refl, ap, ap₂, ◌∙◌}
use mathlib.Core.Bool.{Bool, true, ◌&&◌}
use mathlib.Core.List.{List, ◌++◌}
use Prim.Native.Nat.{ℕ, zero, suc, ◌+◌, ◌*◌, ◌-◌, ◌≤◌, ◌<◌}
use native.Mathlib.Nat.{zero-add, add-zero, suc-add}
use native.Mathlib.Omega.{arith}
use lib.ListN.{length, get_or, take, drop, length-append, length-take, length-drop}
use lib.Seq.{drop-drop, drop_at, take_at}
use Rattle.rules.specs.Lists.{GoodList}
use Rattle.rules.specs.Places.{all_zero, place_good, each_place, places_good, rule_count}
use Rattle.image.specs.Image.{block, blocks_in, rules_in_block, block_places, each_block, places_from, image_jobs, image_places, layout_refusal, places_of_block}
use Rattle.image.specs.Writing.{list_refusal}
use Rattle.bpa.proofs.Basics.Cases.{and_left}
use Rattle.image.proofs.Blocks.{block_length, each_all}
use Rattle.image.proofs.AcceptedImages.{LaidOut, laid_out}
use Rattle.image.proofs.ListRefusal.{list_passes}
use Rattle.image.proofs.PlaceRows.{each_local, each_split}

-- the rules of so many blocks from block k on
unfoldable pub rules_from : (left k : ℕ) → (image : List ℕ) → ℕ
rules_from zero k bs = 0
rules_from (suc m) k bs = rules_in_block (block k bs) + rules_from m (suc k) bs

module _ (bs : List ℕ) (g : LaidOut bs) where
  pub places_length : (k : ℕ) → k < blocks_in bs → length (block_places (block k bs)) ≡ 8 * rules_in_block (block k bs)
  unfolding block_places
  places_length k h =
      let whole = block_length bs k (blocks_in bs) g.length_is h in
      let few = (g.heads k h).few_rules in
      simp (length-take, length-drop) (omega arith)

  from_length : (m k : ℕ) → k + m ≤ blocks_in bs → length (places_from m k bs) ≡ 8 * rules_from m k bs
  unfolding places_from rules_from
  from_length zero k h = refl
  from_length (suc m) k h =
      let here = places_length k (omega arith) in
      let later = from_length m (suc k) (omega arith) in
      length-append (block_places (block k bs)) (places_from m (suc k) bs) ∙ omega arith

  -- the last block has 1 to 63 rules, the others 63
  from_count : (m k : ℕ) → k + suc m ≡ blocks_in bs → (63 * m + 1 ≤ rules_from (suc m) k bs) × (rules_from (suc m) k bs ≤ 63 * m + 63)
  unfolding rules_from
  from_count zero k h =
      let some = (g.heads k (omega arith)).some_rules in
      let few = (g.heads k (omega arith)).few_rules in
      (omega arith, omega arith)
  from_count (suc m) k h =
      let here = (g.heads k (omega arith)).full (omega arith) in
      let later = from_count m (suc k) (omega arith) in
      (omega arith, omega arith)

  in_block : (k : ℕ) → k < blocks_in bs → places_good (rules_in_block (block k bs)) (get_or bs 0 0) (drop 2 (block k bs)) ≡ true
  unfolding places_of_block
  in_block k h =
      let x = block k bs in
      let r = rules_in_block x in
      and_left (places_good r (get_or bs 0 0) (drop 2 x)) (all_zero (take (504 - 8 * r) (drop (2 + 8 * r) x))) (g.places k h)

  -- what is asked of each place of the image is asked of the places of each block
  module _ (f : List ℕ → Bool) where
    abbrev in_one : ℕ → Bool
    in_one k = each_place f (rules_in_block (block k bs)) (drop 2 (block k bs))

    from_each : (m k : ℕ) → k + m ≤ blocks_in bs → each_place f (rules_from m k bs) (places_from m k bs) ≡ each_block in_one m k
    unfolding places_from rules_from block_places each_place each_block
    from_each zero k h = refl
    from_each (suc m) k h =
        let r = rules_in_block (block k bs) in
        let here = block_places (block k bs) in
        let later = places_from m (suc k) bs in
        let sized = places_length k (omega arith) in
        each_split f r (rules_from m (suc k) bs) (here ++ later)
        ∙ ap₂ ◌&&◌ (each_local f r (here ++ later) (drop 2 (block k bs)) (take_at here later (8 * r) sized))
        (ap (each_place f (rules_from m (suc k) bs)) (drop_at here later (8 * r) sized) ∙ from_each m (suc k) (omega arith))

  -- the image's rules from block k on stand 504 * k bytes after the first
  pub from_later : (m j k : ℕ) → k + (j + m) ≡ blocks_in bs → 1 ≤ m → drop (504 * j) (places_from (j + m) k bs) ≡ places_from m (k + j) bs
  unfolding places_from
  from_later m zero k h some = rw (zero-add, add-zero)
  from_later m (suc j) k h some =
      let sized = places_length k (omega arith) in
      let full = (g.heads k (omega arith)).full (omega arith) in
      let next : 504 * suc j ≡ 504 + 504 * j = omega arith in
      let here = block_places (block k bs) in
      let later = places_from (j + m) (suc k) bs in
      rw (suc-add, next, ← drop-drop (504 * j) 504 (here ++ later))
      (ap (drop (504 * j)) (drop_at here later 504 (omega arith)) ∙ from_later m j (suc k) (omega arith) some ∙ ap (λ i. places_from m i bs) (omega arith))

  pub count_is : rule_count (image_places bs) ≡ rules_from (blocks_in bs) 0 bs
  unfolding rule_count image_places
  count_is = let sized = from_length (blocks_in bs) 0 (omega arith) in omega arith

  pub count_bounds : (63 * (blocks_in bs - 1) + 1 ≤ rule_count (image_places bs)) × (rule_count (image_places bs) ≤ 63 * blocks_in bs)
  count_bounds =
      let b = blocks_in bs in
      let one_more : suc (b - 1) ≡ b = omega arith in
      let bounds = from_count (b - 1) 0 (omega arith) in
      let all = ap (λ m. rules_from m 0 bs) one_more in
      let total = count_is in
      (omega arith, omega arith)

  pub image_length : length (image_places bs) ≡ 8 * rule_count (image_places bs)
  unfolding image_places
  image_length = let sized = from_length (blocks_in bs) 0 (omega arith) in let total = count_is in omega arith

  pub image_each : (f : List ℕ → Bool) → each_place f (rule_count (image_places bs)) (image_places bs) ≡ each_block (in_one f) (blocks_in bs) 0
  unfolding image_places
  image_each f = ap (λ m. each_place f m (image_places bs)) count_is ∙ from_each f (blocks_in bs) 0 (omega arith)

  image_good : places_good (rule_count (image_places bs)) (get_or bs 0 0) (image_places bs) ≡ true
  unfolding places_good
  image_good =
      image_each (place_good (get_or bs 0 0)) ∙ each_all (in_one (place_good (get_or bs 0 0))) (blocks_in bs) 0 (λ k low high. in_block k (omega arith))

  -- the table of an accepted image is one that the writer would accept
  pub held : GoodList (image_jobs bs) (image_places bs)
  unfolding image_jobs
  held = record {
    whole = image_length;
    some = let bounds = count_bounds in omega arith;
    few = let bounds = count_bounds in omega arith;
    job = let here = (g.heads 0 (omega arith)).some_jobs in let same = (g.heads 0 (omega arith)).same_jobs in omega arith;
    jobs = let here = (g.heads 0 (omega arith)).few_jobs in let same = (g.heads 0 (omega arith)).same_jobs in omega arith;
    places = image_good;
  }

-- one condition for image tables and written lists alike
pub image_listed : (bs : List ℕ) → layout_refusal bs ≡ 0 → list_refusal (image_jobs bs) (image_places bs) ≡ 0
image_listed bs h = list_passes (image_jobs bs) (image_places bs) (held bs (laid_out bs h))
