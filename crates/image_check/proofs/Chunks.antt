-- The blocks of an image as arrays of 512 bytes, and what a check of each says of refusals 3 to 5. Assumes nothing.
use Rattle.std.proofs.Common.{◌≡◌, refl, sym, ap, ◌∙◌, subst, Bool, true, false, not, cond, List, [], ℕ, ◌/◌, ◌%◌, ◌≤◌, ◌<◌, length, get_or, arith}
use Rattle.std.specs.List.{All}
use borrow.Author.Tests.{eqb-true, le-leb, eq-eqb}
use Rattle.std.proofs.lemmas.List.Elements.{All-get_or, All-from_get_or}
use Rattle.std.specs.Simd.{first_chunks}
use Rattle.area.specs.Numbers.{number_at}
use Rattle.image.specs.Image.{checksum, block, blocks_in, rules_in_block, each_block, length_good, sum_good, head_of, head_good, block_good, places_of_block, layout_refusal}
use Rattle.image.specs.Checks.{HeadsPass}
use Rattle.image.proofs.Blocks.{length_chunks, chunk_at, each_one, each_all, rules_few}

-- an image of 1 to 4 whole blocks, and its blocks as arrays
pub record Cut (bs : List ℕ) (xs : List (List ℕ)) : Type 0 where
  pub are : xs ≡ first_chunks 512 (length bs / 512) bs
  pub whole : length bs % 512 ≡ 0
  pub some : 1 ≤ length bs / 512
  pub few : length bs / 512 ≤ 4

module _ {bs : List ℕ} {xs : List (List ℕ)} (cut : Cut bs xs) where
  abbrev count : ℕ
  count = length bs / 512

  counted : length xs ≡ count
  counted = ap length cut.are ∙ length_chunks count bs

  at : (k : ℕ) → k < count → get_or xs k [] ≡ block k bs
  at k h = ap (λ (ys : List (List ℕ)). get_or ys k []) cut.are ∙ chunk_at bs count k h

  -- a check of each array is the check of each block
  each_array : (f : ℕ → Bool) (P : List ℕ → Type 0) → ((k : ℕ) → P (block k bs) → f k ≡ true) → All P xs → each_block f count 0 ≡ true
  each_array f P here h =
      each_all f count 0 (λ k low high. let within : k < count = omega arith in
      here k (subst P (at k within) (All-get_or P xs k [] (omega (arith, counted)) h)))

  arrays_each : (f : ℕ → Bool) (P : List ℕ → Type 0) → ((k : ℕ) → f k ≡ true → P (block k bs)) → each_block f count 0 ≡ true → All P xs
  arrays_each f P here h =
      All-from_get_or P xs [] (λ k i. let within : k < count = omega (arith, counted) in
      subst P (sym (at k within)) (here k (each_one f count 0 h k (omega arith) (omega arith))))

  abbrev sums : Type 0
  sums = All (λ x. number_at 510 x ≡ checksum x) xs

  abbrev heads : Type 0
  heads = HeadsPass (get_or bs 0 0) xs

  abbrev places : Type 0
  places = All (λ x. places_of_block (get_or bs 0 0) x ≡ true) xs

  sums_pass : sums → each_block (sum_good bs) count 0 ≡ true
  unfolding sum_good
  sums_pass h = each_array (sum_good bs) (λ x. number_at 510 x ≡ checksum x) (λ k e. eq-eqb (number_at 510 (block k bs)) (checksum (block k bs)) e) h

  passed_sums : each_block (sum_good bs) count 0 ≡ true → sums
  unfolding sum_good
  passed_sums h = arrays_each (sum_good bs) (λ x. number_at 510 x ≡ checksum x) (λ k e. eqb-true (number_at 510 (block k bs)) (checksum (block k bs)) e) h

  head_at : (k : ℕ) → k < count → head_of (get_or bs 0 0) (length xs) k (get_or xs k []) ≡ head_good bs k
  unfolding head_good blocks_in
  head_at k h = rw (counted, at k h)

  heads_pass : heads → each_block (head_good bs) count 0 ≡ true
  heads_pass h = each_all (head_good bs) count 0 (λ k low high. let within : k < count = omega arith in sym (head_at k within) ∙ h k (omega (arith, counted)))

  passed_heads : each_block (head_good bs) count 0 ≡ true → heads
  passed_heads h = λ k i. let within : k < count = omega (arith, counted) in
      head_at k within ∙ each_one (head_good bs) count 0 h k (omega arith) (omega arith)

  pub few_rules : heads → All (λ x. rules_in_block x ≤ 63) xs
  few_rules h = arrays_each (head_good bs) (λ x. rules_in_block x ≤ 63) (rules_few bs) (heads_pass h)

  places_pass : places → each_block (block_good bs) count 0 ≡ true
  unfolding block_good
  places_pass h = each_array (block_good bs) (λ x. places_of_block (get_or bs 0 0) x ≡ true) (λ k e. e) h

  passed_places : each_block (block_good bs) count 0 ≡ true → places
  unfolding block_good
  passed_places h = arrays_each (block_good bs) (λ x. places_of_block (get_or bs 0 0) x ≡ true) (λ k e. e) h

  -- the checks behind that of the length
  behind : layout_refusal bs
      ≡ cond (not (each_block (sum_good bs) count 0)) 3 (cond (not (each_block (head_good bs) count 0)) 4 (cond (not (each_block (block_good bs) count 0)) 5 0))
  unfolding layout_refusal length_good blocks_in
  behind = rw (eq-eqb (length bs % 512) 0 cut.whole, le-leb 1 count cut.some, le-leb count 4 cut.few)

  fails : (b : Bool) {P : Type 0} → (b ≡ true → P) → (P → ⊥) → b ≡ false
  fails true h n = absurd (n (h refl))
  fails false h n = refl

  pub bad_sum : (sums → ⊥) → 3 ≡ layout_refusal bs
  bad_sum n = sym (behind ∙ rw (fails (each_block (sum_good bs) count 0) passed_sums n))

  pub bad_head : sums → (heads → ⊥) → 4 ≡ layout_refusal bs
  bad_head s n = sym (behind ∙ rw (sums_pass s, fails (each_block (head_good bs) count 0) passed_heads n))

  pub bad_place : sums → heads → (places → ⊥) → 5 ≡ layout_refusal bs
  bad_place s h n = sym (behind ∙ rw (sums_pass s, heads_pass h, fails (each_block (block_good bs) count 0) passed_places n))

  pub no_refusal : sums → heads → places → 0 ≡ layout_refusal bs
  no_refusal s h p = sym (behind ∙ rw (sums_pass s, heads_pass h, places_pass p))
