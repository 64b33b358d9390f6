-- What it means that refusals 2 to 5 do not meet an image: facts block by block, and back. Assumes nothing.
use mathlib.Core.Path.{◌≡◌, refl, sym, ◌∙◌}
use mathlib.Core.Bool.{Bool, true, ◌&&◌, not, cond}
use mathlib.Core.List.{List}
use Prim.Native.Nat.{ℕ, ◌*◌, ◌%◌, ◌≤◌, ◌<◌}
use native.Mathlib.Omega.{arith}
use lib.Dec.{leb, eqb}
use lib.ListN.{length, get_or}
use borrow.Author.Tests.{leb-true, eqb-true, le-leb, eq-eqb}
use Rattle.area.specs.Numbers.{number_at}
use Rattle.image.specs.Image.{checksum, block, blocks_in, each_block, length_good, sum_good, head_good, block_good, layout_refusal, places_of_block}
use Rattle.image.proofs.Refusals.{passed, pass}
use Rattle.bpa.proofs.Basics.Cases.{and_left, and_right, and_both}
use Rattle.image.proofs.Blocks.{each_one, each_all, Head, head_is, head_facts, head_made, places_are}

pub record LaidOut (bs : List ℕ) : Type 0 where
  pub length_is : length bs ≡ 512 * blocks_in bs
  pub some_blocks : 1 ≤ blocks_in bs
  pub few_blocks : blocks_in bs ≤ 4
  pub sums : (k : ℕ) → k < blocks_in bs → number_at 510 (block k bs) ≡ checksum (block k bs)
  pub heads : (k : ℕ) → k < blocks_in bs → Head (get_or bs 0 0) (blocks_in bs) k (block k bs)
  pub places : (k : ℕ) → k < blocks_in bs → places_of_block (get_or bs 0 0) (block k bs) ≡ true

module _ (bs : List ℕ) where
  abbrev each : (ℕ → Bool) → Bool
  each check = each_block check (blocks_in bs) 0

  abbrev after_heads : ℕ
  after_heads = cond (not (each (block_good bs))) 5 0

  abbrev after_sums : ℕ
  after_sums = cond (not (each (head_good bs))) 4 after_heads

  abbrev after_length : ℕ
  after_length = cond (not (each (sum_good bs))) 3 after_sums

  abbrev even : Bool
  even = eqb (length bs % 512) 0

  abbrev some : Bool
  some = leb 1 (blocks_in bs)

  abbrev few : Bool
  few = leb (blocks_in bs) 4

  sum_fact : (k : ℕ) → sum_good bs k ≡ true → number_at 510 (block k bs) ≡ checksum (block k bs)
  unfolding sum_good
  sum_fact k h = eqb-true (number_at 510 (block k bs)) (checksum (block k bs)) h

  sum_made : (k : ℕ) → number_at 510 (block k bs) ≡ checksum (block k bs) → sum_good bs k ≡ true
  unfolding sum_good
  sum_made k h = eq-eqb (number_at 510 (block k bs)) (checksum (block k bs)) h

  whole : length bs % 512 ≡ 0 → length bs ≡ 512 * blocks_in bs
  unfolding blocks_in
  whole h = omega arith

  rest_zero : length bs ≡ 512 * blocks_in bs → length bs % 512 ≡ 0
  unfolding blocks_in
  rest_zero h = omega arith

  pub laid_out : layout_refusal bs ≡ 0 → LaidOut bs
  unfolding layout_refusal length_good
  laid_out h =
      let sized = passed (even && (some && few)) 2 after_length (omega arith) h in
      let summed = passed (each (sum_good bs)) 3 after_sums (omega arith) sized.1 in
      let headed = passed (each (head_good bs)) 4 after_heads (omega arith) summed.1 in
      let placed = passed (each (block_good bs)) 5 0 (omega arith) headed.1 in
      let counted = and_right even (some && few) sized.0 in
      record {
        length_is = whole (eqb-true (length bs % 512) 0 (and_left even (some && few) sized.0));
        some_blocks = leb-true 1 (blocks_in bs) (and_left some few counted);
        few_blocks = leb-true (blocks_in bs) 4 (and_right some few counted);
        sums = λ k l. sum_fact k (each_one (sum_good bs) (blocks_in bs) 0 summed.0 k (omega arith) (omega arith));
        heads = λ k l. head_facts (get_or bs 0 0) (blocks_in bs) k (block k bs) (sym (head_is bs k) ∙ each_one (head_good bs) (blocks_in bs) 0 headed.0 k (omega arith) (omega arith));
        places = λ k l. sym (places_are bs k) ∙ each_one (block_good bs) (blocks_in bs) 0 placed.0 k (omega arith) (omega arith);
      }

  pub accepted : LaidOut bs → layout_refusal bs ≡ 0
  unfolding layout_refusal length_good
  accepted g =
      pass (even && (some && few)) 2 after_length
      (and_both even (some && few) (eq-eqb (length bs % 512) 0 (rest_zero g.length_is))
      (and_both some few (le-leb 1 (blocks_in bs) g.some_blocks) (le-leb (blocks_in bs) 4 g.few_blocks)))
      (pass (each (sum_good bs)) 3 after_sums (each_all (sum_good bs) (blocks_in bs) 0 (λ k low l. sum_made k (g.sums k (omega arith))))
      (pass (each (head_good bs)) 4 after_heads
      (each_all (head_good bs) (blocks_in bs) 0 (λ k low l. head_is bs k ∙ head_made (get_or bs 0 0) (blocks_in bs) k (block k bs) (g.heads k (omega arith))))
      (pass (each (block_good bs)) 5 0 (each_all (block_good bs) (blocks_in bs) 0 (λ k low l. places_are bs k ∙ g.places k (omega arith))) refl)))
