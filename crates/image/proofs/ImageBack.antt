-- An accepted image is written again, byte for byte, from the job count and the rules that it holds. Assumes nothing.
use mathlib.Core.Path.{◌≡◌, sym, ap, ◌∙◌}
use mathlib.Core.Bool.{true}
use mathlib.Core.List.{List, ◌++◌}
use Prim.Native.Nat.{ℕ, zero, suc, ◌+◌, ◌*◌, ◌-◌, ◌<◌, min}
use native.Mathlib.Nat.{zero-add}
use native.Mathlib.Omega.{arith}
use lib.ListN.{get_or, take, drop, drop_of_length-le}
use lib.Seq.{take_at, get_or-take, get_or-drop}
use Rattle.bpa.specs.Plans.{all_below}
use Rattle.rules.specs.Places.{rule_count, table_of}
use Rattle.bpa.proofs.Basics.JobsBelow.{below_at}
use Rattle.image.specs.Image.{block, blocks_in, rules_in_block, block_places, places_from, image_jobs, image_places, table_in, layout_refusal, image_refusal}
use Rattle.image.specs.Writing.{blocks_for, rules_for, written_block, written_from, written, list_refusal, write_refusal}
use Rattle.image.specs.Filling.{filled}
use Rattle.image.proofs.Blocks.{block_length, block_cons}
use Rattle.image.proofs.AcceptedImages.{LaidOut, laid_out}
use Rattle.image.proofs.HeldTable.{rules_from, places_length, from_later, count_is, count_bounds, image_length, image_listed}
use Rattle.image.proofs.ImageList.{count_later, first_of}
use Rattle.answer.proofs.RefusalChains.{neither, both_pass}
use Rattle.refusal.specs.Refusals.{table_refusal}
use Rattle.image.proofs.BlockParts.{block_filled}
use Rattle.image.proofs.WrittenImages.{part, filled_is}

module _ (bs : List ℕ) (g : LaidOut bs) where
  module _ (k m : ℕ) (last : k + suc m ≡ blocks_in bs) where
    rules_again : rules_for k (image_places bs) ≡ rules_in_block (block k bs)
    unfolding rules_for
    rules_again =
        let total = count_is bs g in
        let all : rules_from (blocks_in bs) 0 bs ≡ rules_from (k + suc m) 0 bs = ap (λ i. rules_from i 0 bs) (sym last) in
        let later = count_later bs g (suc m) k 0 (omega arith) (omega arith) in
        let here = ap (λ i. rules_from (suc m) i bs) (zero-add k) in
        let rest : rule_count (image_places bs) - 63 * k ≡ rules_from (suc m) k bs = omega arith in
        ap (min 63) rest ∙ first_of bs g m k last

    places_again : part k (image_places bs) ≡ block_places (block k bs)
    unfolding image_places places_from
    places_again =
        let x = block k bs in
        ap (λ r. take (8 * r) (drop (504 * k) (image_places bs))) rules_again
        ∙ ap (λ i. take (8 * rules_in_block x) (drop (504 * k) (places_from i 0 bs))) (sym last)
        ∙ ap (take (8 * rules_in_block x)) (from_later bs g (suc m) k 0 (omega arith) (omega arith) ∙ ap (λ i. places_from (suc m) i bs) (zero-add k))
        ∙ take_at (block_places x) (places_from m (suc k) bs) (8 * rules_in_block x) (places_length bs g k (omega arith))

  blocks_again : blocks_for (image_places bs) ≡ blocks_in bs
  unfolding blocks_for
  blocks_again = let bounds = count_bounds bs g in omega arith

  module _ (bytes : all_below 256 bs ≡ true) where
    block_byte : (k : ℕ) → k < blocks_in bs → (i : ℕ) → i < 512 → get_or (block k bs) i 0 < 256
    unfolding block
    block_byte k h i l =
        let e = get_or-take 512 (drop (512 * k) bs) i 0 l ∙ get_or-drop (512 * k) bs i 0 in
        let b = below_at 256 bs (512 * k + i) bytes (omega arith) in
        omega arith

    block_again : (k m : ℕ) → k + suc m ≡ blocks_in bs → written_block (image_jobs bs) k (image_places bs) ≡ block k bs
    unfolding image_jobs
    block_again k m last =
        let rs = image_places bs in
        let x = block k bs in
        let h : k < blocks_in bs = omega arith in
        sym (filled_is rs (image_length bs g) (get_or bs 0 0) k)
        ∙ (λ i. filled (get_or bs 0 0) k (blocks_again i) (places_again k m last i))
        ∙ sym (block_filled (get_or bs 0 0) (blocks_in bs) k x (block_length bs k (blocks_in bs) g.length_is h) (block_byte k h) (g.heads k h) (g.places k h) (g.sums k h))

    from_again : (m k : ℕ) → k + m ≡ blocks_in bs → written_from m k (image_jobs bs) (image_places bs) ≡ drop (512 * k) bs
    unfolding written_from
    from_again zero k h = sym (drop_of_length-le bs {i = 512 * k} (omega arith))
    from_again (suc m) k h =
        (λ i. block_again k m h i ++ from_again m (suc k) (omega arith) i) ∙ block_cons bs k

    written_again : written (image_jobs bs) (image_places bs) ≡ bs
    unfolding written
    written_again = ap (λ m. written_from m 0 (image_jobs bs) (image_places bs)) blocks_again ∙ from_again (blocks_in bs) 0 (omega arith)

module _ (bs : List ℕ) (h : image_refusal bs ≡ 0) where
  laid : layout_refusal bs ≡ 0
  unfolding image_refusal
  laid = (neither (layout_refusal bs) (table_refusal (table_in bs)) h).0

  -- THE TABLE of an accepted image is accepted by the writer, and
  pub image_writes : write_refusal (image_jobs bs) (image_places bs) ≡ 0
  unfolding write_refusal image_refusal table_in
  image_writes =
      both_pass (list_refusal (image_jobs bs) (image_places bs)) (table_refusal (table_of (image_jobs bs) (image_places bs)))
      (image_listed bs laid) (neither (layout_refusal bs) (table_refusal (table_in bs)) h).1

  -- THE IMAGE written from it is the same
  pub image_back : all_below 256 bs ≡ true → written (image_jobs bs) (image_places bs) ≡ bs
  image_back bytes = written_again bs (laid_out bs laid) bytes
