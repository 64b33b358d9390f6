-- The image written from an accepted table is accepted and holds that table. Assumes nothing.
use mathlib.Core.Path.{◌≡◌, refl, sym, ap, ◌∙◌, subst}
use mathlib.Core.Bool.{true}
use mathlib.Core.List.{List, [], ◌++◌, append-nil}
use Prim.Native.Nat.{ℕ, zero, suc, ◌+◌, ◌*◌, ◌≤◌, ◌<◌}
use native.Mathlib.Decide.{ℕ_discrete}
use native.Mathlib.Omega.{arith}
use lib.ListN.{get_or, take, drop, length-drop, drop_of_length-le, take-append-drop}
use lib.Seq.{take_all, get_or-take, drop-drop}
use Rattle.area.specs.Numbers.{number_at}
use Rattle.rules.specs.Places.{rule_count, table_of}
use Rattle.rules.specs.Lists.{GoodList}
use Rattle.image.specs.Image.{checksum, block, blocks_in, block_places, places_from, image_jobs, image_places, table_in, layout_refusal, image_refusal, places_of_block}
use Rattle.image.specs.Writing.{blocks_for, rules_for, written, list_refusal, write_refusal}
use Rattle.image.specs.Filling.{filled}
use Rattle.image.proofs.Blocks.{Head, blocks_are}
use Rattle.image.proofs.AcceptedImages.{LaidOut, accepted}
use Rattle.answer.proofs.RefusalChains.{neither, both_pass}
use Rattle.refusal.specs.Refusals.{table_refusal}
use Rattle.image.proofs.ListRefusal.{good_list}
use Rattle.image.proofs.BlockChecks.{filled_jobs, filled_rules, filled_sum, filled_number, filled_blocks, filled_places, filled_good}
use Rattle.image.proofs.WrittenImages.{part, part_length, part_few, written_size}
use Rattle.image.proofs.WrittenBlocks.{blocks_bounds, rules_bounds, part_good, block_written}

module _ (n : ℕ) (rs : List ℕ) (g : GoodList n rs) where
  abbrev made : ℕ → List ℕ
  made k = filled n k (blocks_for rs) (part k rs)

  blocks_back : blocks_in (written n rs) ≡ blocks_for rs
  blocks_back = blocks_are (written n rs) (blocks_for rs) (written_size rs g.whole n)

  jobs_back : get_or (written n rs) 0 0 ≡ n
  unfolding block
  jobs_back =
      sym (get_or-take 512 (written n rs) 0 0 (omega arith))
      ∙ ap (λ l. get_or l 0 0) (block_written n rs g 0 (omega (arith, blocks_bounds n rs g)))
      ∙ filled_jobs n 0 (blocks_for rs) (part 0 rs)

  module _ (k : ℕ) (h : k < blocks_for rs) where
    made_head : Head n (blocks_for rs) k (made k)
    made_head =
        let r = rules_for k rs in
        let p = part k rs in
        let b = blocks_for rs in
        let total = blocks_bounds n rs g in
        let bounds = rules_bounds n rs g k h in
        let size = part_length rs g.whole k in
        let few = part_few rs g.whole k in
        let jobs = filled_jobs n k b p in
        let rules = filled_rules n k b p r size few in
        record {
          some_jobs = omega arith;
          few_jobs = omega arith;
          same_jobs = jobs;
          some_rules = omega arith;
          few_rules = omega arith;
          full = λ e. rules ∙ bounds.2 (full_then e);
          number = filled_number n k b p r size few (omega arith);
          count = filled_blocks n k b p r size few (omega arith);
        }
      where
        full_then : (suc k ≡ blocks_for rs → ⊥) → 63 * suc k ≤ rule_count rs
        full_then e = omega (arith, blocks_bounds n rs g)

    made_sum : number_at 510 (made k) ≡ checksum (made k)
    made_sum = filled_sum n k (blocks_for rs) (part k rs) (rules_for k rs) (part_length rs g.whole k) (part_few rs g.whole k)

    made_places : places_of_block n (made k) ≡ true
    made_places =
        filled_good n k (blocks_for rs) (part k rs) (rules_for k rs) (part_length rs g.whole k) (part_few rs g.whole k)
        (drop (504 * k) rs) refl (part_good n rs g k h)

  written_laid_out : LaidOut (written n rs)
  written_laid_out =
      let b = blocks_back in
      let bounds = blocks_bounds n rs g in
      record {
        length_is = written_size rs g.whole n ∙ ap (λ m. 512 * m) (sym b);
        some_blocks = omega arith;
        few_blocks = omega arith;
        sums = λ k h. let l : k < blocks_for rs = omega arith in
            subst (λ x. number_at 510 x ≡ checksum x) (sym (block_written n rs g k l)) (made_sum k l);
        heads = λ k h. let l : k < blocks_for rs = omega arith in
            subst (λ m. Head m (blocks_in (written n rs)) k (block k (written n rs))) (sym jobs_back)
            (subst (λ m. Head n m k (block k (written n rs))) (sym b)
            (subst (λ x. Head n (blocks_for rs) k x) (sym (block_written n rs g k l)) (made_head k l)));
        places = λ k h. let l : k < blocks_for rs = omega arith in
            ap (λ m. places_of_block m (block k (written n rs))) jobs_back ∙ ap (places_of_block n) (block_written n rs g k l) ∙ made_places k l;
      }

  -- a block's places, and those after them
  part_next : (k : ℕ) → k < blocks_for rs → part k rs ++ drop (504 * suc k) rs ≡ drop (504 * k) rs
  part_next k h = pick (ℕ_discrete (suc k) (blocks_for rs))
    where
      pick : Dec (suc k ≡ blocks_for rs) → take (8 * rules_for k rs) (drop (504 * k) rs) ++ drop (504 * suc k) rs ≡ drop (504 * k) rs
      pick (yes e) =
          let total = blocks_bounds n rs g in
          let all = (rules_bounds n rs g k h).3 (omega arith) in
          let l = drop (504 * k) rs in
          let later : drop (504 * suc k) rs ≡ [] = drop_of_length-le rs {i = 504 * suc k} (omega arith) in
          (λ i. take_all (8 * rules_for k rs) l (simp length-drop (omega arith)) i ++ later i) ∙ append-nil l
      pick (no e) =
          let total = blocks_bounds n rs g in
          let full : 8 * rules_for k rs ≡ 504 = let r = (rules_bounds n rs g k h).2 (omega arith) in omega arith in
          let next : 504 * suc k ≡ 504 * k + 504 = omega arith in
          (λ i. take (full i) (drop (504 * k) rs) ++ drop (next i) rs)
          ∙ ap (λ l. take 504 (drop (504 * k) rs) ++ l) (sym (drop-drop 504 (504 * k) rs)) ∙ take-append-drop 504 (drop (504 * k) rs)

  places_back : (m k : ℕ) → k + m ≡ blocks_for rs → places_from m k (written n rs) ≡ drop (504 * k) rs
  unfolding places_from
  places_back zero k h = sym (drop_of_length-le rs {i = 504 * k} (omega (arith, blocks_bounds n rs g)))
  places_back (suc m) k h =
      (λ i. here i ++ places_back m (suc k) (omega arith) i) ∙ part_next k (omega arith)
    where
      here : block_places (block k (written n rs)) ≡ part k rs
      here =
          let l : k < blocks_for rs = omega arith in
          ap block_places (block_written n rs g k l)
          ∙ filled_places n k (blocks_for rs) (part k rs) (rules_for k rs) (part_length rs g.whole k) (part_few rs g.whole k)

  jobs_held : image_jobs (written n rs) ≡ n
  unfolding image_jobs
  jobs_held = jobs_back

  places_held : image_places (written n rs) ≡ rs
  unfolding image_places
  places_held = ap (λ m. places_from m 0 (written n rs)) blocks_back ∙ places_back (blocks_for rs) 0 (omega arith)

  -- THE TABLE that a written image holds is the one that it was written from
  pub table_held : table_in (written n rs) ≡ table_of n rs
  unfolding table_in
  table_held = λ i. table_of (jobs_held i) (places_held i)

module _ (n : ℕ) (rs : List ℕ) (h : write_refusal n rs ≡ 0) where
  pub good : GoodList n rs
  unfolding write_refusal
  good = good_list n rs (neither (list_refusal n rs) (table_refusal (table_of n rs)) h).0

  -- the same of a list that the writer accepts, part by part; and its image is accepted
  pub table_jobs : image_jobs (written n rs) ≡ n
  table_jobs = jobs_held n rs good

  pub table_places : image_places (written n rs) ≡ rs
  table_places = places_held n rs good

  pub table_back : image_refusal (written n rs) ≡ 0
  unfolding image_refusal write_refusal
  table_back =
      both_pass (layout_refusal (written n rs)) (table_refusal (table_in (written n rs)))
      (accepted (written n rs) (written_laid_out n rs good))
      (ap table_refusal (table_held n rs good) ∙ (neither (list_refusal n rs) (table_refusal (table_of n rs)) h).1)
