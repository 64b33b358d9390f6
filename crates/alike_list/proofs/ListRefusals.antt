-- How refusals 12 and 13 of a list come about, and the list that neither meets. Assumes nothing.
use mathlib.Core.Path.{◌≡◌, sym, ap, ◌∙◌}
use mathlib.Core.Bool.{Bool, true, false, ◌||◌, cond}
use mathlib.Core.List.{List, []}
use Prim.Native.Nat.{ℕ, ◌+◌, ◌*◌, ◌/◌, ◌%◌, ◌≤◌, ◌<◌}
use native.Mathlib.Omega.{arith}
use lib.Dec.{ltb}
use lib.ListN.{length}
use borrow.Author.Tests.{lt-ltb, le-ltb, ltb-false}
use Rattle.bpa.proofs.Basics.Cases.{by_test, or_none, or_left, or_right}
use Rattle.answer.proofs.RefusalChains.{refused_first, passed_first}
use Rattle.alike.specs.Alike.{from_twice, from_as_to, clashes}
use Rattle.alike_list.specs.AlikeLists.{pair_count, alike_pairs, pairs_refusal, clash_refusal, alike_refusal}
use Rattle.alike_list.specs.PairArrays.{WholePairs}

-- more than 32 pairs, or an unfinished one
abbrev pub not_whole : (list : List ℕ) → Bool
not_whole ls = ltb 32 (length ls / 4) || ltb 0 (length ls % 4)

module _ (ls : List ℕ) where
  tested : (b : Bool) → not_whole ls ≡ b → pairs_refusal ls ≡ cond b 12 0
  unfolding pairs_refusal pair_count
  tested b e = ap (λ (x : Bool). cond x 12 0) e

  pub twelve : not_whole ls ≡ true → alike_refusal ls ≡ 12
  unfolding alike_refusal
  twelve e = let p = tested true e in refused_first (pairs_refusal ls) (clash_refusal ls) (λ z. omega (arith, p, z)) ∙ p

  pub by_clash : not_whole ls ≡ false → alike_refusal ls ≡ cond (clashes (alike_pairs ls)) 13 0
  unfolding alike_refusal clash_refusal
  by_clash e = passed_first (pairs_refusal ls) (clash_refusal ls) (tested false e)

  -- 1 to 32 whole pairs
  module _ (some : 0 < length ls) (whole : pairs_refusal ls ≡ 0) where
    unclashed : not_whole ls ≡ false
    unclashed = by_test (not_whole ls) (λ e. absurd (omega (arith, whole, tested true e))) (λ e. e)

    pub whole_pairs : WholePairs ls (length ls / 4)
    whole_pairs =
        let (few, even) = or_none (ltb 32 (length ls / 4)) (ltb 0 (length ls % 4)) unclashed in
        let f = ltb-false 32 (length ls / 4) few in
        let r = ltb-false 0 (length ls % 4) even in
        record { size = omega arith; some = omega arith; few = f }

    clash_is : (b : Bool) → clashes (alike_pairs ls) ≡ b → alike_refusal ls ≡ cond b 13 0
    clash_is b e = by_clash unclashed ∙ ap (λ (x : Bool). cond x 13 0) e

    pub twice_refused : from_twice [] (alike_pairs ls) ≡ true → 13 ≡ alike_refusal ls
    unfolding clashes
    twice_refused e =
        let ps = alike_pairs ls in
        sym (clash_is true (or_left (from_twice [] ps) (from_as_to ps ps) e))

    pub as_to_refused : from_as_to (alike_pairs ls) (alike_pairs ls) ≡ true → 13 ≡ alike_refusal ls
    unfolding clashes
    as_to_refused e =
        let ps = alike_pairs ls in
        sym (clash_is true (or_right (from_twice [] ps) (from_as_to ps ps) e))

    pub none_refused : clashes (alike_pairs ls) ≡ false → 0 ≡ alike_refusal ls
    none_refused e = sym (clash_is false e)
