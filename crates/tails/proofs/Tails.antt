-- The last place of a row before which no more than a given norm stands: what is left behind it is the one tail behind a beginning of that
-- norm, and if less stands before it, no beginning has that norm. Assumes nothing.
use mathlib.Core.Path.{◌≡◌, refl, sym, ap, ◌∙◌}
use mathlib.Core.List.{List, [], ◌∷◌, ◌++◌}
use mathlib.Core.Logic.{⊎_elim}
use Prim.Native.Nat.{ℕ, zero, suc, ◌+◌, ◌-◌, ◌≤◌, ◌<◌}
use native.Mathlib.Nat.{eq-or-lt_of_le}
use native.Mathlib.Omega.{arith}
use lib.Dec.{ltb}
use lib.ListN.{length, get_or, take, drop, length-append}
use lib.Seq.{take_all, take_at, drop_at}
use borrow.Author.Tests.{ltb-true, ltb-false}
use Rattle.bpa.specs.Norms.{sum_of}
use Rattle.bpa.proofs.Basics.Cases.{by_test}
use Rattle.tails.specs.Cuts.{CutBehind, Reached}

module _ (ns : List ℕ) where
  -- the norm before a place rises from place to place, by the norm of the job that stands there
  sum_rises : (row : List ℕ) (i k : ℕ) → i ≤ k → sum_of ns (take i row) ≤ sum_of ns (take k row)
  unfolding sum_of
  sum_rises row zero k h = omega arith
  sum_rises row (suc i) zero h = absurd (omega arith)
  sum_rises [] (suc i) (suc k) h = omega arith
  sum_rises (x ∷ row) (suc i) (suc k) h = omega (arith, sum_rises row i k (omega arith))

  sum_next : (row : List ℕ) (i : ℕ) → i < length row → sum_of ns (take (suc i) row) ≡ sum_of ns (take i row) + get_or ns (get_or row i 0) 0
  unfolding sum_of
  sum_next [] i h = absurd (omega arith)
  sum_next (x ∷ row) zero h = omega arith
  sum_next (x ∷ row) (suc i) h = omega (arith, sum_next row i (omega arith))

  -- before the first place stands nothing
  sum_some : (row : List ℕ) (i : ℕ) → 0 < sum_of ns (take i row) → 0 < i
  unfolding sum_of
  sum_some row zero h = h
  sum_some row (suc i) h = omega arith

  module _ (row : List ℕ) where
    -- before the end of the row stands all of it
    pub cut_last : (goal at norm : ℕ) → at ≡ length row → norm ≡ sum_of ns row → CutBehind ns row goal at norm
    cut_last goal at norm end whole = record {
      inside = omega arith;
      norm_is = whole ∙ sym (ap (sum_of ns) (take_all at row (omega arith)));
      later = λ k l b. absurd (omega arith);
    }

    module _ (goal at norm : ℕ) (c : CutBehind ns row goal at norm) (more : goal < norm) where
      -- a place before which too much stands is not the first
      pub cut_some : 0 < at
      cut_some = sum_some row at (omega (arith, c.norm_is))

      -- one place further back
      module _ (job less : ℕ) (e : job ≡ get_or row (at - 1) 0) (m : less ≡ get_or ns job 0) where
        last : norm ≡ sum_of ns (take (at - 1) row) + less
        last =
            let place : suc (at - 1) ≡ at = omega (arith, cut_some) in
            omega (
              arith,
              c.norm_is,
              ap (λ (i : ℕ). sum_of ns (take i row)) place,
              sum_next row (at - 1) (omega (arith, cut_some, c.inside)),
              ap (λ (j : ℕ). get_or ns j 0) e,
            )

        pub cut_less : less ≤ norm
        cut_less = omega (arith, last)

        pub cut_back : CutBehind ns row goal (at - 1) (norm - less)
        cut_back = record {
          inside = omega (arith, c.inside);
          norm_is = omega (arith, last);
          later = λ k l b. omega (arith, c.norm_is, sum_rises row at k (omega arith));
        }

    module _ (goal at norm : ℕ) (r : Reached ns row goal at norm) where
      -- the next goal, no greater, goes back from here
      pub reached_later : (goal' : ℕ) → goal' ≤ goal → CutBehind ns row goal' at norm
      reached_later goal' h = record {
        inside = r.place.inside;
        norm_is = r.place.norm_is;
        later = λ k l b. omega (arith, r.place.later k l b);
      }

      module _ (front tail : List ℕ) (e : row ≡ front ++ tail) (f : sum_of ns front ≡ goal) where
        front_sum : sum_of ns (take (length front) row) ≡ goal
        front_sum = ap (λ (l : List ℕ). sum_of ns (take (length front) l)) e ∙ ap (sum_of ns) (take_at front tail (length front) refl) ∙ f

        front_inside : length front ≤ length row
        front_inside = omega (arith, simp length-append at (ap length e))

        -- no beginning of that norm ends later
        not_later : length front ≤ at
        not_later =
            by_test (ltb at (length front))
            (λ s. absurd (omega (arith, front_sum, r.place.later (length front) (ltb-true at (length front) s) front_inside)))
            (ltb-false at (length front))

        -- if less stands before the place, there is none at all
        pub missed_tail : norm < goal → ⊥
        missed_tail h = omega (arith, front_sum, r.place.norm_is, sum_rises row (length front) at not_later)

        -- and if just that norm does, it ends here
        pub reached_tail : ((i : ℕ) → i < length row → 1 ≤ get_or ns (get_or row i 0) 0) → norm ≡ goal → tail ≡ drop at row
        reached_tail some g =
            ⊎_elim (λ (s : length front ≡ at). sym (ap (drop at) e ∙ drop_at front tail at s))
            (λ (s : length front < at).
            let b : length front < length row = omega (arith, r.place.inside) in
            let more : sum_of ns (take (suc (length front)) row) ≤ sum_of ns (take at row) = sum_rises row (suc (length front)) at s in
            absurd (omega (arith, front_sum, r.place.norm_is, sum_next row (length front) b, some (length front) b)))
            (eq-or-lt_of_le not_later)
