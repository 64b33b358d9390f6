-- A plan with a job behind it reaches what the job reaches from each place where the plan is through. Assumes nothing.
use mathlib.Core.Path.{◌≡◌, sym, subst}
use mathlib.Core.List.{List, [], ◌∷◌, ◌++◌}
use mathlib.Core.Logic.{inl, ⊎_elim, ⊎_map}
use Prim.Native.Nat.{ℕ, ◌+◌, ◌≤◌, ◌<◌}
use native.Mathlib.Omega.{arith}
use native.Mathlib.Nat.{le_of_lt}
use lib.ListN.{length}
use Rattle.bpa.specs.Plans.{Table}
use Rattle.replay.specs.Ends.{last, Ends, Gets}
use Rattle.replay.proofs.EndsLaws.{last_last, ends_join, gets_join, gets_front, ends_split, gets_split}
use Rattle.reach.specs.Reaches.{HoldsWord}
use Rattle.reach.specs.declared.Reach.{Reach}
use Rattle.reach.proofs.ReachLaws.{reaches_cleared, reaches_as}
use Rattle.following.specs.Followed.{cell_of, PlanReaches, OneMore, WordMore, JobMore}
use Rattle.following.proofs.WordWalk.{through_later}

module _ (t : Table) (log p : List ℕ) (d x : ℕ) where
  -- nothing yet
  more_first : {a : Reach} → PlanReaches t log p d a → OneMore t log p d x 0 (record { low = 0; high = 0; least = a.least })
  more_first r =
      reaches_as
      (λ e. ((λ n. absurd n), (λ w. let (s, l, k, f) = w in omega (arith, l))))
      (λ e. ((λ g. inl g), (λ w. ⊎_elim (λ g. g) (λ v. let (s, l, k, f) = v in absurd (omega (arith, l))) w)))
      (reaches_cleared r)

  -- all of it
  module _ (inside : d ≤ length log) (short : length log ≤ 128) (some : 0 < length p) where
    abbrev l : List ℕ
    l = last d log

    later : (s : ℕ) → Ends t p l s → s < d
    later s e = through_later t log p d s inside some e

    same : (s : ℕ) → Ends t p l s → last s l ≡ last s log
    same s e = last_last s d log (le_of_lt (later s e)) inside

    more_all : {a : Reach} → OneMore t log p d x 128 a → PlanReaches t log (p ++ (x ∷ [])) d a
    more_all =
        reaches_as
        (λ e. (
          (λ w. let (s, h, k, f) = w in ends_join t p (x ∷ []) l s e k (subst (λ (u : List ℕ). Ends t (x ∷ []) u e) (sym (same s k)) f)),
          (λ w.
              let (s, k, f) = ends_split t p (x ∷ []) l e w in
              (s, omega (arith, later s k), k, subst (λ (u : List ℕ). Ends t (x ∷ []) u e) (same s k) f)),
        ))
        (λ e. (
          (λ w.
              ⊎_elim (λ g. gets_front t p (x ∷ []) l e g)
              (λ v. let (s, h, k, f) = v in gets_join t p (x ∷ []) l s e k (subst (λ (u : List ℕ). Gets t (x ∷ []) u e) (sym (same s k)) f)) w),
          (λ w.
              ⊎_map (λ g. g)
              (λ v. let (s, k, f) = v in (s, omega (arith, later s k), k, subst (λ (u : List ℕ). Gets t (x ∷ []) u e) (same s k) f))
              (gets_split t p (x ∷ []) l e w)),
        ))

-- the numbers of the low word, counted from 0
lows : (A : ℕ → Type 0) (n : ℕ) → HoldsWord n A → HoldsWord n (λ k. A (0 + k))
lows A n h k l =
    let e : k ≡ 0 + k = omega arith in
    ((λ b. subst A e ((h k l).0 b)), (λ y. (h k l).1 (subst A (sym e) y)))

-- BOTH WORDS, one after the other
pub both_words : (cells : List ℕ) (x first : ℕ) (a half c : Reach) → first ≡ cell_of x 0 →
    WordMore cells first a.low (record { low = 0; high = 0; least = a.least }) half → WordMore cells (first + 64) a.high half c → JobMore cells x a c
unfolding cell_of
both_words cells x first a half c is one two = record {
  more = λ t log p d known some job r.
      let low = one.more t log p d x 0 known some job is (lows (Ends t p (last d log)) a.low r.low_holds) (more_first t log p d x r) in
      let whole = two.more t log p d x 64 known some job (omega (arith, is)) r.high_holds low in
      more_all t log p d x known.inside known.log_short some whole;
}
