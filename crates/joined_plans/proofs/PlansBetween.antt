-- REFUSALS 8 AND 9 of two plans by those of each over its own table, and what is known of the plans once neither is met. Assumes nothing.
use mathlib.Core.Path.{◌≡◌, refl, sym, ap, ◌∙◌}
use mathlib.Core.Bool.{Bool, true, false, cond}
use mathlib.Core.List.{List}
use Prim.Native.Nat.{ℕ}
use lib.Dec.{leb}
use borrow.Author.Tests.{eq-eqb, ne_eqb}
use Rattle.bpa.specs.Plans.{Table, all_below}
use Rattle.bpa.specs.Norms.{sum_of, norms, norm}
use Rattle.std.proofs.Common.{Result, Ok}
use Rattle.answer.specs.declared.Refusal.{Refusal}
use Rattle.answer.specs.Refusals.{or_else, refusal_of}
use Rattle.answer.proofs.ResultChains.{ok_passes}
use Rattle.answer.proofs.RefusalChains.{neither, both_pass}
use Rattle.refusal.specs.Refusals.{jobs_refusal, sum_refusal}
use Rattle.refusal.proofs.PlanRefusals.{array_norm}
use Rattle.rules.specs.Places.{table_of}
use Rattle.norm.specs.declared.Normed.{Normed}
use Rattle.table.proofs.HeldTables.{Ready}
use Rattle.table.proofs.AcceptedPlans.{plan_ready}
use Rattle.joined_plans.specs.PlansOfTwo.{plans_refusal_between, eight_first}

-- the right plan names a job that is not there, or not
pub right_eight : (a b : ℕ) → b ≡ 8 → 8 ≡ eight_first a b
unfolding eight_first
right_eight a b e = sym (ap (λ (x : Bool). cond x 8 (or_else a b)) (eq-eqb b 8 e))

pub not_eight : (a b : ℕ) → (b ≡ 8 → ⊥) → or_else a b ≡ eight_first a b
unfolding eight_first
not_eight a b h = sym (ap (λ (x : Bool). cond x 8 (or_else a b)) (ne_eqb b 8 h))

-- by the four tests
by_tests : (a b c d : Bool) → eight_first (or_else (cond a 0 8) (cond b 0 9)) (or_else (cond c 0 8) (cond d 0 9))
    ≡ or_else (cond a 0 8) (or_else (cond c 0 8) (or_else (cond b 0 9) (cond d 0 9)))
unfolding eight_first or_else
by_tests true true true true = refl
by_tests true true true false = refl
by_tests true true false true = refl
by_tests true true false false = refl
by_tests true false true true = refl
by_tests true false true false = refl
by_tests true false false true = refl
by_tests true false false false = refl
by_tests false true true true = refl
by_tests false true true false = refl
by_tests false true false true = refl
by_tests false true false false = refl
by_tests false false true true = refl
by_tests false false true false = refl
by_tests false false false true = refl
by_tests false false false false = refl

-- a check that passed
nothing : {A : Type 0} (v : A) → refusal_of {A = A} (Ok v) ≡ 0
unfolding refusal_of
nothing v = refl

pub eight_of_either : (n m : ℕ) (ns ms p q : List ℕ) →
    eight_first (or_else (jobs_refusal n p) (sum_refusal ns p)) (or_else (jobs_refusal m q) (sum_refusal ms q))
    ≡ or_else (jobs_refusal n p) (or_else (jobs_refusal m q) (or_else (sum_refusal ns p) (sum_refusal ms q)))
unfolding jobs_refusal sum_refusal
eight_of_either n m ns ms p q = by_tests (all_below n p) (leb (sum_of ns p) 4096) (all_below m q) (leb (sum_of ms q) 4096)

-- PLANS OVER TWO TABLES THAT ARE SEEN: x is what their checks came to
module _ (n m : Normed) {t u : Table} (is : table_of n.jobs n.rules.now ≡ t) (is' : table_of m.jobs m.rules.now ≡ u) {A : Type 0} (x : Result A Refusal)
    (p q : List ℕ)
    (e : refusal_of x ≡ or_else (jobs_refusal n.jobs p) (or_else (jobs_refusal m.jobs q) (or_else (sum_refusal n.norms.now p) (sum_refusal m.norms.now q)))) where
  own : {v : Table} (k : Normed) → table_of k.jobs k.rules.now ≡ v → k.jobs ≡ v.jobs
  unfolding table_of
  own k d = ap (λ (y : Table). y.jobs) d

  -- the norm of a plan by the array
  by_table : {v : Table} (k : Normed) → table_of k.jobs k.rules.now ≡ v → (r : List ℕ) → sum_refusal k.norms.now r ≡ sum_refusal (norms v) r
  unfolding sum_refusal norm
  by_table k d r = ap (λ (s : ℕ). cond (leb s 4096) 0 9) (array_norm _ k.norms.now k.exact r ∙ ap (λ (y : Table). norm y r) d)

  pub between : refusal_of x ≡ plans_refusal_between t u p q
  unfolding plans_refusal_between
  between =
      e ∙ (λ i. or_else (jobs_refusal (own n is i) p) (or_else (jobs_refusal (own m is' i) q) (or_else (by_table n is p i) (by_table m is' q i))))

  module _ (v : A) (k : x ≡ Ok v) where
    none : (jobs_refusal n.jobs p ≡ 0) × (jobs_refusal m.jobs q ≡ 0) × (sum_refusal n.norms.now p ≡ 0) × (sum_refusal m.norms.now q ≡ 0)
    none =
        let z = ok_passes x v k e in
        let (a, rest) = neither (jobs_refusal n.jobs p) (or_else (jobs_refusal m.jobs q) (or_else (sum_refusal n.norms.now p) (sum_refusal m.norms.now q))) z in
        let (b, sums) = neither (jobs_refusal m.jobs q) (or_else (sum_refusal n.norms.now p) (sum_refusal m.norms.now q)) rest in
        let (c, d) = neither (sum_refusal n.norms.now p) (sum_refusal m.norms.now q) sums in
        (a, b, c, d)

    pub left_ready : Ready t n.jobs n.rules.now n.norms.now p
    left_ready = let (a, b, c, d) = none in plan_ready n is (Ok v) p (nothing v ∙ sym (both_pass _ _ a c)) v refl

    pub right_ready : Ready u m.jobs m.rules.now m.norms.now q
    right_ready = let (a, b, c, d) = none in plan_ready m is' (Ok v) q (nothing v ∙ sym (both_pass _ _ b d)) v refl
