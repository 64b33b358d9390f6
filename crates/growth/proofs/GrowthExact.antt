-- The test decides whether a plan is endless or finite, a job that comes round with others behind it makes it endless and nothing else does, and the
-- jobs found are counted. Assumes a good table.
use mathlib.Core.Path.{◌≡◌, refl, sym, subst}
use mathlib.Core.Bool.{Bool, true, false, cond}
use mathlib.Core.List.{List}
use mathlib.Core.Logic.{◌↔◌}
use Prim.Native.Nat.{ℕ, ◌+◌, ◌*◌, ◌/◌, ◌%◌}
use native.Mathlib.Omega.{arith}
use lib.ListN.{length}
use Rattle.bpa.specs.Plans.{Rule, Table, over}
use Rattle.bpa.specs.Norms.{Good}
use Rattle.bpa.proofs.Basics.Cases.{by_test, never_both}
use Rattle.bpa.proofs.Base.MethodDecides.{equivalent_bisimilar}
use Rattle.bpa.proofs.Rounds.Approximants.{approx_refl}
use Rattle.replay.proofs.ReplayMeaning.{run_over}
use Rattle.growth.specs.Growth.{Finite, Endless, SomeComesRound, Bounded, Unbounded, JobCount, GrowthSays}
use Rattle.growth.specs.Reached.{members, reached, grows, growth}
use Rattle.growth.proofs.Totals.{total, within_total}
use Rattle.growth.proofs.JobSets.{member_exactly, members_rise}
use Rattle.growth.proofs.JobsReached.{reached_meaning}
use Rattle.growth.proofs.LongPlans.{grows_round, round_unbounded, unbounded_endless}
use Rattle.growth.proofs.BoundedPlans.{bounded}
use Rattle.growth.proofs.PlansListed.{plans_within, all_within}

-- no plan is both
pub not_both : (t : Table) (p : List ℕ) → Finite t p → Endless t p → ⊥
not_both t p (plans, listed) endless =
    let (q, b, none) = endless plans in
    let (r, m, s) = listed q b in
    none r m s

-- the jobs of all rows together are a bound for those of each
abbrev row_length : Rule → ℕ
row_length r = length r.after

-- a number by its half and its last binary digit
pub by_digit : (b : Bool) (m n : ℕ) → n ≡ 2 * m + cond b 1 0 → ((n % 2 ≡ 1) ↔ (b ≡ true)) × ((n % 2 ≡ 0) ↔ (b ≡ false)) × (n / 2 ≡ m)
by_digit true m n e =
    (((λ x. refl), (λ x. omega (arith, e))), ((λ x. absurd (omega (arith, e, x))), (λ x. absurd (never_both true refl x))), omega (arith, e))
by_digit false m n e =
    (((λ x. absurd (omega (arith, e, x))), (λ x. absurd (never_both false x refl))), ((λ x. refl), (λ x. omega (arith, e))), omega (arith, e))

module _ (t : Table) (ns : List ℕ) (g : Good t ns) (p : List ℕ) (o : over t p ≡ true) where
  -- bounded length makes finitely many plans
  bounded_finite : (n : ℕ) → Bounded t p n → Finite t p
  bounded_finite n f = (
    plans_within t n,
    λ q b.
        let k = run_over t ns g b.1 o in
        (q, all_within t n q k (f q b), equivalent_bisimilar t ns g q q k k (λ i. approx_refl t i q)),
  )

  grows_endless : grows t p ≡ true → Endless t p
  grows_endless h = unbounded_endless t ns g p o (round_unbounded t ns g p o (grows_round t ns g p o h))

  steady_finite : grows t p ≡ false → Finite t p
  steady_finite h =
      bounded_finite (total row_length t.rules * length (members (reached t p)) + length p)
      (bounded t ns g (total row_length t.rules) (λ j a w m. omega (arith, within_total row_length (record { job = j; move = a; after = w }) t.rules m)) p o h)

  -- THE TEST DECIDES
  pub endless_exactly : (grows t p ≡ true) ↔ Endless t p
  endless_exactly = (
    grows_endless,
    (λ e. by_test (grows t p) (λ h. h) (λ h. absurd (not_both t p (steady_finite h) e))),
  )

  pub finite_exactly : (grows t p ≡ false) ↔ Finite t p
  finite_exactly = (
    steady_finite,
    (λ f. by_test (grows t p) (λ h. absurd (not_both t p f (grows_endless h))) (λ h. h)),
  )

  -- THE CUSTOMER'S TEST
  pub round_exactly : SomeComesRound t p ↔ Endless t p
  round_exactly = (
    (λ c. unbounded_endless t ns g p o (round_unbounded t ns g p o c)),
    (λ e. grows_round t ns g p o (endless_exactly.1 e)),
  )

  -- and as plans are written
  pub unbounded_exactly : Unbounded t p ↔ Endless t p
  unbounded_exactly = (
    unbounded_endless t ns g p o,
    (λ e. round_unbounded t ns g p o (round_exactly.1 e)),
  )

  -- THE JOBS are counted
  pub jobs_counted : JobCount t p (length (members (reached t p)))
  jobs_counted = record {
    jobs = members (reached t p);
    once = members_rise 0 (reached t p);
    exactly = λ j. (
      (λ m. (reached_meaning t ns g p o j).0 ((member_exactly j (reached t p)).0 m)),
      (λ r. (member_exactly j (reached t p)).1 ((reached_meaning t ns g p o j).1 r)),
    );
    counted = refl;
  }

  -- AS ONE NUMBER
  pub growth_says : GrowthSays t p (growth t p)
  unfolding growth
  growth_says =
      let (odd, even, half) = by_digit (grows t p) (length (members (reached t p))) (growth t p) refl in (
        ((λ x. endless_exactly.0 (odd.0 x)), (λ e. odd.1 (endless_exactly.1 e))),
        ((λ x. finite_exactly.0 (even.0 x)), (λ f. even.1 (finite_exactly.1 f))),
        subst (JobCount t p) (sym half) jobs_counted,
      )
