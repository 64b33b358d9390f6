-- Growth does not depend on the order of the rules, nor on how often each is written. Assumes good tables.
use mathlib.Core.Path.{◌≡◌, ap}
use mathlib.Core.Bool.{Bool, true, cond}
use mathlib.Core.List.{List}
use Prim.Native.Nat.{ℕ}
use native.Mathlib.Omega.{arith}
use lib.ListN.{length}
use Rattle.bpa.specs.Plans.{Table, over}
use Rattle.bpa.specs.Norms.{Good}
use Rattle.bpa.proofs.Basics.Cases.{same_test}
use Rattle.first_run.specs.FirstRun.{SameRules}
use Rattle.first_run.proofs.FirstRuns.{same_runs}
use Rattle.growth.specs.Growth.{Becomes, ReachesJob, SomeComesRound}
use Rattle.growth.specs.Reached.{members, reached, grows, growth}
use Rattle.growth.proofs.GrowthExact.{endless_exactly, round_exactly, jobs_counted}
use Rattle.growth.proofs.JobCounts.{count_single}

module _ (t u : Table) (s : SameRules t u) (p : List ℕ) where
  becomes_same : {q r : List ℕ} → Becomes t q r → Becomes u q r
  becomes_same (run, r) = (run, same_runs t u s r)

  reaches_same : (j : ℕ) → ReachesJob t p j → ReachesJob u p j
  reaches_same j (q, b, m) = (q, becomes_same b, m)

  rounds_same : SomeComesRound t p → SomeComesRound u p
  rounds_same (j, r, (k, more, b)) = (j, reaches_same j r, (k, more, becomes_same b))

module _ (t u : Table) (ns ms : List ℕ) (g : Good t ns) (h : Good u ms) (s : SameRules t u)
    (p : List ℕ) (o : over t p ≡ true) (ou : over u p ≡ true) where
  back : SameRules u t
  back j a w = ((s j a w).1, (s j a w).0)

  counted_same : length (members (reached t p)) ≡ length (members (reached u p))
  counted_same =
      let c = jobs_counted t ns g p o in
      count_single u p (length (members (reached t p))) (length (members (reached u p)))
      (record {
        jobs = c.jobs;
        once = c.once;
        exactly = λ j. ((λ m. reaches_same t u s p j ((c.exactly j).0 m)), (λ r. (c.exactly j).1 (reaches_same u t back p j r)));
        counted = c.counted;
      })
      (jobs_counted u ms h p ou)

  grows_same : grows t p ≡ grows u p
  grows_same =
      same_test (grows t p) (grows u p)
      (λ e. (endless_exactly u ms h p ou).1 ((round_exactly u ms h p ou).0 (rounds_same t u s p ((round_exactly t ns g p o).1 ((endless_exactly t ns g p o).0 e)))))
      (λ e. (endless_exactly t ns g p o).1 ((round_exactly t ns g p o).0 (rounds_same u t back p ((round_exactly u ms h p ou).1 ((endless_exactly u ms h p ou).0 e)))))

  pub growth_same : growth t p ≡ growth u p
  unfolding growth
  growth_same = omega (arith, counted_same, ap (λ (b : Bool). cond {A = ℕ} b 1 0) grows_same)
