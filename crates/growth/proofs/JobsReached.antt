-- The jobs that the rules lead to are those that a plan can reach: each job of a plan comes to its front, because those before it can finish.
-- Assumes a good table.
use mathlib.Core.Path.{◌≡◌, refl, sym, subst}
use mathlib.Core.Bool.{true}
use mathlib.Core.List.Memᴰ
use mathlib.Core.List.{List, [], ◌∷◌, ◌++◌, append-nil, Memᴰ}
use mathlib.Core.Logic.{◌↔◌, ⊎_elim}
use Prim.Native.Nat.{ℕ}
use Rattle.bpa.specs.Plans.{Table, over, HasRule, Runs, empty_run, longer_run}
use Rattle.bpa.specs.Norms.{Good}
use Rattle.bpa.proofs.Basics.Plans.{over_head, over_tail, over_one}
use Rattle.bpa.proofs.Norm.NormFewest.{sum_fewest}
use Rattle.replay.proofs.RunSplits.{run_then, run_waiting}
use Rattle.growth.specs.Growth.{Becomes, ReachesJob}
use Rattle.growth.specs.Reached.{has, reached}
use Rattle.growth.proofs.ReachedExact.{Leads, itself, by_rule, Led, reached_exactly}

module _ (t : Table) where
  pub stays : (p : List ℕ) → Becomes t p p
  stays p = ([], empty_run p)

  pub becomes_then : {p q r : List ℕ} → Becomes t p q → Becomes t q r → Becomes t p r
  becomes_then (run, r) (more, s) = (run ++ more, run_then t r s)

  pub becomes_waiting : {p q : List ℕ} (w : List ℕ) → Becomes t p q → Becomes t (p ++ w) (q ++ w)
  becomes_waiting w (run, r) = (run, run_waiting t w r)

  -- by one rule
  pub becomes_row : (i a : ℕ) (w : List ℕ) → HasRule t i a w → Becomes t (i ∷ []) w
  becomes_row i a w h = (a ∷ [], longer_run (i ∷ []) w a [] w (w, h, sym (append-nil w)) (empty_run w))

  -- what stands in a plan that it can become, the rules lead to
  run_led : {p run q : List ℕ} (j : ℕ) → Runs t p run q → Memᴰ j q → Led t p j
  run_led j (empty_run p) m = (j, m, itself j)
  run_led j (longer_run [] q a more end s r) m = absurd s
  run_led j (longer_run (i ∷ is) q a more end (w, h, e) r) m =
      let (k, n, l) = run_led j r m in
      ⊎_elim (λ (x : Memᴰ k w). (i, Memᴰ.head refl, by_rule i a k j w h x l))
      (λ x. (k, Memᴰ.tail x, l)) (Memᴰ.append_cases w (subst (λ (l : List ℕ). Memᴰ k l) e n))

  pub reaches_led : (p : List ℕ) (j : ℕ) → ReachesJob t p j → Led t p j
  reaches_led p j (q, b, m) = run_led j b.1 m

  module _ (ns : List ℕ) (g : Good t ns) where
    pub finish : (p : List ℕ) → over t p ≡ true → Becomes t p []
    finish p o = let (run, r, e) = (sum_fewest t ns g p o).0 in (run, r)

    -- a front is through, and what waits is next
    pub through_front : (u p : List ℕ) → over t u ≡ true → Becomes t (u ++ p) p
    through_front u p o = becomes_waiting p (finish u o)

    comes_first : (p : List ℕ) (k : ℕ) → over t p ≡ true → Memᴰ k p → (back : List ℕ) × Becomes t p (k ∷ back)
    comes_first [] k o m = absurd (Memᴰ.not-nil m)
    comes_first (i ∷ is) k o m =
        ⊎_elim (λ (e : k ≡ i). (is, subst (λ (x : ℕ). Becomes t (i ∷ is) (x ∷ is)) (sym e) (stays (i ∷ is))))
        (λ n.
        let (back, b) = comes_first is k (over_tail t i is o) n in
        (back, becomes_then (through_front (i ∷ []) is (over_one t i (over_head t i is o))) b))
        (Memᴰ.cases_cons m)

    -- a job that another leads to comes to the front of what that one becomes
    pub leads_first : {i j : ℕ} → Leads t i j → (back : List ℕ) × Becomes t (i ∷ []) (j ∷ back)
    leads_first (itself j) = ([], stays (j ∷ []))
    leads_first (by_rule i a k j w h m l) =
        let (b, f) = comes_first w k (g.closed i a w h) m in
        let (c, e) = leads_first l in
        (c ++ b, becomes_then (becomes_then (becomes_row i a w h) f) (becomes_waiting b e))

    module _ (p : List ℕ) (o : over t p ≡ true) where
      pub led_first : (j : ℕ) → Led t p j → (back : List ℕ) × Becomes t p (j ∷ back)
      led_first j (i, m, l) =
          let (b, f) = comes_first p i o m in
          let (c, e) = leads_first l in
          (c ++ b, becomes_then f (becomes_waiting b e))

      led_reaches : (j : ℕ) → Led t p j → ReachesJob t p j
      led_reaches j l = let (b, f) = led_first j l in (j ∷ b, f, Memᴰ.head refl)

      -- THE JOBS THAT ARE FOUND are the jobs that the plan can reach
      pub reached_meaning : (j : ℕ) → (has (reached t p) j ≡ true) ↔ ReachesJob t p j
      reached_meaning j = (
        (λ h. led_reaches j ((reached_exactly t g.closed p o j).0 h)),
        (λ r. (reached_exactly t g.closed p o j).1 (reaches_led p j r)),
      )
