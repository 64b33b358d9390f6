-- Where the test finds growth, a job comes round with others behind it, plans become as long as one likes, and so no list of plans has them all.
-- Assumes a good table.
use mathlib.Core.Path.{◌≡◌, subst}
use mathlib.Core.Bool.{true}
use mathlib.Core.List.{List, [], ◌∷◌, ◌++◌, Memᴰ}
use Prim.Native.Nat.{ℕ, zero, suc, ◌≤◌}
use native.Mathlib.Omega.{arith}
use lib.ListN.{length, length-append}
use Rattle.bpa.specs.Plans.{Rule, Table, over}
use Rattle.bpa.specs.Norms.{sum_of, Good}
use Rattle.bpa.proofs.Basics.Plans.{over_left, length_norm}
use Rattle.bpa.proofs.Rounds.Equivalence.{bisimilar_equivalent, equivalent_norm}
use Rattle.replay.proofs.ReplayMeaning.{run_over}
use Rattle.growth.specs.Growth.{Becomes, Endless, ComesRound, SomeComesRound, Unbounded}
use Rattle.growth.specs.Reached.{members, reached, fronts, grows_at, grows}
use Rattle.growth.proofs.Totals.{total, within_total}
use Rattle.growth.proofs.JobSets.{member_exactly, one_exactly}
use Rattle.growth.proofs.RuleRows.{fronts_exactly, stands_before}
use Rattle.growth.proofs.ReachedExact.{Leads, reached_led}
use Rattle.growth.proofs.JobsReached.{stays, becomes_then, becomes_waiting, becomes_row, reaches_led, through_front, leads_first, led_first, reached_meaning}

module _ (t : Table) (ns : List ℕ) (g : Good t ns) where
  -- COMING ROUND: again and again
  round_long : (j : ℕ) → ComesRound t j → (n : ℕ) → (q : List ℕ) × Becomes t (j ∷ []) (j ∷ q) × (n ≤ length q)
  round_long j c zero = ([], stays t (j ∷ []), omega arith)
  round_long j c (suc n) =
      let (k, more, b) = c in
      let (q, f, h) = round_long j c n in
      (k ∷ more ++ q, becomes_then t f (becomes_waiting t q b), omega (arith, h, length-append more q))

  -- THE TEST TRUE: a row of a job with another behind one that leads back
  row_round : (j a k i : ℕ) (u v w : List ℕ) → Memᴰ {A = Rule} (record { job = j; move = a; after = w }) t.rules →
      w ≡ u ++ k ∷ i ∷ v → Leads t k j → ComesRound t j
  row_round j a k i u v w h e l =
      let (c, b) = leads_first t ns g l in
      let row : Becomes t (j ∷ []) (u ++ k ∷ i ∷ v) = subst (λ (x : List ℕ). Becomes t (j ∷ []) x) e (becomes_row t j a w h) in
      let front = over_left t u (k ∷ i ∷ v) (subst (λ (x : List ℕ). over t x ≡ true) e (g.closed j a w h)) in
      behind c (becomes_then t (becomes_then t row (through_front t ns g u (k ∷ i ∷ v) front)) (becomes_waiting t (i ∷ v) b))
    where
      behind : (c : List ℕ) → Becomes t (j ∷ []) (j ∷ c ++ i ∷ v) → ComesRound t j
      behind [] b = (i, v, b)
      behind (x ∷ c) b = (x, c ++ i ∷ v, b)

  at_round : (j : ℕ) → grows_at t j ≡ true → ComesRound t j
  unfolding grows_at
  at_round j h =
      let (k, m, l) = reached_led t (fronts t.rules j) j h in
      let (r, n, e, s) = (fronts_exactly t.rules j k).0 m in
      let (u, i, v, f) = stands_before r.after k s in
      row_round j r.move k i u v r.after (subst (λ (x : ℕ). Memᴰ {A = Rule} (record { job = x; move = r.move; after = r.after }) t.rules) e n) f l

  pub grows_round : (p : List ℕ) → over t p ≡ true → grows t p ≡ true → SomeComesRound t p
  unfolding grows
  grows_round p o h =
      let (j, m, k) = (one_exactly (grows_at t) (members (reached t p))).0 h in
      (j, (reached_meaning t ns g p o j).0 ((member_exactly j (reached t p)).0 m), at_round j k)

  module _ (p : List ℕ) (o : over t p ≡ true) where
    pub round_unbounded : SomeComesRound t p → Unbounded t p
    round_unbounded (j, r, c) n =
        let (back, b) = led_first t ns g p o j (reaches_led t p j r) in
        let (q, f, h) = round_long j c n in
        (j ∷ q ++ back, becomes_then t b (becomes_waiting t back f), omega (arith, h, length-append q back))

    -- plans that are bisimilar have equal norms, and a plan is no longer than its norm
    pub unbounded_endless : Unbounded t p → Endless t p
    unbounded_endless long plans =
        let (q, b, h) = long (suc (total (sum_of ns) plans)) in (
          q,
          b,
          λ r m s.
              omega (
                arith,
                h,
                within_total (sum_of ns) r plans m,
                length_norm t ns g q (run_over t ns g b.1 o),
                equivalent_norm t ns g q r s.over_left s.over_right (bisimilar_equivalent t ns g q r s),
              ),
        )
