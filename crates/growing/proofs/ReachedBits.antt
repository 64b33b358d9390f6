-- The sets of jobs by bits are those of the definition: what rows of bits lead to is what a plan can reach, and the test is the test. Assumes a
-- good list of rules.
use mathlib.Core.Path.{◌≡◌, sym, ap, subst, ◌∙◌}
use mathlib.Core.Bool.{Bool, true, cond}
use mathlib.Core.List.{List, Memᴰ}
use mathlib.Core.Logic.{◌↔◌}
use Prim.Native.Nat.{ℕ, ◌+◌, ◌*◌, ◌<◌}
use native.Mathlib.Nat.{lt_of_lt_of_le}
use native.Mathlib.Omega.{arith}
use lib.Count.{ones}
use lib.ListN.{length, get_or}
use Rattle.bpa.specs.Plans.{Rule, Table, over}
use Rattle.bpa.proofs.Basics.Cases.{same_test}
use Rattle.rules.specs.Places.{rule_at, rule_count, table_of}
use Rattle.rules.specs.Lists.{GoodList}
use Rattle.rules.proofs.ListLaws.{rule_of, place_of_rule, table_closed}
use Rattle.bits.specs.Bits.{JobBits}
use Rattle.growth.specs.Reached.{has, members, reached, all_but_last, fronts, grows_at, grows, growth}
use Rattle.growth.proofs.JobSets.{member_exactly, one_exactly}
use Rattle.growth.proofs.RuleRows.{InFront, fronts_exactly}
use Rattle.growth.proofs.ReachedExact.{Leads, itself, by_rule, Led, led_rule, led_job, reached_exactly, fronts_over}
use Rattle.job_bits.specs.JobBits.{PlanBits, InPart, RuleSets}
use Rattle.job_bits.specs.declared.JobSets.{JobSets}
use Rattle.job_bits.proofs.BitsOfJobs.{jobs_as}
use Rattle.closure.specs.Linked.{Linked, own, next, SmallRows}
use Rattle.growing.specs.Growing.{SomeBack}
use Rattle.growing.proofs.CountedBits.{ones_members}

module _ (n : ℕ) (rs : List ℕ) (g : GoodList n rs) where
  abbrev t : Table
  t = table_of n rs

  module _ (job_sets : JobSets) (sets : RuleSets rs (rule_count rs) job_sets) where
    abbrev rows : List ℕ
    rows = job_sets.rows

    abbrev heads : List ℕ
    heads = job_sets.fronts

    pub rows_small : SmallRows rows
    rows_small j h = (sets.rows_hold j h).small

    pub fronts_small : SmallRows heads
    fronts_small j h = (sets.fronts_hold j h).small

    -- REACHED from a plan
    module _ (p : List ℕ) (o : over t p ≡ true) (from : ℕ) (start : PlanBits p from) where
      job_small : (j : ℕ) → Led t p j → j < 24
      unfolding table_of
      job_small j l = lt_of_lt_of_le (led_job t (table_closed n rs g) p o j l) g.jobs

      linked_led : {k : ℕ} → Linked rows from k → Led t p k
      linked_led (own k h) = (k, (start.holds k).0 h, itself k)
      linked_led (next i k l h) =
          let led = linked_led l in
          let (m, b, e, s) = ((sets.rows_hold i (job_small i led)).holds k).0 h in
          led_rule t (rule_at rs m).move k (rule_at rs m).after (subst (Led t p) (sym e) led) (rule_of n rs m b) s

      leads_linked : {i k : ℕ} → Leads t i k → Led t p i → Linked rows from i → Linked rows from k
      leads_linked (itself j) d l = l
      leads_linked (by_rule i a j k w h m r) d l =
          let (x, b, e) = place_of_rule n rs i a w h in
          let part : InPart (λ v. v) rs (rule_count rs) i j = (x, b, ap (λ (q : Rule). q.job) e, subst (λ (v : List ℕ). Memᴰ j v) (sym (ap (λ (q : Rule). q.after) e)) m) in
          leads_linked r (led_rule t a j w d h m) (next i j l (((sets.rows_hold i (job_small i d)).holds j).1 part))

      linked_exactly : (k : ℕ) → Linked rows from k ↔ (has (reached t p) k ≡ true)
      linked_exactly k = (
        (λ l. (reached_exactly t (table_closed n rs g) p o k).1 (linked_led l)),
        (λ h.
            let (i, m, l) = (reached_exactly t (table_closed n rs g) p o k).0 h in
            leads_linked l (i, m, itself i) (own i ((start.holds i).1 m))),
      )

    -- from the jobs that others stand behind
    front_bits : (j : ℕ) → j < 24 → PlanBits (fronts t.rules j) (get_or heads j 0)
    front_bits j h = jobs_as (λ k. ((λ w. into k w), (λ m. from k ((fronts_exactly t.rules j k).0 m)))) (sets.fronts_hold j h)
      where
        into : (k : ℕ) → InPart all_but_last rs (rule_count rs) j k → Memᴰ k (fronts t.rules j)
        into k (i, b, e, m) = (fronts_exactly t.rules j k).1 (rule_at rs i, rule_of n rs i b, e, m)

        from : (k : ℕ) → InFront t.rules j k → InPart all_but_last rs (rule_count rs) j k
        from k (r, m, e, f) =
            let (i, b, x) = place_of_rule n rs r.job r.move r.after m in
            (i, b, ap (λ (q : Rule). q.job) x ∙ e, subst (λ (v : List ℕ). Memᴰ k (all_but_last v)) (sym (ap (λ (q : Rule). q.after) x)) f)

    back_exactly : (j : ℕ) → j < 24 → Linked rows (get_or heads j 0) j ↔ (grows_at t j ≡ true)
    unfolding grows_at
    back_exactly j h =
        linked_exactly (fronts t.rules j) (fronts_over t (table_closed n rs g) j) (get_or heads j 0) (front_bits j h) j

    module _ (p : List ℕ) (o : over t p ≡ true) (from r : ℕ) (start : PlanBits p from) (closed : JobBits r (Linked rows from)) where
      abbrev Reached : (job : ℕ) → Type 0
      Reached k = has (reached t p) k ≡ true

      found : JobBits r Reached
      found = jobs_as (linked_exactly p o from start) closed

      counted : ones r ≡ length (members (reached t p))
      counted = ones_members (reached t p) 0 24 r found.small found.holds

      grows_exactly : SomeBack rows heads r ↔ (grows t p ≡ true)
      unfolding grows
      grows_exactly = (
        (λ s.
            let (j, b, l) = s in
            let h = (found.holds j).0 b in
            (one_exactly (grows_at t) (members (reached t p))).1
            (j, (member_exactly j (reached t p)).1 h, (back_exactly j (job_below j h)).0 l)),
        (λ e.
            let (j, m, a) = (one_exactly (grows_at t) (members (reached t p))).0 e in
            let h = (member_exactly j (reached t p)).0 m in
            (j, (found.holds j).1 h, (back_exactly j (job_below j h)).1 a)),
      )
        where
          job_below : (j : ℕ) → Reached j → j < 24
          job_below j h = job_small p o from start j ((reached_exactly t (table_closed n rs g) p o j).0 h)

      pub growth_is : (b : Bool) → (b ≡ true) ↔ SomeBack rows heads r → 2 * ones r + cond b 1 0 ≡ growth t p
      unfolding growth
      growth_is b f =
          let e : b ≡ grows t p = same_test b (grows t p) (λ h. grows_exactly.0 (f.0 h)) (λ h. f.1 (grows_exactly.1 h)) in
          omega (arith, counted, ap (λ (x : Bool). cond {A = ℕ} x 1 0) e)
