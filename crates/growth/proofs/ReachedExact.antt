-- The jobs found by rounds are those that the rules lead to, step by step, from the jobs of a plan. Assumes that rules keep to the table.
use mathlib.Core.Path.{◌≡◌, refl}
use mathlib.Core.Bool.{Bool, true, ◌||◌}
use mathlib.Core.List.{List, [], ◌∷◌, Memᴰ}
use mathlib.Core.Logic.{◌↔◌, ◌⊎◌, inl, inr, ⊎_elim}
use Prim.Native.Nat.{ℕ, zero, suc, ◌+◌, ◌≤◌, ◌<◌}
use native.Mathlib.Omega.{arith}
use lib.Dec.{ltb}
use lib.ListN.{length}
use borrow.Author.Tests.{ltb-true, ltb-false}
use Rattle.bpa.specs.Plans.{Table, over, HasRule}
use Rattle.bpa.proofs.Basics.Plans.{over_none, over_cons}
use Rattle.bpa.proofs.Basics.Cases.{by_test, or_cases, or_left, or_right}
use Rattle.bpa.proofs.Basics.Counting.{count, count_more}
use Rattle.bpa.proofs.Basics.EachJob.{Each, each_over}
use Rattle.alike.specs.Alike.{stands_in}
use Rattle.growth.specs.Reached.{JobSet, has, set_of, comes_in, widened, widened_by, reached, fronts}
use Rattle.growth.proofs.JobSets.{length_of, has_set, all_pass, stands_member}
use Rattle.growth.proofs.RuleRows.{comes_exactly, fronts_exactly, in_row}

-- one job leads to another: by rules, each of a job in the row before
pub data Leads (t : Table) : (from to : ℕ) → Type 0 where
  itself : (j : ℕ) → Leads t j j
  by_rule : (i a k j : ℕ) (w : List ℕ) → HasRule t i a w → Memᴰ k w → Leads t k j → Leads t i j

-- from some job of a plan
abbrev pub Led : Table → (plan : List ℕ) → (job : ℕ) → Type 0
Led t p j = (i : ℕ) × Memᴰ i p × Leads t i j

module _ (t : Table) where
  pub leads_on : {i k j : ℕ} → Leads t i k → Leads t k j → Leads t i j
  leads_on (itself j) l = l
  leads_on {j = j} (by_rule i a k m w h n r) l = by_rule i a k j w h n (leads_on r l)

  leads_rule : {i k : ℕ} (a j : ℕ) (w : List ℕ) → Leads t i k → HasRule t k a w → Memᴰ j w → Leads t i j
  leads_rule {k = k} a j w l h m = leads_on l (by_rule k a j j w h m (itself j))

  pub led_rule : {p : List ℕ} {k : ℕ} (a j : ℕ) (w : List ℕ) → Led t p k → HasRule t k a w → Memᴰ j w → Led t p j
  led_rule a j w (i, m, l) h n = (i, m, leads_rule a j w l h n)

  -- a round adds jobs in rows of members
  abbrev Added : JobSet → (job : ℕ) → Bool
  Added s j = has s j || comes_in s t.rules j

  in_round : (s : JobSet) (j : ℕ) → (has (widened t s) j ≡ true) ↔ ((j < t.jobs) × (Added s j ≡ true))
  unfolding widened
  in_round s j = has_set (Added s) t.jobs j

  rounds_length : (n : ℕ) (s : JobSet) → length s ≡ t.jobs → length (widened_by n t s) ≡ t.jobs
  unfolding widened_by widened
  rounds_length zero s e = e
  rounds_length (suc n) s e = rounds_length n (widened t s) (length_of (Added s) t.jobs)

  pub reached_length : (p : List ℕ) → length (reached t p) ≡ t.jobs
  unfolding reached
  reached_length p = rounds_length t.jobs (set_of (stands_in p) t.jobs) (length_of (stands_in p) t.jobs)

  -- ONLY SUCH JOBS are found
  module _ (p : List ℕ) where
    abbrev AllLed : JobSet → Type 0
    AllLed s = (j : ℕ) → has s j ≡ true → Led t p j

    round_led : (s : JobSet) → AllLed s → AllLed (widened t s)
    round_led s f j h =
        ⊎_elim (f j)
        (λ e. let (r, m, i, k) = (comes_exactly s t.rules j).0 e in led_rule r.move j r.after (f r.job i) m k)
        (or_cases (has s j) (comes_in s t.rules j) ((in_round s j).0 h).1)

    rounds_led : (n : ℕ) (s : JobSet) → AllLed s → AllLed (widened_by n t s)
    unfolding widened_by
    rounds_led zero s f = f
    rounds_led (suc n) s f = rounds_led n (widened t s) (round_led s f)

    start_led : AllLed (set_of (stands_in p) t.jobs)
    start_led j h = (j, (stands_member p j).0 ((has_set (stands_in p) t.jobs j).0 h).1, itself j)

    pub reached_led : (j : ℕ) → has (reached t p) j ≡ true → Led t p j
    unfolding reached
    reached_led = rounds_led t.jobs (set_of (stands_in p) t.jobs) start_led

  -- ALL OF THEM are found
  module _ (closed : (j a : ℕ) (w : List ℕ) → HasRule t j a w → over t w ≡ true) where
    -- they are jobs of the table
    leads_job : {i j : ℕ} → Leads t i j → i < t.jobs → j < t.jobs
    leads_job (itself j) h = h
    leads_job (by_rule i a k j w r m l) h = leads_job l (each_over t w (closed i a w r) k m)

    pub led_job : (p : List ℕ) → over t p ≡ true → (j : ℕ) → Led t p j → j < t.jobs
    led_job p o j (i, m, l) = leads_job l (each_over t p o i m)

    pub fronts_over : (j : ℕ) → over t (fronts t.rules j) ≡ true
    fronts_over j =
        over_each (fronts t.rules j)
        (λ k m.
        let (r, n, e, h) = (fronts_exactly t.rules j k).0 m in
        each_over t r.after (closed r.job r.move r.after n) k (in_row r.after k h))
      where
        over_each : (p : List ℕ) → Each (λ i. i < t.jobs) p → over t p ≡ true
        over_each [] f = over_none t
        over_each (i ∷ is) f = over_cons t i is (f i (Memᴰ.head refl)) (over_each is (λ k m. f k (Memᴰ.tail m)))

    -- a set that the rules do not lead out of
    abbrev Closed : JobSet → Type 0
    Closed s = (i a k : ℕ) (w : List ℕ) → has s i ≡ true → HasRule t i a w → Memᴰ k w → has s k ≡ true

    abbrev Within : JobSet → Type 0
    Within s = (j : ℕ) → has s j ≡ true → j < t.jobs

    round_within : (s : JobSet) → Within (widened t s)
    round_within s j h = ((in_round s j).0 h).0

    kept : (s : JobSet) → Within s → (j : ℕ) → has s j ≡ true → has (widened t s) j ≡ true
    kept s f j h = (in_round s j).1 (f j h, or_left (has s j) (comes_in s t.rules j) h)

    taken_in : (s : JobSet) (i a k : ℕ) (w : List ℕ) → has s i ≡ true → HasRule t i a w → Memᴰ k w → has (widened t s) k ≡ true
    taken_in s i a k w h r m =
        (in_round s k).1
        (each_over t w (closed i a w r) k m, or_right (has s k) (comes_in s t.rules k) ((comes_exactly s t.rules k).1 (record { job = i; move = a; after = w }, r, h, m)))

    abbrev Same : JobSet → Type 0
    Same s = (j : ℕ) → has (widened t s) j ≡ true → has s j ≡ true

    -- a round that adds none
    none_added : (s : JobSet) → count (has (widened t s)) t.jobs ≤ count (has s) t.jobs → Within s → Same s
    none_added s h f j e =
        by_test (has s j) (λ y. y)
        (λ n.
        absurd
        (omega (arith, h, count_more (has s) (has (widened t s)) t.jobs (λ i l. kept s f i) j (round_within s j e) n e)))

    same_closed : (s : JobSet) → Within s → Same s → Closed (widened t s)
    same_closed s f same i a k w h r m = taken_in s i a k w (same i h) r m

    closed_same : (s : JobSet) → Closed s → Same s
    closed_same s c j h =
        ⊎_elim (λ e. e)
        (λ e. let (r, m, i, k) = (comes_exactly s t.rules j).0 e in c r.job r.move j r.after i m k)
        (or_cases (has s j) (comes_in s t.rules j) ((in_round s j).0 h).1)

    -- so many rounds are enough: each adds a job, or none is left to add
    enough : (n : ℕ) (s : JobSet) → Within s → Closed s ⊎ (t.jobs ≤ n + count (has s) t.jobs) → Closed (widened_by n t s)
    unfolding widened_by
    enough zero s f (inl c) = c
    enough zero s f (inr h) = λ i a k w e r m. all_pass (has s) t.jobs (omega (arith, h)) k (each_over t w (closed i a w r) k m)
    enough (suc n) s f (inl c) = enough n (widened t s) (round_within s) (inl (same_closed s f (closed_same s c)))
    enough (suc n) s f (inr h) =
        enough n (widened t s) (round_within s)
        (by_test (ltb (count (has s) t.jobs) (count (has (widened t s)) t.jobs))
        (λ l. inr (omega (arith, h, ltb-true (count (has s) t.jobs) (count (has (widened t s)) t.jobs) l)))
        (λ l.
        inl
        (same_closed s f (none_added s (ltb-false (count (has s) t.jobs) (count (has (widened t s)) t.jobs) l) f))))

    rounds_keep : (n : ℕ) (s : JobSet) → Within s → (j : ℕ) → has s j ≡ true → has (widened_by n t s) j ≡ true
    unfolding widened_by
    rounds_keep zero s f j h = h
    rounds_keep (suc n) s f j h = rounds_keep n (widened t s) (round_within s) j (kept s f j h)

    closed_leads : (s : JobSet) → Closed s → {i j : ℕ} → Leads t i j → has s i ≡ true → has s j ≡ true
    closed_leads s c (itself j) h = h
    closed_leads s c (by_rule i a k j w r m l) h = closed_leads s c l (c i a k w h r m)

    module _ (p : List ℕ) (o : over t p ≡ true) where
      abbrev start : JobSet
      start = set_of (stands_in p) t.jobs

      start_within : Within start
      start_within j h = ((has_set (stands_in p) t.jobs j).0 h).0

      led_reached : (j : ℕ) → Led t p j → has (reached t p) j ≡ true
      unfolding reached
      led_reached j (i, m, l) =
          closed_leads (widened_by t.jobs t start) (enough t.jobs start start_within (inr (omega arith))) l
          (rounds_keep t.jobs start start_within i ((has_set (stands_in p) t.jobs i).1 (each_over t p o i m, (stands_member p i).1 m)))

      pub reached_exactly : (j : ℕ) → (has (reached t p) j ≡ true) ↔ Led t p j
      reached_exactly j = (reached_led p j, led_reached j)
