-- Where the test finds no growth, no plan gets long: a job counts as much as a row is long for each job that it can reach, and one for each job behind
-- it, and no step raises the most that a job of the plan counts. Assumes a good table, and rows of at most one job more than a number.
use mathlib.Core.Path.{◌≡◌, refl, sym, ap, subst, ◌∙◌}
use mathlib.Core.Bool.{true, false}
use mathlib.Core.List.Memᴰ
use mathlib.Core.List.{List, [], ◌∷◌, ◌++◌, Memᴰ}
use mathlib.Core.Logic.{⊎_elim}
use Prim.Native.Nat.{ℕ, suc, ◌+◌, ◌*◌, ◌≤◌, ◌<◌}
use native.Mathlib.Omega.{arith}
use native.Mathlib.Nat.{mul-le-mul_left, mul-suc}
use lib.ListN.{length, length-append}
use Rattle.bpa.specs.Plans.{Table, over, HasRule, Runs, empty_run, longer_run}
use Rattle.bpa.specs.Norms.{Good}
use Rattle.bpa.proofs.Basics.Cases.{never_both, is_false}
use Rattle.bpa.proofs.Basics.Counting.{count, count_mono, count_more}
use Rattle.bpa.proofs.Basics.EachJob.{Each, each_over}
use Rattle.bpa.proofs.Basics.Plans.{over_one}
use Rattle.growth.specs.Growth.{Bounded}
use Rattle.growth.specs.Reached.{has, members, reached, all_but_last, fronts, grows_at, grows}
use Rattle.growth.proofs.JobSets.{member_exactly, members_counted, one_exactly}
use Rattle.growth.proofs.RuleRows.{fronts_exactly, in_row}
use Rattle.growth.proofs.ReachedExact.{Leads, itself, by_rule, Led, leads_on, led_rule, led_job, reached_length, reached_exactly, fronts_over}

-- each job of a plan counts no more than a bound, with those behind it
abbrev Light : (weight : ℕ → ℕ) → (bound : ℕ) → (plan : List ℕ) → Type 0
Light f b [] = Unit {0}
Light f b (j ∷ js) = (f j + suc (length js) ≤ b) × Light f b js

light_length : (f : ℕ → ℕ) (b : ℕ) (p : List ℕ) → Light f b p → length p ≤ b
light_length f b [] l = omega arith
light_length f b (j ∷ js) (h, l) = omega (arith, h)

light_start : (f : ℕ → ℕ) (m b : ℕ) (p : List ℕ) → m + length p ≤ b → Each (λ j. f j ≤ m) p → Light f b p
light_start f m b [] h e = tt
light_start f m b (j ∷ js) h e =
    (omega (arith, h, e j (Memᴰ.head refl)), light_start f m b js (omega (arith, h)) (λ i n. e i (Memᴰ.tail n)))

-- a row in the place of its job
module _ (f : ℕ → ℕ) (b k x : ℕ) (js : List ℕ) (own : f x + suc (length js) ≤ b) (behind : Light f b js) where
  light_row : (w : List ℕ) → length w ≤ suc k → Each (λ v. f v + k ≤ f x) (all_but_last w) → Each (λ v. f v ≤ f x) w → Light f b (w ++ js)
  unfolding all_but_last
  light_row [] h front row = behind
  light_row (v ∷ []) h front row = (omega (arith, own, row v (Memᴰ.head refl)), behind)
  light_row (v ∷ z ∷ w) h front row = (
    omega (arith, own, h, front v (Memᴰ.head refl), length-append w js),
    light_row (z ∷ w) (omega (arith, h)) (λ i n. front i (Memᴰ.tail n)) (λ i n. row i (Memᴰ.tail n)),
  )

module _ (t : Table) (ns : List ℕ) (g : Good t ns) (k : ℕ) (short : (j a : ℕ) (w : List ℕ) → HasRule t j a w → length w ≤ suc k) where
  -- how many jobs a job can reach
  size : (job : ℕ) → ℕ
  size x = count (has (reached t (x ∷ []))) t.jobs

  of_one : (x y : ℕ) → x < t.jobs → has (reached t (x ∷ [])) y ≡ true → Leads t x y
  of_one x y h e =
      let (i, m, l) = (reached_exactly t g.closed (x ∷ []) (over_one t x h) y).0 e in
      subst (λ (z : ℕ). Leads t z y) (Memᴰ.eq_of_singleton m) l

  one_of_them : (x y : ℕ) → x < t.jobs → Leads t x y → has (reached t (x ∷ [])) y ≡ true
  one_of_them x y h l = (reached_exactly t g.closed (x ∷ []) (over_one t x h) y).1 (x, Memᴰ.head refl, l)

  module _ (x y : ℕ) (h : x < t.jobs) (i : y < t.jobs) (l : Leads t x y) where
    also : (z : ℕ) → has (reached t (y ∷ [])) z ≡ true → has (reached t (x ∷ [])) z ≡ true
    also z e = one_of_them x z h (leads_on t l (of_one y z i e))

    size_least : size y ≤ size x
    unfolding size
    size_least = count_mono (has (reached t (y ∷ []))) (has (reached t (x ∷ []))) t.jobs (λ z m. also z)

    size_less : (Leads t y x → ⊥) → 1 + size y ≤ size x
    unfolding size
    size_less f =
        count_more (has (reached t (y ∷ []))) (has (reached t (x ∷ []))) t.jobs (λ z m. also z) x h
        (is_false (has (reached t (y ∷ [])) x) (λ e. f (of_one y x i e))) (one_of_them x x h (itself x))

  weight : (job : ℕ) → ℕ
  weight x = k * size x

  module _ (p : List ℕ) (o : over t p ≡ true) (none : grows t p ≡ false) where
    -- a job that others stand behind does not lead back
    no_way_back : (x a v : ℕ) (w : List ℕ) → Led t p x → HasRule t x a w → Memᴰ v (all_but_last w) → Leads t v x → ⊥
    unfolding grows grows_at
    no_way_back x a v w l h m r =
        let front = (fronts_exactly t.rules x v).1 (record { job = x; move = a; after = w }, h, refl, m) in
        let back = (reached_exactly t g.closed (fronts t.rules x) (fronts_over t g.closed x) x).1 (v, front, r) in
        never_both (grows t p)
        ((one_exactly (grows_at t) (members (reached t p))).1
        (x, (member_exactly x (reached t p)).1 ((reached_exactly t g.closed p o x).1 l), back)) none

    module _ (x a : ℕ) (w : List ℕ) (l : Led t p x) (h : HasRule t x a w) where
      job_in : (v : ℕ) → Memᴰ v w → v < t.jobs
      job_in = each_over t w (g.closed x a w h)

      to : (v : ℕ) → Memᴰ v w → Leads t x v
      to v m = by_rule x a v v w h m (itself v)

      lighter : Each (λ v. weight v + k ≤ weight x) (all_but_last w)
      unfolding weight
      lighter v m =
          let n = in_row w v m in
          let less : suc (size v) ≤ size x = omega (arith, size_less x v (led_job t g.closed p o x l) (job_in v n) (to v n) (no_way_back x a v w l h m)) in
          omega (arith, mul-le-mul_left k less, mul-suc k (size v))

      no_heavier : Each (λ v. weight v ≤ weight x) w
      unfolding weight
      no_heavier v m = mul-le-mul_left k (size_least x v (led_job t g.closed p o x l) (job_in v m) (to v m))

    run_light : {q run end : List ℕ} (b : ℕ) → Runs t q run end → Light weight b q → Each (Led t p) q → Light weight b end
    run_light b (empty_run q) l e = l
    run_light b (longer_run [] q a more end s r) l e = absurd s
    run_light b (longer_run (x ∷ js) q a more end (w, h, f) r) (own, behind) e =
        let led = e x (Memᴰ.head refl) in
        run_light b r
        (subst (Light weight b) (sym f)
        (light_row weight b k x js own behind w (short x a w h) (lighter x a w led h) (no_heavier x a w led h)))
        (λ v m.
        ⊎_elim (λ n. led_rule t a v w led h n) (λ n. e v (Memᴰ.tail n))
        (Memᴰ.append_cases w (subst (λ (u : List ℕ). Memᴰ v u) f m)))

    abbrev number : ℕ
    number = length (members (reached t p))

    all_sizes : number ≡ count (has (reached t p)) t.jobs
    all_sizes = members_counted 0 (reached t p) ∙ ap (count (has (reached t p))) (reached_length t p)

    own_weight : Each (λ x. weight x ≤ k * number) p
    unfolding weight size
    own_weight x m =
        let less : size x ≤ number =
        omega (
          arith,
          all_sizes,
          count_mono (has (reached t (x ∷ []))) (has (reached t p)) t.jobs
              (λ z i e. (reached_exactly t g.closed p o z).1 (x, m, of_one x z (each_over t p o x m) e)),
        ) in
        mul-le-mul_left k less

    pub bounded : Bounded t p (k * number + length p)
    bounded q (run, r) =
        light_length weight (k * number + length p) q
        (run_light (k * number + length p) r (light_start weight (k * number) (k * number + length p) p (omega arith) own_weight) (λ x m. (x, m, itself x)))
