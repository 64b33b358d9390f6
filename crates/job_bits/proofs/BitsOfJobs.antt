-- Jobs as bits: of a plan job by job, of a row by its last job and those before it, of the rows of each job rule by rule. Assumes nothing.
use mathlib.Core.Path.{◌≡◌, refl, sym, ap, subst}
use mathlib.Core.Bool.{true}
use mathlib.Core.List.Memᴰ
use mathlib.Core.List.{List, [], ◌∷◌, ◌++◌, Memᴰ}
use mathlib.Core.Logic.{◌↔◌, ◌⊎◌, inl, inr, ⊎_elim}
use Prim.Native.Nat.{ℕ, suc, ◌^◌, ◌<◌}
use native.Mathlib.Decide.{ℕ_discrete}
use native.Mathlib.Omega.{arith}
use lib.Bits.{bit_or, or_lt}
use lib.Dec.{ltb, lit<}
use lib.ListN.{length, get_or, take, set, replicate, get_or-replicate}
use lib.Pow.{pow-lt}
use lib.Seq.{take-suc, get_or-set_same, get_or-set_other}
use borrow.Author.Tests.{ltb-true}
use Rattle.bpa.specs.Plans.{all_below}
use Rattle.bpa.proofs.Basics.Cases.{and_left, and_right, and_both}
use Rattle.bits.specs.Bits.{JobBits}
use Rattle.bits.proofs.PlaceBits.{none_set, one_set, either_set}
use Rattle.rules.specs.Places.{rule_at}
use Rattle.growth.specs.Reached.{all_but_last}
use Rattle.job_bits.specs.JobBits.{PlanBits, TwoSets, InPart}

-- SETS OF JOBS
no_jobs : JobBits 0 (λ k. ⊥)
no_jobs = record { small = lit< tt; holds = none_set }

one_job : (j : ℕ) → j < 24 → JobBits (2 ^ j) (λ k. k ≡ j)
one_job j h = record { small = pow-lt h; holds = one_set j }

jobs_joined : {a b : ℕ} {A B : ℕ → Type 0} → JobBits a A → JobBits b B → JobBits (bit_or a b) (λ k. A k ⊎ B k)
jobs_joined {a} {b} f g = record { small = or_lt 24 a b f.small g.small; holds = λ k. either_set a b k (f.holds k) (g.holds k) }

pub jobs_as : {a : ℕ} {A B : ℕ → Type 0} → ((k : ℕ) → A k ↔ B k) → JobBits a A → JobBits a B
jobs_as f g = record {
  small = g.small;
  holds = λ k. ((λ e. (f k).0 ((g.holds k).0 e)), (λ b. (g.holds k).1 ((f k).1 b)));
}

-- A PLAN
pub plan_none : (p : List ℕ) → PlanBits (take 0 p) 0
plan_none p = jobs_as (λ k. ((λ f. absurd f), (λ m. absurd (Memᴰ.not-nil m)))) no_jobs

-- with one job more behind
behind : (p : List ℕ) (j k : ℕ) → (Memᴰ k p ⊎ (k ≡ j)) ↔ Memᴰ k (p ++ j ∷ [])
behind p j k = (
  (λ s. ⊎_elim (λ m. Memᴰ.append_left (j ∷ []) m) (λ e. Memᴰ.append_right p (Memᴰ.head e)) s),
  (λ m. ⊎_elim inl (λ n. inr (Memᴰ.eq_of_singleton n)) (Memᴰ.append_cases p m)),
)

pub plan_more : (p : List ℕ) (i b : ℕ) → i < length p → get_or p i 0 < 24 → PlanBits (take i p) b →
    PlanBits (take (suc i) p) (bit_or b (2 ^ get_or p i 0))
plan_more p i b h s f =
    subst (λ (q : List ℕ). PlanBits q (bit_or b (2 ^ get_or p i 0))) (sym (take-suc p i 0 h))
    (jobs_as (behind (take i p) (get_or p i 0)) (jobs_joined f (one_job (get_or p i 0) s)))

-- A ROW without a job, and one with a last job
below_parts : (w : List ℕ) (last : ℕ) → all_below 24 (w ++ (last ∷ [])) ≡ true → (all_below 24 w ≡ true) × (last < 24)
unfolding all_below
below_parts [] last h = (refl, ltb-true last 24 (and_left (ltb last 24) true h))
below_parts (j ∷ w) last h =
    let rest = below_parts w last (and_right (ltb j 24) (all_below 24 (w ++ (last ∷ []))) h) in
    (and_both (ltb j 24) (all_below 24 w) (and_left (ltb j 24) (all_below 24 (w ++ (last ∷ []))) h) rest.0, rest.1)

pub before_below : (row w : List ℕ) (last : ℕ) → row ≡ w ++ (last ∷ []) → all_below 24 row ≡ true → all_below 24 w ≡ true
before_below row w last e h = (below_parts w last (rw e at h)).0

pub last_below : (row w : List ℕ) (last : ℕ) → row ≡ w ++ (last ∷ []) → all_below 24 row ≡ true → last < 24
last_below row w last e h = (below_parts w last (rw e at h)).1

pub row_none : (w : List ℕ) → length w ≡ 0 → TwoSets w (record { all = 0; front = 0 })
unfolding all_but_last
row_none [] e = record { all_hold = plan_none []; front_hold = plan_none [] }
row_none (j ∷ w) e = absurd (omega (arith, e))

before_last : (w : List ℕ) (last : ℕ) → all_but_last (w ++ (last ∷ [])) ≡ w
unfolding all_but_last
before_last [] last = refl
before_last (i ∷ []) last = refl
before_last (i ∷ j ∷ w) last = ap (λ (l : List ℕ). i ∷ l) (before_last (j ∷ w) last)

pub row_last : (row w : List ℕ) (last f : ℕ) → row ≡ w ++ (last ∷ []) → last < 24 → PlanBits w f →
    TwoSets row (record { all = bit_or f (2 ^ last); front = f })
row_last row w last f e s h =
    rw e
    (record {
      all_hold = jobs_as (behind w last) (jobs_joined h (one_job last s));
      front_hold = rw (before_last w last) h;
    })

-- THE ROWS OF EACH JOB, in one of the two parts
module _ (part : List ℕ → List ℕ) (rs : List ℕ) where
  abbrev Held : (below : ℕ) → (sets : List ℕ) → Type 0
  Held n l = (j : ℕ) → j < 24 → JobBits (get_or l j 0) (InPart part rs n j)

  pub held_none : Held 0 (replicate 24 0)
  held_none j h =
      subst (λ (b : ℕ). JobBits b (InPart part rs 0 j)) (sym (get_or-replicate {A = ℕ} 24 j 0 0 h))
      (jobs_as (λ k. ((λ f. absurd f), (λ w. absurd (omega (arith, w.1))))) no_jobs)

  -- what the next rule has for its own job, and for others
  own_part : (n j k : ℕ) → (rule_at rs n).job ≡ j → (InPart part rs n j k ⊎ Memᴰ k (part (rule_at rs n).after)) ↔ InPart part rs (suc n) j k
  own_part n j k e = (
    (λ s. ⊎_elim (λ w. let (i, h, f, m) = w in (i, omega (arith, h), f, m)) (λ m. (n, omega arith, e, m)) s),
    (λ w. let (i, h, f, m) = w in go i h f m (ℕ_discrete i n)),
  )
    where
      go : (i : ℕ) → i < suc n → (rule_at rs i).job ≡ j → Memᴰ k (part (rule_at rs i).after) → Dec (i ≡ n) →
          InPart part rs n j k ⊎ Memᴰ k (part (rule_at rs n).after)
      go i h f m (yes g) = inr (subst (λ (x : ℕ). Memᴰ k (part (rule_at rs x).after)) g m)
      go i h f m (no g) = inl (i, omega arith, f, m)

  other_part : (n j k : ℕ) → ((rule_at rs n).job ≡ j → ⊥) → InPart part rs n j k ↔ InPart part rs (suc n) j k
  other_part n j k f = (
    (λ w. let (i, h, e, m) = w in (i, omega (arith, h), e, m)),
    (λ w. let (i, h, e, m) = w in go i h e m (ℕ_discrete i n)),
  )
    where
      go : (i : ℕ) → i < suc n → (rule_at rs i).job ≡ j → Memᴰ k (part (rule_at rs i).after) → Dec (i ≡ n) → InPart part rs n j k
      go i h e m (yes g) = absurd (f (subst (λ (x : ℕ). (rule_at rs x).job ≡ j) g e))
      go i h e m (no g) = (i, omega arith, e, m)

  pub held_more : (n o b : ℕ) (l : List ℕ) → length l ≡ 24 → (rule_at rs n).job ≡ o → JobBits b (λ k. Memᴰ k (part (rule_at rs n).after)) →
      Held n l → Held (suc n) (set l o (bit_or (get_or l o 0) b))
  held_more n o b l len e f h j s = go (ℕ_discrete j o)
    where
      go : Dec (j ≡ o) → JobBits (get_or (set l o (bit_or (get_or l o 0) b)) j 0) (InPart part rs (suc n) j)
      go (yes g) =
          subst (λ (x : ℕ). JobBits (get_or (set l o (bit_or (get_or l o 0) b)) x 0) (InPart part rs (suc n) x)) (sym g)
          (subst (λ (x : ℕ). JobBits x (InPart part rs (suc n) o)) (sym (get_or-set_same l o (bit_or (get_or l o 0) b) 0 (omega (arith, len, s, g))))
          (jobs_as (λ k. own_part n o k e) (jobs_joined (h o (omega (arith, s, g))) f)))
      go (no g) =
          subst (λ (x : ℕ). JobBits x (InPart part rs (suc n) j)) (sym (get_or-set_other l o j (bit_or (get_or l o 0) b) 0 g))
          (jobs_as (λ k. other_part n j k (λ x. g (omega (arith, x, e)))) (h j s))
