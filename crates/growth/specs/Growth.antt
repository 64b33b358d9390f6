-- What a plan can become: finitely many different plans (a regular process in 004) or not, and the jobs that it can reach. Assumes nothing: these are
-- definitions.
use Rattle.std.specs.Prelude.{◌≡◌, Bool, true, ◌&&◌, ◌↔◌, ℕ, ◌/◌, ◌%◌, ◌≤◌, ltb, length}
use mathlib.Core.List.{List, [], ◌∷◌, Memᴰ}
use Rattle.bpa.specs.Plans.{Table, Runs}
use Rattle.bpa.specs.Bisimilar.{Bisimilar}

-- a plan can become another: some run leads there
abbrev pub Becomes : Table → (p q : List ℕ) → Type 0
Becomes t p q = (run : List ℕ) × Runs t p run q

-- FINITE: some list of plans has, for each plan that the plan can become, one that is bisimilar to it
abbrev pub Finite : Table → (plan : List ℕ) → Type 0
Finite t p =
    (plans : List (List ℕ)) × ((q : List ℕ) → Becomes t p q → (r : List ℕ) × Memᴰ r plans × Bisimilar t q r)

-- ENDLESS: whatever the list of plans, the plan can become one that is bisimilar to none of them
abbrev pub Endless : Table → (plan : List ℕ) → Type 0
Endless t p =
    (plans : List (List ℕ)) →
    (q : List ℕ) × Becomes t p q × ((r : List ℕ) → Memᴰ r plans → Bisimilar t q r → ⊥)

-- no two plans of a list are bisimilar
abbrev pub AllApart : Table → (plans : List (List ℕ)) → Type 0
AllApart t [] = Unit {0}
AllApart t (q ∷ qs) = ((r : List ℕ) → Memᴰ r qs → Bisimilar t q r → ⊥) × AllApart t qs

-- so many plans that a plan can become, of which no two are
abbrev pub ManyApart : Table → (plan : List ℕ) → (count : ℕ) → Type 0
ManyApart t p n =
    (plans : List (List ℕ)) × (length plans ≡ n) × ((q : List ℕ) → Memᴰ q plans → Becomes t p q) × AllApart t plans

-- A JOB THAT A PLAN CAN REACH: it stands in the plan or in a plan that it can become
abbrev pub ReachesJob : Table → (plan : List ℕ) → (job : ℕ) → Type 0
ReachesJob t p j = (q : List ℕ) × Becomes t p q × Memᴰ j q

-- a job can come round to itself with further jobs behind it (a growing variable in 004)
abbrev pub ComesRound : Table → (job : ℕ) → Type 0
ComesRound t j = (k : ℕ) × (more : List ℕ) × Becomes t (j ∷ []) (j ∷ k ∷ more)

-- THE CUSTOMER'S TEST: some job that the plan can reach does
abbrev pub SomeComesRound : Table → (plan : List ℕ) → Type 0
SomeComesRound t p = (j : ℕ) × ReachesJob t p j × ComesRound t j

-- as plans are written: none that it can become has more than so many jobs, or some have as many as one likes
abbrev pub Bounded : Table → (plan : List ℕ) → (most : ℕ) → Type 0
Bounded t p n = (q : List ℕ) → Becomes t p q → length q ≤ n

abbrev pub Unbounded : Table → (plan : List ℕ) → Type 0
Unbounded t p = (n : ℕ) → (q : List ℕ) × Becomes t p q × (n ≤ length q)

-- a list without repetition: each number is less than the next
unfoldable pub rises : List ℕ → Bool
rises [] = true
rises (i ∷ []) = true
rises (i ∷ j ∷ js) = ltb i j && rises (j ∷ js)

-- HOW MANY JOBS a plan can reach: as many as a list without repetition has that names exactly these
pub record JobCount (t : Table) (p : List ℕ) (count : ℕ) : Type 0 where
  pub jobs : List ℕ
  pub once : rises jobs ≡ true
  pub exactly : (j : ℕ) → Memᴰ j jobs ↔ ReachesJob t p j
  pub counted : length jobs ≡ count

-- THE ANSWER AS ONE NUMBER, by its meaning: odd exactly if the plan is endless, even exactly if it is finite, and half of it is the number of jobs that the
-- plan can reach
abbrev pub GrowthSays : Table → (plan : List ℕ) → ℕ → Type 0
GrowthSays t p n = ((n % 2 ≡ 1) ↔ Endless t p) × ((n % 2 ≡ 0) ↔ Finite t p) × JobCount t p (n / 2)
