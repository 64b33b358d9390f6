-- Bisimulations, primes and prime forms. Assumes nothing: these are definitions.
use Rattle.std.specs.Prelude.{◌≡◌, Bool, true, List, [], ◌∷◌, ℕ, zero, suc, ◌≤◌, ◌<◌, length}
use Rattle.bpa.specs.Plans.{Table, over, Step}

-- each step of p is matched by a step of q with an equal move, the two remainders related
abbrev pub Simulates : Table → (List ℕ → List ℕ → Type 0) → (p q : List ℕ) → Type 0
Simulates t R p q = (a : ℕ) (p' : List ℕ) → Step t p a p' → (q' : List ℕ) × Step t q a q' × R p' q'

-- a relation on plans that can be computed
abbrev pub Relation : Type 0
Relation = List ℕ → List ℕ → Bool

-- A BISIMULATION: the steps of related plans over the table are matched both ways
unfoldable pub Bisimulation : Table → Relation → Type 0
Bisimulation t rel =
    (p q : List ℕ) → over t p ≡ true → over t q ≡ true → rel p q ≡ true →
    Simulates t (λ p' q'. rel p' q' ≡ true) p q × Simulates t (λ q' p'. rel p' q' ≡ true) q p

pub record Bisimilar (t : Table) (p q : List ℕ) : Type 0 where
  pub over_left : over t p ≡ true
  pub over_right : over t q ≡ true
  pub relation : Relation
  pub bisimulation : Bisimulation t relation
  pub related : relation p q ≡ true

-- the same for relations that need not be computable; theorems say that they relate no further plans
unfoldable pub AnyBisimulation : Table → (List ℕ → List ℕ → Type 0) → Type 0
AnyBisimulation t R =
    (p q : List ℕ) → over t p ≡ true → over t q ≡ true → R p q → Simulates t R p q × Simulates t (λ q' p'. R p' q') q p

-- the approximants, as 003 calls them: plans whose steps are matched for so many rounds
abbrev pub Approx : Table → (rounds : ℕ) → (p q : List ℕ) → Type 0
Approx t zero p q = Unit {0}
Approx t (suc n) p q = Simulates t (Approx t n) p q × Simulates t (Approx t n) q p

-- A PRIME job: no plan of two or more jobs is bisimilar to it
pub record Prime (t : Table) (j : ℕ) : Type 0 where
  pub is_job : j < t.jobs
  pub whole : (p : List ℕ) → 2 ≤ length p → Bisimilar t (j ∷ []) p → ⊥

-- a prime that no lower-numbered job is bisimilar to
pub record Lowest (t : Table) (j : ℕ) : Type 0 where
  pub prime : Prime t j
  pub none_lower : (i : ℕ) → i < j → Bisimilar t (j ∷ []) (i ∷ []) → ⊥

pub data AllLowest (t : Table) : List ℕ → Type 0 where
  no_job : AllLowest t []
  one_more : (j : ℕ) (js : List ℕ) → Lowest t j → AllLowest t js → AllLowest t (j ∷ js)

-- A PRIME FORM of a plan (its prime decomposition in 000): a bisimilar row of lowest primes
pub record Form (t : Table) (p f : List ℕ) : Type 0 where
  pub lowest : AllLowest t f
  pub bisimilar : Bisimilar t p f
