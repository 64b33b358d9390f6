-- Two tables joined (the disjoint union of two processes), and what it means that a plan of the one is the same as a plan of the other. Assumes
-- nothing: these are definitions.
use Rattle.std.specs.Prelude.{◌≡◌, true, List, ◌++◌, map, ℕ, ◌+◌, ◌<◌}
use Rattle.bpa.specs.Plans.{Rule, Table, over, HasRule, Step}
use Rattle.bpa.specs.Bisimilar.{Relation}

-- a plan whose jobs are numbered on from so many jobs
unfoldable pub renumbered : (jobs : ℕ) → (plan : List ℕ) → List ℕ
renumbered n p = map (λ j. n + j) p

unfoldable pub renumbered_rule : (jobs : ℕ) → Rule → Rule
renumbered_rule n r = record { job = n + r.job; move = r.move; after = renumbered n r.after }

-- THE JOINED TABLE: the second table's jobs are numbered on from the first's
unfoldable pub joined : Table → Table → Table
joined t u = record { jobs = t.jobs + u.jobs; rules = t.rules ++ map (renumbered_rule t.jobs) u.rules }

-- each rule of a table is one of its own jobs
abbrev pub OwnRules : Table → Type 0
OwnRules t = (j a : ℕ) (w : List ℕ) → HasRule t j a w → j < t.jobs

-- each step of p in its table is matched by a step of q in its own with an equal move, the two remainders related
abbrev pub SimulatesBetween : (t u : Table) → (List ℕ → List ℕ → Type 0) → (p q : List ℕ) → Type 0
SimulatesBetween t u R p q = (a : ℕ) (p' : List ℕ) → Step t p a p' → (q' : List ℕ) × Step u q a q' × R p' q'

-- A BISIMULATION BETWEEN TWO TABLES, neither of which knows of the other: the steps of related plans, each over its own table, are matched both
-- ways
unfoldable pub BisimulationBetween : (t u : Table) → Relation → Type 0
BisimulationBetween t u rel =
    (p q : List ℕ) → over t p ≡ true → over u q ≡ true → rel p q ≡ true →
    SimulatesBetween t u (λ p' q'. rel p' q' ≡ true) p q × SimulatesBetween u t (λ q' p'. rel p' q' ≡ true) q p

pub record BisimilarBetween (t u : Table) (p q : List ℕ) : Type 0 where
  pub over_left : over t p ≡ true
  pub over_right : over u q ≡ true
  pub relation : Relation
  pub bisimulation : BisimulationBetween t u relation
  pub related : relation p q ≡ true

-- the same for relations that need not be computable
unfoldable pub AnyBisimulationBetween : (t u : Table) → (List ℕ → List ℕ → Type 0) → Type 0
AnyBisimulationBetween t u R =
    (p q : List ℕ) → over t p ≡ true → over u q ≡ true → R p q →
    SimulatesBetween t u R p q × SimulatesBetween u t (λ q' p'. R p' q') q p

-- ONE TABLE WRITTEN WITH OTHER JOBS: each rule of a job is, its jobs renamed, a rule of the job's new name, and that has no others. Two jobs may have
-- one new name
pub record Renames (f : ℕ → ℕ) (t u : Table) : Type 0 where
  pub jobs : (j : ℕ) → j < t.jobs → f j < u.jobs
  pub forth : (j a : ℕ) (w : List ℕ) → j < t.jobs → HasRule t j a w → HasRule u (f j) a (map f w)
  pub back : (j a : ℕ) (v : List ℕ) → j < t.jobs → HasRule u (f j) a v → (w : List ℕ) × HasRule t j a w × (v ≡ map f w)
