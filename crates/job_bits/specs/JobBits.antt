-- The jobs of plans and of the rows of rules as bits. Assumes nothing: these are definitions.
use Rattle.std.specs.Prelude.{◌≡◌, ℕ, ◌<◌, get_or}
use mathlib.Core.List.{List, Memᴰ}
use Rattle.rules.specs.Places.{rule_at}
use Rattle.bits.specs.Bits.{JobBits}
use Rattle.growth.specs.Reached.{all_but_last}
use Rattle.job_bits.specs.declared.RowSets.{RowSets}
use Rattle.job_bits.specs.declared.JobSets.{JobSets}

-- the jobs of a plan
abbrev pub PlanBits : (plan : List ℕ) → (bits : ℕ) → Type 0
PlanBits p b = JobBits b (λ k. Memᴰ k p)

-- the jobs of a row, and those that others stand behind
pub record TwoSets (row : List ℕ) (sets : RowSets) : Type 0 where
  pub all_hold : PlanBits row sets.all
  pub front_hold : PlanBits (all_but_last row) sets.front

-- a job in what is taken of the row of one of so many rules of a job
abbrev pub InPart : (part : List ℕ → List ℕ) → (rules : List ℕ) → (below : ℕ) → (of job : ℕ) → Type 0
InPart part rs n j k = (i : ℕ) × (i < n) × ((rule_at rs i).job ≡ j) × Memᴰ k (part (rule_at rs i).after)

-- THE SETS OF EACH JOB, by so many rules: the jobs in its rows, and those of them that others stand behind
pub record RuleSets (rules : List ℕ) (below : ℕ) (sets : JobSets) : Type 0 where
  pub rows_hold : (j : ℕ) → j < 24 → JobBits (get_or sets.rows j 0) (InPart (λ w. w) rules below j)
  pub fronts_hold : (j : ℕ) → j < 24 → JobBits (get_or sets.fronts j 0) (InPart all_but_last rules below j)
