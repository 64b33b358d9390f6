-- What each job reaches in the last moves of a log, in cells, and what plans reach by that. Assumes nothing: these are definitions.
use Rattle.std.specs.Prelude.{◌≡◌, true, List, [], ◌∷◌, ◌++◌, ◌⊎◌, ℕ, ◌+◌, ◌*◌, ◌≤◌, ◌<◌, length}
use Rattle.bpa.specs.Plans.{Table, over}
use Rattle.replay.specs.Ends.{last, Ends, Gets}
use Rattle.reach.specs.Reaches.{HoldsWord, Reaches, CellReaches}
use Rattle.reach.specs.declared.Reach.{Reach}

-- the cell of a job with so many moves of the log left
unfoldable pub cell_of : (job left : ℕ) → ℕ
cell_of j d = 129 * j + d

-- a plan with so many moves of the log left
abbrev pub PlanReaches : Table → (log plan : List ℕ) → (left : ℕ) → Reach → Type 0
PlanReaches t log p d reach = Reaches (Ends t p (last d log)) (Gets t p (last d log)) reach

-- THE CELLS ARE KNOWN up to so many moves left: each holds what its job reaches
pub record KnownCells (t : Table) (log : List ℕ) (left : ℕ) (cells : List ℕ) : Type 0 where
  pub inside : left ≤ length log
  pub log_short : length log ≤ 128
  pub known : (j d : ℕ) → j < t.jobs → d ≤ left →
      CellReaches (cell_of j d) cells (Ends t (j ∷ []) (last d log)) (Gets t (j ∷ []) (last d log))

-- ONE JOB MORE, as far as it begins where the plan before it can be through with fewer than m moves left
abbrev pub OneMore : Table → (log plan : List ℕ) → (left job m : ℕ) → Reach → Type 0
OneMore t log p d x m reach =
    Reaches
    (λ e. (s : ℕ) × (s < m) × Ends t p (last d log) s × Ends t (x ∷ []) (last s log) e)
    (λ e. Gets t p (last d log) e ⊎ ((s : ℕ) × (s < m) × Ends t p (last d log) s × Gets t (x ∷ []) (last s log) e))
    reach

-- the next 64 numbers of moves left, as the bits of a word
pub record WordMore (cells : List ℕ) (first word : ℕ) (before behind : Reach) : Type 0 where
  pub more : (t : Table) (log p : List ℕ) (d x m : ℕ) → KnownCells t log d cells → 0 < length p → x < t.jobs →
      first ≡ cell_of x m → HoldsWord word (λ k. Ends t p (last d log) (m + k)) →
      OneMore t log p d x m before → OneMore t log p d x (m + 64) behind

-- a plan with a job behind it
pub record JobMore (cells : List ℕ) (job : ℕ) (before behind : Reach) : Type 0 where
  pub more : (t : Table) (log p : List ℕ) (d : ℕ) → KnownCells t log d cells → 0 < length p → job < t.jobs →
      PlanReaches t log p d before → PlanReaches t log (p ++ (job ∷ [])) d behind

-- a plan that was followed
pub record Follows (cells plan : List ℕ) (left : ℕ) (reach : Reach) : Type 0 where
  pub reached : (t : Table) (log : List ℕ) → KnownCells t log left cells → over t plan ≡ true → PlanReaches t log plan left reach
