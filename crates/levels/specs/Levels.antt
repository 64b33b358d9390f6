-- The cells of all jobs for one number of moves left, filled from those for fewer. Assumes nothing: these are definitions.
use Rattle.std.specs.Prelude.{◌≡◌, List, ◌⊎◌, ℕ, suc, ◌-◌, ◌≤◌, ◌<◌, length, get_or}
use Rattle.bpa.specs.Plans.{Table}
use Rattle.rules.specs.Places.{rule_at, rule_count, table_of}
use Rattle.replay.specs.Ends.{last, Ends, Gets}
use Rattle.reach.specs.Cells.{reach_in}
use Rattle.reach.specs.declared.Reach.{Reach}
use Rattle.reach.specs.Reaches.{CellReaches, Joins}
use Rattle.following.specs.Followed.{cell_of, KnownCells, Follows}

-- a cell that stays
abbrev pub SameCell : (cell : ℕ) → (cells cells' : List ℕ) → Type 0
SameCell c s u = reach_in c u ≡ reach_in c s

-- THE CELLS OF ONE LEVEL, those of so many moves left, for the first jobs: nothing is reached but where they begin. The others stay.
pub record LevelCleared (jobs left : ℕ) (cells cells' : List ℕ) : Type 0 where
  pub size : length cells' ≡ length cells
  pub none : (j : ℕ) → j < jobs → reach_in (cell_of j left) cells' ≡ record { low = 0; high = 0; least = left }
  pub others : (j d : ℕ) → d ≤ 128 → (d ≡ left → ⊥) → SameCell (cell_of j d) cells cells'

-- A RULE ADDED to the cell of its job, one move before so many are left: what its row reaches from there is joined to it. The others stay.
pub record RuleAdded (rules : List ℕ) (i left : ℕ) (cells cells' : List ℕ) : Type 0 where
  pub size : length cells' ≡ length cells
  pub row : Reach
  pub follows : Follows cells (rule_at rules i).after left row
  pub joins : let c = cell_of (rule_at rules i).job (suc left) in Joins (reach_in c cells) row (reach_in c cells')
  pub others : (c : ℕ) → (c ≡ cell_of (rule_at rules i).job (suc left) → ⊥) → SameCell c cells cells'

-- a rule of a job for a move
pub record RuleFor (rules : List ℕ) (job move k : ℕ) : Type 0 where
  pub own : (rule_at rules k).job ≡ job
  pub makes : (rule_at rules k).move ≡ move

-- what a job reaches by the first so many rules, one move before so many are left
abbrev pub EndsBy : Table → (rules log : List ℕ) → (left move count job : ℕ) → ℕ → Type 0
EndsBy t rs log d a n j e = (k : ℕ) × (k < n) × RuleFor rs j a k × Ends t (rule_at rs k).after (last d log) e

abbrev pub GetsBy : Table → (rules log : List ℕ) → (left move count job : ℕ) → ℕ → Type 0
GetsBy t rs log d a n j e =
    (e ≡ suc d) ⊎ ((k : ℕ) × (k < n) × RuleFor rs j a k × Gets t (rule_at rs k).after (last d log) e)

-- ONE LEVEL MORE by the first so many rules
pub record LevelBy (jobs : ℕ) (rules log : List ℕ) (left move count : ℕ) (cells : List ℕ) : Type 0 where
  pub known : KnownCells (table_of jobs rules) log left cells
  pub level : (j : ℕ) → j < jobs →
      CellReaches (cell_of j (suc left)) cells (EndsBy (table_of jobs rules) rules log left move count j) (GetsBy (table_of jobs rules) rules log left move count j)

-- all rules for a move added
pub record RulesAdded (jobs : ℕ) (rules : List ℕ) (move left : ℕ) (cells cells' : List ℕ) : Type 0 where
  pub size : length cells' ≡ length cells
  pub added : (log : List ℕ) → LevelBy jobs rules log left move 0 cells → LevelBy jobs rules log left move (rule_count rules) cells'

-- THE NEXT LEVEL IS KNOWN, if those before it are and the move is the log's
pub record NextLevel (jobs : ℕ) (rules : List ℕ) (left move : ℕ) (cells cells' : List ℕ) : Type 0 where
  pub size : length cells' ≡ length cells
  pub next : (log : List ℕ) → left < length log → get_or log (length log - suc left) 0 ≡ move →
      KnownCells (table_of jobs rules) log left cells → KnownCells (table_of jobs rules) log (suc left) cells'

-- all levels of a log
pub record AllLevels (jobs : ℕ) (rules log cells cells' : List ℕ) : Type 0 where
  pub size : length cells' ≡ length cells
  pub known : KnownCells (table_of jobs rules) log (length log) cells'
