-- Tables of rules, plans, their moves and runs: a context-free process (BPA) as 000 defines it. Assumes nothing: these are definitions.
use Rattle.std.specs.Prelude.{◌≡◌, Bool, true, ◌&&◌, cond, ℕ, ltb, eqb}
use mathlib.Core.List.{List, [], ◌∷◌, ◌++◌, Memᴰ}

-- A rule: the job (a variable of 000) may make the move (an action of 000) and then becomes the jobs after it.
pub record Rule : Type 0 where
  pub job : ℕ
  pub move : ℕ
  pub after : List ℕ

-- Jobs are the numbers below `jobs`. Rules stand in image order. A plan is a list of jobs.
pub record Table : Type 0 where
  pub jobs : ℕ
  pub rules : List Rule

-- every number of a list is below a bound
unfoldable pub all_below : (bound : ℕ) → List ℕ → Bool
all_below n [] = true
all_below n (x ∷ xs) = ltb x n && all_below n xs

-- a plan over the table names no other job
unfoldable pub over : Table → (plan : List ℕ) → Bool
over t p = all_below t.jobs p

-- THE STEP RELATION: only the first job of a plan moves, and the jobs behind it wait
abbrev pub HasRule : Table → (job move : ℕ) → (after : List ℕ) → Type 0
HasRule t j a w = Memᴰ {A = Rule} (record { job = j; move = a; after = w }) t.rules

abbrev pub Step : Table → (plan : List ℕ) → (move : ℕ) → (rest : List ℕ) → Type 0
Step t [] a q = ⊥
Step t (j ∷ js) a q = (w : List ℕ) × HasRule t j a w × (q ≡ w ++ js)

-- runs: the moves of steps that lead from a plan to a plan
pub data Runs (t : Table) : (plan : List ℕ) → (moves : List ℕ) → (end : List ℕ) → Type 0 where
  empty_run : (p : List ℕ) → Runs t p [] p
  longer_run : (p q : List ℕ) (a : ℕ) (more end : List ℕ) → Step t p a q → Runs t q more end → Runs t p (a ∷ more) end

-- THE LIST OF MOVES: a move's number and the remaining plan, one for each rule of the first job in image order
pub record Move : Type 0 where
  pub move : ℕ
  pub rest : List ℕ

unfoldable pub job_moves : (job : ℕ) → (behind : List ℕ) → List Rule → List Move
job_moves j xs [] = []
job_moves j xs (r ∷ rs) =
    cond (eqb r.job j) (record { move = r.move; rest = r.after ++ xs } ∷ job_moves j xs rs) (job_moves j xs rs)

unfoldable pub moves : Table → (plan : List ℕ) → List Move
moves t [] = []
moves t (j ∷ js) = job_moves j js t.rules
