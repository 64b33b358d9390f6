-- How it is told: the jobs that a plan can reach, by rounds over the rules, and the test for growth. Assumes nothing: these are definitions.
use Rattle.std.specs.Prelude.{Bool, false, ◌&&◌, ◌||◌, cond, List, [], ◌∷◌, ◌++◌, ℕ, zero, suc, ◌+◌, ◌*◌, eqb, length, get_or}
use Rattle.bpa.specs.Plans.{Rule, Table}
use Rattle.alike.specs.Alike.{stands_in}

-- SETS OF JOBS: for each job whether it is in the set
abbrev pub JobSet : Type 0
JobSet = List Bool

abbrev pub has : JobSet → (job : ℕ) → Bool
has s j = get_or s j false

-- the jobs of a set by their numbers, the first of which is given
unfoldable pub members_from : (job : ℕ) → JobSet → List ℕ
members_from j [] = []
members_from j (b ∷ s) = cond b (j ∷ members_from (suc j) s) (members_from (suc j) s)

abbrev pub members : JobSet → List ℕ
members s = members_from 0 s

-- so many jobs from one on, with the answer of a test for each
unfoldable pub set_from : (test : ℕ → Bool) → (left job : ℕ) → JobSet
set_from f zero j = []
set_from f (suc n) j = f j ∷ set_from f n (suc j)

abbrev pub set_of : (test : ℕ → Bool) → (jobs : ℕ) → JobSet
set_of f n = set_from f n 0

-- THE JOBS THAT A PLAN CAN REACH. A job in the row of a rule of a member
unfoldable pub comes_in : JobSet → List Rule → (job : ℕ) → Bool
comes_in s [] j = false
comes_in s (r ∷ rs) j = (has s r.job && stands_in r.after j) || comes_in s rs j

-- a round adds those; as many rounds as jobs are enough, since a round that adds none is the last that could. The jobs of the plan are the first set
unfoldable pub widened : Table → JobSet → JobSet
widened t s = set_of (λ j. has s j || comes_in s t.rules j) t.jobs

unfoldable pub widened_by : (rounds : ℕ) → Table → JobSet → JobSet
widened_by zero t s = s
widened_by (suc n) t s = widened_by n t (widened t s)

unfoldable pub reached : Table → (plan : List ℕ) → JobSet
reached t p = widened_by t.jobs t (set_of (stands_in p) t.jobs)

-- THE TEST. The jobs of a row that others stand behind: all but the last
unfoldable pub all_but_last : (row : List ℕ) → List ℕ
all_but_last [] = []
all_but_last (i ∷ []) = []
all_but_last (i ∷ j ∷ js) = i ∷ all_but_last (j ∷ js)

-- those of all rows of a job
unfoldable pub fronts : List Rule → (job : ℕ) → List ℕ
fronts [] j = []
fronts (r ∷ rs) j = cond (eqb r.job j) (all_but_last r.after ++ fronts rs j) (fronts rs j)

-- a job can be reached from them: it comes round while others wait
unfoldable pub grows_at : Table → (job : ℕ) → Bool
grows_at t j = has (reached t (fronts t.rules j)) j

unfoldable pub one_of : (test : ℕ → Bool) → (jobs : List ℕ) → Bool
one_of f [] = false
one_of f (j ∷ js) = f j || one_of f js

unfoldable pub grows : Table → (plan : List ℕ) → Bool
grows t p = one_of (grows_at t) (members (reached t p))

-- THE ANSWER: twice the number of jobs that the plan can reach, and one more if it is endless
unfoldable pub growth : Table → (plan : List ℕ) → ℕ
growth t p = 2 * length (members (reached t p)) + cond (grows t p) 1 0
