-- The first shortest run of a plan in dictionary order of move numbers: what it means, and how it is computed. Assumes nothing: these are
-- definitions.
use Rattle.std.specs.Prelude.{◌≡◌, cond, ◌&&◌, List, [], ◌∷◌, ◌↔◌, ◌⊎◌, ℕ, zero, suc, ◌≤◌, ◌<◌, ltb, eqb, length, get_or}
use Rattle.bpa.specs.Plans.{Rule, Table, HasRule, Runs}
use Rattle.bpa.specs.Norms.{sum_of, norms}
use Rattle.bpa.specs.Method.{expand}

-- DICTIONARY ORDER of rows of numbers: a row comes before another if it has the lesser number where they first differ, or ends there
unfoldable pub Before : (left right : List ℕ) → Type 0
Before [] [] = ⊥
Before [] (b ∷ v) = Unit {0}
Before (a ∷ u) [] = ⊥
Before (a ∷ u) (b ∷ v) = (a < b) ⊎ ((a ≡ b) × Before u v)

-- THE FIRST SHORTEST RUN, its meaning: it leads to the empty plan, no run that does is shorter, and each that is as short is equal to it or
-- comes after it. No norm is named.
pub record First (t : Table) (p run : List ℕ) : Type 0 where
  pub runs : Runs t p run []
  pub fewest : (other : List ℕ) → Runs t p other [] → length run ≤ length other
  pub first : (other : List ℕ) → Runs t p other [] → length other ≡ length run → (run ≡ other) ⊎ Before run other

-- two tables have the same rules, in whatever order and however often each is written
abbrev pub SameRules : (t u : Table) → Type 0
SameRules t u = (j a : ℕ) (w : List ℕ) → HasRule t j a w ↔ HasRule u j a w

-- HOW IT IS COMPUTED. The earlier of two rows; the left one, if they are equal
unfoldable pub earlier : (left right : List ℕ) → List ℕ
earlier [] v = []
earlier (a ∷ u) [] = []
earlier (a ∷ u) (b ∷ v) = cond (ltb a b) (a ∷ u) (cond (ltb b a) (b ∷ v) (a ∷ earlier u v))

-- the earliest of some rows; of none the empty one
unfoldable pub earliest : List (List ℕ) → List ℕ
earliest [] = []
earliest (u ∷ []) = u
earliest (u ∷ v ∷ more) = earlier u (earliest (v ∷ more))

-- the runs of a job by the rules that lower its norm by one: the rule's move, then a run of each job after it
unfoldable pub runs_by : (run : ℕ → List ℕ) → (norms : List ℕ) → (job : ℕ) → List Rule → List (List ℕ)
runs_by f ns j [] = []
runs_by f ns j (r ∷ rs) =
    cond (eqb r.job j && eqb (get_or ns j 0) (suc (sum_of ns r.after))) ((r.move ∷ expand f r.after) ∷ runs_by f ns j rs)
    (runs_by f ns j rs)

-- the earliest of them, for jobs of at most such a norm
unfoldable pub job_run : Table → (norm : ℕ) → (job : ℕ) → List ℕ
job_run t zero j = []
job_run t (suc n) j = earliest (runs_by (job_run t n) (norms t) j t.rules)

unfoldable pub run_of : Table → (job : ℕ) → List ℕ
run_of t j = job_run t (get_or (norms t) j 0) j

-- all shortest runs of a job are as long as its norm, so that a plan's first run is that of its jobs in turn
unfoldable pub first_run : Table → (plan : List ℕ) → List ℕ
first_run t p = expand (run_of t) p
