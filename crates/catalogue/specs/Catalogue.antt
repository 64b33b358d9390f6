-- THE CATALOGUE of a norm: every prime form of that norm once, in dictionary order of job numbers. What it means, and how it is
-- computed. Assumes nothing: these are definitions.
use Rattle.std.specs.Prelude.{◌≡◌, Bool, false, cond, List, [], ◌∷◌, ◌++◌, map, ℕ, zero, suc, ◌<◌, eqb, length, get_or}
use Rattle.bpa.specs.Plans.{Table}
use Rattle.bpa.specs.Norms.{norms, norm}
use Rattle.bpa.specs.Bisimilar.{Form}
use Rattle.bpa.specs.Method.{prime_form}
use Rattle.first_run.specs.FirstRun.{Before}

-- A PIECE OF WORK of a norm: the prime form of some plan that has it
pub record FormOf (t : Table) (v : ℕ) (f : List ℕ) : Type 0 where
  pub plan : List ℕ
  pub form : Form t plan f
  pub norm_is : norm t plan ≡ v

-- a row is an entry of a list
abbrev pub Entry : List (List ℕ) → (row : List ℕ) → Type 0
Entry l f = (k : ℕ) × (k < length l) × (get_or l k [] ≡ f)

-- each row comes before those behind it in dictionary order, so that none stands twice
abbrev pub Rising : List (List ℕ) → Type 0
Rising l = (i k : ℕ) → i < k → k < length l → Before (get_or l i []) (get_or l k [])

-- THE CATALOGUE, its meaning: each entry is such a form, each such form is an entry, and the entries rise
pub record Catalogue (t : Table) (v : ℕ) (l : List (List ℕ)) : Type 0 where
  pub forms : (k : ℕ) → k < length l → FormOf t v (get_or l k [])
  pub all : (f : List ℕ) → FormOf t v f → Entry l f
  pub rise : Rising l

-- HOW IT IS COMPUTED. A job stands in prime forms exactly if its own prime form is the job alone
unfoldable pub is_alone : (job : ℕ) → (row : List ℕ) → Bool
is_alone j [] = false
is_alone j (x ∷ []) = eqb x j
is_alone j (x ∷ y ∷ more) = false

unfoldable pub own_form : Table → (job : ℕ) → Bool
own_form t j = is_alone j (prime_form t (j ∷ []))

-- the weight of a job: its norm if it stands in prime forms, else 0
unfoldable pub weight : Table → (job : ℕ) → ℕ
weight t j = cond (own_form t j) (get_or (norms t) j 0) 0

unfoldable pub weights_from : Table → (left job : ℕ) → List ℕ
weights_from t zero j = []
weights_from t (suc n) j = weight t j ∷ weights_from t n (suc j)

unfoldable pub weights : Table → List ℕ
weights t = weights_from t t.jobs 0

-- The rows of each weight below some weight stand in a list, those of the greatest first. What can follow a job in a row of that weight:
-- nothing follows a job without a weight
unfoldable pub follows : (weight : ℕ) → (lesser : List (List (List ℕ))) → List (List ℕ)
follows zero ls = []
follows (suc w) ls = get_or ls w []

-- the rows that begin with a job from `job` on, by rising job
unfoldable pub begun : (weights : List ℕ) → (job : ℕ) → (lesser : List (List (List ℕ))) → List (List ℕ)
begun [] j ls = []
begun (w ∷ ws) j ls = map (◌∷◌ j) (follows w ls) ++ begun ws (suc j) ls

unfoldable pub rows_down : (weights : List ℕ) → (weight : ℕ) → List (List (List ℕ))
rows_down ws zero = ([] ∷ []) ∷ []
rows_down ws (suc v) = begun ws 0 (rows_down ws v) ∷ rows_down ws v

-- the rows of jobs with a weight that have this weight in all
unfoldable pub rows_of : (weights : List ℕ) → (weight : ℕ) → List (List ℕ)
rows_of ws v = get_or (rows_down ws v) 0 []

-- THE CATALOGUE of a norm, computed
unfoldable pub catalogue : Table → (norm : ℕ) → List (List ℕ)
catalogue t v = rows_of (weights t) v
