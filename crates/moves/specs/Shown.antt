-- The moves that a plan shows: its list of moves with each combination of move and remaining plan once. Assumes nothing: these are definitions.
use Rattle.std.specs.Prelude.{◌≡◌, Bool, true, false, cond, ◌&&◌, List, [], ◌∷◌, ◌++◌, ℕ, zero, suc, ◌≤◌, ◌<◌, eqb}
use Rattle.bpa.specs.Plans.{Rule, Table, Move, moves}

unfoldable pub equal_plans : (p q : List ℕ) → Bool
equal_plans [] [] = true
equal_plans [] (y ∷ q) = false
equal_plans (x ∷ p) [] = false
equal_plans (x ∷ p) (y ∷ q) = eqb x y && equal_plans p q

-- the move by a rule of the first job, with the jobs that wait behind it
abbrev pub move_by : Rule → (waiting : List ℕ) → Move
move_by r js = record { move = r.move; rest = r.after ++ js }

-- one combination: the moves' numbers are equal, and so are the remaining plans
unfoldable pub same_move : (m n : Move) → Bool
same_move m n = eqb m.move n.move && equal_plans m.rest n.rest

-- a list without a combination
unfoldable pub without : Move → List Move → List Move
without m [] = []
without m (n ∷ ns) = cond (same_move m n) (without m ns) (n ∷ without m ns)

-- EACH COMBINATION ONCE, at its first place
unfoldable pub once : List Move → List Move
once [] = []
once (m ∷ ms) = m ∷ without m (once ms)

-- THE MOVES SHOWN of a plan
unfoldable pub shown : Table → (plan : List ℕ) → List Move
shown t p = once (moves t p)

-- a combination stands at a place of a list
abbrev pub At : List Move → (n : ℕ) → Move → Type 0
At [] n m = ⊥
At (x ∷ xs) zero m = m ≡ x
At (x ∷ xs) (suc n) m = At xs n m

-- and at no earlier one
pub record FirstAt (ms : List Move) (m : Move) (n : ℕ) : Type 0 where
  pub stands : At ms n m
  pub first : (k : ℕ) → At ms k m → n ≤ k

-- a list goes by first places: what stands earlier in it stands first at an earlier place of the other list
abbrev pub ByFirstPlaces : (ms l : List Move) → Type 0
ByFirstPlaces ms l =
    (m n : Move) (i k : ℕ) → At l i m → At l k n → i < k → (x y : ℕ) × FirstAt ms m x × FirstAt ms n y × (x < y)
