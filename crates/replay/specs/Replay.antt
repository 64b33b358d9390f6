-- A log of moves replayed on a plan: what it means, and how the answer is defined. Assumes nothing: these are definitions.
use Rattle.std.specs.Prelude.{◌≡◌, Bool, true, false, cond, List, [], ◌∷◌, ◌++◌, ◌⊎◌, ℕ, suc, ◌+◌, eqb, take}
use Rattle.bpa.specs.Plans.{Table, Runs, Move, moves}

-- THE MEANING. Some run of the plan begins with the log: it is a run itself, to whatever plan
abbrev pub Begins : Table → (plan log : List ℕ) → Type 0
Begins t p log = (end : List ℕ) × Runs t p log end

-- WHOLE: the log is a complete run
abbrev pub Whole : Table → (plan log : List ℕ) → Type 0
Whole t p log = Runs t p log []

-- some complete run begins with the log
abbrev pub Completes : Table → (plan log : List ℕ) → Type 0
Completes t p log = (more : List ℕ) × Runs t p (log ++ more) []

-- PART: not whole, and some complete run begins with it
abbrev pub Part : Table → (plan log : List ℕ) → Type 0
Part t p log = (Whole t p log → ⊥) × Completes t p log

-- THE LEAST PLACE at which no run begins with the log up to and including the move there
abbrev pub LeavesAt : Table → (plan log : List ℕ) → (place : ℕ) → Type 0
LeavesAt t p log k = Begins t p (take k log) × (Begins t p (take (suc k) log) → ⊥)

-- THE DEFINITION, by all plans that the plan can have become. What a plan becomes by a move, once for each entry of its list of moves
unfoldable pub by_move : (move : ℕ) → List Move → List (List ℕ)
by_move a [] = []
by_move a (m ∷ ms) = cond (eqb m.move a) (m.rest ∷ by_move a ms) (by_move a ms)

unfoldable pub after_move : Table → (move : ℕ) → (plans : List (List ℕ)) → List (List ℕ)
after_move t a [] = []
after_move t a (p ∷ ps) = by_move a (moves t p) ++ after_move t a ps

unfoldable pub none_left : (plans : List (List ℕ)) → Bool
none_left [] = true
none_left (p ∷ ps) = false

-- whether one of them is the empty plan
unfoldable pub one_empty : (plans : List (List ℕ)) → Bool
one_empty [] = false
one_empty ([] ∷ ps) = true
one_empty ((j ∷ js) ∷ ps) = one_empty ps

-- the answer for some plans and the rest of a log from a place on
unfoldable pub replay_from : Table → (place : ℕ) → (log : List ℕ) → (plans : List (List ℕ)) → ℕ
replay_from t k [] ps = cond (one_empty ps) 1 0
replay_from t k (a ∷ log) ps =
    cond (none_left (after_move t a ps)) (2 + k) (replay_from t (suc k) log (after_move t a ps))

-- THE ANSWER: 1 for whole, 0 for part, else 2 plus the place
unfoldable pub replay : Table → (plan log : List ℕ) → ℕ
replay t p log = replay_from t 0 log (p ∷ [])

-- a number that is the answer by its meaning; "part" without what makes its runs complete, which every table that is accepted has
abbrev pub Says : Table → (plan log : List ℕ) → ℕ → Type 0
Says t p log r =
    ((r ≡ 1) × Whole t p log)
    ⊎ (((r ≡ 0) × ((Whole t p log → ⊥) × Begins t p log)) ⊎ ((k : ℕ) × (r ≡ 2 + k) × LeavesAt t p log k))
