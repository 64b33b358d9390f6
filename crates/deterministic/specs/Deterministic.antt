-- Tables without a choice of outcome (simple systems of equations in 002, section 8): what they are, and the test for them. Assumes nothing:
-- these are definitions.
use Rattle.std.specs.Prelude.{◌≡◌, Bool, false, not, ◌&&◌, ◌||◌, List, [], ◌∷◌, ℕ, eqb}
use Rattle.bpa.specs.Plans.{Rule, Table, HasRule}
use Rattle.moves.specs.Shown.{equal_plans}
use Rattle.alike.specs.Alike.{Pair, replace}

-- THE PROPERTY: no job makes one move into different rows of jobs. A rule that is written twice is no choice.
abbrev pub Deterministic : Table → Type 0
Deterministic t = (j a : ℕ) (v w : List ℕ) → HasRule t j a v → HasRule t j a w → v ≡ w

-- under an alike list: no job makes moves that count as one into different rows
abbrev pub DeterministicAlike : List Pair → Table → Type 0
DeterministicAlike ps t =
    (j a b : ℕ) (v w : List ℕ) → HasRule t j a v → HasRule t j b w → replace ps a ≡ replace ps b → v ≡ w

-- THE TEST. Two rules are a choice of outcome: the same job and the same move, and other rows
unfoldable pub is_choice : (r s : Rule) → Bool
is_choice r s = (eqb r.job s.job && eqb r.move s.move) && not (equal_plans r.after s.after)

-- a rule with one of some others
unfoldable pub choice_with : Rule → List Rule → Bool
choice_with r [] = false
choice_with r (s ∷ ss) = is_choice r s || choice_with r ss

-- two rules of a list
unfoldable pub choice_among : List Rule → Bool
choice_among [] = false
choice_among (r ∷ rs) = choice_with r rs || choice_among rs

unfoldable pub no_choice : Table → Bool
no_choice t = not (choice_among t.rules)
