-- Moves that tally alike: a list of pairs, the table with its moves replaced by it (a relabelling of actions), and bisimulations in which
-- moves match when they are equal after replacement. Assumes nothing: these are definitions.
use Rattle.std.specs.Prelude.{◌≡◌, Bool, true, false, ◌||◌, cond, List, [], ◌∷◌, ◌++◌, map, ℕ, ◌<◌, eqb, length, get_or}
use Rattle.bpa.specs.Plans.{Rule, Table, over, Step}
use Rattle.bpa.specs.Bisimilar.{Relation}

-- a from-move, and the to-move that it counts as
pub record Pair : Type 0 where
  pub from : ℕ
  pub to : ℕ

-- THE MOVE THAT A MOVE COUNTS AS: the to-move of the pair whose from-move it is, and itself if there is none
unfoldable pub replace : List Pair → (move : ℕ) → ℕ
replace [] a = a
replace (p ∷ ps) a = cond (eqb p.from a) p.to (replace ps a)

-- THE REPLACED TABLE: each rule makes the move that its own counts as
unfoldable pub replaced_rule : List Pair → Rule → Rule
replaced_rule ps r = record { job = r.job; move = replace ps r.move; after = r.after }

unfoldable pub replaced : List Pair → Table → Table
replaced ps t = record { jobs = t.jobs; rules = map (replaced_rule ps) t.rules }

-- the from-moves and the to-moves of a list
abbrev pub froms : List Pair → List ℕ
froms ps = map (λ (p : Pair). p.from) ps

abbrev pub tos : List Pair → List ℕ
tos ps = map (λ (p : Pair). p.to) ps

-- whether a number stands in a row, and whether a move is a from-move of a list
unfoldable pub stands_in : (row : List ℕ) → (number : ℕ) → Bool
stands_in [] v = false
stands_in (x ∷ xs) v = eqb x v || stands_in xs v

abbrev pub is_from : List Pair → (move : ℕ) → Bool
is_from ps a = stands_in (froms ps) a

-- A FROM-MOVE STANDS TWICE: at some pair and at an earlier one
unfoldable pub from_twice : (earlier pairs : List Pair) → Bool
from_twice qs [] = false
from_twice qs (p ∷ ps) = is_from qs p.from || from_twice (qs ++ (p ∷ [])) ps

-- A FROM-MOVE of a list STANDS AS A TO-MOVE in some of its pairs
unfoldable pub from_as_to : (list pairs : List Pair) → Bool
from_as_to all [] = false
from_as_to all (p ∷ ps) = is_from all p.to || from_as_to all ps

-- what refusal 13 asks of a list
unfoldable pub clashes : List Pair → Bool
clashes ps = from_twice [] ps || from_as_to ps ps

-- THE MEANING OF A CLASH: a from-move stands at two places, or a from-move is the to-move of some pair
abbrev pub FromTwice : List Pair → Type 0
FromTwice ps = (i : ℕ) × (k : ℕ) × (i < k) × (k < length ps) × (get_or (froms ps) i 0 ≡ get_or (froms ps) k 0)

abbrev pub FromAsTo : List Pair → Type 0
FromAsTo ps = (i : ℕ) × (k : ℕ) × (i < length ps) × (k < length ps) × (get_or (froms ps) i 0 ≡ get_or (tos ps) k 0)

-- MATCHING AFTER REPLACEMENT: each step of p is matched by a step of q whose move counts as the same, the two remainders related
abbrev pub SimulatesAlike : List Pair → Table → (List ℕ → List ℕ → Type 0) → (p q : List ℕ) → Type 0
SimulatesAlike ps t R p q =
    (a : ℕ) (p' : List ℕ) → Step t p a p' →
    (b : ℕ) × (q' : List ℕ) × Step t q b q' × (replace ps a ≡ replace ps b) × R p' q'

-- A BISIMULATION ON THE TABLE AS IT IS, in which moves match when they are equal after replacement
unfoldable pub AlikeBisimulation : List Pair → Table → Relation → Type 0
AlikeBisimulation ps t rel =
    (p q : List ℕ) → over t p ≡ true → over t q ≡ true → rel p q ≡ true →
    SimulatesAlike ps t (λ p' q'. rel p' q' ≡ true) p q × SimulatesAlike ps t (λ q' p'. rel p' q' ≡ true) q p

-- the same for relations that need not be computable
unfoldable pub AnyAlikeBisimulation : List Pair → Table → (List ℕ → List ℕ → Type 0) → Type 0
AnyAlikeBisimulation ps t R =
    (p q : List ℕ) → over t p ≡ true → over t q ≡ true → R p q →
    SimulatesAlike ps t R p q × SimulatesAlike ps t (λ q' p'. R p' q') q p
