-- Places of rules with other moves. Assumes nothing: these are definitions.
use Rattle.std.specs.Prelude.{List, ℕ}
use Rattle.rules.specs.Places.{move_in, with_move, changed_places}

-- a place with the move that its own counts as, and SO MANY PLACES, each with that move
abbrev pub moved : (counts : ℕ → ℕ) → (place : List ℕ) → List ℕ
moved f y = with_move (f (move_in y)) y

abbrev pub with_moves : (counts : ℕ → ℕ) → (left : ℕ) → (places : List ℕ) → List ℕ
with_moves f k xs = changed_places (moved f) k xs
