-- Logs as bytes: moves of two bytes each, low byte first, and REFUSAL 11. Assumes nothing: these are definitions.
use Rattle.std.specs.Prelude.{◌≡◌, ◌||◌, cond, List, map, ℕ, ◌/◌, ◌%◌, ltb, length, take}
use Rattle.area.specs.Numbers.{numbers_in}
use Rattle.alike.specs.Alike.{replace}
use Rattle.alike_list.specs.AlikeLists.{alike_pairs}

-- THE MOVES of a log
unfoldable pub log_moves : (log : List ℕ) → List ℕ
log_moves bs = numbers_in bs

-- each as what it counts as by an alike list
unfoldable pub counted_log : (list log : List ℕ) → List ℕ
counted_log ls bs = map (replace (alike_pairs ls)) (log_moves bs)

-- REFUSAL 11: more than 128 moves, or half a move at the end
unfoldable pub log_refusal : (log : List ℕ) → ℕ
log_refusal bs = cond (ltb 128 (length bs / 2) || ltb 0 (length bs % 2)) 11 0

-- the moves of a log at the front of an array
pub record HoldsLog (list log array : List ℕ) : Type 0 where
  pub size : length array ≡ 128
  pub moves : take (length log / 2) array ≡ counted_log list log
