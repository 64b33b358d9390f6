-- How much of a workspace a call may use. Assumes nothing: this is a definition.
use Rattle.std.specs.Prelude.{cond, List, ℕ, ltb, length}
use Rattle.answer.specs.Refusals.{space_size}

-- its first 65,536 bytes, or nothing if it is too short
unfoldable pub usable : (space : List ℕ) → ℕ
usable s = cond (ltb (length s) space_size) 0 space_size
