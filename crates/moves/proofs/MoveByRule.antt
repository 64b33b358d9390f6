-- The n-th move of a plan, by the rule of its first job. Assumes nothing.
use mathlib.Core.Path.{◌≡◌}
use mathlib.Core.Bool.{cond}
use mathlib.Core.List.{List, [], ◌∷◌}
use Prim.Native.Nat.{ℕ, ◌<◌}
use native.Mathlib.Omega.{arith}
use lib.Dec.{ltb}
use lib.ListN.{length, get_or, drop}
use Rattle.bpa.specs.Plans.{moves}
use Rattle.rules.specs.Places.{rule_count, table_of}
use Rattle.moves.specs.Shown.{shown}
use Rattle.moves.specs.Moves.{move_bytes, bytes_by, IsNth}

pub moved : (n : ℕ) (rs p : List ℕ) (k i : ℕ) → 0 < length p → IsNth rs (get_or p 0 0) k i →
    move_bytes (shown (table_of n rs) p) k ≡ cond (ltb i (rule_count rs)) (bytes_by rs i (drop 1 p)) []
unfolding shown moves table_of
moved n rs [] k i h f = absurd (omega arith)
moved n rs (j ∷ js) k i h f = f.move js
