-- Whether the row of a job is the job alone. Assumes nothing.
use mathlib.Core.Path.{◌≡◌, ap}
use mathlib.Core.List.{List, [], ◌∷◌}
use Prim.Native.Nat.{ℕ, ◌<◌}
use native.Mathlib.Omega.{arith}
use lib.ListN.{length, get_or, length-take, length-drop}
use Rattle.rows.specs.Region.{row}

-- a row that is a job alone has one place
pub alone_length : (lens region : List ℕ) (job : ℕ) → row lens region job ≡ job ∷ [] → job < 24 → length region ≡ 12288 → get_or lens job 0 ≡ 1
unfolding row
alone_length lens region job e h g = omega (arith, simp (length-take, length-drop) at (ap length e))
