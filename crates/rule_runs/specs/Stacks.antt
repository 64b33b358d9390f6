-- Jobs that wait on a stack. Assumes nothing: these are definitions.
use Rattle.std.specs.Prelude.{◌≡◌, List, ℕ, ◌+◌, length}
use Rattle.area.specs.Areas.{put}

-- jobs put before those on a stack
pub record Pushed (after stack : List ℕ) (top r : ℕ) (stack' : List ℕ) : Type 0 where
  pub fits : r + length after ≡ top
  pub output : stack' ≡ put r after stack
