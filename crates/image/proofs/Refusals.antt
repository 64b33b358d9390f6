-- Checks in a row, each with its refusal: nothing is refused exactly if every check passes. Assumes nothing.
use mathlib.Core.Path.{◌≡◌, refl, sym, ◌∙◌}
use mathlib.Core.Bool.{Bool, true, false, not, cond, true≢false}
use Prim.Native.Nat.{ℕ, ◌<◌}
use native.Mathlib.Omega.{arith}

-- a check that refuses by r does not, and neither do those after it
pub passed : (b : Bool) (r x : ℕ) → 0 < r → cond (not b) r x ≡ 0 → (b ≡ true) × (x ≡ 0)
passed true r x p h = (refl, h)
passed false r x p h = absurd (omega arith)

-- what is left of a chain once a check is past
pub past : (b : Bool) (r x : ℕ) → b ≡ true → cond (not b) r x ≡ x
past true r x h = refl
past false r x h = absurd (true≢false (sym h))

pub pass : (b : Bool) (r x : ℕ) → b ≡ true → x ≡ 0 → cond (not b) r x ≡ 0
pass b r x h k = past b r x h ∙ k
