-- There is no such move exactly if the plan is empty or the index is not below the number of moves that it shows. Assumes nothing.
use mathlib.Core.Path.{◌≡◌, refl}
use mathlib.Core.List.{List, [], ◌∷◌, cons≢nil}
use mathlib.Core.Logic.{◌⊎◌, inr, ⊎_elim, ◌↔◌}
use Prim.Native.Nat.{ℕ, zero, suc, ◌≤◌}
use native.Mathlib.Omega.{arith}
use lib.ListN.{length}
use Rattle.bpa.specs.Plans.{Table, Move, moves}
use Rattle.area.specs.Numbers.{low_first}
use Rattle.moves.specs.Shown.{once, shown}
use Rattle.moves.specs.Moves.{move_bytes}

-- a list has its n-th move exactly if n is below its length
ends : (ms : List Move) (n : ℕ) → move_bytes ms n ≡ [] → length ms ≤ n
unfolding move_bytes low_first
ends [] n e = omega arith
ends (m ∷ ms) zero e = absurd (cons≢nil e)
ends (m ∷ ms) (suc n) e = let h = ends ms n e in omega arith

past : (ms : List Move) (n : ℕ) → length ms ≤ n → move_bytes ms n ≡ []
unfolding move_bytes
past [] n h = refl
past (m ∷ ms) zero h = absurd (omega arith)
past (m ∷ ms) (suc n) h = past ms n (omega arith)

-- an empty plan shows none
none_shown : (t : Table) (p : List ℕ) (n : ℕ) → p ≡ [] → length (shown t p) ≤ n
unfolding shown moves once
none_shown t [] n e = omega arith
none_shown t (j ∷ js) n e = absurd (cons≢nil e)

-- NO SUCH MOVE
pub no_such_move : (t : Table) (p : List ℕ) (n : ℕ) → (move_bytes (shown t p) n ≡ []) ↔ ((p ≡ []) ⊎ (length (shown t p) ≤ n))
no_such_move t p n = (
  λ e. inr (ends (shown t p) n e),
  λ h. past (shown t p) n (⊎_elim (none_shown t p n) (λ l. l) h),
)
