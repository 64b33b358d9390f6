-- Two rules of a job give one combination of move and remaining plan exactly if their moves and their rows are equal, whatever waits behind. Assumes nothing.
use mathlib.Core.Path.{◌≡◌, ap}
use mathlib.Core.List.{List, ◌++◌, append_cancel_right}
use mathlib.Core.Logic.{◌↔◌}
use Prim.Native.Nat.{ℕ}
use Rattle.bpa.specs.Plans.{Rule, Move}
use Rattle.moves.specs.Shown.{move_by}

pub one_combination : (r s : Rule) (js : List ℕ) → (move_by r js ≡ move_by s js) ↔ ((r.move ≡ s.move) × (r.after ≡ s.after))
one_combination r s js = (
  λ e. (ap (λ (m : Move). m.move) e, append_cancel_right r.after s.after js (ap (λ (m : Move). m.rest) e)),
  λ h i. record { move = h.0 i; rest = h.1 i ++ js },
)
