-- Jobs that make the same steps: equal moves, equal changes of the norm. Assumes nothing.
use mathlib.Core.Path.{◌≡◌}
use mathlib.Core.List.{List}
use Prim.Native.Nat.{ℕ, ◌+◌}
use lib.ListN.{get_or}
use Rattle.bpa.specs.Plans.{Table, HasRule}
use Rattle.bpa.specs.Norms.{sum_of}

-- for each rule of y a rule of x with an equal move and an equal change of norm
abbrev pub Follows : Table → (norms : List ℕ) → (y x : ℕ) → Type 0
Follows t ns y x =
    (a : ℕ) (w : List ℕ) → HasRule t y a w →
    (v : List ℕ) × HasRule t x a v × (sum_of ns w + get_or ns x 0 ≡ sum_of ns v + get_or ns y 0)

pub record SameSteps (t : Table) (ns : List ℕ) (y x : ℕ) : Type 0 where
  pub forth : Follows t ns y x
  pub back : Follows t ns x y
