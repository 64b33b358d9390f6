-- Rules with equal bytes are equal. Assumes nothing.
use mathlib.Core.Path.{◌≡◌, ap}
use mathlib.Core.List.{List}
use Prim.Native.Nat.{ℕ}
use Rattle.rules.specs.Places.{rule_in, rule_at}
use Rattle.repeated.specs.Repeated.{place_at}

pub same_place : (rs : List ℕ) (i k : ℕ) → place_at rs i ≡ place_at rs k → rule_at rs i ≡ rule_at rs k
unfolding rule_at
same_place rs i k e = ap rule_in e
