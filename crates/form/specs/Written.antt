-- What writing and comparing the forms of plans asks and gives. Assumes nothing: these are definitions.
use Rattle.std.specs.Prelude.{◌≡◌, Bool, true, List, ℕ}

-- an answer tells whether two plans are equal
pub record Tells (answer : Bool) (p q : List ℕ) : Type 0 where
  pub same : answer ≡ true → p ≡ q
  pub told : p ≡ q → answer ≡ true
