-- A list of rules in the bytes of a call. Assumes nothing: this is a definition.
use Rattle.std.specs.Prelude.{◌≡◌, List, ℕ, ◌≤◌, length, take}
use Rattle.rules.specs.Lists.{GoodList}

-- a good list of rules in the first `end` bytes of an array
pub record HoldsRules (jobs end : ℕ) (rules : List ℕ) : Type 0 where
  pub inside : end ≤ 2016
  pub size : length rules ≡ 2016
  pub list : GoodList jobs (take end rules)
