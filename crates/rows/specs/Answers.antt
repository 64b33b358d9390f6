-- What the answers of the functions over rows mean. Assumes nothing: these are definitions.
use Rattle.std.specs.Prelude.{◌≡◌, Bool, true, List, ℕ, ◌+◌, ◌≤◌, ◌<◌}
use Rattle.std.proofs.Math.Seq.{slice}
use Rattle.bpa.specs.Method as method
use Rattle.rows.specs.declared.Difference.{Difference}
use Rattle.rows.specs.declared.Difference.TheVariants.{Equal, Ends, Differ}

-- the leftmost difference of two plans
unfoldable pub meaning : Difference → method.Difference
meaning Equal = method.equal
meaning Ends = method.ends
meaning (Differ x y) = method.differ x y

-- an answer of yes or no to a question
pub record Decides (answer : Bool) (A : Type 0) : Type 0 where
  pub yes : answer ≡ true → A
  pub no : A → answer ≡ true

-- the lesser of two numbers
pub record IsLesser (a b r : ℕ) : Type 0 where
  pub left : r ≤ a
  pub right : r ≤ b
  pub is_left : a ≤ b → r ≡ a

-- a number of places in which two rows are equal, from where they stand up to no further than their ends
pub record Leaps (left : List ℕ) (k stop : ℕ) (right : List ℕ) (at end r : ℕ) : Type 0 where
  pub left_inside : k + r ≤ stop
  pub right_inside : at + r ≤ end
  pub equal : slice k (k + r) left ≡ slice at (at + r) right

-- the length of a row, as it was read
pub record IsLen (len r : ℕ) : Type 0 where
  pub is : r ≡ len
  pub small : r < 65536
