-- The pairs of a list in two arrays of 32 numbers. Assumes nothing: these are definitions.
use Rattle.std.specs.Prelude.{◌≡◌, cond, List, [], ◌∷◌, ◌++◌, ℕ, ◌+◌, ◌*◌, ◌-◌, ◌≤◌, ◌<◌, eqb, length, get_or, take, replicate}
use Rattle.alike.specs.Alike.{Pair, replace, froms, tos, stands_in}

-- 1 to 32 whole pairs
pub record WholePairs (list : List ℕ) (count : ℕ) : Type 0 where
  pub size : length list ≡ 4 * count
  pub some : 1 ≤ count
  pub few : count ≤ 32

-- the from-moves with the first one again behind them, and the to-moves with zeros behind them
unfoldable pub filled_froms : List Pair → List ℕ
filled_froms ps = froms ps ++ replicate (32 - length ps) (get_or (froms ps) 0 0)

unfoldable pub filled_tos : List Pair → List ℕ
filled_tos ps = tos ps ++ replicate (32 - length ps) 0

-- the sum of the to-moves at the places where a move stands as a from-move
unfoldable pub sum_at : (froms tos : List ℕ) → (move : ℕ) → ℕ
sum_at [] ts a = 0
sum_at (f ∷ fs) [] a = 0
sum_at (f ∷ fs) (t ∷ ts) a = cond (eqb f a) t 0 + sum_at fs ts a

-- what a move counts as by two arrays, of which so many places are added up
unfoldable pub counts_as : (froms tos : List ℕ) → (end : ℕ) → (move : ℕ) → ℕ
counts_as fs ts n a = cond (stands_in fs a) (sum_at (take n fs) (take n ts) a) a

-- arrays by which each move counts as a move of two bytes
pub record MoveArrays (fs ts : List ℕ) (end : ℕ) : Type 0 where
  pub size : (length fs ≡ 32) × (length ts ≡ 32)
  pub inside : end ≤ 32
  pub small : (a : ℕ) → sum_at (take end fs) (take end ts) a ≤ 65535

-- THE ARRAYS OF A LIST: by them each move counts as what it counts as by the list
pub record HoldsPairs (ps : List Pair) (fs ts : List ℕ) (end : ℕ) : Type 0 where
  pub arrays : MoveArrays fs ts end
  pub counts : (a : ℕ) → counts_as fs ts end a ≡ replace ps a
