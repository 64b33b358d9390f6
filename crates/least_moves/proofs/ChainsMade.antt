-- Chains made from the last rule to the first: for each job its first rule of least move from a position on, and after each rule that is of
-- least move from its own place on the next with its move. Assumes nothing.
use Rattle.std.proofs.Common.{◌≤◌, ◌<◌, ℕ, List, arith, get_or}
use Rattle.least_moves.specs.Chains.{Least, FirstLeast, NextTie}

-- the places of the jobs hold their first rules from a position on
abbrev pub Begun : (rules norms : List ℕ) → (bound : ℕ) → (places : List ℕ) → (i : ℕ) → Type 0
Begun rs ns b a i = (j : ℕ) → j < 24 → get_or ns j 0 ≤ b → FirstLeast rs ns j i (get_or a j 0)

-- from a position on, the place of each rule that is of least move holds the next one
abbrev pub Linked : (rules norms : List ℕ) → (bound : ℕ) → (places : List ℕ) → (i : ℕ) → Type 0
Linked rs ns b a i = (j k : ℕ) → i ≤ k → get_or ns j 0 ≤ b → Least rs ns j k k → NextTie rs ns j k (get_or a k 0)

-- least from a position on is least from a later one on
pub least_later : (rs ns : List ℕ) (j from to i : ℕ) → from ≤ to → to ≤ i → Least rs ns j from i → Least rs ns j to i
least_later rs ns j from to i l m least = record { lowers = least.lowers; after = m; least = λ k n. least.least k (omega arith) }
