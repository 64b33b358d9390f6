-- The norm-lowering rules of a job with the least move, as chains. Assumes nothing: these are definitions.
use Rattle.std.specs.Prelude.{◌≡◌, List, ℕ, ◌≤◌, ◌<◌, get_or}
use Rattle.rules.specs.Places.{rule_at, rule_count}
use Rattle.lowering.specs.Lowering.{Lowers}

-- the rule at a place lowers the norm of a job by one, and that norm is at most a bound
pub record LowersWithin (rs ns : List ℕ) (bound j i : ℕ) : Type 0 where
  pub within : get_or ns j 0 ≤ bound
  pub lowers : Lowers rs ns j i

-- a rule of a job whose move is not greater than those of the norm-lowering rules from a position on
pub record Least (rs ns : List ℕ) (j from i : ℕ) : Type 0 where
  pub lowers : Lowers rs ns j i
  pub after : from ≤ i
  pub least : (k : ℕ) → from ≤ k → Lowers rs ns j k → (rule_at rs i).move ≤ (rule_at rs k).move

-- what follows a rule that comes to stand before the one that a chain begins with so far: that one if their moves are equal, and else none
pub record Follows (rs : List ℕ) (i first r : ℕ) : Type 0 where
  pub within : r ≤ rule_count rs
  pub tie : first < rule_count rs → (rule_at rs i).move ≡ (rule_at rs first).move → r ≡ first
  pub none : (first < rule_count rs → (rule_at rs i).move ≡ (rule_at rs first).move → ⊥) → rule_count rs ≤ r

-- the first rule of least move from a position on; the number of rules if the job has no norm-lowering rule there
pub record FirstLeast (rs ns : List ℕ) (j from to : ℕ) : Type 0 where
  pub within : to ≤ rule_count rs
  pub own : to < rule_count rs → Least rs ns j from to
  pub before : (k : ℕ) → Least rs ns j from k → to ≤ k
  pub some : (k : ℕ) → from ≤ k → Lowers rs ns j k → to < rule_count rs

-- the next rule with the same move behind one of least move; the number of rules if there is none
pub record NextTie (rs ns : List ℕ) (j i to : ℕ) : Type 0 where
  pub rises : i < to
  pub within : to ≤ rule_count rs
  pub own : to < rule_count rs → Lowers rs ns j to × ((rule_at rs to).move ≡ (rule_at rs i).move)
  pub between : (k : ℕ) → i < k → k < to → Lowers rs ns j k → (rule_at rs k).move ≡ (rule_at rs i).move → ⊥

-- CHAINS of such rules: for each job whose norm is at most a bound the first rule of least move, and after each that is of least move from its
-- own place on the next with its move
pub record LeastChains (rs ns : List ℕ) (bound : ℕ) (first next : List ℕ) : Type 0 where
  pub starts : (j : ℕ) → j < 24 → get_or ns j 0 ≤ bound → FirstLeast rs ns j 0 (get_or first j 0)
  pub goes_on : (j i : ℕ) → get_or ns j 0 ≤ bound → Least rs ns j i i → NextTie rs ns j i (get_or next i 0)

-- a chain of a job from its first rule on
pub record ChainFrom (rs ns next : List ℕ) (j start : ℕ) : Type 0 where
  pub own : Least rs ns j 0 start
  pub none : (i : ℕ) → i < start → Least rs ns j 0 i → ⊥
  pub goes_on : (i : ℕ) → Least rs ns j i i → NextTie rs ns j i (get_or next i 0)
