-- The norms of a table's jobs as an array of 24 numbers, and a round over the rules. Assumes nothing: these are definitions.
use Rattle.std.specs.Prelude.{◌≡◌, cond, List, ℕ, suc, ◌≤◌, ◌<◌, min, length, get_or}
use Rattle.bpa.specs.Plans.{Table}
use Rattle.bpa.specs.Norms.{sum_of, all_known, norms, capped_round, Good}
use Rattle.rules.specs.Places.{table_of}
use Rattle.rules.specs.Lists.{GoodList}

-- two rows have the same numbers; beyond its end a row has zeros
abbrev pub Agree : (xs ys : List ℕ) → Type 0
Agree xs ys = (j : ℕ) → get_or xs j 0 ≡ get_or ys j 0

-- a norm that was read, as a 16-bit number
pub record IsNorm (norm r : ℕ) : Type 0 where
  pub is : r ≡ norm
  pub small : r < 65536

-- a norm by way of a rule with these jobs after it; 0 is none
unfoldable pub norm_by : (norms : List ℕ) → (after : List ℕ) → ℕ
norm_by ns w = cond (all_known ns w) (suc (sum_of ns w)) 0

-- an array after a round over the rules, capped at 513
pub record IsRound (t : Table) (old new : List ℕ) : Type 0 where
  pub size : length new ≡ 24
  pub agree : Agree new (capped_round 513 t old)

-- THE ARRAY OF NORMS of a table: a norm above 512 stands as 513, and 0 is none
pub record NormArray (t : Table) (a : List ℕ) : Type 0 where
  pub size : length a ≡ 24
  pub at : (j : ℕ) → get_or a j 0 ≡ min 513 (get_or (norms t) j 0)

-- THE EXACT NORMS of a table that refusals 6 and 7 have passed, as an array
pub record ExactNorms (t : Table) (a : List ℕ) : Type 0 where
  pub size : length a ≡ 24
  pub at : (j : ℕ) → get_or a j 0 ≡ get_or (norms t) j 0
  pub few : (j : ℕ) → get_or a j 0 ≤ 512

-- WHAT EVERY FUNCTION ABOUT PLANS ASKS: a good list of rules, a table that is good, and its norms
pub record GoodNorms (n : ℕ) (rs a : List ℕ) : Type 0 where
  pub list : GoodList n rs
  pub good : Good (table_of n rs) (norms (table_of n rs))
  pub exact : ExactNorms (table_of n rs) a
