-- Lists of 8-byte rules that refusals 2, 4 and 5 have passed, and what reading one rule asks. Assumes nothing: these are definitions.
use Rattle.std.specs.Prelude.{◌≡◌, true, List, ℕ, ◌+◌, ◌*◌, ◌≤◌, ◌<◌, length, get_or}
use Rattle.bpa.specs.Plans.{Rule, all_below}
use Rattle.rules.specs.Places.{places_good, rule_count}

-- what every function over a job count and a list of rules asks
pub record GoodList (n : ℕ) (rs : List ℕ) : Type 0 where
  pub whole : length rs ≡ 8 * rule_count rs
  pub some : 1 ≤ rule_count rs
  pub few : rule_count rs ≤ 252
  pub job : 1 ≤ n
  pub jobs : n ≤ 24
  pub places : places_good (rule_count rs) n rs ≡ true

-- a rule stands there, with at most four jobs after it
pub record HasPlace (rs : List ℕ) (i : ℕ) : Type 0 where
  pub inside : i < rule_count rs
  pub few : get_or rs (8 * i + 2) 0 ≤ 4

-- a rule that keeps to the jobs below n
pub record GoodRule (n : ℕ) (r : Rule) : Type 0 where
  pub job : r.job < n
  pub few : length r.after ≤ 4
  pub after : all_below n r.after ≡ true

-- a rule's move, a number of two bytes
pub record IsMove (part r : ℕ) : Type 0 where
  pub is : r ≡ part
  pub small : r < 65536

-- how many jobs stand after a rule
pub record IsCount (part r : ℕ) : Type 0 where
  pub is : r ≡ part
  pub few : r ≤ 4
