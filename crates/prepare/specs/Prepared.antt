-- What is worked out once from a list of rules and the norms of its jobs. Assumes nothing: these are definitions.
use Rattle.std.specs.Prelude.{◌≡◌, Bool, true, ◌&&◌, cond, List, [], ◌∷◌, ℕ, suc, ◌+◌, ◌-◌, ◌*◌, ◌/◌, ◌%◌, ◌^◌, ◌≤◌, ◌<◌, eqb, length, get_or}
use Rattle.std.specs.Int.Bits.{bit_or}
use Rattle.bpa.specs.Plans.{Rule, all_below}
use Rattle.bpa.specs.Norms.{sum_of, Good}
use Rattle.bpa.specs.Method.{lowering}
use Rattle.rules.specs.Places.{rule_at, rule_count, rules_in, table_of}
use Rattle.rules.specs.Lists.{GoodList}
use Rattle.repeated.specs.Repeated.{Repeated}

-- a list of rules with the norms of its jobs, none above 512
pub record Normed (n : ℕ) (rs ns : List ℕ) : Type 0 where
  pub list : GoodList n rs
  pub good : Good (table_of n rs) ns
  pub small : (j : ℕ) → j < n → get_or ns j 0 ≤ 512

-- the rules of a list, in its order
unfoldable pub all_rules : (rules : List ℕ) → List Rule
all_rules rs = rules_in (rule_count rs) rs

-- how many rules stand before the first that passes a test; all of them, if none does
unfoldable pub seek : (test : Rule → Bool) → List Rule → ℕ
seek f [] = 0
seek f (r ∷ rs) = cond (f r) 0 (suc (seek f rs))

unfoldable pub of_job : (job : ℕ) → Rule → Bool
of_job j r = eqb r.job j

-- a rule of the job that lowers its norm by one
unfoldable pub lowers : (norms : List ℕ) → (job : ℕ) → Rule → Bool
lowers ns j r = eqb r.job j && eqb (get_or ns j 0) (suc (sum_of ns r.after))

-- what the norm of a row asks, and gives
pub record ShortRow (ns row : List ℕ) : Type 0 where
  pub few : length row ≤ 4
  pub below : all_below 24 row ≡ true
  pub most : (i : ℕ) → i < length row → get_or ns (get_or row i 0) 0 ≤ 512

pub record RowNorm (ns row : List ℕ) (r : ℕ) : Type 0 where
  pub is : r ≡ sum_of ns row
  pub small : r ≤ 2048

-- THE NORMS of the jobs after each rule
pub record RowNorms (rs ns out : List ℕ) : Type 0 where
  pub at : (i : ℕ) → i < rule_count rs → RowNorm ns (rule_at rs i).after (get_or out i 0)

-- THE NORM-LOWERING RULES: for each job the position of its first
pub record Lowered (n : ℕ) (rs ns low : List ℕ) : Type 0 where
  pub inside : (j : ℕ) → j < n → get_or low j 0 < rule_count rs
  pub after : (j : ℕ) → j < n → (rule_at rs (get_or low j 0)).after ≡ lowering ns (table_of n rs).rules j

-- the next rule of a job from a position on, or the end; every rule of the job before it is written twice
pub record NextOf (rs : List ℕ) (j from to : ℕ) : Type 0 where
  pub rises : from ≤ to
  pub within : to ≤ rule_count rs
  pub own : to < rule_count rs → (rule_at rs to).job ≡ j
  pub between : (i : ℕ) → from ≤ i → i < to → (rule_at rs i).job ≡ j → Repeated rs i

-- CHAINS: the rules of a job from its first to each next, without those that are written twice; the number of rules ends a chain
pub record Chained (rs first next : List ℕ) : Type 0 where
  pub starts : (j : ℕ) → j < 24 → NextOf rs j 0 (get_or first j 0)
  pub goes_on : (i : ℕ) → i < rule_count rs → NextOf rs (rule_at rs i).job (suc i) (get_or next i 0)

-- a position on the chain of a job: a rule of the job, or the end
pub record OnChain (rs : List ℕ) (j i : ℕ) : Type 0 where
  pub within : i ≤ rule_count rs
  pub own : i < rule_count rs → (rule_at rs i).job ≡ j

-- a number below 64 for a step: both bytes of its move and its change of the norm count
unfoldable pub step_number : (move change : ℕ) → ℕ
step_number a d = (a + a / 256 + 11 * d) % 64

-- a bit for each step: its move and its change of the norm, which is at least -512
unfoldable pub step_bit : (norms : List ℕ) → Rule → ℕ
step_bit ns r = 2 ^ step_number r.move (sum_of ns r.after + 512 - get_or ns r.job 0)

-- the bits of a job's rules, joined
unfoldable pub mark : (norms : List ℕ) → (job : ℕ) → List Rule → ℕ
mark ns j [] = 0
mark ns j (r ∷ rs) = cond (of_job j r) (bit_or (mark ns j rs) (step_bit ns r)) (mark ns j rs)

-- THE MARKS of the jobs
pub record Marked (n : ℕ) (rs ns marks : List ℕ) : Type 0 where
  pub is : (j : ℕ) → j < n → get_or marks j 0 ≡ mark ns j (all_rules rs)
