-- Rules that lower the norm of their job by one, the runs by them, and what is known of the jobs whose norm is below a bound. Assumes nothing:
-- these are definitions.
use Rattle.std.specs.Prelude.{◌≡◌, List, ◌∷◌, ℕ, suc, ◌*◌, ◌≤◌, ◌<◌, length, get_or, take, drop}
use Rattle.bpa.specs.Norms.{sum_of}
use Rattle.bpa.specs.Method.{expand}
use Rattle.rules.specs.Places.{rule_at, rule_count, table_of}
use Rattle.area.specs.Numbers.{all_low_first}
use Rattle.first_run.specs.FirstRun.{Before, run_of}

-- the rule at a place lowers the norm of a job by one
pub record Lowers (rs ns : List ℕ) (j i : ℕ) : Type 0 where
  pub place : i < rule_count rs
  pub job : (rule_at rs i).job ≡ j
  pub falls : get_or ns j 0 ≡ suc (sum_of ns (rule_at rs i).after)

-- the run by a rule: its move, then the first runs of the jobs after it
unfoldable pub run_by : (jobs : ℕ) → (rules : List ℕ) → (i : ℕ) → List ℕ
run_by n rs i = (rule_at rs i).move ∷ expand (run_of (table_of n rs)) (rule_at rs i).after

-- a rule of a job by which no run comes before that of another
pub record Picks (n : ℕ) (rs ns : List ℕ) (j i : ℕ) : Type 0 where
  pub lowers : Lowers rs ns j i
  pub first : (k : ℕ) → Lowers rs ns j k → Before (run_by n rs k) (run_by n rs i) → ⊥

-- THE ROW OF A SHORT JOB, of a norm of at most 85, among 24 rows of 170 bytes: two bytes a move
unfoldable pub short_row : (norms rows : List ℕ) → (job : ℕ) → List ℕ
short_row ns rows j = take (2 * get_or ns j 0) (drop (170 * j) rows)

-- WHAT IS KNOWN of the jobs whose norm is below a bound: the rule by which the first run begins, and the run itself of a short job
pub record Chosen (n : ℕ) (rs ns low rows : List ℕ) (bound : ℕ) : Type 0 where
  pub size : length rows ≡ 4080
  pub picks : (j : ℕ) → j < n → get_or ns j 0 < bound → Picks n rs ns j (get_or low j 0)
  pub row : (j : ℕ) → j < n → get_or ns j 0 < bound → get_or ns j 0 ≤ 85 → short_row ns rows j ≡ all_low_first (run_of (table_of n rs) j)
