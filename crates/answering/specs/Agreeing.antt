-- Rules that agree by some rows, and what is asked about two jobs, by the places of their rules in a list. Assumes nothing: these are
-- definitions.
use Rattle.std.specs.Prelude.{◌≡◌, Bool, true, false, List, ◌++◌, ℕ, ◌+◌, ◌≤◌, ◌<◌, ltb, length, get_or, drop}
use Rattle.std.proofs.Math.Seq.{slice}
use Rattle.bpa.specs.Plans.{all_below, over}
use Rattle.bpa.specs.Norms.{sum_of}
use Rattle.bpa.specs.Method as method
use Rattle.bpa.specs.Method.{expand}
use Rattle.rules.specs.Places.{rule_at, rule_count}
use Rattle.rows.specs.declared.Rows.{Rows}
use Rattle.rows.specs.Region.{Within}
use Rattle.rows.specs.Rows.{rows_of}
use Rattle.facts.specs.declared.Facts.{Facts}
use Rattle.facts.specs.Columns.{jobs_in, bytes_in, norms_in, table_by}
use Rattle.fingerprints.specs.declared.Print.{Print}
use Rattle.fingerprints.specs.declared.Prints.{Prints}
use Rattle.fingerprints.specs.Fingerprints.{join, RulePrints}
use Rattle.rule_filter.specs.declared.Pair.{Pair}
use Rattle.rule_filter.specs.RuleFilter.{SamePrint}
use Rattle.equal_remainders.specs.EqualRemainders.{rows_for, rest_for}

-- rule r of Y and rule s of X, with a row behind it as it stands: equal moves, and what they leave has equal norms and is equal by the rows
pub record Agree (e : method.Rows) (rs sums : List ℕ) (gap : ℕ) (rest : List ℕ) (r s : ℕ) : Type 0 where
  pub move : (rule_at rs r).move ≡ (rule_at rs s).move
  pub norm : get_or sums r 0 ≡ get_or sums s 0 + gap
  pub equal : expand e (rule_at rs r).after ≡ expand e (rule_at rs s).after ++ rest

-- a rule of a job
pub record MineRule (rs : List ℕ) (mine r : ℕ) : Type 0 where
  pub inside : r < rule_count rs
  pub own : (rule_at rs r).job ≡ mine

-- the one of the two that is Y
abbrev pub lead : (forward : Bool) → (mine other : ℕ) → ℕ
lead true mine other = mine
lead false mine other = other

-- the same of a rule that asks and a rule that answers; forward, the rule that asks is Y's
abbrev pub AgreeFrom : (forward : Bool) → method.Rows → (rules sums : List ℕ) → (gap : ℕ) → (rest : List ℕ) → (asks answers : ℕ) → Type 0
AgreeFrom f e rs sums gap rest r s = Agree e rs sums gap rest (lead f r s) (lead f s r)

abbrev pub SamePrintFrom : (forward : Bool) → (rules : List ℕ) → Prints → (tail : Print) → (asks answers : ℕ) → Type 0
SamePrintFrom f rs ps tail r s = SamePrint rs ps tail (lead f r s) (lead f s r)

-- the rows by which a rule that asks is compared, and what stands behind X by them: by the old rows a part of them, by the new ones the tail itself
abbrev pub rows_by : Facts → (old new : Rows) → Pair → (asks : ℕ) → method.Rows
rows_by facts old new pair r = rows_for (ltb (get_or facts.sums r 0) pair.norm) (rows_of old) (rows_of new)

abbrev pub rest_by : Facts → (old : Rows) → (parts : List ℕ) → Pair → (asks : ℕ) → List ℕ
rest_by facts old parts pair r = rest_for (ltb (get_or facts.sums r 0) pair.norm) (slice pair.from pair.to old.bytes.now) (drop 1 parts)

-- THE RULES THAT ANSWER: a rule that asks agrees with another by the rows that it asks for
abbrev pub AgreeBy : Facts → (old new : Rows) → (parts : List ℕ) → Pair → (asks answers : ℕ) → Type 0
AgreeBy facts old new parts pair r s =
    AgreeFrom pair.forward (rows_by facts old new pair r) (bytes_in facts) facts.sums pair.gap (rest_by facts old parts pair r) r s

-- Y, and X with its tail, are equal by the old rows
pub record EqualOld (old : Rows) (parts : List ℕ) (y : ℕ) : Type 0 where
  pub is : rows_of old y ≡ expand (rows_of old) parts

-- two distinct jobs of which one asks and the other answers, by old and new rows. `parts` is X and its tail, whose norm is the gap
pub record Pairing (facts : Facts) (prints : Prints) (old new : Rows) (parts : List ℕ) (pair : Pair) : Type 0 where
  pub tail_inside : over (table_by facts) (drop 1 parts) ≡ true
  pub gap_is : pair.gap ≡ sum_of (norms_in facts) (drop 1 parts)
  pub gap_small : pair.gap ≤ 512
  pub old_within : Within (jobs_in facts) old.lens.now old.bytes.now
  pub new_within : Within (jobs_in facts) new.lens.now new.bytes.now
  pub rule_prints : RulePrints (bytes_in facts) prints
  pub some : 1 ≤ length parts
  pub starts : pair.from ≤ pair.to
  pub inside : pair.to ≤ 12288
  pub mine_job : pair.mine < 24
  pub other_job : pair.other < 24
  pub distinct : pair.mine ≡ pair.other → ⊥
  pub tells : EqualOld old parts (lead pair.forward pair.mine pair.other) → (r s : ℕ) → MineRule (bytes_in facts) pair.mine r →
      MineRule (bytes_in facts) pair.other s → AgreeBy facts old new parts pair r s →
      SamePrintFrom pair.forward (bytes_in facts) prints pair.tail r s

-- Y, and X with its tail, in the old rows; they have equal fingerprints if they are equal by them
pub record OldPair (prints : Prints) (old : Rows) (parts : List ℕ) (pair : Pair) : Type 0 where
  pub jobs : ℕ
  pub within : Within jobs old.lens.now old.bytes.now
  pub y_job : pair.mine < jobs
  pub x_job : pair.other < jobs
  pub parts_below : all_below jobs parts ≡ true
  pub tells : EqualOld old parts pair.mine →
      get_or prints.values pair.mine 0 ≡ join (get_or prints.values pair.other 0) pair.tail.power pair.tail.value

-- THE RULES OF Y AND X ANSWER EACH OTHER, with the tail behind X, and the two are equal by the old rows
pub record RulesMatch (d e : method.Rows) (rs sums : List ℕ) (norm gap : ℕ) (behind tail parts : List ℕ) (y x : ℕ) : Type 0 where
  pub equal : d y ≡ expand d parts
  pub forth : (r : ℕ) → MineRule rs y r →
      (s : ℕ) × MineRule rs x s
      × Agree (rows_for (ltb (get_or sums r 0) norm) d e) rs sums gap (rest_for (ltb (get_or sums r 0) norm) behind tail) r s
  pub back : (s : ℕ) → MineRule rs x s →
      (r : ℕ) × MineRule rs y r
      × Agree (rows_for (ltb (get_or sums r 0) norm) d e) rs sums gap (rest_for (ltb (get_or sums r 0) norm) behind tail) r s

-- the same of a pair
abbrev pub PairMatches : Facts → (old new : Rows) → (parts : List ℕ) → Pair → Type 0
PairMatches facts old new parts pair =
    RulesMatch (rows_of old) (rows_of new) (bytes_in facts) facts.sums pair.norm pair.gap (slice pair.from pair.to old.bytes.now) (drop 1 parts)
    parts pair.mine pair.other
