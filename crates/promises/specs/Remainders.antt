-- What is promised of the norms that the rounds look up: statements, each a field of EveryPromise and proved by a term of its name in small
-- letters. They are over what the functions that look ask and give: the contracts of `remainders::remainder_norm` and `rule_filter::may_agree`,
-- and `facts::Facts`, which `refining::refine` is given. A remainder is what a rule leaves, with the jobs that wait behind it. Assumes nothing.
use Rattle.std.specs.Prelude.{◌≡◌, Bool, true, false, List, [], ◌∷◌, ◌++◌, ℕ, ◌<◌, get_or}
use Rattle.bpa.specs.Plans.{Table, over}
use Rattle.bpa.specs.Norms.{Fewest, Good}
use Rattle.bpa.specs.Bisimilar.{AnyBisimulation}
use Rattle.rules.specs.Places.{rule_at, rule_count, table_of}
use Rattle.rules.specs.Lists.{GoodList}
use Rattle.prepare.specs.Prepared.{RowNorms}
use Rattle.refusal.specs.Refusals.{Closed}
use Rattle.facts.specs.declared.Facts.{Facts}
use Rattle.facts.specs.Columns.{bytes_in, table_by}
use Rattle.fingerprints.specs.declared.Prints.{Prints}
use Rattle.remainders.specs.Remainders.{LooksUp, LookedUp}
use Rattle.rule_filter.specs.declared.Pair.{Pair}
use Rattle.rule_filter.specs.RuleFilter.{MayAgree}

-- numbers for rules' rows: each is the fewest moves from the row of its rule to the empty plan, whatever norms they were made by, if the table is
-- good by these; and so is each number that the rounds are given
unfoldable pub RowsNormed : Type 0
RowsNormed =
    ((jobs : ℕ) (rs norms sums : List ℕ) (i : ℕ) → GoodList jobs rs → Good (table_of jobs rs) norms → RowNorms rs norms sums →
    i < rule_count rs → Fewest (table_of jobs rs) (rule_at rs i).after (get_or sums i 0))
    × ((facts : Facts) (i : ℕ) → i < rule_count (bytes_in facts) →
    Fewest (table_by facts) (rule_at (bytes_in facts) i).after (get_or facts.sums i 0))

-- the number that is looked up, with the norm of the jobs that wait: it is the fewest moves from the remainder to the empty plan
unfoldable pub RemaindersNormed : Type 0
RemaindersNormed =
    (jobs : ℕ) (rs sums waiting : List ℕ) (behind r number : ℕ) → LooksUp jobs rs sums waiting behind → r < rule_count rs →
    LookedUp sums behind r number → Fewest (table_of jobs rs) ((rule_at rs r).after ++ waiting) number

-- plans of unequal norms are never bisimilar, whatever table: no bisimulation, computable or not, relates them
unfoldable pub UnequalNorms : Type 1
UnequalNorms =
    (t : Table) (p q : List ℕ) (v w : ℕ) → Closed t → ((j : ℕ) → j < t.jobs → (u : ℕ) × Fewest t (j ∷ []) u) →
    over t p ≡ true → over t q ≡ true → Fewest t p v → Fewest t q w → (v ≡ w → ⊥) →
    (R : List ℕ → List ℕ → Type 0) → AnyBisimulation t R → R p q → ⊥

-- remainders for which unequal numbers are looked up: the test before a comparison says no, and they are never bisimilar
unfoldable pub UnequalRemainders : Type 1
UnequalRemainders =
    (jobs : ℕ) (rs sums waiting : List ℕ) (gap r s v w : ℕ) → LooksUp jobs rs sums waiting gap → r < rule_count rs → s < rule_count rs →
    LookedUp sums 0 r v → LookedUp sums gap s w → (v ≡ w → ⊥) →
    ((prints : Prints) (pair : Pair) (out : Bool) → pair.gap ≡ gap → MayAgree rs sums prints pair r s out → out ≡ false)
    × ((R : List ℕ → List ℕ → Type 0) → AnyBisimulation (table_of jobs rs) R → R (rule_at rs r).after ((rule_at rs s).after ++ waiting) → ⊥)
