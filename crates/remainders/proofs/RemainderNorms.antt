-- Numbers that are looked up: each is the norm of its remainder, equal rules have equal ones, and equal ones are of remainders with equal norms.
-- Assumes nothing.
use mathlib.Core.Path.{◌≡◌, refl, sym, ap, subst, ◌∙◌}
use mathlib.Core.Bool.{true}
use mathlib.Core.List.{List, [], ◌++◌}
use Prim.Native.Nat.{ℕ, ◌+◌, ◌<◌}
use native.Mathlib.Omega.{arith}
use lib.ListN.{get_or}
use Rattle.bpa.specs.Plans.{Rule, Table, over, all_below}
use Rattle.bpa.specs.Norms.{sum_of, Fewest, Good}
use Rattle.bpa.proofs.Basics.Plans.{over_append, sum_append}
use Rattle.bpa.proofs.Norm.NormFewest.{sum_fewest}
use Rattle.rules.specs.Places.{rule_at, rule_count, table_of}
use Rattle.rules.specs.Lists.{GoodList}
use Rattle.rules.proofs.ListLaws.{good_rule}
use Rattle.prepare.specs.Prepared.{RowNorms}
use Rattle.remainders.specs.Remainders.{LooksUp, EqualNorms}

-- a look at a rule's row alone
pub row_looks : {jobs : ℕ} {rs norms sums : List ℕ} → GoodList jobs rs → Good (table_of jobs rs) norms → RowNorms rs norms sums →
    LooksUp jobs rs sums [] 0
unfolding over all_below sum_of
row_looks {norms = ns} list good row_norms = record {
  norms = ns;
  list = list;
  good = good;
  row_norms = row_norms;
  inside = refl;
  behind_is = refl;
  small = omega arith;
}

module _ {jobs : ℕ} {rs sums waiting : List ℕ} {behind : ℕ} (l : LooksUp jobs rs sums waiting behind) where
  pub nothing_waits : LooksUp jobs rs sums [] 0
  nothing_waits = row_looks l.list l.good l.row_norms

  -- equal rules have equal numbers
  pub alike : (i k : ℕ) → i < k → k < rule_count rs → rule_at rs i ≡ rule_at rs k → get_or sums i 0 ≡ get_or sums k 0
  alike i k b h same =
      (l.row_norms.at i (omega arith)).is ∙ ap (λ (r : Rule). sum_of l.norms r.after) same ∙ sym (l.row_norms.at k h).is

  abbrev t : Table
  t = table_of jobs rs

  pub row_over : (r : ℕ) → r < rule_count rs → over t (rule_at rs r).after ≡ true
  unfolding over table_of
  row_over r h = (good_rule jobs rs l.list r h).after

  pub remainder_over : (r : ℕ) → r < rule_count rs → over t ((rule_at rs r).after ++ waiting) ≡ true
  remainder_over r h = over_append t (rule_at rs r).after waiting (row_over r h) l.inside

  pub remainder_sum : (r : ℕ) → r < rule_count rs → sum_of l.norms ((rule_at rs r).after ++ waiting) ≡ get_or sums r 0 + behind
  remainder_sum r h = omega (arith, sum_append l.norms (rule_at rs r).after waiting, (l.row_norms.at r h).is, l.behind_is)

  -- THE NUMBER is the norm of the remainder
  pub remainder_norm : (r : ℕ) → r < rule_count rs → Fewest t ((rule_at rs r).after ++ waiting) (get_or sums r 0 + behind)
  remainder_norm r h =
      subst (Fewest t ((rule_at rs r).after ++ waiting)) (remainder_sum r h)
      (sum_fewest t l.norms l.good ((rule_at rs r).after ++ waiting) (remainder_over r h))

  -- and without the jobs that wait that of the rule's row
  pub row_norm : (r : ℕ) → r < rule_count rs → Fewest t (rule_at rs r).after (get_or sums r 0)
  row_norm r h =
      subst (Fewest t (rule_at rs r).after) (sym (l.row_norms.at r h).is)
      (sum_fewest t l.norms l.good (rule_at rs r).after (row_over r h))

  -- equal numbers are those of remainders with equal norms
  pub equal_norms : (r s : ℕ) → r < rule_count rs → s < rule_count rs → get_or sums r 0 ≡ get_or sums s 0 + behind → EqualNorms jobs rs waiting r s
  equal_norms r s h k e = record {
    norm = get_or sums r 0;
    left = row_norm r h;
    right = subst (Fewest t ((rule_at rs s).after ++ waiting)) (sym e) (remainder_norm s k);
  }
