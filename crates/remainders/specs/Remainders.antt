-- Remainders: what a rule leaves, with the jobs that wait behind it, and the numbers that are looked up for their norms. Assumes nothing:
-- these are definitions.
use Rattle.std.specs.Prelude.{◌≡◌, true, List, ◌++◌, ℕ, ◌+◌, ◌≤◌, get_or}
use Rattle.bpa.specs.Plans.{over}
use Rattle.bpa.specs.Norms.{sum_of, Fewest, Good}
use Rattle.rules.specs.Places.{rule_at, table_of}
use Rattle.rules.specs.Lists.{GoodList}
use Rattle.prepare.specs.Prepared.{RowNorms}

-- WHAT A LOOK ASKS: the numbers are the norms of the rows of a table's rules, made before the rounds, and the norm of the jobs that wait is given
pub record LooksUp (jobs : ℕ) (rs sums waiting : List ℕ) (behind : ℕ) : Type 0 where
  pub norms : List ℕ
  pub list : GoodList jobs rs
  pub good : Good (table_of jobs rs) norms
  pub row_norms : RowNorms rs norms sums
  pub inside : over (table_of jobs rs) waiting ≡ true
  pub behind_is : behind ≡ sum_of norms waiting
  pub small : behind ≤ 512

-- THE NUMBER that is looked up: that of the rule's row, and the norm of the jobs that wait
pub record LookedUp (sums : List ℕ) (behind r number : ℕ) : Type 0 where
  pub is : number ≡ get_or sums r 0 + behind

-- what rule r leaves, and what rule s leaves with jobs waiting behind it, have equal norms
pub record EqualNorms (jobs : ℕ) (rs waiting : List ℕ) (r s : ℕ) : Type 0 where
  pub norm : ℕ
  pub left : Fewest (table_of jobs rs) (rule_at rs r).after norm
  pub right : Fewest (table_of jobs rs) ((rule_at rs s).after ++ waiting) norm
