-- A table that is lent with its norms is good: the norms are exact and none is 0. Assumes nothing.
use Rattle.std.proofs.Common.{◌<◌, ℕ, List, get_or, arith}
use Rattle.bpa.proofs.Norm.GoodTable.{finite_good}
use Rattle.rules.specs.Places.{table_of}
use Rattle.rules.specs.Lists.{GoodList}
use Rattle.rules.proofs.ListLaws.{table_closed}
use Rattle.norm.specs.NormArrays.{ExactNorms, GoodNorms}

pub good_norms : (n : ℕ) (rs ns : List ℕ) → GoodList n rs → ExactNorms (table_of n rs) ns → ((j : ℕ) → j < n → 0 < get_or ns j 0) → GoodNorms n rs ns
unfolding table_of
good_norms n rs ns list exact finite = record {
  list = list;
  good = finite_good (table_of n rs) (table_closed n rs list) (λ j h. omega (arith, exact.at j, finite j h));
  exact = exact;
}
