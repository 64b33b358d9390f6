-- A table that is lent with its norms is what the rounds' tables are made of: a good list with good norms, none above 512. Assumes nothing.
use Rattle.std.proofs.Common.{◌<◌, ℕ, List, get_or}
use Rattle.rules.specs.Places.{table_of}
use Rattle.rules.specs.Lists.{GoodList}
use Rattle.norm.specs.NormArrays.{ExactNorms}
use Rattle.norm.proofs.NormedTables.{good_norms}
use Rattle.refusal.proofs.NormArray.{array_good}
use Rattle.prepare.specs.Prepared.{Normed}

pub normed : (n : ℕ) (rs ns : List ℕ) → GoodList n rs → ExactNorms (table_of n rs) ns → ((j : ℕ) → j < n → 0 < get_or ns j 0) → Normed n rs ns
normed n rs ns list exact finite = record {
  list = list;
  good = array_good (table_of n rs) ns (good_norms n rs ns list exact finite).good exact;
  small = λ j h. exact.few j;
}
