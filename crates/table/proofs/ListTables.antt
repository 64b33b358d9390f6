-- A LIST OF RULES IS A SOURCE OF TABLES: its table is accepted once it passes, and held with the array of its norms. Assumes nothing.
use mathlib.Core.Path.{◌≡◌}
use mathlib.Core.List.{List}
use Prim.Native.Nat.{ℕ}
use Rattle.rules.specs.Places.{table_of}
use Rattle.rules.proofs.ListLaws.{table_closed}
use Rattle.answer.proofs.RefusalChains.{passed_first, neither}
use Rattle.refusal.specs.Refusals.{table_refusal, Closed, Accepted}
use Rattle.refusal.proofs.TableRefusals.{accepted_table}
use Rattle.image.specs.Writing.{list_refusal, write_refusal}
use Rattle.image.proofs.ListRefusal.{good_list}

-- a list of rules that 2, 4 and 5 let pass, and one that 6 and 7 let pass too
module _ (n : ℕ) (rs : List ℕ) where
  pub list_closed : list_refusal n rs ≡ 0 → Closed (table_of n rs)
  list_closed h = table_closed n rs (good_list n rs h)

  pub list_passed : list_refusal n rs ≡ 0 → write_refusal n rs ≡ table_refusal (table_of n rs)
  unfolding write_refusal
  list_passed h = passed_first (list_refusal n rs) (table_refusal (table_of n rs)) h

  pub list_table : write_refusal n rs ≡ 0 → Accepted (table_of n rs)
  unfolding write_refusal
  list_table h = let (l, t) = neither (list_refusal n rs) (table_refusal (table_of n rs)) h in accepted_table (table_of n rs) (list_closed l) t
