-- `alike_list::check_length` meets its contract. Assumes nothing.
use Rattle.std.proofs.Common.{arith}
use Rattle.std.proofs.lemmas.Bool.Decides.{nat_tests}
use Rattle.answer.specs.Refusals.{refusal_of, number}
use Rattle.alike_list.specs.AlikeLists.{pair_count, pairs_refusal}
use Rattle.alike_list.proofs.check_length.Goals as goal

pub returns-then-list-gt-PAIRS : goal.returns-then-list-gt-PAIRS
unfolding refusal_of number pairs_refusal pair_count
returns-then-list-gt-PAIRS c = grind (arith, nat_tests)

pub returns : goal.returns
unfolding refusal_of number pairs_refusal pair_count
returns c = grind (arith, nat_tests)
