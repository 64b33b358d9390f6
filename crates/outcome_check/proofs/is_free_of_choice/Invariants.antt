-- Of the rules passed, the first of each job and move is kept. Assumes nothing.
use Rattle.outcome_check.proofs.PassedRules.{Passing}
use Rattle.outcome_check.proofs.is_free_of_choice.Given as goal

abbrev pub invariant-loop-at : goal.invariant-loop-at
invariant-loop-at l = Passing l.rules.bytes.now l.slots l.at
