-- Each mark is that of a rule for which an earlier one was found. Assumes nothing.
use Rattle.repeated.specs.Repeated.{MarksRepeats}
use Rattle.repeated.proofs.repeats.Given as goal

abbrev pub invariant-loop-at : goal.invariant-loop-at
invariant-loop-at l = MarksRepeats l.rules l.marks
