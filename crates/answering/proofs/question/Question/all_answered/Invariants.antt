-- `Question::all_answered`: the rules before the next of the chain are answered.
use Rattle.std.proofs.Common.{◌-◌}
use Rattle.answering.proofs.AnsweredRules.{Answering}
use Rattle.answering.proofs.question.Question.all_answered.Given as goal

abbrev pub invariant-loop-r : goal.invariant-loop-r
invariant-loop-r l = Answering l.self l.total l.known l.hint l.r

abbrev pub decreases-loop-r : goal.decreases-loop-r
decreases-loop-r l = l.total - l.r
