-- `Question::answer_to`: no rule of the other job before the next of its chain agrees.
use Rattle.std.proofs.Common.{◌-◌}
use Rattle.facts.specs.Columns.{bytes_in}
use Rattle.prepare.proofs.PassedRules.{Passed}
use Rattle.answering.proofs.EqualRules.{Apart}
use Rattle.answering.proofs.question.Question.answer_to.Given as goal

abbrev pub invariant-loop-s : goal.invariant-loop-s
invariant-loop-s l = Passed (bytes_in l.self.facts.now) l.self.pair.other l.total (Apart l.self l.r) l.s

abbrev pub decreases-loop-s : goal.decreases-loop-s
decreases-loop-s l = l.total - l.s
