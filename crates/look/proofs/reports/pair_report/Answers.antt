-- What is shown of a pair is what comparing its plans answers. Assumes nothing.
use Rattle.std.proofs.Common.{subst, ℤ, rules}
use Rattle.look_lines.specs.Lines.{IsLine, pair_line}
use Rattle.look.proofs.JobAnswers.{given}
use Rattle.look.proofs.reports.pair_report.Goals as goal

pub returns : goal.returns
returns c =
    subst (λ (z : ℤ). IsLine (pair_line c.args.pair z) c.args.line.now c.pair_line.result c.pair_line.new.line)
    (given _ (search rules) _ _ c.compare_plans-answer.ensures) c.pair_line.ensures
