-- `Rules::job` meets its contract: each rule of a good list keeps to its jobs. Assumes nothing.
use Rattle.std.proofs.Common.{◌<◌, sym, subst, ℕ}
use Rattle.rules.proofs.ListLaws.{good_rule}
use Rattle.rules.proofs.Rules.job.Goals as goal

pub returns : goal.returns
returns c =
    let self = c.args.self.now in
    let is = c.rule_job.ensures.is in
    (is, subst (λ (j : ℕ). j < self.jobs) (sym is) (good_rule self.jobs self.bytes.now self.good c.args.i c.requires).job)
