-- `equal_by_old`: Y as a plan of one job is compared with X and its tail.
use Rattle.answering.proofs.EqualJobs.{jobs_comparable, jobs_tell}
use Rattle.answering.proofs.equal_by_old.Goals as goal

pub equal_forms-requires : goal.equal_forms-requires
equal_forms-requires c = jobs_comparable c.requires

pub returns-then-prints-pair : goal.returns-then-prints-pair
returns-then-prints-pair c = jobs_tell c.args.old.now c.args.pair.now.mine c.args.parts.now c.equal_forms.result c.equal_forms.ensures
