-- `sameness::compare_plans` meets its contract: it is the call with an empty list. Assumes nothing.
use Rattle.sameness.proofs.NoListCalls.{compared_none}
use Rattle.sameness.proofs.compare_plans.Goals as goal

pub returns : goal.returns
returns c = (compared_none _ _ _ _ _ _).0 c.compare_plans_alike.ensures
