-- `comparing::is_written` meets its contract. Assumes nothing.
use Rattle.std.proofs.Common.{rules}
use Rattle.form.proofs.EqualPlans.{same_if_equal, equal_if_same}
use Rattle.comparing.proofs.is_written.Goals as goal

pub returns-in-Equal : goal.returns-in-Equal
returns-in-Equal c = (λ _. same_if_equal c.difference.result _ _ c.difference.ensures c.in-Equal.is, λ _. search rules)

pub returns-in_default : goal.returns-in_default
returns-in_default c =
    (λ t. search rules, λ e. absurd (c.in_default.not-Equal (equal_if_same c.difference.result _ _ c.difference.ensures e)))
