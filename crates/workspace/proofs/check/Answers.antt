-- `workspace::check` meets its contract. Assumes nothing.
use Rattle.std.proofs.Common.{sym, ◌∙◌}
use Rattle.answer.specs.Refusals.{number, refusal_of}
use Rattle.workspace.proofs.UsablePart.{none_usable, some_usable}
use Rattle.workspace.proofs.check.Goals as goal

pub returns-then-usable-eq0 : goal.returns-then-usable-eq0
unfolding refusal_of number
returns-then-usable-eq0 c = sym (none_usable _ (sym c.usable.ensures ∙ c.if-usable-eq0.true))

pub returns : goal.returns
unfolding refusal_of
returns c = sym (some_usable _ (λ z. c.if-usable-eq0.false (c.usable.ensures ∙ z)))
