-- `table::hold` meets its contract. Assumes nothing.
use Rattle.std.proofs.Common.{◌∙◌, rules, ap, sym}
use Rattle.answer.specs.Refusals.{refusal_of}
use Rattle.table.proofs.SourceTables.{refused, same_held, norms_checked, exact, finite}
use Rattle.table.proofs.hold.Goals as goal

pub returns-in_err-check_norms : goal.returns-in_err-check_norms
returns-in_err-check_norms c =
    refused c.check_norms.result _ _ c.in_err-check_norms.was (search rules)
    (norms_checked _ _ _ c.requires.list c.norms_of-norms.ensures c.check_norms.result c.check_norms.ensures)

pub invariant_of-result : goal.invariant_of-result
invariant_of-result c = record {
  inside = c.requires.inside;
  list = c.requires.list;
  exact = exact _ _ _ c.requires.list c.norms_of-norms.ensures c.check_norms.result c.check_norms.ensures _ c.in_ok-check_norms.was;
  finite = finite _ _ _ c.requires.list c.norms_of-norms.ensures c.check_norms.result c.check_norms.ensures _ c.in_ok-check_norms.was;
}

pub returns : goal.returns
unfolding refusal_of
returns c = record {
  refusal_is =
      sym (ap refusal_of c.in_ok-check_norms.was)
      ∙ norms_checked _ _ _ c.requires.list c.norms_of-norms.ensures c.check_norms.result c.check_norms.ensures;
  holds = λ h d. same_held _ h d;
}
