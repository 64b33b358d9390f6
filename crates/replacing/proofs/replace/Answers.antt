-- `replacing::replace` meets its contract. Assumes nothing.
use Rattle.std.proofs.Common.{◌≡◌, length, sym, ap, ◌∙◌, arith, rules}
use Rattle.std.proofs.lemmas.Bool.Decides.{nat_tests}
use Rattle.answer.specs.Refusals.{refusal_of}
use Rattle.table.specs.Sources.{table_held}
use Rattle.replacing.proofs.ListedTables.{handed_on}
use Rattle.replacing.proofs.NoList.{none_refused}
use Rattle.replacing.proofs.ListSources.{without_list, table_is, list_stays, norms_stay}
use Rattle.replacing.proofs.replace.Goals as goal

pub returns-then-is_empty-clause-refusal : goal.returns-then-is_empty-clause-refusal
unfolding refusal_of
returns-then-is_empty-clause-refusal c =
    let e : length c.args.list.now ≡ 0 = grind (arith, nat_tests) in
    sym (none_refused c.args.list.now e)

pub returns-then-is_empty-clause-replaced : goal.returns-then-is_empty-clause-replaced
returns-then-is_empty-clause-replaced c =
    let e : length c.args.list.now ≡ 0 = grind (arith, nat_tests) in
    without_list c.args.list.now e (table_held c.args.table.now)

pub returns-in_err-pairs-clause-refusal : goal.returns-in_err-pairs-clause-refusal
returns-in_err-pairs-clause-refusal c = handed_on c.read_list.result _ _ c.in_err-pairs.was (search rules) c.read_list.ensures.refusal

-- before the rest, so that a move that is replaced otherwise fails here
pub returns-clause-replaced : goal.returns-clause-replaced
returns-clause-replaced c = table_is c.args.table.now c.in_ok-pairs.ensures.pairs c.replace_moves.ensures (omega arith)

pub returns-clause-refusal : goal.returns-clause-refusal
unfolding refusal_of
returns-clause-refusal c = sym (ap refusal_of c.in_ok-pairs.was) ∙ c.read_list.ensures.refusal

pub invariant_of-table : goal.invariant_of-table
invariant_of-table c =
    let h = c.args.table.now in
    record {
      inside = h.inside;
      list = list_stays h c.in_ok-pairs.ensures.pairs c.replace_moves.ensures (omega arith);
      exact = norms_stay h c.in_ok-pairs.ensures.pairs c.replace_moves.ensures (omega arith);
      finite = h.finite;
    }
