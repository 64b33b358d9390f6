-- `table::check_rules` meets its contract. Assumes nothing.
use Rattle.std.proofs.Common.{rules, arith}
use lib.ListN.{length-take}
use Rattle.image.specs.Writing.{write_refusal}
use Rattle.image.proofs.ListRefusal.{good_list}
use Rattle.answer.proofs.ResultChains.{err_stops, ok_passes, ok_goes_on}
use Rattle.table.proofs.SourceTables.{norms_checked, enough}
use Rattle.table.proofs.check_rules.Goals as goal

pub returns-in_err-check_list : goal.returns-in_err-check_list
unfolding write_refusal
returns-in_err-check_list c = err_stops c.check_list.result _ _ _ c.in_err-check_list.was (search rules) c.check_list.ensures

pub invariant_of-norms_of : goal.invariant_of-norms_of
invariant_of-norms_of c = record { good = good_list c.args.jobs c.args.rules.now (ok_passes c.check_list.result _ c.in_ok-check_list.was c.check_list.ensures) }

pub slice_bounds-norms-end : goal.slice_bounds-norms-end
slice_bounds-norms-end c =
    enough (good_list c.args.jobs c.args.rules.now (ok_passes c.check_list.result _ c.in_ok-check_list.was c.check_list.ensures)) c.norms_of-norms.ensures

pub slice_bounds-check_norms-end : goal.slice_bounds-check_norms-end
slice_bounds-check_norms-end c =
    let few = enough (good_list c.args.jobs c.args.rules.now (ok_passes c.check_list.result _ c.in_ok-check_list.was c.check_list.ensures)) c.norms_of-norms.ensures in
    omega (arith, length-take c.args.jobs c.norms_of-norms.result)

pub returns : goal.returns
unfolding write_refusal
returns c =
    let list = good_list c.args.jobs c.args.rules.now (ok_passes c.check_list.result _ c.in_ok-check_list.was c.check_list.ensures) in
    ok_goes_on c.check_list.result _ c.check_norms.result c.in_ok-check_list.was c.check_list.ensures
    (norms_checked _ _ _ list c.norms_of-norms.ensures c.check_norms.result c.check_norms.ensures)
