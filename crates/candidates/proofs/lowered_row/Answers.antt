-- `candidates::lowered_row` meets its contract: the jobs of the rule can be written out, and what is written is the lowered row. Assumes nothing.
use Rattle.candidates.proofs.LoweredRows.{lowered_readable, lowered_room, lowered_row}
use Rattle.candidates.proofs.lowered_row.Goals as goal

pub write_expansion-requires-clause-readable : goal.write_expansion-requires-clause-readable
write_expansion-requires-clause-readable c =
    lowered_readable c.args.facts.now c.args.new.now c.args.y c.requires.can_lower c.list.result.bytes.now c.after-jobs.result.now
    c.lowering_rule.result c.list.ensures.1 c.lowering_rule.ensures c.after-jobs.ensures.after

pub write_expansion-requires-clause-plan_in_bounds : goal.write_expansion-requires-clause-plan_in_bounds
write_expansion-requires-clause-plan_in_bounds c =
    lowered_room c.args.facts.now c.args.new.now c.args.y c.requires.can_lower c.list.result.bytes.now c.after-jobs.result.now
    c.lowering_rule.result c.list.ensures.1 c.lowering_rule.ensures c.after-jobs.ensures.after c.args.out.now c.requires.out_len

pub returns : goal.returns
returns c =
    lowered_row c.args.facts.now c.args.new.now c.args.y c.requires.can_lower c.list.result.bytes.now c.after-jobs.result.now
    c.lowering_rule.result c.list.ensures.1 c.lowering_rule.ensures c.after-jobs.ensures.after
    c.args.out.now c.write_expansion.new.out c.write_expansion.result c.requires.out_len c.write_expansion.ensures
