-- `joining::join` meets its contract. Assumes nothing.
use Rattle.std.proofs.Common.{arith}
use Rattle.joining.proofs.JoinedSources.{joined_is, joined_stays, joined_exact, joined_falls}
use Rattle.joining.proofs.join.Goals as goal

pub invariant_of-table : goal.invariant_of-table
invariant_of-table c =
    let h = c.args.table.now in
    let k = c.args.other.now in
    record {
      inside = c.requires.rules;
      list = joined_stays h k (omega arith) (omega arith) c.requires.jobs c.requires.rules c.append.ensures c.join_norms.ensures;
      exact = joined_exact h k (omega arith) (omega arith) c.requires.jobs c.requires.rules c.append.ensures c.join_norms.ensures;
      finite = joined_falls h k (omega arith) (omega arith) c.requires.jobs c.requires.rules c.append.ensures c.join_norms.ensures;
    }

pub returns-clause-joined : goal.returns-clause-joined
returns-clause-joined c =
    joined_is c.args.table.now c.args.other.now (omega arith) (omega arith) c.requires.jobs c.requires.rules c.append.ensures c.join_norms.ensures
