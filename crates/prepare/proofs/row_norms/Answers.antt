-- `row_norms` meets its contract: the row of a rule is short, and its norm is stored in its place. Assumes nothing.
use Rattle.std.proofs.Common.{List, ℕ, get_or, subst, arith}
use Rattle.std.proofs.Math.ListN.{length-set}
use Rattle.bpa.proofs.Basics.JobsBelow.{below_more}
use Rattle.rules.specs.Places.{rule_at}
use Rattle.prepare.specs.Prepared.{RowNorm}
use Rattle.prepare.proofs.FirstRuleArray.{stored_more}
use Rattle.prepare.proofs.row_norms.Goals as goal

pub row_norm-requires : goal.row_norm-requires
row_norm-requires c =
    let rules = c.list-rules.result in
    let row = c.after.result.now in
    record {
      few = c.after.ensures.few;
      below = below_more rules.jobs 24 row rules.good.jobs c.after.ensures.jobs;
      most = λ k h. c.args.table.now.exact.few (get_or row k 0);
    }

pub loop-i-preserved : goal.loop-i-preserved
loop-i-preserved c =
    record {
      size = rw length-set c.loop-i.invariant.size;
      at = stored_more (λ k v. RowNorm c.args.table.now.norms.now (rule_at c.list-rules.result.bytes.now k).after v) c.loop-i.sums c.loop-i.i
          c.row_norm.result (omega arith) c.loop-i.invariant.at
          (subst (λ (l : List ℕ). RowNorm c.args.table.now.norms.now l c.row_norm.result) c.after.ensures.after c.row_norm.ensures);
    }
