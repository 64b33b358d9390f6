-- `log_moves::counts_as` meets its contract. Assumes nothing.
use Rattle.std.proofs.Common.{Bool, cond, sym, ap, ◌∙◌, arith}
use borrow.Author.Tests.{eq-eqb, ne_eqb}
use Rattle.area.specs.Numbers.{number_at}
use Rattle.alike.specs.Alike.{replace}
use Rattle.alike_list.specs.AlikeLists.{alike_pairs}
use Rattle.log_moves.proofs.LogMoves.{counts_next, counts_itself}
use Rattle.log_moves.proofs.counts_as.Goals as goal

pub returns-then-move_at-action : goal.returns-then-move_at-action
returns-then-move_at-action c =
    let pair = c.in-Some.pair.now in
    let rest = c.next.new.self.rest.now in
    let step = c.in-Some.ensures.steps.1 in
    let e = counts_next c.loop-pair.pair-iterator.rest.now pair rest c.args.action step.0 (step.1 ∙ c.loop-pair.invariant.whole) in
    c.move_at-then-move_at-action.ensures.is
    ∙ sym (ap (λ (b : Bool). cond b (number_at 2 pair) (replace (alike_pairs rest) c.args.action)) (eq-eqb _ _ (sym c.move_at.ensures.is ∙ c.if-move_at-action.true)))
    ∙ sym e ∙ c.loop-pair.invariant.left

pub loop-pair-preserved : goal.loop-pair-preserved
loop-pair-preserved c =
    let pair = c.in-Some.pair.now in
    let rest = c.next.new.self.rest.now in
    let step = c.in-Some.ensures.steps.1 in
    let e = counts_next c.loop-pair.pair-iterator.rest.now pair rest c.args.action step.0 (step.1 ∙ c.loop-pair.invariant.whole) in
    record {
      whole = c.in-Some.ensures.steps.0 ∙ c.loop-pair.invariant.whole;
      left =
          sym (ap (λ (b : Bool). cond b (number_at 2 pair) (replace (alike_pairs rest) c.args.action))
          (ne_eqb _ _ (λ d. c.if-move_at-action.false (c.move_at.ensures.is ∙ d))))
          ∙ sym e ∙ c.loop-pair.invariant.left;
    }

pub returns : goal.returns
returns c =
    let few = c.in-None.ensures.steps.1.0 in
    sym (counts_itself c.loop-pair.pair-iterator.rest.now c.args.action (omega (arith, few, c.loop-pair.invariant.whole))) ∙ c.loop-pair.invariant.left
