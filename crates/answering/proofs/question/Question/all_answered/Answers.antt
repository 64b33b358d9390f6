-- `Question::all_answered`: a walk along the chain of the job that asks. A rule that is marked is answered, and another one looks for an answer.
use Rattle.std.proofs.Common.{ap, ◌∙◌, arith, rules}
use Rattle.rules.specs.Places.{rule_count}
use Rattle.facts.specs.Columns.{bytes_in}
use Rattle.facts.proofs.TableFacts.{tables}
use Rattle.prepare.proofs.Chains.{chain_start}
use Rattle.prepare.proofs.PassedRules.{passed_start}
use Rattle.answering.specs.Questions.{Answered}
use Rattle.answering.proofs.AnsweredRules.{next_rises, answering_past, answering_more}
use Rattle.answering.proofs.question.Question.all_answered.Goals.{then-not-known-r+in-Some, else-not-known-r}
use Rattle.answering.proofs.question.Question.all_answered.Goals as goal

pub loop-r-init : goal.loop-r-init
loop-r-init c =
    let q = c.args.self.now in
    let f = q.facts.now in
    record {
      passed =
          passed_start (bytes_in f) f.first f.next (tables f).chained q.pair.mine c.count-total.result (Answered q) q.pairing.mine_job
          (c.count-total.ensures.0 ∙ ap rule_count c.list.ensures.1) c.first_rule-r.result c.first_rule-r.ensures;
      marks = c.requires;
      on = rw c.first_rule-hint.ensures (chain_start (bytes_in f) f.first f.next (tables f).chained q.pair.other q.pairing.other_job);
    }

pub bounds-known-s : goal.bounds-known-s
bounds-known-s c = omega (arith, (c.answer_to.ensures.some c.in-Some.s c.in-Some.is).0.inside, (tables c.args.self.now.facts.now).list.few)

pub bounds-self-s : goal.bounds-self-s
bounds-self-s c = omega (arith, (c.answer_to.ensures.some c.in-Some.s c.in-Some.is).0.inside, (tables c.args.self.now.facts.now).list.few)

pub loop-r-smaller : goal.loop-r-smaller
loop-r-smaller c =
    omega (
      arith,
      c.from-r.ensures,
      next_rises c.args.self.now c.count-total.result c.loop-r.r c.loop-r.known c.loop-r.hint c.loop-r.invariant c.loop-r-test.true,
    )

pub loop-r-preserved : goal.loop-r-preserved
loop-r-preserved c =
    let q = c.args.self.now in
    elim c.if-not-known-r.branch [
      | then-not-known-r+in-Some w ↦
          let found = w.answer_to.ensures.some w.in-Some.s w.in-Some.is in
          answering_more q c.count-total.result c.loop-r.r c.loop-r.known c.loop-r.hint c.loop-r.invariant c.loop-r-test.true w.in-Some.s found.0
          found.1 _ _ c.from-r.result w.known-is (w.hint-is ∙ w.from-hint.ensures) c.from-r.ensures
      | else-not-known-r w ↦
          answering_past q c.count-total.result c.loop-r.r c.loop-r.known c.loop-r.hint c.loop-r.invariant c.loop-r-test.true (search rules)
          _ _ c.from-r.result w.known-is w.hint-is c.from-r.ensures
    ]
