-- `Question::answer_to`: a walk along the chain of the other job. A rule that the chain leaves out is equal to one on it.
use Rattle.std.proofs.Common.{ap, ◌∙◌, arith, rules}
use Rattle.bpa.proofs.Basics.Cases.{never_both}
use Rattle.rules.specs.Places.{rule_count}
use Rattle.facts.specs.Columns.{bytes_in}
use Rattle.facts.proofs.TableFacts.{tables}
use Rattle.prepare.proofs.Chains.{chain_rises}
use Rattle.prepare.proofs.PassedRules.{passed_start, inside, passed_next}
use Rattle.answering.proofs.EqualRules.{Apart, apart_alike}
use Rattle.answering.proofs.question.Question.answer_to.Goals as goal

pub loop-s-init : goal.loop-s-init
loop-s-init c =
    let q = c.args.self.now in
    let f = q.facts.now in
    passed_start (bytes_in f) f.first f.next (tables f).chained q.pair.other c.count-total.result (Apart q c.args.r) q.pairing.other_job
    (c.count-total.ensures.0 ∙ ap rule_count c.list.ensures.1) _ (search rules)

pub loop-s-smaller : goal.loop-s-smaller
loop-s-smaller c =
    let q = c.args.self.now in
    let f = q.facts.now in
    let w = c.loop-s.invariant in
    omega (
      arith,
      c.from-s.ensures,
      chain_rises (bytes_in f) f.first f.next (tables f).chained q.pair.other c.loop-s.s
          (inside (bytes_in f) f.first f.next (tables f).chained q.pair.other c.count-total.result (Apart q c.args.r) c.loop-s.s w c.loop-s-test.true)
          w.on,
    )

pub loop-s-preserved : goal.loop-s-preserved
loop-s-preserved c =
    let q = c.args.self.now in
    let f = q.facts.now in
    passed_next (bytes_in f) f.first f.next (tables f).chained q.pair.other c.count-total.result (Apart q c.args.r) c.loop-s.s c.loop-s.invariant
    c.loop-s-test.true (apart_alike q c.args.r)
    (λ a. never_both c.agrees-in-loop-s.result (c.agrees-in-loop-s.ensures.1 a) c.if-agrees-2.false) c.from-s.result c.from-s.ensures
