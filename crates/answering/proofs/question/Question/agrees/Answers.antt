-- `Question::agrees`: rules that may agree leave equal norms.
use Rattle.std.proofs.Common.{[], drop, rules}
use Rattle.facts.specs.Columns.{jobs_in, bytes_in}
use Rattle.remainders.proofs.RemainderNorms.{nothing_waits, equal_norms}
use Rattle.answering.proofs.TurnedPair.{pair_looks, led_below}
use Rattle.answering.proofs.question.Question.agrees.Goals as goal

pub may_agree-requires-clause-looks_up : goal.may_agree-requires-clause-looks_up
may_agree-requires-clause-looks_up c =
    let q = c.args.self.now in
    (jobs_in q.facts.now, (drop 1 q.parts.now, pair_looks q.pairing))

pub remainder_norm-requires : goal.remainder_norm-requires
remainder_norm-requires c =
    let q = c.args.self.now in
    (jobs_in q.facts.now, (bytes_in q.facts.now, ([], (nothing_waits (pair_looks q.pairing), c.requires.asks.inside))))

pub left_equal-requires-clause-equal_norms : goal.left_equal-requires-clause-equal_norms
left_equal-requires-clause-equal_norms c =
    let q = c.args.self.now in (
      jobs_in q.facts.now,
      rw c.list.ensures.1
          (equal_norms (pair_looks q.pairing) c.led-y.result.0 c.led-y.result.1
          (rw c.led-y.ensures.0 (led_below q.pair.forward c.args.r c.args.s _ c.requires.asks.inside c.requires.answers.inside))
          (rw c.led-y.ensures.1 (led_below q.pair.forward c.args.s c.args.r _ c.requires.answers.inside c.requires.asks.inside))
          (c.may_agree.ensures.norm (search rules))),
    )
