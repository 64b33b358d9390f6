-- `Question::turned`: the pair turned round is a pair, with the same Y.
use Rattle.answering.proofs.TurnedPair.{pairing_turned, lead_turned}
use Rattle.answering.proofs.question.Question.turned.Goals as goal

pub invariant_of-result : goal.invariant_of-result
invariant_of-result c =
    let q = c.args.self.now in
    record {
      pairing = rw c.turned.ensures (pairing_turned q.facts.now q.old q.new q.parts.now q.pair c.requires.forward q.prints.now q.pairing);
      equal_old =
          rw c.turned.ensures
          (rw (lead_turned q.facts.now q.old q.new q.parts.now q.pair c.requires.forward) q.equal_old);
    }
