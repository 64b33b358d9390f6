use Rattle.refining.proofs.RoundLaws.{rounds_begin, rounds_go_on, rounds_fall, rounds_end}
use Rattle.refining.proofs.refine.Goals as goal

pub rounds-init : goal.rounds-init
rounds-init c = rounds_begin c.args.facts.now _ _ _ _ c.split_at_mut-old.ensures.front_len c.first_rows.ensures

pub returns-then-not-found : goal.returns-then-not-found
returns-then-not-found c =
    rounds_end (c.rounds.invariant.next _ c.keep.ensures) c.refine_once-found.ensures.rounded c.if-not-found.true

pub rounds-smaller : goal.rounds-smaller
rounds-smaller c =
    rounds_fall (c.rounds.invariant.next _ c.keep.ensures) c.refine_once-found.ensures.rounded c.if-not-found.false

pub rounds-preserved : goal.rounds-preserved
rounds-preserved c =
    rounds_go_on (c.rounds.invariant.next _ c.keep.ensures) c.refine_once-found.ensures.rounded _ c.refine_once-found.ensures.known_prints
