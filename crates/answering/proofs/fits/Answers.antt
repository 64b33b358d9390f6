-- `fits`: the two jobs are equal by the old rows, and the question is asked both ways.
use Rattle.std.proofs.Common.{rules}
use Rattle.answering.proofs.AnsweredRules.{known_none}
use Rattle.answering.proofs.BothWays.{forth_and_back}
use Rattle.answering.proofs.fits.Goals as goal

pub all_answered-requires : goal.all_answered-requires
all_answered-requires c = known_none _

pub returns : goal.returns
returns c =
    forth_and_back _ c.requires.forward c.turned-back.result c.turned-back.ensures _ _ c.all_answered.result c.all_answered-2.result
    c.all_answered.ensures (search rules) c.all_answered-2.ensures
