-- Both words, one after the other.
use native.Mathlib.Omega.{arith}
use Rattle.following.specs.Followed.{cell_of}
use Rattle.following.proofs.JobBehind.{both_words}
use Rattle.following.proofs.onward.Goals as goal

pub returns : goal.returns
unfolding cell_of
returns c = both_words c.args.cells.now c.args.job _ c.args.reach c.onward_word-half.result _ (omega arith) c.onward_word-half.ensures c.onward_word.ensures
