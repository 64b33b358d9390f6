-- A job that is its own prime row, and any other.
use mathlib.Core.Path.{sym, ◌∙◌}
use Rattle.bpa.proofs.Basics.Cases.{never_both}
use Rattle.form_weights.proofs.TableWeights.{weight_alone, weight_other}
use Rattle.form_weights.proofs.weight.Goals as goal

pub returns-then-is_alone : goal.returns-then-is_alone
returns-then-is_alone c = c.from.ensures ∙ sym (weight_alone _ _ _ (c.is_alone.ensures.0 c.if-is_alone.true))

pub returns : goal.returns
returns c = sym (weight_other _ _ _ (λ e. never_both _ (c.is_alone.ensures.1 e) c.if-is_alone.false))
