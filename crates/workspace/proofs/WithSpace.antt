-- Refusal 1 in front of the other checks. Assumes nothing.
use mathlib.Core.Path.{◌≡◌, sym, ap₂, ◌∙◌}
use mathlib.Core.List.{List}
use Prim.Native.Nat.{ℕ, ◌≤◌}
use lib.ListN.{length}
use Rattle.answer.specs.Refusals.{or_else, space_refusal}
use Rattle.answer.specs.Answer.{with_space}
use Rattle.answer.proofs.RefusalChains.{neither}
use Rattle.workspace.proofs.UsablePart.{long_enough}

-- w is refusal 1, f what the other checks came to, r what the chain of both came to
module _ (s : List ℕ) {w f r : ℕ} (e : w ≡ space_refusal s) (d : r ≡ or_else w f) where
  pub space_chain : {g : ℕ} → f ≡ g → r ≡ with_space s g
  space_chain k = d ∙ ap₂ or_else e k

  pub space_passed : r ≡ 0 → (65536 ≤ length s) × (f ≡ 0)
  space_passed z = let (x, y) = neither w f (sym d ∙ z) in (long_enough s (sym e ∙ x), y)
