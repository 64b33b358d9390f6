-- `answer::refused` meets its contract: the number is small, so that it can be taken from 0. Assumes nothing.
use borrow.Author.Rules.{rules}
use mathlib.Core.Path.{◌≡◌, refl, ap, ◌∙◌}
use Prim.Native.Nat.{ℕ, zero, suc, ◌<◌}
use native.Mathlib.Omega.{arith}
use lib.IntN.{ℤ, pos, negsuc, ◌-ℤ◌, +ℤ_idl}
use mir.Syntax.{w32}
use mir.Val.{SFits, to_z}
use mir.Facts.{to_z_pos, to_z-of_z}
use Rattle.answer.specs.Answer.{signed}
use Rattle.answer.proofs.refused.Goals as goal

negative : (n : ℕ) → pos 0 -ℤ pos n ≡ signed n 0
unfolding signed
negative zero = refl
negative (suc n) = +ℤ_idl (negsuc n)

small : (n : ℕ) → n < 256 → SFits w32 (signed n 0)
unfolding signed
small zero h = search rules
small (suc n) h = search rules

taken : (n : ℕ) → n < 256 → pos 0 -ℤ to_z w32 n ≡ signed n 0
taken n h = ap (λ (z : ℤ). pos 0 -ℤ z) (to_z_pos w32 {n = n} (omega arith)) ∙ negative n

pub returns : goal.returns
returns c =
    let n = c.args.refusal in
    let h = c.ranges.refusal.fits in
    let fits : SFits w32 (pos 0 -ℤ to_z w32 n) = rw (taken n h) (small n h) in
    to_z-of_z fits ∙ taken n h
