-- The bit of a number, in its word.
use mathlib.Core.Path.{sym, subst}
use Prim.Native.Nat.{ℕ, ◌-◌}
use native.Mathlib.Omega.{arith}
use Rattle.bits.proofs.PlaceBits.{shifted}
use Rattle.reach.specs.Reaches.{Alone}
use Rattle.reach.proofs.ReachLaws.{reaches_low, reaches_high}
use Rattle.reach.proofs.through.Goals as goal

pub returns-then-left-lt64 : goal.returns-then-left-lt64
returns-then-left-lt64 c =
    let d = c.args.left in
    subst (λ (n : ℕ). Alone d (record { low = n; high = 0; least = d })) (sym (shifted 64 d (omega arith))) (reaches_low d (omega arith))

pub returns : goal.returns
returns c =
    let d = c.args.left in
    subst (λ (n : ℕ). Alone d (record { low = 0; high = n; least = d })) (sym (shifted 64 (d - 64) (omega arith))) (reaches_high d (omega arith) (omega arith))
