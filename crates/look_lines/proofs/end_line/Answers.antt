-- The word at which a run ends. Assumes nothing.
use Rattle.std.proofs.Common.{◌≡◌, ap, sym, [], ℕ, rules}
use mathlib.Core.Logic.{◌⊎◌, inl, inr}
use Rattle.look_input.specs.declared.Got.{Got}
use Rattle.look_input.specs.declared.Got.TheVariants.{End, Plan}
use Rattle.look_lines.specs.Lines.{end_line}
use Rattle.look_lines.proofs.Puts.{put_as, put_nothing}
use Rattle.look_lines.proofs.end_line.Goals as goal

pub returns-in-Cut : goal.returns-in-Cut
unfolding end_line
returns-in-Cut c = record { put = put_as (sym (ap end_line c.in-Cut.is)) c.put.ensures; within = search rules }

pub returns-in-Long : goal.returns-in-Long
unfolding end_line
returns-in-Long c = record { put = put_as (sym (ap end_line c.in-Long.is)) c.put-in-Long.ensures; within = search rules }

no_line : (g : Got) → (g ≡ End) ⊎ ((n : ℕ) × (g ≡ Plan n)) → [] ≡ end_line g
unfolding end_line
no_line g (inl e) = sym (ap end_line e)
no_line g (inr (n, e)) = sym (ap end_line e)

pub returns-in-End : goal.returns-in-End
returns-in-End c = record { put = put_as (no_line _ c.in-End.is) (put_nothing 0 _); within = search rules }
