-- `look_input::read_pair` meets its contract: the left part stays where the right one is read. Assumes nothing.
use mathlib.Core.List.{List, ◌++◌}
use Prim.Native.Nat.{ℕ}
use borrow.Author.Rules.{rules}
use lib.ListN.{take, drop}
use lib.Seq.{length-take-le}
use Rattle.look_input.specs.declared.Got.TheVariants.{End}
use Rattle.look_input.specs.Input.{Reads}
use Rattle.look_input.proofs.Reading.{reads_front, reads_next}
use Rattle.look_input.proofs.read_pair.Goals as goal

-- an end says nothing
nothing : (p : List ℕ) → Reads End p
unfolding Reads
nothing p = tt

pub returns-in_default : goal.returns-in_default
returns-in_default c =
    let l = c.read_plan-left in
    record { left_read = reads_front 4098 l.result l.new.part (search rules) l.ensures _; right_read = nothing _ }

pub returns : goal.returns
returns c =
    let l = c.read_plan-left in
    let r = c.read_plan-right in
    let xs = l.new.part ++ drop 4098 c.args.input.now in
    record {
      left_read = reads_front 4098 l.result (take 4098 xs) (length-take-le 4098 xs (search rules)) (reads_front 4098 l.result l.new.part (search rules) l.ensures _) _;
      right_read = reads_next 4098 r.result r.new.part (search rules) r.ensures xs _ (search rules);
    }
