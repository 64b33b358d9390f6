-- `look_input::read_plan` meets its contract: the length stays where the jobs are read. Assumes nothing.
use mathlib.Core.Path.{◌≡◌, subst}
use mathlib.Core.List.{List, ◌++◌}
use Prim.Native.Nat.{ℕ}
use native.Mathlib.Omega.{arith}
use borrow.Author.Rules.{rules}
use lib.ListN.{drop}
use Rattle.look_input.specs.declared.Got.{Got}
use Rattle.look_input.specs.declared.Got.TheVariants.{Plan}
use Rattle.look_input.specs.Input.{Reads, length_got, plan_length}
use Rattle.look_input.proofs.Reading.{length_reads, jobs_read}
use Rattle.look_input.proofs.read_plan.Goals as goal

pub returns-in_default : goal.returns-in_default
returns-in_default c = length_reads _ (c.read_full-count.new.buf ++ drop 2 c.args.part.now) c.length_got-got.ensures

-- a length at which a plan's jobs are read is that of its part
plan_read : (part : List ℕ) (got : Got) (size k : ℕ) → got ≡ length_got k (plan_length part) → got ≡ Plan size → Reads (Plan size) part
plan_read part got size k e is = subst (λ (g : Got). Reads g part) is (length_reads k part e)

pub overflow_add-end : goal.overflow_add-end
unfolding Reads
overflow_add-end c =
    let read = plan_read (c.read_full-count.new.buf ++ drop 2 c.args.part.now) c.length_got-got.result c.in-Plan.size _ c.length_got-got.ensures c.in-Plan.is in
    record { fits = omega (arith, read.1) }

pub slice_bounds-read_full-end-2 : goal.slice_bounds-read_full-end-2
unfolding Reads
slice_bounds-read_full-end-2 c =
    let read = plan_read (c.read_full-count.new.buf ++ drop 2 c.args.part.now) c.length_got-got.result c.in-Plan.size _ c.length_got-got.ensures c.in-Plan.is in
    search rules

pub returns : goal.returns
returns c =
    jobs_read _ _ (c.read_full-count.new.buf ++ drop 2 c.args.part.now) _ c.jobs_got.ensures (search rules)
    (plan_read (c.read_full-count.new.buf ++ drop 2 c.args.part.now) c.length_got-got.result c.in-Plan.size _ c.length_got-got.ensures c.in-Plan.is)
