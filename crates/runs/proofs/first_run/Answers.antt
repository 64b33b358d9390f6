-- `runs::first_run` meets its contract: the run has as many moves as the plan's norm, two bytes each. Assumes nothing.
use Rattle.std.proofs.Common.{◌≡◌, ◌∙◌, ◌*◌, ◌++◌, ℕ, List, arith, ap₂, sym, length, drop, length-take-le}
use Rattle.bpa.specs.Plans.{over}
use Rattle.bpa.specs.Norms.{sum_of, norm}
use Rattle.bpa.proofs.Basics.JobsBelow.{below_more}
use Rattle.rules.specs.Places.{table_of}
use Rattle.norm.proofs.NormedTables.{good_norms}
use Rattle.refusal.proofs.PlanRefusals.{array_norm}
use Rattle.area.specs.Numbers.{all_low_first}
use Rattle.area.proofs.Numbers.{all_length}
use Rattle.area.proofs.PutLaws.{put_front}
use Rattle.answer.proofs.Answered.{short_err, written_ok}
use Rattle.first_run.specs.FirstRun.{first_run}
use Rattle.first_run.proofs.FirstRuns.{first_run_length}
use Rattle.runs.proofs.first_run.Goals.{After-capped_sum-norm}
use Rattle.runs.proofs.first_run.Goals as goal

pub capped_sum-norm-requires : goal.capped_sum-norm-requires
unfolding over table_of
capped_sum-norm-requires c =
    let table = c.args.table.now in
    below_more table.jobs 24 c.args.plan.now table.list.jobs c.requires.plan_value

-- what is given, and the run
module _ (c : After-capped_sum-norm) where
  abbrev n : ℕ
  n = c.args.table.now.jobs

  abbrev rs : List ℕ
  rs = c.args.table.now.rules.now

  abbrev ns : List ℕ
  ns = c.args.table.now.norms.now

  abbrev plan : List ℕ
  plan = c.args.plan.now

  abbrev bytes : List ℕ
  bytes = all_low_first (first_run (table_of n rs) plan)

  sum_is : sum_of ns plan ≡ norm (table_of n rs) plan
  sum_is = array_norm (table_of n rs) ns c.args.table.now.exact plan

  norm_is : c.capped_sum-norm.result ≡ sum_of ns plan
  norm_is = omega (arith, c.capped_sum-norm.ensures, c.requires.plan_bound, sum_is)

  -- two bytes a move, and as many moves as the norm
  bytes_are : length bytes ≡ 2 * c.capped_sum-norm.result
  bytes_are =
      let table = c.args.table.now in
      let g = good_norms n rs ns table.list table.exact table.finite in
      omega (arith, all_length (first_run (table_of n rs) plan), first_run_length (table_of n rs) g.good plan c.requires.plan_value, norm_is, sum_is)

pub returns-then-out-need : goal.returns-then-out-need
returns-then-out-need c =
    let t = (goal.at.returns-then-out-need c).After-capped_sum-norm in
    short_err (bytes t) c.args.out.now (omega (arith, bytes_are t))

pub write_run-requires-clause-known : goal.write_run-requires-clause-known
write_run-requires-clause-known c = omega (arith, norm_is (goal.at.write_run-requires-clause-known c).After-capped_sum-norm)

pub write_run-requires-clause-out_len : goal.write_run-requires-clause-out_len
write_run-requires-clause-out_len c =
    length-take-le _ c.args.out.now (omega arith) ∙ omega (arith, norm_is (goal.at.write_run-requires-clause-out_len c).After-capped_sum-norm)

pub returns : goal.returns
returns c =
    let t = (goal.at.returns c).After-capped_sum-norm in
    let out = c.args.out.now in
    written_ok (bytes t) out _ (omega (arith, bytes_are t)) (sym (bytes_are t))
    (ap₂ (λ (l : List ℕ) (m : ℕ). l ++ drop m out) c.write_run.ensures (sym (bytes_are t)) ∙ sym (put_front (bytes t) out))
