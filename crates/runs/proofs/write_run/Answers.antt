-- `runs::write_run` meets its contract: each job is written by its row, or by the rule that was chosen for it. Assumes nothing.
use Rattle.std.proofs.Common.{◌≡◌, ◌∙◌, ◌+◌, ◌*◌, ◌<◌, ◌≤◌, ℕ, List, arith, ap, ap₂, sym, subst, length, get_or, take, drop, ◌++◌}
use Rattle.area.specs.Numbers.{all_low_first}
use Rattle.area.proofs.Numbers.{all_length}
use Rattle.area.proofs.Puts.{put_up_to}
use Rattle.rules.specs.Places.{rule_at, table_of}
use Rattle.first_run.specs.FirstRun.{run_of}
use Rattle.lowering.specs.Lowering.{Lowers, run_by}
use Rattle.lowering.proofs.LoweringRules.{run_by_length}
use Rattle.rule_runs.specs.declared.Kept.{Kept}
use Rattle.rule_runs.proofs.KeptRuns.{good, picks, by_rule, by_whole_row}
use Rattle.runs.proofs.PlanRun.{Writing, writing_start, writing_end, next_below, next_known, next_room, writing_more}
use Rattle.runs.proofs.write_run.Goals.{After-from-job, then-n-le-KEPT, else-n-le-KEPT}
use Rattle.runs.proofs.write_run.Goals as goal

pub loop-job-init : goal.loop-job-init
loop-job-init c =
    let table = c.args.kept.now.table in
    writing_start table.jobs table.rules.now table.norms.now c.args.plan.now c.args.out.now c.requires.out_len

-- a turn
module _ (c : After-from-job) where
  abbrev kept : Kept
  kept = c.args.kept.now

  abbrev n : ℕ
  n = kept.table.jobs

  abbrev rs : List ℕ
  rs = kept.table.rules.now

  abbrev ns : List ℕ
  ns = kept.table.norms.now

  abbrev plan : List ℕ
  plan = c.args.plan.now

  abbrev i : ℕ
  i = c.loop-job.job-index

  abbrev to : ℕ
  to = c.loop-job.to

  abbrev out : List ℕ
  out = c.loop-job.out

  abbrev job : ℕ
  job = c.from-job.result

  writing : Writing n rs ns plan i to out
  writing = c.loop-job.invariant

  below : job < n
  below = omega (arith, c.from-job.ensures, next_below n rs ns plan i to out writing (good kept) c.requires.plan_value c.loop-job-test.true)

  small : job < 24
  small = omega (arith, below, (good kept).list.jobs)

  at_job : get_or ns job 0 ≡ get_or ns (get_or plan i 0) 0
  at_job = ap (λ (x : ℕ). get_or ns x 0) c.from-job.ensures

  known : get_or ns job 0 < kept.below
  known = omega (arith, at_job, next_known n rs ns plan i to out writing (good kept) c.requires.plan_value c.loop-job-test.true, c.requires.known)

  room : to + 2 * get_or ns job 0 ≤ length out
  room = omega (arith, at_job, next_room n rs ns plan i to out writing (good kept) c.requires.plan_value c.loop-job-test.true)

  -- the bytes of its run are put behind
  more : (row out' : List ℕ) (to' : ℕ) → row ≡ all_low_first (run_of (table_of n rs) job) → length out' ≡ length out → to' ≡ to + 2 * get_or ns job 0 →
      take to' out' ≡ take to out ++ row → Writing n rs ns plan (i + 1) to' out'
  more row out' to' e l t p =
      writing_more n rs ns plan i to out writing (good kept) c.requires.plan_value c.loop-job-test.true row out' to'
      (e ∙ ap (λ (x : ℕ). all_low_first (run_of (table_of n rs) x)) c.from-job.ensures) l (t ∙ ap (λ (x : ℕ). to + 2 * x) at_job) p

  -- the rule that was chosen
  module _ (k : ℕ) (is : k ≡ get_or kept.low.now job 0) where
    lowers : Lowers rs ns job k
    lowers = subst (Lowers rs ns job) (sym is) (picks kept job below known).lowers

    same_norm : get_or ns (rule_at rs k).job 0 ≡ get_or ns job 0
    same_norm = ap (λ (x : ℕ). get_or ns x 0) lowers.job

    bytes_are : length (all_low_first (run_by n rs k)) ≡ 2 * get_or ns job 0
    bytes_are = all_length (run_by n rs k) ∙ ap (λ (m : ℕ). 2 * m) (run_by_length n rs ns (good kept) k lowers.place ∙ sym lowers.falls)

pub bounds-kept-job : goal.bounds-kept-job
bounds-kept-job c = small (goal.at.bounds-kept-job c).After-from-job

pub put_row-requires : goal.put_row-requires
put_row-requires c =
    let t = (goal.at.put_row-requires c).After-from-job in
    (omega (arith, small t, (kept t).chosen.size), omega (arith, small t, (kept t).chosen.size), omega (arith, room t))

pub make_run-to-requires-clause-lowers : goal.make_run-to-requires-clause-lowers
make_run-to-requires-clause-lowers c =
    let t = (goal.at.make_run-to-requires-clause-lowers c).After-from-job in
    let low = lowers t c.from.result c.from.ensures in
    subst (λ (x : ℕ). Lowers (rs t) (ns t) x c.from.result) (sym low.job) low

pub make_run-to-requires-clause-known : goal.make_run-to-requires-clause-known
make_run-to-requires-clause-known c =
    let t = (goal.at.make_run-to-requires-clause-known c).After-from-job in
    omega (arith, known t, same_norm t c.from.result c.from.ensures)

pub make_run-to-requires-clause-room : goal.make_run-to-requires-clause-room
make_run-to-requires-clause-room c =
    let t = (goal.at.make_run-to-requires-clause-room c).After-from-job in
    omega (arith, room t, same_norm t c.from.result c.from.ensures)

pub loop-job-preserved : goal.loop-job-preserved
loop-job-preserved c =
    let t = (goal.at.loop-job-preserved c).After-from-job in
    elim c.if-n-le-KEPT.branch [
      | then-n-le-KEPT w ↦
          let m = c.from-n.result in
          let row : take (2 * m) (drop (170 * job t) (kept t).rows.now) ≡ all_low_first (run_of (table_of (n t) (rs t)) (job t)) =
          by_whole_row (kept t) (job t) (below t) (known t) m c.from-n.ensures w.if-n-le-KEPT.true in
          let next : to t + 2 * m ≡ to t + 2 * get_or (ns t) (job t) 0 = ap (λ (x : ℕ). to t + 2 * x) c.from-n.ensures in
          rw (w.to-is, w.out-is) (more t _ w.put_row.new.out (to t + 2 * m) row w.put_row.auto.out next w.put_row.ensures)
      | else-n-le-KEPT w ↦
          let k = w.from.result in
          let p = w.make_run-to in
          let bytes = all_low_first (run_by (n t) (rs t) k) in
          let row : bytes ≡ all_low_first (run_of (table_of (n t) (rs t)) (job t)) =
          ap all_low_first (ap (run_by (n t) (rs t)) w.from.ensures ∙ sym (by_rule (kept t) (job t) (below t) (known t))) in
          let long = bytes_are t k w.from.ensures in
          rw (w.to-is, w.out-is)
          (more t bytes p.new.made p.result row p.auto.made (p.ensures.next ∙ ap (λ (x : ℕ). to t + x) long)
          (ap₂ take p.ensures.next p.ensures.output ∙ put_up_to (to t) bytes (out t) (omega (arith, room t))))
    ]

pub returns : goal.returns
returns c =
    let table = c.args.kept.now.table in
    let v = c.loop-job in
    writing_end table.jobs table.rules.now table.norms.now c.args.plan.now v.job-index v.to v.out v.invariant c.loop-job-test.false
