-- `rule_runs::make_run` meets its contract: each job on the stack is written by its row, or by its rule's move with the jobs after it put on the
-- stack. Assumes nothing.
use Rattle.std.proofs.Common.{◌≡◌, ◌∙◌, ◌+◌, ◌*◌, ◌<◌, ◌≤◌, ℕ, List, arith, ap, sym, subst, length, get_or, replicate}
use Rattle.std.proofs.lemmas.List.{length-replicate}
use Rattle.area.specs.Numbers.{all_low_first}
use Rattle.bpa.specs.Norms.{sum_of}
use Rattle.rules.specs.Places.{rule_at, table_of}
use Rattle.rules.proofs.ListLaws.{good_rule}
use Rattle.first_run.specs.FirstRun.{run_of}
use Rattle.lowering.specs.Lowering.{Lowers, run_by}
use Rattle.rule_runs.specs.Stacks.{Pushed}
use Rattle.rule_runs.specs.declared.Kept.{Kept}
use Rattle.rule_runs.proofs.KeptRuns.{good, picks, by_rule, by_row, row_length}
use Rattle.rule_runs.proofs.RunWalk.{Walking, move_and_run, after_over, walking_start, walking_end, next_below, next_positive, next_known, next_room, walking_row, after_fits, walking_rule}
use Rattle.rule_runs.proofs.make_run.Goals.{After-from-job, After-from-n, After-from-next}
use Rattle.rule_runs.proofs.make_run.Goals as goal

pub push-top-requires-clause-rule_len_bound : goal.push-top-requires-clause-rule_len_bound
push-top-requires-clause-rule_len_bound c =
    let kept = c.args.kept.now in
    let few = (good_rule kept.table.jobs kept.table.rules.now kept.table.list c.args.rule c.requires.lowers.place).few in
    rw c.list-list.ensures.1 (omega (arith, few))

pub loop-top-init : goal.loop-top-init
loop-top-init c =
    let kept = c.args.kept.now in
    let rs = kept.table.rules.now in
    let rule = c.args.rule in
    let p = c.push-top in
    walking_start kept.table.jobs rs kept.table.norms.now (good kept) (rule_at rs rule).after (c.args.at + 2) c.put_number.new.area (replicate 512 0) p.new.stack
    p.result (after_over kept.table.jobs rs kept.table.norms.now (good kept) rule c.requires.lowers.place) (length-replicate {A = ℕ} 512 0) p.auto.stack
    (subst (λ (r : List ℕ). Pushed (rule_at r rule).after (replicate 512 0) 512 p.result p.new.stack) c.list-list.ensures.1 p.ensures)

-- a turn
module _ (c : After-from-job) where
  abbrev kept : Kept
  kept = c.args.kept.now

  abbrev n : ℕ
  n = kept.table.jobs

  abbrev rs : List ℕ
  rs = kept.table.rules.now

  abbrev ns : List ℕ
  ns = kept.table.norms.now

  abbrev rule : ℕ
  rule = c.args.rule

  abbrev after : List ℕ
  after = (rule_at rs rule).after

  abbrev at : ℕ
  at = c.args.at + 2

  abbrev begun : List ℕ
  begun = c.put_number.new.area

  abbrev stack : List ℕ
  stack = c.loop-top.stack

  abbrev top : ℕ
  top = c.loop-top.top

  abbrev to : ℕ
  to = c.loop-top.to

  abbrev made : List ℕ
  made = c.loop-top.made

  abbrev next : ℕ
  next = get_or stack top 0

  own : Lowers rs ns (rule_at rs rule).job rule
  own = c.requires.lowers

  short : sum_of ns after < 512
  short = omega (arith, own.falls, (good kept).exact.few (rule_at rs rule).job)

  room : at + 2 * sum_of ns after ≤ length begun
  room = omega (arith, own.falls, c.requires.room, c.put_number.auto.area)

  walk : Walking n rs ns after at begun stack top to made
  walk = c.loop-top.invariant

  below : next < n
  below = next_below n rs ns (good kept) after at begun stack top to made walk c.loop-top-test.true

  positive : 1 ≤ get_or ns next 0
  positive = next_positive n rs ns (good kept) after at begun stack top to made walk c.loop-top-test.true

  known : get_or ns next 0 < kept.below
  known = omega (arith, next_known n rs ns (good kept) after at begun stack top to made walk c.loop-top-test.true, own.falls, c.requires.known)

  fits : to + 2 * get_or ns next 0 ≤ at + 2 * sum_of ns after
  fits = next_room n rs ns (good kept) after at begun stack top to made walk c.loop-top-test.true

  small : next < 24
  small = omega (arith, below, (good kept).list.jobs)

  abbrev job : ℕ
  job = c.from-job.result

  below_job : job < n
  below_job = omega (arith, below)

  known_job : get_or ns job 0 < kept.below
  known_job = subst (λ (x : ℕ). get_or ns x 0 < kept.below) (sym c.from-job.ensures) known

pub bounds-kept-job : goal.bounds-kept-job
bounds-kept-job c = omega (arith, small (goal.at.bounds-kept-job c).After-from-job)

pub slice_bounds-put-end : goal.slice_bounds-put-end
slice_bounds-put-end c =
    let t = (goal.at.slice_bounds-put-end c).After-from-job in
    omega (arith, small t, (kept t).chosen.size)

-- a short job: its row is put behind
pub put-to-requires : goal.put-to-requires
put-to-requires c =
    let t = (goal.at.put-to-requires c).After-from-job in
    let long = row_length (kept t) (job t) (below_job t) (known_job t) c.from-n.result c.from-n.ensures c.if-n-le-KEPT.true in
    rw long (rw c.from-job.ensures (omega (arith, fits t, room t, (walk t).same)))

pub loop-top-smaller-then-n-le-KEPT : goal.loop-top-smaller-then-n-le-KEPT
loop-top-smaller-then-n-le-KEPT c =
    let t = (goal.at.loop-top-smaller-then-n-le-KEPT c).After-from-job in
    let long = row_length (kept t) (job t) (below_job t) (known_job t) c.from-n.result c.from-n.ensures c.if-n-le-KEPT.true in
    let more : c.put-to.result ≡ to t + 2 * get_or (ns t) (job t) 0 = c.put-to.ensures.next ∙ ap (λ (x : ℕ). to t + x) long in
    omega (arith, rw c.from-job.ensures at more, fits t, positive t)

pub loop-top-preserved-then-n-le-KEPT : goal.loop-top-preserved-then-n-le-KEPT
loop-top-preserved-then-n-le-KEPT c =
    let t = (goal.at.loop-top-preserved-then-n-le-KEPT c).After-from-job in
    let row = by_row (kept t) (job t) (below_job t) (known_job t) c.from-n.result c.from-n.ensures c.if-n-le-KEPT.true in
    let p = c.put-to in
    walking_row (n t) (rs t) (ns t) (good (kept t)) (after t) (at t) (begun t) (stack t) (top t) (to t) (made t) (walk t) c.loop-top-test.true (room t)
    _ p.new.area p.result (row ∙ ap (λ (x : ℕ). all_low_first (run_of (table_of (n t) (rs t)) x)) c.from-job.ensures) p.ensures p.auto.area

-- a job whose run has no row: its rule
module _ (c : After-from-job) (k : ℕ) (is : k ≡ get_or (kept c).low.now (job c) 0) where
  lowers : Lowers (rs c) (ns c) (next c) k
  lowers =
      subst (λ (x : ℕ). Lowers (rs c) (ns c) x k) c.from-job.ensures
      (subst (Lowers (rs c) (ns c) (job c)) (sym is) (picks (kept c) (job c) (below_job c) (known_job c)).lowers)

  first : run_of (table_of (n c) (rs c)) (next c) ≡ run_by (n c) (rs c) k
  first =
      ap (run_of (table_of (n c) (rs c))) (sym c.from-job.ensures) ∙ by_rule (kept c) (job c) (below_job c) (known_job c) ∙ ap (run_by (n c) (rs c)) (sym is)

pub action-requires-else-n-le-KEPT : goal.action-requires-else-n-le-KEPT
action-requires-else-n-le-KEPT c = rw c.list-list.ensures.1 (lowers (goal.at.action-requires-else-n-le-KEPT c).After-from-job c.from-next.result c.from-next.ensures).place

pub put_number-requires-else-n-le-KEPT : goal.put_number-requires-else-n-le-KEPT
put_number-requires-else-n-le-KEPT c =
    let t = (goal.at.put_number-requires-else-n-le-KEPT c).After-from-job in
    omega (arith, fits t, positive t, room t, (walk t).same)

pub push-top-requires-else-n-le-KEPT-clause-inside : goal.push-top-requires-else-n-le-KEPT-clause-inside
push-top-requires-else-n-le-KEPT-clause-inside c =
    rw c.list-list.ensures.1 (lowers (goal.at.push-top-requires-else-n-le-KEPT-clause-inside c).After-from-job c.from-next.result c.from-next.ensures).place

pub push-top-requires-else-n-le-KEPT-clause-rule_len_bound : goal.push-top-requires-else-n-le-KEPT-clause-rule_len_bound
push-top-requires-else-n-le-KEPT-clause-rule_len_bound c =
    let t = (goal.at.push-top-requires-else-n-le-KEPT-clause-rule_len_bound c).After-from-job in
    let k = c.from-next in
    rw c.list-list.ensures.1
    (after_fits (n t) (rs t) (ns t) (good (kept t)) (after t) (at t) (begun t) (stack t) (top t) (to t) (made t) (walk t) c.loop-top-test.true (room t)
    k.result (lowers t k.result k.ensures) (first t k.result k.ensures) (short t))

pub loop-top-smaller : goal.loop-top-smaller
loop-top-smaller c =
    let t = (goal.at.loop-top-smaller c).After-from-job in
    omega (arith, fits t, positive t)

pub loop-top-preserved : goal.loop-top-preserved
loop-top-preserved c =
    let t = (goal.at.loop-top-preserved c).After-from-job in
    let k = c.from-next in
    let p = c.push-top-else-n-le-KEPT in
    let w = c.put_number-else-n-le-KEPT in
    walking_rule (n t) (rs t) (ns t) (good (kept t)) (after t) (at t) (begun t) (stack t) (top t) (to t) (made t) (walk t) c.loop-top-test.true (room t)
    k.result (lowers t k.result k.ensures) (first t k.result k.ensures) c.from-else-n-le-KEPT.result p.new.stack w.new.area p.result
    (c.from-else-n-le-KEPT.ensures ∙ c.action-else-n-le-KEPT.ensures ∙ ap (λ (r : List ℕ). (rule_at r k.result).move) c.list-list.ensures.1) w.ensures w.auto.area
    (subst (λ (r : List ℕ). Pushed (rule_at r k.result).after (stack t) (top t + 1) p.result p.new.stack) c.list-list.ensures.1 p.ensures) (p.auto.stack ∙ (walk t).size)

pub returns : goal.returns
returns c =
    let kept = c.args.kept.now in
    let rs = kept.table.rules.now in
    let v = c.loop-top in
    move_and_run kept.table.jobs rs c.args.rule c.args.at v.to c.from.result c.args.made.now c.put_number.new.area v.made (omega (arith, c.requires.room))
    (c.from.ensures ∙ c.action.ensures ∙ ap (λ (r : List ℕ). (rule_at r c.args.rule).move) c.list-list.ensures.1) c.put_number.ensures
    (walking_end kept.table.jobs rs kept.table.norms.now (good kept) (rule_at rs c.args.rule).after (c.args.at + 2) c.put_number.new.area v.stack v.top v.to v.made
    v.invariant c.loop-top-test.false)
