-- `logs::replay_in` meets its contract. Assumes nothing.
use Rattle.std.proofs.Common.{◌≡◌, ◌≤◌, ℕ, List, length, take, refl, sym, ap, ap₂, ◌∙◌, Ok, arith, rules}
use lib.Seq.{length-take-le}
use Rattle.bpa.specs.Plans.{Table, all_below}
use Rattle.rules.specs.Places.{table_of}
use Rattle.replay.specs.Replay.{replay}
use Rattle.answer.proofs.RefusalChains.{both_pass}
use Rattle.answer.proofs.ResultChains.{err_stops, ok_passes, ok_goes_on}
use Rattle.answer.proofs.Answered.{gives_err, gives_ok}
use Rattle.table.proofs.AcceptedPlans.{plan_checked, plan_ready}
use Rattle.alike_list.specs.AlikeTables.{alike_table}
use Rattle.replacing.proofs.ListedTables.{handed_on, then_stops, then_goes_on, source_refused, list_refused, listed_passed, listed_is}
use Rattle.workspace.proofs.UsablePart.{long_enough, front_inside, front_size, front_cleared}
use Rattle.log_moves.proofs.LogMoves.{log_short, length_counted}
use Rattle.logs.specs.LogCalls.{replayed}
use Rattle.logs.proofs.replay_in.Goals as goal

-- what does the work has less than a workspace has
few : 52632 ≤ 65536
few = omega arith

pub returns-in_err-check : goal.returns-in_err-check
returns-in_err-check c =
    let r = c.in_err-check.field-0.0 in
    record {
      answer = gives_err c.from_residual.result (err_stops c.check.result _ r _ c.in_err-check.was (search rules) c.check.ensures) r _ (search rules);
      clears = refl;
    }

pub returns-in_err-held : goal.returns-in_err-held
returns-in_err-held c =
    let r = c.in_err-held.field-0.0 in
    let y = c.from_residual-in_err-held.result in
    record {
      answer =
          gives_err y
          (ok_goes_on c.check.result _ y c.in_ok-check.was c.check.ensures
          (then_stops y r _ (search rules)
          (then_stops y r _ (search rules) (source_refused c.read.ensures c.args.alike.now y r c.in_err-held.was (search rules)))))
          r _ (search rules);
      clears = refl;
    }

pub returns-in_err-replace : goal.returns-in_err-replace
returns-in_err-replace c =
    let r = c.in_err-replace.field-0.0 in
    let y = c.from_residual-in_err-replace.result in
    record {
      answer =
          gives_err y
          (ok_goes_on c.check.result _ y c.in_ok-check.was c.check.ensures
          (then_stops y r _ (search rules)
          (then_stops y r _ (search rules)
          (list_refused c.read.ensures c.args.alike.now c.in_ok-held.held c.in_ok-held.was c.replace.result c.replace.ensures.refusal y r c.in_err-replace.was (search rules)))))
          r _ (search rules);
      clears = refl;
    }

pub returns-in_err-check_plan : goal.returns-in_err-check_plan
returns-in_err-check_plan c =
    let r = c.in_err-check_plan.field-0.0 in
    let y = c.from_residual-in_err-check_plan.result in
    let ls = c.args.alike.now in
    let h = c.in_ok-held.held in
    let n = c.normed-table.result in
    let is : table_of n.jobs n.rules.now ≡ alike_table c.args.image.now ls =
    ap₂ table_of c.normed-table.ensures.jobs c.normed-table.ensures.rules
    ∙ listed_is c.read.ensures ls h c.in_ok-held.was c.replace.result c.replace.ensures.refusal c.replace.new.table c.in_ok-replace.ensures.replaced in
    record {
      answer =
          gives_err y
          (ok_goes_on c.check.result _ y c.in_ok-check.was c.check.ensures
          (then_stops y r _ (search rules)
          (then_goes_on y (listed_passed c.read.ensures ls h c.in_ok-held.was c.replace.result c.replace.ensures.refusal _ c.in_ok-replace.was)
          (handed_on c.check_plan.result y r c.in_err-check_plan.was (search rules)
          (plan_checked n is c.check_plan.result c.args.plan.now c.check_plan.ensures)))))
          r _ (search rules);
      clears = refl;
    }

pub returns-in_err-check-2 : goal.returns-in_err-check-2
returns-in_err-check-2 c =
    let r = c.in_err-check-2.field-0.0 in
    let y = c.from_residual-in_err-check-2.result in
    let ls = c.args.alike.now in
    let h = c.in_ok-held.held in
    let n = c.normed-table.result in
    let is : table_of n.jobs n.rules.now ≡ alike_table c.args.image.now ls =
    ap₂ table_of c.normed-table.ensures.jobs c.normed-table.ensures.rules
    ∙ listed_is c.read.ensures ls h c.in_ok-held.was c.replace.result c.replace.ensures.refusal c.replace.new.table c.in_ok-replace.ensures.replaced in
    record {
      answer =
          gives_err y
          (ok_goes_on c.check.result _ y c.in_ok-check.was c.check.ensures
          (then_goes_on y
          (both_pass _ _ (listed_passed c.read.ensures ls h c.in_ok-held.was c.replace.result c.replace.ensures.refusal _ c.in_ok-replace.was)
          (ok_passes c.check_plan.result _ c.in_ok-check_plan.was (plan_checked n is c.check_plan.result c.args.plan.now c.check_plan.ensures)))
          (handed_on c.check-2.result y r c.in_err-check-2.was (search rules) c.check-2.ensures)))
          r _ (search rules);
      clears = refl;
    }

pub counted_moves-moves-requires : goal.counted_moves-moves-requires
counted_moves-moves-requires c = log_short c.args.log.now (ok_passes c.check-2.result _ c.in_ok-check-2.was c.check-2.ensures)

pub slice_bounds-moves-end : goal.slice_bounds-moves-end
slice_bounds-moves-end c =
    let short = log_short c.args.log.now (ok_passes c.check-2.result _ c.in_ok-check-2.was c.check-2.ensures) in
    omega (arith, short, c.counted_moves-moves.ensures.size)

pub slice_bounds-counted-end : goal.slice_bounds-counted-end
slice_bounds-counted-end c =
    let short = log_short c.args.log.now (ok_passes c.check-2.result _ c.in_ok-check-2.was c.check-2.ensures) in
    sym (length-take-le _ _ (omega (arith, short, c.counted_moves-moves.ensures.size)))

pub slice_bounds-outcome_in-end : goal.slice_bounds-outcome_in-end
slice_bounds-outcome_in-end c =
    front_inside 52632 c.args.space.now few (long_enough c.args.space.now (ok_passes c.check.result _ c.in_ok-check.was c.check.ensures))

pub outcome_in-outcome-requires : goal.outcome_in-outcome-requires
outcome_in-outcome-requires c =
    let short = log_short c.args.log.now (ok_passes c.check-2.result _ c.in_ok-check-2.was c.check-2.ensures) in
    let long = long_enough c.args.space.now (ok_passes c.check.result _ c.in_ok-check.was c.check.ensures) in
    let ls = c.args.alike.now in
    let h = c.in_ok-held.held in
    let n = c.normed-table.result in
    let is : table_of n.jobs n.rules.now ≡ alike_table c.args.image.now ls =
    ap₂ table_of c.normed-table.ensures.jobs c.normed-table.ensures.rules
    ∙ listed_is c.read.ensures ls h c.in_ok-held.was c.replace.result c.replace.ensures.refusal c.replace.new.table c.in_ok-replace.ensures.replaced in
    let k = plan_ready n is c.check_plan.result c.args.plan.now c.check_plan.ensures _ c.in_ok-check_plan.was in
    record {
      cells_len = front_size 52632 c.args.space.now few long;
      jobs = ap (λ (i : ℕ). all_below i c.args.plan.now) c.list-rules.ensures.0 ∙ k.within;
      short = omega (arith, ap length c.counted_moves-moves.ensures.moves, length_counted ls c.args.log.now, short);
    }

pub returns : goal.returns
returns c =
    let s = c.args.space.now in
    let p = c.args.plan.now in
    let g = c.args.log.now in
    let ls = c.args.alike.now in
    let h = c.in_ok-held.held in
    let n = c.normed-table.result in
    let is : table_of n.jobs n.rules.now ≡ alike_table c.args.image.now ls =
    ap₂ table_of c.normed-table.ensures.jobs c.normed-table.ensures.rules
    ∙ listed_is c.read.ensures ls h c.in_ok-held.was c.replace.result c.replace.ensures.refusal c.replace.new.table c.in_ok-replace.ensures.replaced in
    let spaced = ok_passes c.check.result _ c.in_ok-check.was c.check.ensures in
    let long = long_enough s spaced in
    let table = ap₂ table_of c.list-rules.ensures.0 c.list-rules.ensures.1 ∙ is in
    let value = c.outcome_in-outcome.ensures.is ∙ ap₂ (λ (t : Table) (l : List ℕ). replay t p l) table c.counted_moves-moves.ensures.moves in
    record {
      answer =
          gives_ok _ (replayed c.args.image.now ls p g)
          (both_pass _ _ spaced
          (both_pass _ _
          (both_pass _ _ (listed_passed c.read.ensures ls h c.in_ok-held.was c.replace.result c.replace.ensures.refusal _ c.in_ok-replace.was) (ok_passes c.check_plan.result _ c.in_ok-check_plan.was (plan_checked n is c.check_plan.result p c.check_plan.ensures)))
          (ok_passes c.check-2.result _ c.in_ok-check-2.was c.check-2.ensures)))
          (ap Ok (c.number.ensures ∙ value));
      clears = front_cleared s c.outcome_in-outcome.new.cells 52632 few (c.outcome_in-outcome.auto.cells ∙ front_size 52632 s few long) long;
    }
