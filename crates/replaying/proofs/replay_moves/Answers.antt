-- The empty plan, and one that is followed.
use mathlib.Core.Path.{◌≡◌, sym}
use mathlib.Core.Bool.{true}
use mathlib.Core.List.{List}
use Prim.Native.Nat.{ℕ}
use native.Mathlib.Nat.{pos_of_ne-zero}
use lib.ListN.{length}
use borrow.Author.Tests.{eqb-true, eqb-false}
use Rattle.bpa.specs.Plans.{all_below, over}
use Rattle.bpa.proofs.Basics.JobsBelow.{below_more}
use Rattle.rules.specs.Places.{table_of}
use Rattle.replaying.proofs.ReachedAnswers.{least_inside, outcome_replays, empty_whole, empty_stops}
use Rattle.replaying.proofs.replay_moves.Goals as goal

over_table : (n : ℕ) (rs plan : List ℕ) → all_below n plan ≡ true → over (table_of n rs) plan ≡ true
unfolding over table_of
over_table n rs plan h = h

pub returns-then-is_empty-2 : goal.returns-then-is_empty-2
returns-then-is_empty-2 c =
    let plan = c.args.plan.now in
    let log = c.args.log.now in
    empty_whole _ plan log (eqb-true (length plan) 0 (sym c.if-is_empty.ensures)) (eqb-true (length log) 0 (sym c.if-is_empty-2.ensures))

pub returns-then-is_empty : goal.returns-then-is_empty
returns-then-is_empty c =
    let plan = c.args.plan.now in
    let log = c.args.log.now in
    empty_stops _ plan log (eqb-true (length plan) 0 (sym c.if-is_empty.ensures)) (pos_of_ne-zero (eqb-false (length log) 0 (sym c.if-is_empty-2.ensures)))

pub follow-requires-clause-jobs : goal.follow-requires-clause-jobs
follow-requires-clause-jobs c = below_more c.args.rules.now.jobs 24 c.args.plan.now c.args.rules.now.good.jobs c.requires.jobs

pub outcome_of-requires : goal.outcome_of-requires
outcome_of-requires c =
    let rules = c.args.rules.now in
    let plan = c.args.plan.now in
    let log = c.args.log.now in
    let table = table_of rules.jobs rules.bytes.now in
    (least_inside table plan log c.follow.result (c.follow.ensures.reached table log c.fill.ensures.known (over_table rules.jobs rules.bytes.now plan c.requires.jobs)), c.requires.short)

pub returns : goal.returns
returns c =
    let rules = c.args.rules.now in
    let plan = c.args.plan.now in
    let log = c.args.log.now in
    let table = table_of rules.jobs rules.bytes.now in
    outcome_replays table plan log c.follow.result (c.follow.ensures.reached table log c.fill.ensures.known (over_table rules.jobs rules.bytes.now plan c.requires.jobs))
    _ c.outcome_of.ensures
