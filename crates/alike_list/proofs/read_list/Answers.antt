-- `alike_list::read_list` meets its contract. Assumes nothing.
use Rattle.std.proofs.Common.{◌≡◌, ℕ, ◌+◌, ◌*◌, ◌/◌, ◌<◌, ◌≤◌, List, Bool, true, false, length, get_or, take, drop, sym, ap, ◌∙◌, arith, rules}
use Rattle.std.proofs.lemmas.List.{length-take}
use mathlib.Core.Bool.{◌||◌}
use Rattle.bpa.proofs.Basics.Cases.{or_left}
use Rattle.answer.specs.Refusals.{number, refusal_of}
use Rattle.answer.proofs.ResultChains.{err_stops, ok_passes}
use Rattle.alike.specs.Alike.{from_as_to, clashes}
use Rattle.alike_list.specs.AlikeLists.{alike_pairs, alike_refusal, pairs_refusal}
use Rattle.alike_list.specs.PairArrays.{WholePairs, HoldsPairs}
use Rattle.alike_list.proofs.ListRefusals.{whole_pairs, twice_refused, as_to_refused, none_refused}
use Rattle.alike_list.proofs.ReadPairs.{read_begin, tos_size, stands_twice, is_new, read_next, to_turn, clean, held}
use Rattle.alike_list.proofs.read_list.Goals as goal
use Rattle.alike_list.proofs.read_list.Goals.{else-k-gt0-via-then-k-gt0+else-stands, else-k-gt0-via-else-k-gt0}

pub returns-in_err-check_length-clause-refusal : goal.returns-in_err-check_length-clause-refusal
unfolding alike_refusal
returns-in_err-check_length-clause-refusal c =
    err_stops c.check_length.result _ _ _ c.in_err-check_length.was (search rules) c.check_length.ensures

pub move_at-froms-requires : goal.move_at-froms-requires
move_at-froms-requires c =
    let w = whole_pairs c.args.list.now c.requires (ok_passes c.check_length.result _ c.in_ok-check_length.was c.check_length.ensures) in
    omega (arith, w.size, w.some)

pub loop-k-init : goal.loop-k-init
loop-k-init c =
    let w = whole_pairs c.args.list.now c.requires (ok_passes c.check_length.result _ c.in_ok-check_length.was c.check_length.ensures) in
    (w, rw c.move_at-froms.ensures.is (read_begin w))

-- before the two refusals, so that a pair that is wrongly let in fails here
pub loop-k-preserved : goal.loop-k-preserved
loop-k-preserved c =
    let (w, s) = c.loop-k.invariant in
    let a = c.move_at-from in
    let new = is_new w s (omega arith) a.result a.ensures.is
    (λ some. elim c.else-k-gt0.branch [
      | else-k-gt0-via-then-k-gt0+else-stands v ↦ sym v.stands.ensures ∙ v.if-stands.false
      | else-k-gt0-via-else-k-gt0 v ↦ absurd (omega (arith, v.if-k-gt0.false))
    ]) in
    (w, read_next w s (omega arith) a.result a.ensures.is new c.move_at.result c.move_at.ensures.is c.move_at.ensures.small)

-- a from-move stands twice
pub returns-then-stands-clause-refusal : goal.returns-then-stands-clause-refusal
unfolding refusal_of number
returns-then-stands-clause-refusal c =
    let (w, s) = c.loop-k.invariant in
    twice_refused c.args.list.now c.requires (ok_passes c.check_length.result _ c.in_ok-check_length.was c.check_length.ensures)
    (stands_twice w s (omega arith) c.move_at-from.result c.move_at-from.ensures.is (omega arith) (sym c.stands.ensures ∙ c.if-stands.true))

-- a from-move stands as a to-move
pub returns-then-stands-2-clause-refusal : goal.returns-then-stands-2-clause-refusal
unfolding refusal_of number
returns-then-stands-2-clause-refusal c =
    let (w, s) = c.loop-k.invariant in
    let ps = alike_pairs c.args.list.now in
    let rest = from_as_to ps (drop (c.loop-to.to-index + 1) ps) in
    as_to_refused c.args.list.now c.requires (ok_passes c.check_length.result _ c.in_ok-check_length.was c.check_length.ensures)
    (sym c.loop-to.invariant ∙ to_turn w s (omega arith) c.loop-to.to-index (omega arith) c.stands-in-loop-to.ensures ∙ ap (λ (b : Bool). b || rest) c.if-stands-2.true)

pub loop-to-preserved : goal.loop-to-preserved
loop-to-preserved c =
    let (w, s) = c.loop-k.invariant in
    let ps = alike_pairs c.args.list.now in
    let rest = from_as_to ps (drop (c.loop-to.to-index + 1) ps) in
    sym (to_turn w s (omega arith) c.loop-to.to-index (omega arith) c.stands-in-loop-to.ensures ∙ ap (λ (b : Bool). b || rest) c.if-stands-2.false)
    ∙ c.loop-to.invariant

-- none does
pub invariant_of-result : goal.invariant_of-result
invariant_of-result c =
    let (w, s) = c.loop-k.invariant in
    let none = clean w s (omega arith) c.loop-to.to-index (omega arith) c.loop-to.invariant in
    record { arrays = (held w s (omega arith) none _ (omega arith) (omega (arith, w.few))).arrays }

pub returns-clause-refusal : goal.returns-clause-refusal
unfolding refusal_of
returns-clause-refusal c =
    let (w, s) = c.loop-k.invariant in
    none_refused c.args.list.now c.requires (ok_passes c.check_length.result _ c.in_ok-check_length.was c.check_length.ensures)
    (clean w s (omega arith) c.loop-to.to-index (omega arith) c.loop-to.invariant)

pub returns-clause-pairs : goal.returns-clause-pairs
returns-clause-pairs c =
    let (w, s) = c.loop-k.invariant in
    let none = clean w s (omega arith) c.loop-to.to-index (omega arith) c.loop-to.invariant in
    held w s (omega arith) none _ (omega arith) (omega (arith, w.few))
