-- `replacing::replace_moves` meets its contract. Assumes nothing.
use Rattle.std.proofs.Common.{◌≡◌, ℕ, ◌+◌, ◌*◌, ◌/◌, ◌≤◌, List, [], length, drop, true, refl, ap, ◌∙◌, arith}
use Rattle.std.proofs.lemmas.List.{length-drop, length-take}
use mathlib.Core.List.{◌++◌, append-nil}
use lib.ListN.{drop_of_length-le}
use Rattle.rules.specs.Places.{rule_count, changed_places}
use Rattle.rules.proofs.ChangedPlaces.{each_any, passed_length, next_place, next_passed}
use Rattle.alike_list.specs.PairArrays.{counts_as}
use Rattle.replacing.specs.ReplacedMoves.{moved, with_moves}
use Rattle.replacing.proofs.ReplacedPlaces.{moved_size}
use Rattle.replacing.proofs.replace_moves.Goals as goal

pub loop-i-init : goal.loop-i-init
unfolding changed_places
loop-i-init c = refl

pub loop-i-preserved : goal.loop-i-preserved
loop-i-preserved c =
    let p = c.args.pairs.now in
    let f = counts_as p.froms p.tos p.end in
    let rs = c.args.rules.now in
    let i = c.loop-i.i in
    let xs = c.loop-i.rules in
    let room : 8 * i ≤ length rs = omega arith in
    let place = next_place (moved f) (λ y. true) (moved_size f) i rs xs room (each_any i rs) c.loop-i.invariant in
    next_passed (moved f) (λ y. true) (moved_size f) i rs xs room (each_any i rs) c.loop-i.invariant c.replace_move.new.place
    (c.replace_move.ensures ∙ ap (moved f) place)

pub returns : goal.returns
returns c =
    let p = c.args.pairs.now in
    let f = counts_as p.froms p.tos p.end in
    let rs = c.args.rules.now in
    let e : c.loop-i.i ≡ c.args.count = omega arith in
    c.loop-i.invariant ∙ ap (λ (k : ℕ). with_moves f k rs ++ drop (8 * k) rs) e
