-- `joining::renumber_places` meets its contract. Assumes nothing.
use Rattle.std.proofs.Common.{◌≡◌, ℕ, ◌*◌, ◌/◌, ◌≤◌, List, length, drop, true, refl, ap, ◌∙◌, arith}
use Rattle.std.proofs.lemmas.List.{length-drop, length-take}
use mathlib.Core.List.{◌++◌, append-nil}
use lib.ListN.{drop_of_length-le}
use Rattle.rules.specs.Places.{rule_count, changed_places}
use Rattle.rules.proofs.ListLaws.{good_place}
use Rattle.rules.proofs.ChangedPlaces.{each_any, passed_length, next_place, next_passed}
use Rattle.joining.specs.JoinedBytes.{renumbered_place}
use Rattle.joining.proofs.RenumberedPlaces.{place_size}
use Rattle.joining.proofs.renumber_places.Goals as goal

pub loop-i-init : goal.loop-i-init
unfolding changed_places
loop-i-init c = refl

pub renumber_place-requires : goal.renumber_place-requires
unfolding rule_count
renumber_place-requires c =
    let p = c.requires in
    let n = c.args.jobs in
    let xs = c.args.places.now in
    let i = c.loop-i.i in
    let room : 8 * i ≤ length xs = omega arith in
    let same = passed_length (renumbered_place n) (λ y. true) (λ y e h. place_size n y) i xs c.loop-i.places room (each_any i xs) c.loop-i.invariant in
    let place = next_place (renumbered_place n) (λ y. true) (λ y e h. place_size n y) i xs c.loop-i.places room (each_any i xs) c.loop-i.invariant in
    record {
      size = simp (length-take, length-drop) (omega (arith, same));
      bound = p.bound;
      few = p.few;
      good = rw place (good_place (length xs / 8) p.bound xs i p.good (omega arith));
    }

pub loop-i-preserved : goal.loop-i-preserved
loop-i-preserved c =
    let n = c.args.jobs in
    let xs = c.args.places.now in
    let i = c.loop-i.i in
    let room : 8 * i ≤ length xs = omega arith in
    let place = next_place (renumbered_place n) (λ y. true) (λ y e h. place_size n y) i xs c.loop-i.places room (each_any i xs) c.loop-i.invariant in
    next_passed (renumbered_place n) (λ y. true) (λ y e h. place_size n y) i xs c.loop-i.places room (each_any i xs) c.loop-i.invariant
    c.renumber_place.new.place (c.renumber_place.ensures ∙ ap (renumbered_place n) place)

pub returns : goal.returns
unfolding rule_count
returns c =
    let xs = c.args.places.now in
    let n = c.args.jobs in
    let all = length xs / 8 in
    let e : c.loop-i.i ≡ all = omega arith in
    c.loop-i.invariant ∙ ap (λ (k : ℕ). changed_places (renumbered_place n) k xs ++ drop (8 * k) xs) e
    ∙ ap (λ (l : List ℕ). changed_places (renumbered_place n) all xs ++ l) (drop_of_length-le xs {i = 8 * all} (omega (arith, c.requires.whole)))
    ∙ append-nil (changed_places (renumbered_place n) all xs)
