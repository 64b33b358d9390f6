-- `replacing::replace_move` meets its contract. Assumes nothing.
use Rattle.std.proofs.Common.{◌≡◌, ℕ, Bool, true, false, cond, take, sym, ap, ◌∙◌, rules}
use Rattle.rules.specs.Places.{move_in, with_move}
use Rattle.rules.proofs.ChangedPlaces.{place_of_eight}
use Rattle.alike.specs.Alike.{stands_in}
use Rattle.alike_list.specs.PairArrays.{sum_at, counts_as}
use Rattle.replacing.proofs.ReplacedPlaces.{own_move}
use Rattle.replacing.proofs.replace_move.Goals as goal

pub returns-then-stands : goal.returns-then-stands
unfolding counts_as
returns-then-stands c =
    let xs = c.args.place.now in
    let p = c.args.pairs.now in
    let a = move_in xs in
    let own : c.move_in-action.result ≡ a = c.move_in-action.ensures.is in
    let to = λ (v : ℕ). sum_at (take p.end p.froms) (take p.end p.tos) v in
    let found : stands_in p.froms a ≡ true = sym (c.stands.ensures ∙ ap (stands_in p.froms) own) ∙ c.if-stands.true in
    c.set_move.ensures
    ∙ ap (λ (v : ℕ). with_move v xs) (c.to_move.ensures ∙ ap to own ∙ sym (ap (λ (b : Bool). cond b (to a) a) found))

pub returns-else-stands : goal.returns-else-stands
unfolding counts_as
returns-else-stands c =
    let xs = c.args.place.now in
    let p = c.args.pairs.now in
    let a = move_in xs in
    let own : c.move_in-action.result ≡ a = c.move_in-action.ensures.is in
    let to = λ (v : ℕ). sum_at (take p.end p.froms) (take p.end p.tos) v in
    let none : stands_in p.froms a ≡ false = sym (c.stands.ensures ∙ ap (stands_in p.froms) own) ∙ c.if-stands.false in
    sym (ap (λ (v : ℕ). with_move v xs) (ap (λ (b : Bool). cond b (to a) a) none)
    ∙ own_move xs (place_of_eight xs c.requires) (search rules))
