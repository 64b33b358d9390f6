-- `joining::append` meets its contract. Assumes nothing.
use Rattle.std.proofs.Common.{◌≡◌, ◌≤◌, ℕ, ◌+◌, ◌-◌, List, length, take, drop, refl, sym, ap, ap₂, ◌∙◌, arith}
use borrow.Rule.Slice.PartMut.{put_mid}
use Rattle.area.specs.Areas.{put}
use Rattle.area.proofs.Puts.{put_part}
use Rattle.rules.specs.Places.{rule_count}
use Rattle.joining.specs.JoinedBytes.{renumbered_places}
use Rattle.joining.proofs.RenumberedPlaces.{places_length}
use Rattle.joining.proofs.AppendedBytes.{put_stands, put_over}
use Rattle.joining.proofs.append.Goals as goal

-- what was put, and what stands where it was put
module _ (i : ℕ) (more xs w : List ℕ) (fits : i + length more ≤ length xs) (e : w ≡ more) where
  was_put : put_mid i (i + length more - i) xs w ≡ put i more xs
  was_put = ap (λ (l : List ℕ). put_mid i (i + length more - i) xs l) e ∙ put_part i more xs fits (i + length more) refl

  stands : take (i + length more - i) (drop i (put_mid i (i + length more - i) xs w)) ≡ more
  stands = ap (λ (l : List ℕ). take (i + length more - i) (drop i l)) was_put ∙ put_stands i (i + length more) more xs fits refl

pub returns : goal.returns
returns c =
    let i = c.args.end in
    let more = c.args.more.now in
    let xs = c.args.rules.now in
    let n = c.args.jobs in
    let fits : i + length more ≤ length xs = omega (arith, c.requires.0) in
    let e = c.copy_from_slice.ensures.after in
    let as_many : length (renumbered_places n more) ≡ length more =
    places_length n 0 (rule_count more) more (omega (arith, c.requires.1.whole)) ∙ sym c.requires.1.whole in
    let made = c.renumber_places.ensures ∙ ap (renumbered_places n) (stands i more xs c.copy_from_slice.new.self fits e) in
    ap₂ (λ (x y : List ℕ). put_mid i (i + length more - i) x y) (was_put i more xs c.copy_from_slice.new.self fits e) made
    ∙ put_over i (i + length more) more xs fits refl (renumbered_places n more) as_many
