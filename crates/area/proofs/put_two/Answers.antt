-- `area::put_two` meets its contract. Assumes nothing.
use mathlib.Core.List.{[], ◌∷◌, append_assoc}
use Prim.Native.Nat.{◌+◌}
use native.Mathlib.Numerals.{add-one}
use native.Mathlib.Omega.{arith}
use mathlib.Core.Path.{◌∙◌}
use lib.ListN.{take, drop}
use lib.Seq.{sets-eq}
use Rattle.area.specs.Areas.{put}
use Rattle.area.proofs.put_two.Goals as goal

pub returns : goal.returns
unfolding put
returns c =
    let new = c.args.first ∷ c.args.second ∷ [] in
    let area = c.args.area.now in
    rw add-one (sets-eq new area c.args.at (omega arith)) ∙ append_assoc (take c.args.at area) new (drop (c.args.at + 2) area)
