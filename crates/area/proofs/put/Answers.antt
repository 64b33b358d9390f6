-- `area::put` meets its contract: the part between the place and the end of the bytes is replaced by them. Assumes nothing.
use Rattle.std.proofs.Common.{◌+◌, ◌-◌, ℕ, List, ◌++◌, take, drop, length, refl, ap, ◌∙◌}
use Rattle.area.proofs.Puts.{put_part}
use Rattle.area.proofs.put.Goals as goal

pub returns : goal.returns
returns c =
    let i = c.args.at in
    let xs = c.args.area.now in
    let bs = c.args.bytes.now in
    record {
      next = refl;
      output = ap (λ (l : List ℕ). take i xs ++ (l ++ drop (i + length bs - i) (drop i xs))) c.copy_from_slice.ensures.after
          ∙ put_part i bs xs c.requires (i + length bs) refl;
    }
