-- `alike_list::move_at` meets its contract. Assumes nothing.
use Rattle.std.proofs.Common.{◌≡◌, ℕ, suc, ◌+◌, ◌*◌, get_or, ap, ◌∙◌, arith}
use Rattle.area.specs.Numbers.{number_at}
use Rattle.alike_list.proofs.move_at.Goals as goal

pub returns : goal.returns
unfolding number_at
returns c =
    let ls = c.args.list.now in
    let at = c.args.at in
    let next : at + 1 ≡ suc at = omega arith in
    record {
      is = c.number.ensures.is ∙ ap (λ (i : ℕ). get_or ls at 0 + 256 * get_or ls i 0) next;
      small = c.number.ensures.small;
    }
