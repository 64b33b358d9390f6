-- `rules::set_move` meets its contract. Assumes nothing.
use Rattle.std.proofs.Common.{◌≡◌, ◌∙◌, ap, ap₂, ℕ, List, ◌/◌, ◌%◌, get_or, slice_set, arith}
use Rattle.rules.proofs.TwoBytes.{two_bytes}
use Rattle.rules.proofs.set_move.Goals as goal

pub returns : goal.returns
returns c =
    let bytes = c.to_le_bytes.ensures in
    let fits : c.args.action / 256 % 256 ≡ c.args.action / 256 = omega arith in
    ap₂ (λ (low high : ℕ). slice_set (slice_set c.args.place.now 1 low) 7 high) (ap (λ (l : List ℕ). get_or l 0 0) bytes)
    (ap (λ (l : List ℕ). get_or l 1 0) bytes ∙ fits)
    ∙ two_bytes c.args.action c.args.place.now c.requires
