-- `rules::rule_after` meets its contract. Assumes nothing.
use Rattle.std.proofs.Common.{◌∙◌, ap, sym, ℕ, ◌+◌, ◌*◌, take, drop}
use Rattle.area.proofs.Parts.{rest_part}
use Rattle.rules.proofs.PlaceLaws.{after_at, after_length}
use Rattle.rules.proofs.rule_after.Goals as goal

pub returns : goal.returns
returns c =
    let rs = c.args.rules.now in
    let i = c.args.i in
    ap (take c.rule_len.result) (rest_part rs (8 * i + 3))
    ∙ ap (λ (m : ℕ). take m (drop (8 * i + 3) rs)) (c.rule_len.ensures.is ∙ after_length rs i c.requires.few c.requires.inside)
    ∙ sym (after_at rs i c.requires.few)
