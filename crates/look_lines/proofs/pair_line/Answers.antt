-- A pair's line by what comparing answered. Assumes nothing.
use Rattle.std.proofs.Common.{◌≡◌, ◌∙◌, rules}
use Rattle.look_lines.specs.Lines.{pair_line}
use Rattle.look_lines.proofs.Puts.{put_line, put_both, put_as}
use Rattle.look_lines.proofs.Verdicts.{refused_shown, apart_shown, same_shown}
use Rattle.look_lines.proofs.pair_line.Goals as goal

pub returns-in-Err : goal.returns-in-Err
unfolding pair_line
returns-in-Err c =
    let refusal = put_both (search rules) c.put_field-next.ensures.1 c.put.ensures in
    record {
      put = put_line c.put_field-first.ensures.1 (put_as (refused_shown _ _ _ c.in-Err.is (c.from.ensures ∙ c.number.ensures)) refusal);
      within = search rules;
    }

pub returns-in-Ok-eq0 : goal.returns-in-Ok-eq0
unfolding pair_line
returns-in-Ok-eq0 c =
    let none : c.in-Ok-eq0.field-0 ≡ 0 = search rules in
    record { put = put_line c.put_field-first.ensures.1 (put_as (apart_shown _ _ c.in-Ok-eq0.is none) c.put-in-Ok-eq0.ensures); within = search rules }

pub returns-in-Ok : goal.returns-in-Ok
unfolding pair_line
returns-in-Ok c =
    let some : c.in-Ok.field-0 ≡ 0 → ⊥ = search rules in
    record { put = put_line c.put_field-first.ensures.1 (put_as (same_shown _ _ c.in-Ok.is some) c.put-in-Ok.ensures); within = search rules }
