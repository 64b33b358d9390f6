-- `nth_move::write_nth_move` meets its contract. Assumes nothing.
use Rattle.std.proofs.Common.{◌≡◌, ◌∙◌, refl, ap, sym, subst, ◌<◌, ◌-◌, ℕ, List, length, get_or, take, drop, arith, rules}
use Rattle.area.specs.Areas.{put}
use Rattle.area.proofs.Parts.{rest_part}
use Rattle.answer.specs.Answer.{answered}
use Rattle.answer.proofs.Answers.{nothing}
use Rattle.answer.proofs.Answered.{short_err, written_ok}
use Rattle.rules.specs.Places.{rule_count, table_of}
use Rattle.rules.proofs.ListLaws.{good_has_place}
use Rattle.moves.specs.Shown.{shown}
use Rattle.moves.specs.Moves.{move_bytes, bytes_by, IsNth}
use Rattle.nth_move.proofs.MoveBytes.{no_job, none_found, one_found, waiting_length}
use Rattle.nth_move.proofs.write_nth_move.Goals as goal

pub returns-then-is_empty : goal.returns-then-is_empty
unfolding answered
returns-then-is_empty c =
    let none : length c.args.plan.now ≡ 0 = search rules in
    nothing _ c.args.out.now (no_job c.args.rules.now.jobs c.args.rules.now.bytes.now c.args.plan.now c.args.index none)

pub returns-in_default : goal.returns-in_default
unfolding answered
returns-in_default c =
    let rs = c.args.rules.now.bytes.now in
    let some : 0 < length c.args.plan.now = search rules in
    let nth : IsNth rs (get_or c.args.plan.now 0 0) c.args.index (rule_count rs) =
    subst (λ (j : ℕ). IsNth rs j c.args.index (rule_count rs)) c.from.ensures (c.in_default.ensures.none refl) in
    nothing _ c.args.out.now (none_found c.args.rules.now.jobs rs c.args.plan.now c.args.index (rule_count rs) some nth (omega arith))

pub returns-then-out-need : goal.returns-then-out-need
returns-then-out-need c =
    let rs = c.args.rules.now.bytes.now in
    let p = c.args.plan.now in
    let i = c.in-Some.i in
    let some : 0 < length p = search rules in
    let there : i < rule_count rs = c.in-Some.ensures.there in
    let nth : IsNth rs (get_or p 0 0) c.args.index i = subst (λ (j : ℕ). IsNth rs j c.args.index i) c.from.ensures c.in-Some.ensures.found in
    let e = one_found c.args.rules.now.jobs rs p c.args.index i some nth there in
    short_err _ c.args.out.now (omega (arith, ap length e, waiting_length rs i p some, ap length c.after.ensures.after))

pub write_move-requires : goal.write_move-requires
write_move-requires c =
    let table = c.args.rules.now in
    let p = c.args.plan.now in
    let i = c.in-Some.i in
    let some : 0 < length p = search rules in
    record {
      rule = good_has_place table.jobs table.bytes.now table.good i c.in-Some.ensures.there;
      room = rw (rest_part p 1) (omega (arith, waiting_length table.bytes.now i p some, ap length c.after.ensures.after));
    }

pub overflow_cast-result : goal.overflow_cast-result
overflow_cast-result c =
    let rs = c.args.rules.now.bytes.now in
    let p = c.args.plan.now in
    let i = c.in-Some.i in
    let some : 0 < length p = search rules in
    omega (
      arith,
      c.write_move.ensures.next,
      ap (λ (l : List ℕ). length (bytes_by rs i l)) (rest_part p 1),
      waiting_length rs i p some,
      ap length c.after.ensures.after,
      c.after.ensures.few,
    )

pub returns : goal.returns
returns c =
    let rs = c.args.rules.now.bytes.now in
    let p = c.args.plan.now in
    let o = c.args.out.now in
    let i = c.in-Some.i in
    let some : 0 < length p = search rules in
    let nth : IsNth rs (get_or p 0 0) c.args.index i = subst (λ (j : ℕ). IsNth rs j c.args.index i) c.from.ensures c.in-Some.ensures.found in
    let e = one_found c.args.rules.now.jobs rs p c.args.index i some nth c.in-Some.ensures.there in
    let w : bytes_by rs i (take (length p - 1) (drop 1 p)) ≡ move_bytes (shown (table_of c.args.rules.now.jobs rs) p) c.args.index =
    ap (bytes_by rs i) (rest_part p 1) ∙ sym e in
    written_ok _ o c.write_move.result (omega (arith, ap length e, waiting_length rs i p some, ap length c.after.ensures.after))
    (omega (arith, c.write_move.ensures.next, ap length w)) (c.write_move.ensures.output ∙ ap (λ (l : List ℕ). put 0 l o) w)
