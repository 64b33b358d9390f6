-- `nth_move::write_move` meets its contract. Assumes nothing.
use Rattle.std.proofs.Common.{◌∙◌, ap, ap₂, ℕ, List, length, ◌++◌, arith}
use Rattle.area.specs.Areas.{put}
use Rattle.area.specs.Numbers.{low_first}
use Rattle.moves.specs.Moves.{bytes_by}
use Rattle.nth_move.proofs.MoveBytes.{bytes_length, in_a_row}
use Rattle.nth_move.proofs.write_move.Goals as goal

pub put_number-requires : goal.put_number-requires
put_number-requires c = omega (arith, c.requires.room, bytes_length c.args.rules.now.bytes.now c.args.i c.args.waiting.now)

pub put-behind-requires : goal.put-behind-requires
put-behind-requires c =
    omega (
      arith,
      c.requires.room,
      bytes_length c.args.rules.now.bytes.now c.args.i c.args.waiting.now,
      ap length c.after.ensures.after,
      c.put_number.auto.area,
    )

pub put-requires : goal.put-requires
put-requires c =
    omega (
      arith,
      c.requires.room,
      bytes_length c.args.rules.now.bytes.now c.args.i c.args.waiting.now,
      ap length c.after.ensures.after,
      c.put-behind.ensures.next,
      c.put-behind.auto.area,
      c.put_number.auto.area,
    )

pub returns : goal.returns
unfolding bytes_by
returns c =
    let rs = c.args.rules.now.bytes.now in
    let w = c.args.waiting.now in
    let o = c.args.out.now in
    record {
      next = c.put.ensures.next ∙ omega (arith, c.put-behind.ensures.next, ap length c.after.ensures.after, bytes_length rs c.args.i w);
      output = c.put.ensures.output
          ∙ in_a_row c.from.result c.put-behind.result c.after.result.now w o c.put_number.new.area c.put-behind.new.area c.put_number.ensures
          c.put-behind.ensures.output c.put-behind.ensures.next
          ∙ ap₂ (λ (x : ℕ) (y : List ℕ). put 0 (low_first x ++ (y ++ w)) o) (c.from.ensures ∙ c.action.ensures) c.after.ensures.after;
    }
