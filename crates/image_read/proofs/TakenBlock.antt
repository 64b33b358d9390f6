-- What one block adds to the rules of a reader. Assumes nothing.
use mathlib.Core.Path.{◌≡◌, sym, ap, ◌∙◌}
use mathlib.Core.List.{List, ◌++◌, append_assoc}
use Prim.Native.Nat.{ℕ, ◌+◌, ◌*◌, ◌-◌, ◌≤◌}
use native.Mathlib.Omega.{arith}
use lib.ListN.{length, get_or, take, drop, length-append, length-take, length-drop}
use lib.Seq.{take_at, length-take-le}
use borrow.Rule.Slice.PartMut.{put_mid, post_of, same_len_mid}
use Rattle.image.specs.Image.{rules_in_block, block_places}
use Rattle.image.specs.Reading.{Takes, Took}

module _ (count more blocks : ℕ) (rules block part : List ℕ) (t : Takes blocks count rules block) (e : more ≡ get_or block 1 0) where
  abbrev from : ℕ
  from = 8 * count

  abbrev to : ℕ
  to = 8 * count + 8 * more

  -- the block's places, and the rules' part that they go to
  abbrev places : List ℕ
  places = take (2 + 8 * more - 2) (drop 2 block)

  abbrev room : List ℕ
  room = take (to - from) (drop from rules)

  pub few : more ≤ 63
  unfolding rules_in_block
  few = let h = t.few_rules in omega arith

  pub fits : to ≤ 2016
  fits = let h = few in let r = t.room in let b = t.few_blocks in omega arith

  places_are : places ≡ block_places block
  unfolding block_places rules_in_block
  places_are = let size : 2 + 8 * more - 2 ≡ 8 * more = omega arith in rw (size, e)

  places_length : length places ≡ 8 * more
  places_length = let w = t.whole in let h = few in simp (length-take, length-drop) (omega arith)

  room_length : length room ≡ 8 * more
  room_length = let s = t.size in let h = fits in simp (length-take, length-drop) (omega arith)

  pub took : part ≡ places → Took count rules block (count + more) (put_mid from (to - from) rules part)
  unfolding rules_in_block
  took part_is =
      let front : length (take from rules) ≡ from = length-take-le from rules (let s = t.size in let f = fits in omega arith) in
      let size : length (take from rules ++ part) ≡ 8 * (count + more) = let p = ap length part_is ∙ places_length in length-append (take from rules) part ∙ omega arith in
      record {
        count_is = ap (λ m. count + m) e;
        size = same_len_mid from (to - from) rules part (ap length part_is ∙ places_length ∙ sym room_length) ∙ t.size;
        holds = ap (take (8 * (count + more))) (sym (append_assoc (take from rules) part (post_of from (to - from) rules)))
            ∙ take_at (take from rules ++ part) (post_of from (to - from) rules) (8 * (count + more)) size ∙ ap (λ l. take from rules ++ l) (part_is ∙ places_are);
      }
