-- A good place is the place of its rule, so rules that are equal have equal bytes. Assumes nothing.
use mathlib.Core.Path.{◌≡◌, sym, ap, ◌∙◌}
use mathlib.Core.Bool.{true, ◌&&◌}
use mathlib.Core.List.{List, [], ◌∷◌, ◌++◌}
use Prim.Native.Nat.{ℕ, ◌+◌, ◌*◌, ◌-◌, ◌/◌, ◌%◌, ◌≤◌, ◌<◌}
use native.Mathlib.Omega.{arith}
use lib.Dec.{ltb, leb}
use lib.ListN.{length, get_or, take, drop, replicate, length-drop, drop_of_length-le, take-append-drop}
use lib.Seq.{length-take-le, drop-append-le, drop-drop, drop-cons}
use borrow.Author.Tests.{leb-true}
use Rattle.bpa.specs.Plans.{all_below}
use Rattle.bpa.proofs.Basics.Cases.{and_left, and_right}
use Rattle.rules.specs.Places.{all_zero, move_in, rule_in, rule_at, rule_count, place_good, place_of}
use Rattle.rules.specs.Lists.{GoodList}
use Rattle.rules.proofs.PlaceLaws.{place_length, byte_at}
use Rattle.rules.proofs.ListLaws.{good_place}
use Rattle.rules.proofs.Zeros.{zeros_are}

-- at most four jobs stand after the move of a good place
pub after_few : (n : ℕ) (y : List ℕ) → place_good n y ≡ true → get_or y 2 0 ≤ 4
unfolding place_good
after_few n y good =
    let c = get_or y 2 0 in
    leb-true c 4 (and_right (ltb (get_or y 0 0) n) (leb c 4)
    (and_left (ltb (get_or y 0 0) n && leb c 4) (all_below n (take c (drop 3 y)) && all_zero (drop (3 + c) (take 7 y))) good))

-- a good place is the place of its rule, if the low part of the move is a byte
module _ (n : ℕ) (y : List ℕ) (size : length y ≡ 8) (low : get_or y 1 0 < 256) (good : place_good n y ≡ true) where
  abbrev count : ℕ
  count = get_or y 2 0

  abbrev after : List ℕ
  after = take count (drop 3 y)

  few : count ≤ 4
  few = after_few n y good

  front_length : length (take 7 y) ≡ 7
  front_length = length-take-le 7 y (omega arith)

  zeros : drop (3 + count) (take 7 y) ≡ replicate (4 - count) 0
  unfolding place_good
  zeros =
      let z = and_right (all_below n after) (all_zero (drop (3 + count) (take 7 y)))
      (and_right (ltb (get_or y 0 0) n && leb count 4) (all_below n after && all_zero (drop (3 + count) (take 7 y))) good) in
      zeros_are (4 - count) (drop (3 + count) (take 7 y)) (length-drop (3 + count) (take 7 y) ∙ omega (arith, few, front_length)) z

  -- the jobs after, the zeros behind them, and the last byte
  last : drop 7 y ≡ get_or y 7 0 ∷ []
  last = drop-cons y 7 0 (omega arith) ∙ ap (λ l. get_or y 7 0 ∷ l) (drop_of_length-le y {i = 8} (omega arith))

  behind_jobs : drop count (drop 3 y) ≡ replicate (4 - count) 0 ++ (get_or y 7 0 ∷ [])
  behind_jobs =
      drop-drop count 3 y ∙ ap (drop (3 + count)) (sym (take-append-drop 7 y))
      ∙ drop-append-le (3 + count) (take 7 y) (drop 7 y) (omega (arith, few, front_length))
      ∙ (λ i. zeros i ++ last i)

  after_length : length after ≡ count
  after_length = length-take-le count (drop 3 y) (simp length-drop (omega (arith, few)))

  pub place_back : place_of (rule_in y) ≡ y
  unfolding place_of rule_in move_in
  place_back =
      let low_part : (get_or y 1 0 + 256 * get_or y 7 0) % 256 ≡ get_or y 1 0 = omega arith in
      let high_part : (get_or y 1 0 + 256 * get_or y 7 0) / 256 ≡ get_or y 7 0 = omega arith in
      (λ i. get_or y 0 0 ∷ low_part i ∷ after_length i ∷ (after ++ (replicate (4 - after_length i) 0 ++ (high_part i ∷ []))))
      ∙ ap (λ l. get_or y 0 0 ∷ get_or y 1 0 ∷ count ∷ l) (ap (λ l. after ++ l) (sym behind_jobs) ∙ take-append-drop count (drop 3 y))
      ∙ ap (λ l. get_or y 0 0 ∷ get_or y 1 0 ∷ l) (sym (drop-cons y 2 0 (omega arith)))
      ∙ ap (λ l. get_or y 0 0 ∷ l) (sym (drop-cons y 1 0 (omega arith)))
      ∙ sym (drop-cons y 0 0 (omega arith))

-- EQUAL RULES of a good list have equal bytes
module _ (n : ℕ) (rs : List ℕ) (good : GoodList n rs) where
  at_place : (i : ℕ) → i < rule_count rs → get_or rs (8 * i + 1) 0 < 256 → place_of (rule_at rs i) ≡ take 8 (drop (8 * i) rs)
  unfolding rule_at
  at_place i h low =
      place_back n (take 8 (drop (8 * i) rs)) (place_length rs i h)
      (omega (arith, byte_at rs i 1 (omega arith))) (good_place (rule_count rs) n rs i good.places h)

  pub same_bytes : (i k : ℕ) → i < rule_count rs → k < rule_count rs → get_or rs (8 * i + 1) 0 < 256 → get_or rs (8 * k + 1) 0 < 256 →
      rule_at rs i ≡ rule_at rs k → take 8 (drop (8 * i) rs) ≡ take 8 (drop (8 * k) rs)
  same_bytes i k h l low low' e = sym (at_place i h low) ∙ ap place_of e ∙ at_place k l low'
