-- The parts of the rule at a position, as bytes of the list. Assumes nothing.
use mathlib.Core.Path.{◌≡◌, refl, ap, ap₂, ◌∙◌}
use mathlib.Core.List.{List, [], ◌∷◌}
use Prim.Native.Nat.{ℕ, zero, suc, ◌+◌, ◌*◌, ◌/◌, ◌%◌, ◌≤◌, ◌<◌}
use native.Mathlib.Omega.{arith}
use lib.ListN.{length, get_or, take, drop, length-drop}
use lib.Seq.{drop-drop, get_or-take, get_or-drop, length-take-le, take-take}
use Rattle.rules.specs.Places.{move_in, rule_in, rule_at, rule_count}

-- a rule that is there is whole
pub room : (rs : List ℕ) (i : ℕ) → i < rule_count rs → 8 * i + 8 ≤ length rs
unfolding rule_count
room rs i h = omega arith

pub place_length : (rs : List ℕ) (i : ℕ) → i < rule_count rs → length (take 8 (drop (8 * i) rs)) ≡ 8
place_length rs i h = length-take-le 8 (drop (8 * i) rs) (omega (arith, length-drop (8 * i) rs, room rs i h))

pub byte_at : (rs : List ℕ) (i k : ℕ) → k < 8 → get_or (take 8 (drop (8 * i) rs)) k 0 ≡ get_or rs (8 * i + k) 0
byte_at rs i k h = get_or-take 8 (drop (8 * i) rs) k 0 h ∙ get_or-drop (8 * i) rs k 0

pub job_at : (rs : List ℕ) (i : ℕ) → (rule_at rs i).job ≡ get_or rs (8 * i) 0
unfolding rule_at rule_in
job_at rs i =
    let e : 8 * i + 0 ≡ 8 * i = omega arith in
    byte_at rs i 0 (omega arith) ∙ ap (λ (k : ℕ). get_or rs k 0) e

pub move_at : (rs : List ℕ) (i : ℕ) → (rule_at rs i).move ≡ get_or rs (8 * i + 1) 0 + 256 * get_or rs (8 * i + 7) 0
unfolding rule_at rule_in move_in
move_at rs i = ap₂ (λ (low high : ℕ). low + 256 * high) (byte_at rs i 1 (omega arith)) (byte_at rs i 7 (omega arith))

-- its two bytes
module _ (rs : List ℕ) (i : ℕ) (low : get_or rs (8 * i + 1) 0 < 256) where
  pub low_at : (rule_at rs i).move % 256 ≡ get_or rs (8 * i + 1) 0
  low_at = omega (arith, move_at rs i)

  pub high_at : (rule_at rs i).move / 256 ≡ get_or rs (8 * i + 7) 0
  high_at = omega (arith, move_at rs i)

-- a part of the front is a part of the whole
part_of_front : (m k n : ℕ) (l : List ℕ) → k + m ≤ n → take m (drop k (take n l)) ≡ take m (drop k l)
part_of_front m zero n l h = take-take m n l (omega arith)
part_of_front m (suc k) zero l h = absurd (omega arith)
part_of_front m (suc k) (suc n) [] h = refl
part_of_front m (suc k) (suc n) (x ∷ l) h = part_of_front m k n l (omega arith)

module _ (rs : List ℕ) (i : ℕ) (few : get_or rs (8 * i + 2) 0 ≤ 4) where
  pub after_at : (rule_at rs i).after ≡ take (get_or rs (8 * i + 2) 0) (drop (8 * i + 3) rs)
  unfolding rule_at rule_in
  after_at =
      ap (λ (m : ℕ). take m (drop 3 (take 8 (drop (8 * i) rs)))) (byte_at rs i 2 (omega arith))
      ∙ part_of_front (get_or rs (8 * i + 2) 0) 3 8 (drop (8 * i) rs) (omega arith)
      ∙ ap (take (get_or rs (8 * i + 2) 0)) (drop-drop 3 (8 * i) rs)

  pub after_length : i < rule_count rs → length (rule_at rs i).after ≡ get_or rs (8 * i + 2) 0
  after_length h =
      ap length after_at
      ∙ length-take-le (get_or rs (8 * i + 2) 0) (drop (8 * i + 3) rs) (omega (arith, length-drop (8 * i + 3) rs, room rs i h))
