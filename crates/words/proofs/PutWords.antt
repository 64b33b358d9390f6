-- Words put into bytes are read back as they were, and other bytes stay. Assumes nothing.
use mathlib.Core.Path.{◌≡◌, refl, ap, ap₂, ◌∙◌}
use mathlib.Core.List.{List, ◌++◌}
use Prim.Native.Nat.{ℕ, ◌+◌, ◌*◌, ◌/◌, ◌%◌, ◌-◌, ◌≤◌, ◌<◌}
use native.Mathlib.Omega.{arith}
use native.Mathlib.Nat.{div-div-eq-div-mul, mod-eq_of_lt}
use lib.ListN.{length, get_or, take, drop, length-append, get_or-append}
use lib.Seq.{length-take-le, get_or-append-add, get_or-drop, get_or-take}
use Rattle.area.specs.Areas.{put}
use Rattle.area.specs.Numbers.{low_first}
use Rattle.words.specs.Words.{word_at, word_bytes}

-- A BYTE of an area with new bytes: one of the new, or what was there
module _ (i : ℕ) (new xs : List ℕ) (fits : i + length new ≤ length xs) where
  room : length (take i xs) ≡ i
  room = length-take-le i xs (omega arith)

  pub byte_in : (k n : ℕ) → n ≡ i + k → k < length new → get_or (put i new xs) n 0 ≡ get_or new k 0
  unfolding put
  byte_in k n e h =
      let at : n ≡ length (take i xs) + k = omega (arith, e, room) in
      ap (λ (m : ℕ). get_or (take i xs ++ (new ++ drop (i + length new) xs)) m 0) at
      ∙ get_or-append-add (take i xs) (new ++ drop (i + length new) xs) k 0
      ∙ get_or-append new (drop (i + length new) xs) 0 k h

  pub byte_before : (n : ℕ) → n < i → get_or (put i new xs) n 0 ≡ get_or xs n 0
  unfolding put
  byte_before n h =
      get_or-append (take i xs) (new ++ drop (i + length new) xs) 0 n (omega (arith, room)) ∙ get_or-take i xs n 0 h

  pub byte_behind : (n : ℕ) → i + length new ≤ n → get_or (put i new xs) n 0 ≡ get_or xs n 0
  unfolding put
  byte_behind n h =
      let m = n - (i + length new) in
      let at : n ≡ length (take i xs) + (length new + m) = omega (arith, room) in
      let back : i + length new + m ≡ n = omega arith in
      ap (λ (k : ℕ). get_or (take i xs ++ (new ++ drop (i + length new) xs)) k 0) at
      ∙ get_or-append-add (take i xs) (new ++ drop (i + length new) xs) (length new + m) 0
      ∙ get_or-append-add new (drop (i + length new) xs) m 0
      ∙ get_or-drop (i + length new) xs m 0 ∙ ap (λ (k : ℕ). get_or xs k 0) back

  -- a word that lies before the new bytes or behind them
  pub word_before : (n : ℕ) → n + 8 ≤ i → word_at n (put i new xs) ≡ word_at n xs
  unfolding word_at
  word_before n h =
      omega (
        arith,
        byte_before n (omega arith),
        byte_before (n + 1) (omega arith),
        byte_before (n + 2) (omega arith),
        byte_before (n + 3) (omega arith),
        byte_before (n + 4) (omega arith),
        byte_before (n + 5) (omega arith),
        byte_before (n + 6) (omega arith),
        byte_before (n + 7) (omega arith),
      )

  pub word_behind : (n : ℕ) → i + length new ≤ n → word_at n (put i new xs) ≡ word_at n xs
  unfolding word_at
  word_behind n h =
      omega (
        arith,
        byte_behind n (omega arith),
        byte_behind (n + 1) (omega arith),
        byte_behind (n + 2) (omega arith),
        byte_behind (n + 3) (omega arith),
        byte_behind (n + 4) (omega arith),
        byte_behind (n + 5) (omega arith),
        byte_behind (n + 6) (omega arith),
        byte_behind (n + 7) (omega arith),
      )

-- three parts added up
sums : (v a b c x y z : ℕ) → v ≡ x + 65536 * a → a ≡ y + 65536 * b → b ≡ z + 65536 * c →
    x + 65536 * y + 4294967296 * z + 281474976710656 * c ≡ v
sums v a b c x y z e f g = omega arith

-- THE DIGITS of a word: two of them, and the rest
two_digits : (v : ℕ) → v % 256 + 256 * (v / 256 % 256) ≡ v % 65536
two_digits v = omega arith

digits_off : (v : ℕ) → v ≡ v % 65536 + 65536 * (v / 65536)
digits_off v = omega arith

digits : (v : ℕ) → v < 18446744073709551616 →
    (v % 256 + 256 * (v / 256 % 256)) + 65536 * (v / 65536 % 256 + 256 * (v / 65536 / 256 % 256))
    + 4294967296 * (v / 4294967296 % 256 + 256 * (v / 4294967296 / 256 % 256))
    + 281474976710656 * (v / 281474976710656 % 256 + 256 * (v / 281474976710656 / 256 % 256))
    ≡ v
digits v h =
    let a = v / 65536 in
    let b = v / 4294967296 in
    let c = v / 281474976710656 in
    let ab : a / 65536 ≡ b = div-div-eq-div-mul v 65536 65536 in
    let bc : b / 65536 ≡ c = div-div-eq-div-mul v 4294967296 65536 in
    let top : c < 65536 = omega arith in
    ap₂ ◌+◌
    (ap₂ ◌+◌ (ap₂ ◌+◌ (two_digits v) (ap (λ (n : ℕ). 65536 * n) (two_digits a))) (ap (λ (n : ℕ). 4294967296 * n) (two_digits b)))
    (ap (λ (n : ℕ). 281474976710656 * n) (two_digits c ∙ mod-eq_of_lt top))
    ∙ sums v a b c (v % 65536) (a % 65536) (b % 65536) (digits_off v) (digits_off a ∙ ap (λ (n : ℕ). a % 65536 + 65536 * n) ab) (digits_off b ∙ ap (λ (n : ℕ). b % 65536 + 65536 * n) bc)

-- a word among the new bytes
module _ (i : ℕ) (front rest xs : List ℕ) (v : ℕ) (fits : i + length (front ++ (word_bytes v ++ rest)) ≤ length xs)
    (small : v < 18446744073709551616) where
  abbrev pub new : List ℕ
  new = front ++ (word_bytes v ++ rest)

  long : length new ≡ length front + (8 + length rest)
  unfolding word_bytes low_first
  long = omega (arith, length-append front (word_bytes v ++ rest))

  byte : (k n : ℕ) → n ≡ i + length front + k → k < 8 → get_or (put i new xs) n 0 ≡ get_or (word_bytes v ++ rest) k 0
  byte k n e h =
      byte_in i new xs fits (length front + k) n (omega (arith, e)) (omega (arith, long)) ∙ get_or-append-add front (word_bytes v ++ rest) k 0

  pub word_in : (n : ℕ) → n ≡ i + length front → word_at n (put i new xs) ≡ v
  unfolding word_at word_bytes low_first
  word_in n e =
      omega (
        arith,
        digits v small,
        byte 0 n (omega (arith, e)) (omega arith),
        byte 1 (n + 1) (omega (arith, e)) (omega arith),
        byte 2 (n + 2) (omega (arith, e)) (omega arith),
        byte 3 (n + 3) (omega (arith, e)) (omega arith),
        byte 4 (n + 4) (omega (arith, e)) (omega arith),
        byte 5 (n + 5) (omega (arith, e)) (omega arith),
        byte 6 (n + 6) (omega (arith, e)) (omega arith),
        byte 7 (n + 7) (omega (arith, e)) (omega arith),
      )

pub eight : (v : ℕ) → length (word_bytes v) ≡ 8
unfolding word_bytes low_first
eight v = refl
