-- The bytes of a word one by one. Assumes nothing.
use mathlib.Core.Path.{◌≡◌, refl}
use mathlib.Core.List.{[], ◌∷◌}
use Prim.Native.Nat.{ℕ, ◌/◌, ◌%◌}
use native.Mathlib.Omega.{arith}
use Rattle.area.specs.Numbers.{low_first}
use Rattle.words.specs.Words.{word_bytes}

pub bytes_of_word : (v : ℕ) →
    (v % 256) ∷ (v / 256 % 256) ∷ (v / 65536 % 256) ∷ (v / 16777216 % 256) ∷ (v / 4294967296 % 256) ∷ (v / 1099511627776 % 256)
    ∷ (v / 281474976710656 % 256) ∷ (v / 72057594037927936 % 256) ∷ []
    ≡ word_bytes v
unfolding word_bytes low_first
bytes_of_word v =
    let a : v / 16777216 ≡ v / 65536 / 256 = omega arith in
    let b : v / 1099511627776 ≡ v / 4294967296 / 256 = omega arith in
    let d : v / 72057594037927936 ≡ v / 281474976710656 / 256 = omega arith in
    rw (a, b, d) refl
