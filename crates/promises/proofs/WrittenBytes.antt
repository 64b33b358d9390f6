-- An image written from bytes is made of bytes. Assumes nothing.
use mathlib.Core.Path.{◌≡◌}
use mathlib.Core.Bool.{true}
use mathlib.Core.List.{List, [], ◌∷◌, ◌++◌}
use Prim.Native.Nat.{ℕ, zero, suc, ◌*◌, ◌-◌, ◌/◌, ◌%◌, ◌≤◌}
use native.Mathlib.Omega.{arith}
use lib.ListN.{take, drop, replicate}
use Rattle.area.specs.Numbers.{low_first}
use Rattle.bpa.specs.Plans.{all_below, over}
use Rattle.bpa.proofs.Basics.Plans.{over_none, over_cons, over_append}
use Rattle.image.specs.Image.{checksum}
use Rattle.image.proofs.ByteRows.{bytes, byte_take, byte_drop}
use Rattle.image.specs.Writing.{blocks_for, rules_for, body, written_block, written_from, written}

byte_zeros : (k : ℕ) → over bytes (replicate k 0) ≡ true
byte_zeros zero = over_none bytes
byte_zeros (suc k) = over_cons bytes 0 (replicate k 0) (omega arith) (byte_zeros k)

byte_low : (v : ℕ) → over bytes (low_first v) ≡ true
unfolding low_first
byte_low v = over_cons bytes (v % 256) ((v / 256 % 256) ∷ []) (omega arith) (over_cons bytes (v / 256 % 256) [] (omega arith) (over_none bytes))

module _ (n : ℕ) (rs : List ℕ) (few : n ≤ 24) (h : over bytes rs ≡ true) where
  byte_body : (k : ℕ) → over bytes (body n k rs) ≡ true
  unfolding body rules_for
  byte_body k =
      let c = rules_for k rs in
      let places = take (8 * c) (drop (504 * k) rs) in
      let zeros : List ℕ = replicate (504 - 8 * c) 0 in
      over_cons bytes n _ (omega arith)
      (over_cons bytes c _ (omega arith)
      (over_append bytes (places ++ zeros ++ low_first k) (low_first (blocks_for rs))
      (over_append bytes (places ++ zeros) (low_first k)
      (over_append bytes places zeros (byte_take (8 * c) (drop (504 * k) rs) (byte_drop (504 * k) rs h)) (byte_zeros (504 - 8 * c))) (byte_low k))
      (byte_low (blocks_for rs))))

  byte_from : (m k : ℕ) → over bytes (written_from m k n rs) ≡ true
  unfolding written_from written_block
  byte_from zero k = over_none bytes
  byte_from (suc m) k =
      over_append bytes (body n k rs ++ low_first (checksum (body n k rs))) (written_from m (suc k) n rs)
      (over_append bytes (body n k rs) (low_first (checksum (body n k rs))) (byte_body k) (byte_low (checksum (body n k rs)))) (byte_from m (suc k))

pub written_bytes : (n : ℕ) (rs : List ℕ) → n ≤ 24 → all_below 256 rs ≡ true → all_below 256 (written n rs) ≡ true
unfolding over written
written_bytes n rs few h = byte_from n rs few h (blocks_for rs) 0
