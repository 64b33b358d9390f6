-- An area after new bytes were put into it: its length, what stands up to their end, and what stands behind. Assumes nothing.
use mathlib.Core.Path.{◌≡◌, sym, ap, ◌∙◌}
use mathlib.Core.List.{List, ◌++◌, append_assoc}
use Prim.Native.Nat.{ℕ, ◌+◌, ◌-◌, ◌≤◌}
use native.Mathlib.Omega.{arith}
use lib.ListN.{length, take, drop, length-append, length-drop}
use lib.Seq.{length-take-le, take_at, drop_at, drop-drop, take-append-le, take-append-add, take-take}
use Rattle.area.specs.Areas.{put}

module _ (i : ℕ) (new xs : List ℕ) (inside : i ≤ length xs) where
  front_length : length (take i xs ++ new) ≡ i + length new
  front_length = length-append (take i xs) new ∙ ap (λ n. n + length new) (length-take-le i xs inside)

  -- the bytes up to their end, and those behind
  parts : put i new xs ≡ take i xs ++ new ++ drop (i + length new) xs
  unfolding put
  parts = sym (append_assoc (take i xs) new (drop (i + length new) xs))

  pub put_up_to : take (i + length new) (put i new xs) ≡ take i xs ++ new
  put_up_to = ap (take (i + length new)) parts ∙ take_at (take i xs ++ new) (drop (i + length new) xs) (i + length new) front_length

  pub put_behind : drop (i + length new) (put i new xs) ≡ drop (i + length new) xs
  put_behind = ap (drop (i + length new)) parts ∙ drop_at (take i xs ++ new) (drop (i + length new) xs) (i + length new) front_length

  -- and up to a place among them
  put_into : (k : ℕ) → k ≤ length new → take (i + k) (put i new xs) ≡ take i xs ++ take k new
  put_into k h =
      let room : length (take i xs) ≡ i = length-take-le i xs inside in
      let at : i + k ≡ length (take i xs) + k = omega arith in
      sym (take-take (i + k) (i + length new) (put i new xs) (omega arith)) ∙ ap (take (i + k)) put_up_to
      ∙ ap (λ (n : ℕ). take n (take i xs ++ new)) at ∙ take-append-add (take i xs) new k

-- n bytes of some rows are put into an area: up to the end of the first `len` of them these are what stands there
pub put_part_front : (rows xs : List ℕ) (start len n i : ℕ) → len ≤ n → start + n ≤ length rows → i ≤ length xs →
    take (i + len) (put i (take n (drop start rows)) xs) ≡ take i xs ++ take len (drop start rows)
put_part_front rows xs start len n i h l m =
    let v = take n (drop start rows) in
    let size : length v ≡ n = length-take-le n (drop start rows) (omega (arith, length-drop start rows)) in
    put_into i v xs m len (omega arith) ∙ ap (λ (r : List ℕ). take i xs ++ r) (take-take len n (drop start rows) h)

module _ (i : ℕ) (new xs : List ℕ) (fits : i + length new ≤ length xs) where
  inside : i ≤ length xs
  inside = omega arith

  pub put_length : length (put i new xs) ≡ length xs
  put_length =
      let front = front_length i new xs inside in
      let behind = length-drop (i + length new) xs in
      ap length (parts i new xs inside) ∙ length-append (take i xs ++ new) (drop (i + length new) xs) ∙ omega arith

  -- the part from i to e, replaced by as many new bytes
  pub put_part : (e : ℕ) → e ≡ i + length new → take i xs ++ (new ++ drop (e - i) (drop i xs)) ≡ put i new xs
  unfolding put
  put_part e h =
      let end : i + (e - i) ≡ i + length new = omega arith in
      ap (λ l. take i xs ++ (new ++ l)) (drop-drop (e - i) i xs ∙ ap (λ n. drop n xs) end)

  -- what stands before the bytes, and what stands from them on
  pub take_put : (k : ℕ) → k ≤ i → take k (put i new xs) ≡ take k xs
  unfolding put
  take_put k l =
      let e : length (take i xs) ≡ i = length-take-le i xs (omega arith) in
      take-append-le k (take i xs) (new ++ drop (i + length new) xs) (omega arith) ∙ take-take k i xs l
