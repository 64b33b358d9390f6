-- Cells put into bytes are read back as they were, and other cells stay. Assumes nothing.
use mathlib.Core.Path.{◌≡◌, refl, sym, ap, ◌∙◌}
use mathlib.Core.List.{List, [], ◌∷◌, ◌++◌}
use Prim.Native.Nat.{ℕ, ◌+◌, ◌*◌, ◌≤◌, ◌<◌}
use native.Mathlib.Omega.{arith}
use lib.Dec.{ltb}
use lib.ListN.{length, get_or, set}
use borrow.Author.Tests.{ltb-true, ltb-false}
use Rattle.area.specs.Areas.{put}
use Rattle.area.specs.Numbers.{low_first}
use Rattle.area.proofs.Puts.{put_length}
use Rattle.area.proofs.PutLaws.{put_one, put_put}
use Rattle.bpa.proofs.Basics.Cases.{by_test}
use Rattle.words.specs.Words.{word_bytes}
use Rattle.words.proofs.PutWords.{byte_in, byte_before, byte_behind, word_before, word_behind, word_in, eight}
use Rattle.reach.specs.Cells.{reach_in, cell_bytes}
use Rattle.reach.specs.declared.Reach.{Reach}

-- two reaches with the same parts
abbrev made : (low high least : ℕ) → Reach
made low high least = record { low = low; high = high; least = least }

same_parts : (l h m l' h' m' : ℕ) → l ≡ l' → h ≡ h' → m ≡ m' → made l h m ≡ made l' h' m'
same_parts l h m l' h' m' e f g = cc

-- A CELL that was put
module _ (c : ℕ) (r : Reach) (xs : List ℕ) (fits : 17 * c + 17 ≤ length xs) where
  abbrev after : List ℕ
  after = put (17 * c) (cell_bytes r) xs

  seventeen : length (cell_bytes r) ≡ 17
  unfolding cell_bytes word_bytes low_first
  seventeen = refl

  room_in : 17 * c + length (cell_bytes r) ≤ length xs
  room_in = omega (arith, seventeen)

  pub cells_long : length after ≡ length xs
  cells_long = put_length (17 * c) (cell_bytes r) xs room_in

  least_put : get_or after (17 * c + 16) 0 ≡ r.least
  unfolding cell_bytes word_bytes low_first
  least_put = byte_in (17 * c) (cell_bytes r) xs room_in 16 (17 * c + 16) refl (omega (arith, seventeen))

  pub reach_put : r.low < 18446744073709551616 → r.high < 18446744073709551616 → reach_in c after ≡ r
  unfolding reach_in cell_bytes
  reach_put h k =
      same_parts _ _ _ _ _ _
      (word_in (17 * c) [] (word_bytes r.high ++ (r.least ∷ [])) xs r.low room_in h (17 * c) (omega arith))
      (word_in (17 * c) (word_bytes r.low) (r.least ∷ []) xs r.high room_in k (17 * c + 8) (omega (arith, eight r.low)))
      least_put

  -- its two words and its number, put one behind the other
  abbrev words : List ℕ
  words = word_bytes r.low ++ word_bytes r.high

  sixteen : length words ≡ 16
  unfolding word_bytes low_first
  sixteen = refl

  long : length (put (17 * c) words xs) ≡ length xs
  long = put_length (17 * c) words xs (omega (arith, sixteen))

  both : (ys zs : List ℕ) → ys ≡ put (17 * c) (word_bytes r.low) xs → zs ≡ put (17 * c + 8) (word_bytes r.high) ys → zs ≡ put (17 * c) words xs
  unfolding word_bytes low_first
  both ys zs e f = f ∙ ap (put (17 * c + 8) (word_bytes r.high)) e ∙ put_put (17 * c) (word_bytes r.low) (word_bytes r.high) xs (omega arith)

  all_put : put (17 * c + 16) (r.least ∷ []) (put (17 * c) words xs) ≡ after
  unfolding cell_bytes word_bytes low_first
  all_put = put_put (17 * c) words (r.least ∷ []) xs (omega arith)

  pub put_cell : (ys zs : List ℕ) → ys ≡ put (17 * c) (word_bytes r.low) xs → zs ≡ put (17 * c + 8) (word_bytes r.high) ys →
      set zs (17 * c + 16) r.least ≡ after
  put_cell ys zs e f =
      ap (λ (l : List ℕ). set l (17 * c + 16) r.least) (both ys zs e f)
      ∙ sym (put_one (17 * c + 16) r.least (put (17 * c) words xs) (omega (arith, long))) ∙ all_put

  -- the others
  behind : (d : ℕ) → (d ≡ c → ⊥) → c ≤ d → 17 * c + 17 ≤ 17 * d
  behind d other l = by_test (ltb c d) (λ k. omega (arith, ltb-true c d k)) (λ k. absurd (other (omega (arith, l, ltb-false c d k))))

  pub reach_kept : (d : ℕ) → (d ≡ c → ⊥) → reach_in d after ≡ reach_in d xs
  unfolding reach_in
  reach_kept d other =
      by_test (ltb d c)
      (λ e.
      let h : 17 * d + 17 ≤ 17 * c = omega (arith, ltb-true d c e) in
      same_parts _ _ _ _ _ _
      (word_before (17 * c) (cell_bytes r) xs room_in (17 * d) (omega arith))
      (word_before (17 * c) (cell_bytes r) xs room_in (17 * d + 8) (omega arith))
      (byte_before (17 * c) (cell_bytes r) xs room_in (17 * d + 16) (omega arith)))
      (λ e.
      let h : 17 * c + 17 ≤ 17 * d = behind d other (ltb-false d c e) in
      same_parts _ _ _ _ _ _
      (word_behind (17 * c) (cell_bytes r) xs room_in (17 * d) (omega (arith, seventeen)))
      (word_behind (17 * c) (cell_bytes r) xs room_in (17 * d + 8) (omega (arith, seventeen)))
      (byte_behind (17 * c) (cell_bytes r) xs room_in (17 * d + 16) (omega (arith, seventeen))))
