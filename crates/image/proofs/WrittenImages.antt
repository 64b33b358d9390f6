-- Written images: the rules in each block, lengths, and a block as it is filled. Assumes nothing.
use mathlib.Core.Path.{◌≡◌, refl, ◌∙◌}
use mathlib.Core.List.{List, ◌∷◌, ◌++◌}
use Prim.Native.Nat.{ℕ, zero, suc, ◌*◌, ◌-◌, ◌/◌, ◌≤◌}
use native.Mathlib.Omega.{arith}
use lib.ListN.{length, take, drop, replicate, length-append, length-take, length-drop, length-replicate}
use Rattle.area.specs.Numbers.{low_first}
use Rattle.rules.specs.Places.{rule_count}
use Rattle.image.specs.Writing.{blocks_for, rules_for, body, written_block, written_from, written}
use Rattle.image.specs.Filling.{filled_body, filled}

-- the bytes of the rules in block k
abbrev pub part : (k : ℕ) → (rules : List ℕ) → List ℕ
part k rs = take (8 * rules_for k rs) (drop (504 * k) rs)

module _ (rs : List ℕ) (sized : length rs ≡ 8 * rule_count rs) where
  pub part_length : (k : ℕ) → length (part k rs) ≡ 8 * rules_for k rs
  unfolding rules_for
  part_length k = simp (length-take, length-drop) (omega arith)

  pub part_few : (k : ℕ) → rules_for k rs ≤ 63
  unfolding rules_for
  part_few k = omega arith

  -- a block filled with its rules
  filled_body_is : (n k : ℕ) → filled_body n k (blocks_for rs) (part k rs) ≡ body n k rs
  unfolding filled_body body
  filled_body_is n k =
      let few = part_length k in
      let count : length (part k rs) / 8 ≡ rules_for k rs = omega arith in
      let left : 504 - length (part k rs) ≡ 504 - 8 * rules_for k rs = omega arith in
      λ i. n ∷ count i ∷ (part k rs ++ replicate (left i) 0 ++ low_first k ++ low_first (blocks_for rs))

  pub filled_is : (n k : ℕ) → filled n k (blocks_for rs) (part k rs) ≡ written_block n k rs
  unfolding filled written_block
  filled_is n k = rw filled_body_is

  pub body_length : (n k : ℕ) → length (body n k rs) ≡ 510
  unfolding body low_first
  body_length n k =
      let here = part_length k in
      let few = part_few k in
      simp (length-append, length-replicate) (omega arith)

  pub block_size : (n k : ℕ) → length (written_block n k rs) ≡ 512
  unfolding written_block low_first
  block_size n k = let size = body_length n k in simp length-append (omega arith)

  from_size : (m k n : ℕ) → length (written_from m k n rs) ≡ 512 * m
  unfolding written_from
  from_size zero k n = refl
  from_size (suc m) k n =
      let here = block_size n k in
      let later = from_size m (suc k) n in
      length-append (written_block n k rs) (written_from m (suc k) n rs) ∙ omega arith

  pub written_size : (n : ℕ) → length (written n rs) ≡ 512 * blocks_for rs
  unfolding written
  written_size n = from_size (blocks_for rs) 0 n
