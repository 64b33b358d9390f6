-- The list of rules in an accepted image: how many stand before, in and after each block, and that the list is good. Assumes nothing.
use mathlib.Core.Path.{◌≡◌, ap}
use mathlib.Core.List.{List}
use Prim.Native.Nat.{ℕ, zero, suc, ◌+◌, ◌*◌, ◌≤◌, min}
use native.Mathlib.Nat.{zero-add, add-zero, suc-add}
use native.Mathlib.Omega.{arith}
use Rattle.rules.specs.Lists.{GoodList}
use Rattle.image.specs.Image.{block, blocks_in, rules_in_block, image_jobs, image_places, layout_refusal}
use Rattle.image.proofs.AcceptedImages.{LaidOut, laid_out}
use Rattle.image.proofs.HeldTable.{rules_from, held}

module _ (bs : List ℕ) (g : LaidOut bs) where
  -- 63 rules stand in each block before the last
  pub count_later : (m j k : ℕ) → k + (j + m) ≡ blocks_in bs → 1 ≤ m → rules_from (j + m) k bs ≡ 63 * j + rules_from m (k + j) bs
  unfolding rules_from
  count_later m zero k h some = rw (zero-add m, add-zero, zero-add)
  count_later m (suc j) k h some =
      let full = (g.heads k (omega arith)).full (omega arith) in
      let later = count_later m j (suc k) (omega arith) some in
      let same : suc k + j ≡ k + suc j = omega arith in
      let moved = ap (λ i. rules_from m i bs) same in
      rw suc-add (omega arith)

  -- and the list from a block on begins with that block's rules
  pub first_of : (m k : ℕ) → k + suc m ≡ blocks_in bs → min 63 (rules_from (suc m) k bs) ≡ rules_in_block (block k bs)
  unfolding rules_from
  first_of zero k h = let few = (g.heads k (omega arith)).few_rules in omega arith
  first_of (suc m) k h = let full = (g.heads k (omega arith)).full (omega arith) in omega arith

-- THE LIST of an accepted image is good
pub image_good_list : (bs : List ℕ) → layout_refusal bs ≡ 0 → GoodList (image_jobs bs) (image_places bs)
image_good_list bs h = held bs (laid_out bs h)
