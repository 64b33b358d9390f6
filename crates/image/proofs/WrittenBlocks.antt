-- The blocks of an image written from a good list: how many, how many rules each holds, and where it stands. Assumes nothing.
use mathlib.Core.Path.{◌≡◌, sym, ap, ◌∙◌}
use mathlib.Core.Bool.{true}
use mathlib.Core.List.{List, ◌++◌}
use Prim.Native.Nat.{ℕ, zero, suc, ◌+◌, ◌*◌, ◌-◌, ◌≤◌, ◌<◌}
use native.Mathlib.Nat.{zero-add, add-zero, suc-add}
use native.Mathlib.Omega.{arith}
use lib.ListN.{take, drop}
use lib.Seq.{take_at, drop_at, drop-drop}
use Rattle.rules.specs.Places.{places_good, rule_count}
use Rattle.rules.specs.Lists.{GoodList}
use Rattle.image.specs.Image.{block}
use Rattle.image.specs.Writing.{blocks_for, rules_for, written_block, written_from, written}
use Rattle.image.specs.Filling.{filled}
use Rattle.bpa.proofs.Basics.Cases.{and_left, and_right}
use Rattle.image.proofs.PlaceRows.{places_split}
use Rattle.image.proofs.WrittenImages.{part, block_size, filled_is}

module _ (n : ℕ) (rs : List ℕ) (g : GoodList n rs) where
  pub blocks_bounds : (1 ≤ blocks_for rs) × (blocks_for rs ≤ 4) × (rule_count rs ≤ 63 * blocks_for rs) × (63 * blocks_for rs ≤ rule_count rs + 62)
  unfolding blocks_for
  blocks_bounds = (omega arith, omega arith, omega arith, omega arith)

  module _ (k : ℕ) (h : k < blocks_for rs) where
    pub rules_bounds : (1 ≤ rules_for k rs) × (63 * k + rules_for k rs ≤ rule_count rs) × (63 * suc k ≤ rule_count rs → rules_for k rs ≡ 63) × (rule_count rs ≤ 63 * suc k → 63 * k + rules_for k rs ≡ rule_count rs)
    unfolding rules_for
    rules_bounds = let bounds = blocks_bounds in (omega arith, omega arith, λ full. omega arith, λ last. omega arith)

    pub part_good : places_good (rules_for k rs) n (drop (504 * k) rs) ≡ true
    part_good =
        let r = rules_for k rs in
        let c = rule_count rs in
        let bounds = rules_bounds in
        let later = c - 63 * k in
        let rest = later - r in
        let split : 63 * k + later ≡ c = omega arith in
        let again : r + rest ≡ later = omega arith in
        let at : 8 * (63 * k) ≡ 504 * k = omega arith in
        let whole : places_good (63 * k + later) n rs ≡ true = rw split g.places in
        let from = and_right (places_good (63 * k) n rs) (places_good later n (drop (8 * (63 * k)) rs)) (sym (places_split (63 * k) later n rs) ∙ whole) in
        let here : places_good (r + rest) n (drop (504 * k) rs) ≡ true = ap (λ m. places_good m n (drop (504 * k) rs)) again ∙ ap (λ i. places_good later n (drop i rs)) (sym at) ∙ from in
        and_left (places_good r n (drop (504 * k) rs)) (places_good rest n (drop (8 * r) (drop (504 * k) rs))) (sym (places_split r rest n (drop (504 * k) rs)) ∙ here)

  from_later : (m j k : ℕ) → drop (512 * j) (written_from (j + m) k n rs) ≡ written_from m (k + j) n rs
  unfolding written_from
  from_later m zero k = rw (zero-add, add-zero)
  from_later m (suc j) k =
      let next : 512 * suc j ≡ 512 + 512 * j = omega arith in
      let here = written_block n k rs in
      let later = written_from (j + m) (suc k) n rs in
      rw (suc-add, next, ← drop-drop (512 * j) 512 (here ++ later))
      (ap (drop (512 * j)) (drop_at here later 512 (block_size rs g.whole n k)) ∙ from_later m j (suc k) ∙ ap (λ i. written_from m i n rs) (omega arith))

  -- block k of the image is the one that was written there
  pub block_written : (k : ℕ) → k < blocks_for rs → block k (written n rs) ≡ filled n k (blocks_for rs) (part k rs)
  unfolding block written written_from
  block_written k h =
      let m = blocks_for rs - suc k in
      let all : blocks_for rs ≡ k + suc m = omega arith in
      ap (λ i. take 512 (drop (512 * k) (written_from i 0 n rs))) all
      ∙ ap (take 512) (from_later (suc m) k 0 ∙ ap (λ i. written_from (suc m) i n rs) (zero-add k))
      ∙ take_at (written_block n k rs) (written_from m (suc k) n rs) 512 (block_size rs g.whole n k)
      ∙ sym (filled_is rs g.whole n k)
