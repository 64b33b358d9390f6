-- A row of 32 numbers that is filled from a list of pairs, one after the other; behind them stands one number. Assumes nothing.
use mathlib.Core.Path.{◌≡◌, sym, ap, ◌∙◌}
use mathlib.Core.Bool.{true, ◌||◌, true≢false}
use mathlib.Core.List.{List, [], ◌∷◌, ◌++◌, map, map-append}
use mathlib.Core.Logic.{⊎_elim}
use Prim.Native.Nat.{ℕ, zero, suc, ◌+◌, ◌-◌, ◌≤◌, ◌<◌}
use native.Mathlib.Omega.{arith}
use lib.Dec.{eqb}
use lib.ListN.{length, take, set, replicate, length-append, length-take, length-replicate, length-map}
use lib.Seq.{take-length, set_at, append_snoc}
use borrow.Author.Tests.{eqb-true}
use Rattle.bpa.proofs.Basics.Cases.{same_test, or_cases, or_left}
use Rattle.alike.specs.Alike.{Pair, froms, stands_in, is_from}
use Rattle.alike.proofs.ReplacedMoves.{stands_append}

-- filled with so many pairs
unfoldable pub filled_up : (part : Pair → ℕ) → (behind : ℕ) → (k : ℕ) → List Pair → List ℕ
filled_up f v k ps = map f (take k ps) ++ replicate (32 - k) v

module _ (f : Pair → ℕ) (v : ℕ) (k : ℕ) (ps : List Pair) (h : k ≤ length ps) where
  front_length : length (map f (take k ps)) ≡ k
  front_length = length-map (take k ps) f ∙ length-take k ps ∙ omega arith

  pub filled_length : k ≤ 32 → length (filled_up f v k ps) ≡ 32
  unfolding filled_up
  filled_length l = length-append (map f (take k ps)) (replicate (32 - k) v) ∙ omega (arith, front_length, length-replicate (32 - k) v)

  -- one pair more
  pub filled_more : k < 32 → (p : Pair) → take (k + 1) ps ≡ take k ps ++ (p ∷ []) → set (filled_up f v k ps) k (f p) ≡ filled_up f v (k + 1) ps
  unfolding filled_up
  filled_more l p e =
      let n = 32 - (k + 1) in
      let m : 32 - k ≡ suc n = omega arith in
      ap (λ (j : ℕ). set (map f (take k ps) ++ replicate j v) k (f p)) m
      ∙ set_at (map f (take k ps)) v (replicate n v) (f p) k front_length
      ∙ sym (append_snoc (map f (take k ps)) (f p) (replicate n v))
      ∙ ap (λ (l : List ℕ). l ++ replicate n v) (sym (map-append f (take k ps) (p ∷ [])) ∙ ap (map f) (sym e))

-- all of them
pub filled_size : (f : Pair → ℕ) (v : ℕ) (ps : List Pair) → length ps ≤ 32 → length (map f ps ++ replicate (32 - length ps) v) ≡ 32
unfolding filled_up
filled_size f v ps h =
    ap (λ (l : List Pair). length (map f l ++ replicate (32 - length ps) v)) (sym (take-length ps))
    ∙ filled_length f v (length ps) ps (omega arith) h

-- FROM-MOVES IN A ROW
stands_behind : (n w v : ℕ) → stands_in (replicate n w) v ≡ true → w ≡ v
unfolding stands_in
stands_behind zero w v e = absurd (true≢false (sym e))
stands_behind (suc n) w v e =
    ⊎_elim (λ (d : eqb w v ≡ true). eqb-true w v d) (λ (d : stands_in (replicate n w) v ≡ true). stands_behind n w v d)
    (or_cases (eqb w v) (stands_in (replicate n w) v) e)

-- what stands behind is a from-move already
pub stands_filled : (k : ℕ) (ps : List Pair) (w v : ℕ) → is_from (take k ps) w ≡ true →
    stands_in (filled_up (λ (p : Pair). p.from) w k ps) v ≡ is_from (take k ps) v
unfolding filled_up
stands_filled k ps w v h =
    stands_append (froms (take k ps)) (replicate (32 - k) w) v
    ∙ same_test (stands_in (froms (take k ps)) v || stands_in (replicate (32 - k) w) v) (is_from (take k ps) v)
    (λ e. ⊎_elim (λ (d : stands_in (froms (take k ps)) v ≡ true). d)
    (λ (d : stands_in (replicate (32 - k) w) v ≡ true). ap (is_from (take k ps)) (sym (stands_behind (32 - k) w v d)) ∙ h)
    (or_cases (stands_in (froms (take k ps)) v) (stands_in (replicate (32 - k) w) v) e))
    (λ e. or_left (stands_in (froms (take k ps)) v) (stands_in (replicate (32 - k) w) v) e)
