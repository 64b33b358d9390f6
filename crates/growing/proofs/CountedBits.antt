-- A number has as many ones as a set of jobs has members, if its bits are the set. Assumes nothing.
use mathlib.Core.Path.{◌≡◌, refl, sym, ◌∙◌}
use mathlib.Core.Bool.{Bool, true, false, cond, true≢false}
use mathlib.Core.List.{[], ◌∷◌}
use mathlib.Core.Logic.{◌↔◌}
use Prim.Native.Nat.{ℕ, zero, suc, ◌/◌, ◌^◌, ◌<◌}
use native.Mathlib.Omega.{arith}
use lib.Count.{ones, ones_step, ones-le}
use lib.ListN.{length}
use Rattle.bits.specs.Bits.{bit}
use Rattle.bits.proofs.PlaceBits.{bit_clear}
use Rattle.bits.proofs.TrailingBits.{bit_first, bit_next, half_small}
use Rattle.growth.specs.Reached.{JobSet, has, members_from}

-- a number without bits has no ones
no_ones : (n w : ℕ) → w < 2 ^ n → ((k : ℕ) → bit w k ≡ 0) → ones w ≡ 0
no_ones zero w h f = omega (arith, ones-le 0 w h)
no_ones (suc n) w h f =
    omega (arith, ones_step w, no_ones n (w / 2) (half_small n w h) (λ k. sym (bit_next w k) ∙ f (suc k)), bit_first w, f 0)

pub ones_members : (s : JobSet) (j n w : ℕ) → w < 2 ^ n → ((k : ℕ) → (bit w k ≡ 1) ↔ (has s k ≡ true)) → ones w ≡ length (members_from j s)
unfolding members_from
ones_members [] j n w h f = no_ones n w h (λ k. bit_clear w k (λ e. true≢false (sym ((f k).0 e))))
ones_members (b ∷ s) j n w h f =
    go b (f 0) (ones_members s (suc j) n (w / 2) (omega (arith, h)) (λ k. ((λ e. (f (suc k)).0 (bit_next w k ∙ e)), (λ e. sym (bit_next w k) ∙ (f (suc k)).1 e))))
  where
    go : (b : Bool) → (bit w 0 ≡ 1) ↔ (b ≡ true) → ones (w / 2) ≡ length (members_from (suc j) s) →
        ones w ≡ length (cond b (j ∷ members_from (suc j) s) (members_from (suc j) s))
    go true d e = omega (arith, ones_step w, e, bit_first w, d.1 refl)
    go false d e = omega (arith, ones_step w, e, bit_first w, bit_clear w 0 (λ x. true≢false (sym (d.0 x))))
