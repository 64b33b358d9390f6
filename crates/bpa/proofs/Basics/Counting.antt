-- How many numbers below a bound pass a test. Assumes nothing.
use mathlib.Core.Path.{◌≡◌, refl, sym, subst}
use mathlib.Core.Bool.{Bool, true, false, cond, true≢false}
use Prim.Native.Nat.{ℕ, zero, suc, ◌+◌, ◌≤◌, ◌<◌}
use native.Mathlib.Nat.{not-suc-le-zero}
use native.Mathlib.Decide.{ℕ_discrete}
use native.Mathlib.Omega.{arith}

unfoldable pub count : (test : ℕ → Bool) → (below : ℕ) → ℕ
count f zero = 0
count f (suc n) = cond (f n) (suc (count f n)) (count f n)

step_le : (b : Bool) (c n : ℕ) → c ≤ n → cond b (suc c) c ≤ suc n
step_le true c n h = omega arith
step_le false c n h = omega arith

pub count_le : (f : ℕ → Bool) (n : ℕ) → count f n ≤ n
unfolding count
count_le f zero = omega arith
count_le f (suc n) = step_le (f n) (count f n) n (count_le f n)

step_mono : (m : ℕ) (b d : Bool) (c e : ℕ) → (b ≡ true → d ≡ true) → m + c ≤ e → m + cond b (suc c) c ≤ cond d (suc e) e
step_mono m true true c e h k = omega arith
step_mono m true false c e h k = absurd (true≢false (sym (h refl)))
step_mono m false true c e h k = omega arith
step_mono m false false c e h k = k

pub count_mono : (f g : ℕ → Bool) (n : ℕ) → ((i : ℕ) → i < n → f i ≡ true → g i ≡ true) → count f n ≤ count g n
unfolding count
count_mono f g zero h = omega arith
count_mono f g (suc n) h =
    let k = count_mono f g n (λ i k. h i (omega arith)) in
    omega (arith, step_mono 0 (f n) (g n) (count f n) (count g n) (h n (omega arith)) (omega arith))

step_more : (b d : Bool) (c e : ℕ) → b ≡ false → d ≡ true → c ≤ e → 1 + cond b (suc c) c ≤ cond d (suc e) e
step_more b d c e p q h = rw (p, q) (omega arith)

-- one more number passes
pub count_more : (f g : ℕ → Bool) (n : ℕ) → ((i : ℕ) → i < n → f i ≡ true → g i ≡ true) →
    (j : ℕ) → j < n → f j ≡ false → g j ≡ true → 1 + count f n ≤ count g n
unfolding count
count_more f g zero h j k p q = absurd (not-suc-le-zero k)
count_more f g (suc n) h j k p q = go (ℕ_discrete j n) (λ l. count_more f g n (λ i k. h i (omega arith)) j l p q)
  where
    go : Dec (j ≡ n) → (j < n → 1 + count f n ≤ count g n) → 1 + count f (suc n) ≤ count g (suc n)
    go (yes e) r =
        step_more (f n) (g n) (count f n) (count g n) (subst (λ (i : ℕ). f i ≡ false) e p) (subst (λ (i : ℕ). g i ≡ true) e q)
        (count_mono f g n (λ i k. h i (omega arith)))
    go (no e) r = step_mono 1 (f n) (g n) (count f n) (count g n) (h n (omega arith)) (r (omega arith))
