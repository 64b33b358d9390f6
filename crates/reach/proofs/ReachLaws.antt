-- Reaches: none, one number alone, those of two, and the same said otherwise. Assumes nothing.
use mathlib.Core.Path.{◌≡◌, refl, sym, ◌∙◌, subst}
use mathlib.Core.Logic.{◌↔◌, ◌⊎◌, inl, inr, ⊎_elim}
use Prim.Native.Nat.{ℕ, ◌+◌, ◌-◌, ◌^◌, ◌≤◌, ◌<◌, min}
use native.Mathlib.Omega.{arith}
use lib.Dec.{leb}
use borrow.Author.Tests.{leb-true, leb-false}
use Rattle.bpa.proofs.Basics.Cases.{by_test}
use Rattle.reach.specs.Reaches.{HoldsWord, Reaches, Alone, Joins}
use Rattle.reach.specs.declared.Reach.{Reach}
use Rattle.reach.proofs.WordBits.{holds_none, holds_one, holds_either, holds_as}

-- no number, and a least
pub reaches_none : (d : ℕ) → d ≤ 128 → Reaches (λ e. ⊥) (λ e. e ≡ d) (record { low = 0; high = 0; least = d })
reaches_none d h = record {
  low_holds = holds_none;
  high_holds = holds_none;
  small = λ e n. absurd n;
  got = refl;
  fewest = λ e k. omega (arith, k);
  short = h;
}

-- the bits of no number, with the least that there is
pub reaches_cleared : {E G : ℕ → Type 0} {a : Reach} → Reaches E G a → Reaches (λ e. ⊥) G (record { low = 0; high = 0; least = a.least })
reaches_cleared r = record {
  low_holds = holds_none;
  high_holds = holds_none;
  small = λ e n. absurd n;
  got = r.got;
  fewest = r.fewest;
  short = r.short;
}

-- one number alone
never : (w : ℕ) (A : ℕ → Type 0) → ((k : ℕ) → k < 64 → A k → ⊥) → HoldsWord 0 A
never w A f k h = ((λ e. absurd ((holds_none k h).0 e)), (λ a. absurd (f k h a)))

pub reaches_low : (d : ℕ) → d < 64 → Alone d (record { low = 2 ^ d; high = 0; least = d })
reaches_low d h = record {
  low_holds = holds_one d;
  high_holds = never d (λ k. 64 + k ≡ d) (λ k l e. omega (arith, e));
  small = λ e k. omega (arith, k);
  got = refl;
  fewest = λ e k. omega (arith, k);
  short = omega arith;
}

pub reaches_high : (d : ℕ) → 64 ≤ d → d < 128 → Alone d (record { low = 0; high = 2 ^ (d - 64); least = d })
reaches_high d h l = record {
  low_holds = never d (λ k. k ≡ d) (λ k m e. omega (arith, e));
  high_holds = holds_as (2 ^ (d - 64)) (λ k. k ≡ d - 64) (λ k. 64 + k ≡ d) (λ k. ((λ e. omega (arith, e)), (λ e. omega (arith, e)))) (holds_one (d - 64));
  small = λ e k. omega (arith, k);
  got = refl;
  fewest = λ e k. omega (arith, k);
  short = omega arith;
}

-- those of two
module _ {E G F H : ℕ → Type 0} {a b c : Reach} (r : Reaches E G a) (s : Reaches F H b) (j : Joins a b c) where
  chosen : G c.least ⊎ H c.least
  chosen =
      by_test (leb a.least b.least)
      (λ e. inl (subst G (sym (j.least_is ∙ left a.least b.least (leb-true a.least b.least e))) r.got))
      (λ e. inr (subst H (sym (j.least_is ∙ right a.least b.least (leb-false a.least b.least e))) s.got))
    where
      left : (m n : ℕ) → m ≤ n → min m n ≡ m
      left m n h = omega arith

      right : (m n : ℕ) → n < m → min m n ≡ n
      right m n h = omega arith

  pub reaches_joined : Reaches (λ e. E e ⊎ F e) (λ e. G e ⊎ H e) c
  reaches_joined = record {
    low_holds = subst (λ (n : ℕ). HoldsWord n (λ k. E k ⊎ F k)) (sym j.low_is) (holds_either a.low b.low E F r.low_holds s.low_holds);
    high_holds = subst (λ (n : ℕ). HoldsWord n (λ k. E (64 + k) ⊎ F (64 + k))) (sym j.high_is)
        (holds_either a.high b.high (λ k. E (64 + k)) (λ k. F (64 + k)) r.high_holds s.high_holds);
    small = λ e k. ⊎_elim (r.small e) (s.small e) k;
    got = chosen;
    fewest = λ e k.
        ⊎_elim (λ (g : G e). omega (arith, r.fewest e g, j.least_is)) (λ (h : H e). omega (arith, s.fewest e h, j.least_is)) k;
    short = omega (arith, r.short, j.least_is);
  }

-- the same numbers, said otherwise
pub reaches_as : {E G F H : ℕ → Type 0} {a : Reach} → ((e : ℕ) → E e ↔ F e) → ((e : ℕ) → G e ↔ H e) → Reaches E G a → Reaches F H a
reaches_as {E} {G} {F} {H} {a} f g r = record {
  low_holds = holds_as a.low E F f r.low_holds;
  high_holds = holds_as a.high (λ k. E (64 + k)) (λ k. F (64 + k)) (λ k. f (64 + k)) r.high_holds;
  small = λ e k. r.small e ((f e).1 k);
  got = (g a.least).0 r.got;
  fewest = λ e k. r.fewest e ((g e).1 k);
  short = r.short;
}
