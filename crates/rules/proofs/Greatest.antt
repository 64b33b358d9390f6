-- Whether all jobs of a row are below a bound, told by the greatest of them. Assumes nothing.
use mathlib.Core.Path.{◌≡◌, ◌∙◌, sym, ap}
use mathlib.Core.Bool.{Bool, true, ◌&&◌}
use mathlib.Core.List.{List}
use Prim.Native.Nat.{ℕ, ◌+◌, ◌≤◌, ◌<◌, max}
use native.Mathlib.Numerals.{add-one}
use native.Mathlib.Omega.{arith}
use lib.Dec.{ltb}
use lib.ListN.{length, get_or, drop, drop_of_length-le}
use lib.Seq.{drop-cons}
use borrow.Author.Tests.{lt-ltb, le-ltb, ltb-true, ltb-false}
use Rattle.bpa.specs.Plans.{all_below}
use Rattle.bpa.proofs.Basics.Cases.{by_test}

module _ (p : List ℕ) (k : ℕ) where
  below_next : (n : ℕ) → k < length p → all_below n (drop k p) ≡ (ltb (get_or p k 0) n && all_below n (drop (k + 1) p))
  unfolding all_below
  below_next n h = rw (add-one, drop-cons p k 0)

  below_end : (n : ℕ) → length p ≤ k → all_below n (drop k p) ≡ true
  unfolding all_below
  below_end n h = ap (all_below n) (drop_of_length-le p h)

-- of two jobs the greater one tells
module _ (m b n : ℕ) (rest : Bool) where
  greater_tells : m ≤ b → (ltb m n && (ltb b n && rest)) ≡ (ltb b n && rest)
  greater_tells h = by_test (ltb m n) (λ e. rw e) (λ e. rw (e, le-ltb b n (omega (arith, ltb-false m n e))))

  lesser_goes : b ≤ m → (ltb m n && (ltb b n && rest)) ≡ (ltb m n && rest)
  lesser_goes h = by_test (ltb m n) (λ e. rw (e, lt-ltb b n (omega (arith, ltb-true m n e)))) (λ e. rw e)

  tells : (g : ℕ) → m ≤ g → b ≤ g → (b ≤ m → g ≡ m) → (m ≤ b → g ≡ b) → (ltb m n && (ltb b n && rest)) ≡ (ltb g n && rest)
  tells g f h x y =
      by_test (ltb m b) (λ t. let e : g ≡ b = y (omega (arith, ltb-true m b t)) in rw e (greater_tells (omega (arith, ltb-true m b t))))
      (λ t. let e : g ≡ m = x (ltb-false m b t) in rw e (lesser_goes (ltb-false m b t)))

-- all of a row are below a bound if the greatest of those passed and all that are left are
pub record Greatest (p : List ℕ) (most k : ℕ) : Type 0 where
  pub told : (n : ℕ) → 0 < length p → all_below n p ≡ (ltb most n && all_below n (drop k p))

pub greatest_none : (p : List ℕ) → Greatest p 0 0
greatest_none p = record {
  told = λ n h.
      let e = below_next p 0 n h in
      e ∙ sym (ap (λ (b : Bool). ltb 0 n && b) e ∙ greater_tells 0 (get_or p 0 0) n (all_below n (drop 1 p)) (omega arith));
}

pub greatest_more : (p : List ℕ) (most k g : ℕ) → Greatest p most k → k < length p → g ≡ max (get_or p k 0) most → Greatest p g (k + 1)
greatest_more p most k g t h e = record {
  told = λ n z.
      t.told n z ∙ ap (λ (r : Bool). ltb most n && r) (below_next p k n h)
      ∙ tells most (get_or p k 0) n (all_below n (drop (k + 1) p)) g (omega arith) (omega arith) (λ (a : get_or p k 0 ≤ most). omega arith) (λ (a : most ≤ get_or p k 0). omega arith);
}

and-true : (a b : Bool) → b ≡ true → (a && b) ≡ a
and-true a b e = by_test a (λ t. rw t e ∙ sym t) (λ f. rw f)

pub greatest_all : (p : List ℕ) (most k : ℕ) → Greatest p most k → length p ≤ k → (n : ℕ) → 0 < length p → all_below n p ≡ ltb most n
greatest_all p most k t h n z = t.told n z ∙ and-true (ltb most n) (all_below n (drop k p)) (below_end p k n h)

pub empty_below : (p : List ℕ) → length p ≡ 0 → (n : ℕ) → all_below n p ≡ true
empty_below p h n = below_end p 0 n (omega arith)
