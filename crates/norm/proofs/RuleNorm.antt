-- The norm by way of a rule, job by job: what is counted and what is left. Assumes nothing.
use mathlib.Core.Path.{◌≡◌, sym, ap, ap₂, ◌∙◌, subst}
use mathlib.Core.Bool.{Bool, ◌&&◌, cond}
use mathlib.Core.List.{List}
use Prim.Native.Nat.{ℕ, suc, ◌+◌, ◌≤◌, ◌<◌}
use native.Mathlib.Numerals.{add-one}
use native.Mathlib.Omega.{arith}
use lib.Dec.{ltb}
use lib.ListN.{length, get_or, drop, drop_of_length-le}
use lib.Seq.{drop-cons}
use borrow.Author.Tests.{lt-ltb}
use Rattle.bpa.specs.Norms.{sum_of, all_known}
use Rattle.norm.specs.NormArrays.{norm_by}

-- k jobs counted to a sum
unfoldable pub Counted : (norms after : List ℕ) → (sum k : ℕ) → Type 0
Counted ns w sum k = cond (all_known ns (drop k w)) (sum + sum_of ns (drop k w)) 0 ≡ norm_by ns w

pub counted_none : (ns w : List ℕ) → Counted ns w 1 0
unfolding Counted norm_by
counted_none ns w =
    let e : 1 + sum_of ns w ≡ suc (sum_of ns w) = omega arith in
    ap (λ (x : ℕ). cond (all_known ns w) x 0) e

-- v is the norm of the next job
module _ (ns w : List ℕ) (sum k v : ℕ) (h : k < length w) (is : v ≡ get_or ns (get_or w k 0) 0) (c : Counted ns w sum k) where
  next_counted : cond (ltb 0 v && all_known ns (drop (suc k) w)) (sum + (v + sum_of ns (drop (suc k) w))) 0 ≡ norm_by ns w
  unfolding Counted all_known sum_of
  next_counted =
      ap (λ (x : ℕ). cond (ltb 0 x && all_known ns (drop (suc k) w)) (sum + (x + sum_of ns (drop (suc k) w))) 0) is
      ∙ subst (λ (l : List ℕ). cond (all_known ns l) (sum + sum_of ns l) 0 ≡ norm_by ns w) (drop-cons w k 0 h) c

  pub counted_unknown : v ≡ 0 → norm_by ns w ≡ 0
  counted_unknown e =
      sym (ap (λ (x : ℕ). cond (ltb 0 x && all_known ns (drop (suc k) w)) (sum + (x + sum_of ns (drop (suc k) w))) 0) (sym e) ∙ next_counted)

  pub counted_more : 0 < v → Counted ns w (sum + v) (k + 1)
  unfolding Counted
  counted_more l =
      let s = sum_of ns (drop (suc k) w) in
      let e : sum + v + s ≡ sum + (v + s) = omega arith in
      ap (λ (i : ℕ). cond (all_known ns (drop i w)) (sum + v + sum_of ns (drop i w)) 0) (add-one k)
      ∙ ap₂ (λ (b : Bool) (x : ℕ). cond (b && all_known ns (drop (suc k) w)) x 0) (sym (lt-ltb 0 v l)) e
      ∙ next_counted

pub counted_all : (ns w : List ℕ) (sum k : ℕ) → length w ≤ k → Counted ns w sum k → norm_by ns w ≡ sum
unfolding Counted all_known sum_of
counted_all ns w sum k h c =
    let e : sum + 0 ≡ sum = omega arith in
    sym (subst (λ (l : List ℕ). cond (all_known ns l) (sum + sum_of ns l) 0 ≡ norm_by ns w) (drop_of_length-le w h) c) ∙ e
