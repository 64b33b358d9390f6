-- Rows as parts of their region, and a plan's expansion from a place on. Assumes nothing.
use mathlib.Core.Path.{◌≡◌, refl, sym, ap, ap₂, subst, ◌∙◌}
use mathlib.Core.Bool.{true}
use mathlib.Core.List.{List, [], ◌∷◌, ◌++◌}
use Prim.Native.Nat.{ℕ, suc, ◌+◌, ◌*◌, ◌-◌, ◌≤◌, ◌<◌}
use native.Mathlib.Numerals.{add-one}
use native.Mathlib.Omega.{arith}
use lib.ListN.{length, get_or, take, drop, drop_of_length-le}
use lib.Seq.{drop-cons, drop-drop, take-add, slice, slice-cons}
use Rattle.area.proofs.Parts.{part}
use Rattle.bpa.specs.Plans.{all_below}
use Rattle.bpa.specs.Method.{Rows, expand}
use Rattle.bpa.proofs.Basics.JobsBelow.{below_at}
use Rattle.rows.specs.Region.{row, Within}

pub expand_at : (e : Rows) (p : List ℕ) (i : ℕ) → i < length p →
    expand e (drop i p) ≡ e (get_or p i 0) ++ expand e (drop (i + 1) p)
unfolding expand
expand_at e p i l = rw (drop-cons p i 0 l, add-one)

pub expand_end : (e : Rows) (p : List ℕ) (i : ℕ) → length p ≤ i → expand e (drop i p) ≡ []
unfolding expand
expand_end e p i l = rw (drop_of_length-le p l)

row_slice : (lens region : List ℕ) (j : ℕ) → row lens region j ≡ slice (512 * j) (512 * j + get_or lens j 0) region
unfolding row
row_slice lens region j = part (512 * j) (get_or lens j 0) region

joined : (k n d : ℕ) (l : List ℕ) → slice k (k + n + d) l ≡ slice k (k + n) l ++ slice (k + n) (k + n + d) l
joined k n d l =
    let e : k + n + d ≡ k + (n + d) = omega arith in
    ap (λ (m : ℕ). slice k m l) e
    ∙ sym (part k (n + d) l)
    ∙ take-add n d (drop k l)
    ∙ ap₂ ◌++◌ (part k n l) (ap (take d) (drop-drop n k l) ∙ part (k + n) d l)

-- a part of a list is its first n places and what is behind them
pub slice_split : (k n stop : ℕ) (l : List ℕ) → k + n ≤ stop → slice k stop l ≡ slice k (k + n) l ++ slice (k + n) stop l
slice_split k n stop l h =
    let d = stop - (k + n) in
    let e : k + n + d ≡ stop = omega arith in
    subst (λ (m : ℕ). slice k m l ≡ slice k (k + n) l ++ slice (k + n) m l) e (joined k n d l)

module _ (n : ℕ) (lens region : List ℕ) (w : Within n lens region) where
  pub row_inside : (j : ℕ) → j < n → 512 * j + get_or lens j 0 ≤ length region
  row_inside j l = omega (arith, w.few, w.size, w.short j l)

  -- the expansion of a plan from the job x at a place on, as a part of the region and the expansion behind it
  pub enter : (p : List ℕ) (i : ℕ) → i < length p → (x : ℕ) → x ≡ get_or p i 0 →
      expand (row lens region) (drop i p) ≡ slice (512 * x) (512 * x + get_or lens x 0) region ++ expand (row lens region) (drop (i + 1) p)
  enter p i l x e = rw (e, expand_at (row lens region) p i l, row_slice lens region (get_or p i 0))

  pub enter_cons : (p : List ℕ) (i : ℕ) → all_below n p ≡ true → i < length p →
      (x : ℕ) × (xs : List ℕ) × (expand (row lens region) (drop i p) ≡ x ∷ xs)
  enter_cons p i b l =
      let j = get_or p i 0 in
      let h : j < n = below_at n p i b l in (
        get_or region (512 * j) 0,
        slice (suc (512 * j)) (512 * j + get_or lens j 0) region ++ expand (row lens region) (drop (i + 1) p),
        rw (enter p i l j refl, slice-cons (512 * j) (512 * j + get_or lens j 0) region 0 (omega (arith, w.some j h)) (row_inside j h)),
      )
