-- The live jobs of a judge: those that may still stand in its rows. Each turn takes one away, so turns are no more than jobs. Assumes nothing.
use mathlib.Core.Path.{◌≡◌, refl, ap}
use mathlib.Core.Bool.{Bool, true, not, ◌&&◌, and-false}
use mathlib.Core.List.{List, []}
use Prim.Native.Nat.{ℕ, ◌+◌, ◌≤◌, ◌<◌}
use native.Mathlib.Omega.{arith}
use lib.Dec.{eqb}
use lib.ListN.{get_or}
use borrow.Author.Tests.{eqb-false, eq-eqb, ne_eqb}
use Rattle.bpa.specs.Plans.{Table, over}
use Rattle.bpa.specs.Norms.{sum_of}
use Rattle.bpa.specs.Method.{Rows, expand, grow}
use Rattle.bpa.proofs.Basics.Cases.{by_test, and_left, and_both}
use Rattle.bpa.proofs.Basics.Counting.{count, count_more}
use Rattle.bpa.proofs.Basics.EachJob.{Each, each_none, each_cons, each_over, each_norm, expand_each}
use Rattle.bpa.proofs.Judge.Rows.{RowsNorm, instead, pair_row, expand_norm, grow_expand}

abbrev pub Live : (ℕ → Bool) → (row : List ℕ) → Type 0
Live live = Each (λ i. live i ≡ true)

abbrev pub RowsLive : Table → (live : ℕ → Bool) → Rows → Type 0
RowsLive t live e = (j : ℕ) → j < t.jobs → Live live (e j)

pub expand_live : (t : Table) (live : ℕ → Bool) (e : Rows) → RowsLive t live e → (p : List ℕ) → over t p ≡ true →
    Live live (expand e p)
expand_live t live e r p o = expand_each e (λ i. live i ≡ true) p (λ j m. r j (each_over t p o j m))

-- all jobs but one
unfoldable pub without : (live : ℕ → Bool) → (job : ℕ) → ℕ → Bool
without live y i = live i && not (eqb i y)

without_other : (live : ℕ → Bool) (y i : ℕ) → live i ≡ true → (i ≡ y → ⊥) → without live y i ≡ true
unfolding without
without_other live y i l d = and_both (live i) (not (eqb i y)) l (rw (ne_eqb i y d))

pub without_fewer : (live : ℕ → Bool) (y n : ℕ) → y < n → live y ≡ true → 1 + count (without live y) n ≤ count live n
unfolding without
without_fewer live y n h l =
    count_more (without live y) live n (λ i k m. and_left (live i) (not (eqb i y)) m) y h
    (rw (eq-eqb y y refl) (and-false (live y))) l

-- a job that was replaced by its pair with a lesser one never comes back, for the candidate has less norm
module _ (t : Table) (ns : List ℕ) (c : ℕ → ℕ → List ℕ) (e : Rows) (live : ℕ → Bool) (k : RowsNorm t ns e) (r : RowsLive t live e)
    (y x : ℕ) (o : over t (c y x) ≡ true) (s : sum_of ns (c y x) < get_or ns y 0) (l : live x ≡ true) (d : x ≡ y → ⊥) where
  row_live : Live (without live y) (pair_row c e y x)
  unfolding pair_row
  row_live =
      each_cons (λ i. without live y i ≡ true) x (expand e (c y x)) (without_other live y x l d)
      (λ i m. without_other live y i (expand_live t live e r (c y x) o i m)
      (λ a. let b : get_or ns i 0 ≡ get_or ns y 0 = ap (λ z. get_or ns z 0) a in
      omega (arith, each_norm ns (expand e (c y x)) i m, expand_norm t ns e k (c y x) o)))

  instead_live : (i : ℕ) → live i ≡ true → Live (without live y) (instead y (pair_row c e y x) i)
  unfolding instead
  instead_live i a =
      by_test (eqb i y) (λ b. rw b row_live)
      (λ b. rw b
      (each_cons (λ z. without live y z ≡ true) i [] (without_other live y i a (eqb-false i y b))
      (each_none (λ z. without live y z ≡ true))))

  pub grow_live : RowsLive t (without live y) (grow c e y x)
  grow_live j h =
      rw (grow_expand c e y x j)
      (expand_each (instead y (pair_row c e y x)) (λ i. without live y i ≡ true) (e j) (λ i m. instead_live i (r j h i m)))
