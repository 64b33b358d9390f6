-- A refinement keeps primes prime; if it makes no new ones, the rows are the same; and if it makes one, the count of the jobs that are
-- not prime falls. Assumes nothing.
use mathlib.Core.Path.{◌≡◌, refl, sym, ap, ◌∙◌}
use mathlib.Core.Bool.{Bool, true, false, not, true≢false}
use mathlib.Core.Logic.{⊎_elim}
use mathlib.Core.List.Memᴰ.{head as here}
use mathlib.Core.List.{List, [], ◌∷◌, ◌++◌, Memᴰ}
use Prim.Native.Nat.{ℕ, ◌≤◌, ◌<◌}
use native.Mathlib.Omega.{arith}
use lib.Dec.{eqb}
use lib.ListN.{length}
use borrow.Author.Tests.{eqb-true, eq-eqb}
use Rattle.bpa.specs.Plans.{Table}
use Rattle.bpa.specs.Norms.{Good}
use Rattle.bpa.specs.Method.{Rows, expand, precedes}
use Rattle.bpa.proofs.Basics.Cases.{by_test, never_both}
use Rattle.bpa.proofs.Basics.Order.{precedes_distinct, precedes_once}
use Rattle.bpa.proofs.Basics.Counting.{count, count_more}
use Rattle.bpa.proofs.Basics.EachJob.{each_over}
use Rattle.decompositions.specs.Decompositions.{Alone, Decomposition, Decomposes, NewRow, whole, parted, Refined, Refines, NoNewPrime}
use Rattle.decompositions.proofs.NewRows.{alone_expand, decomposed_some, refined_through}

-- if a row with a row behind it is one job alone, and the first has a job, it has that one
first_part : (r s : List ℕ) (y : ℕ) → 1 ≤ length r → r ++ s ≡ y ∷ [] → Memᴰ y r
first_part [] s y l e = absurd (omega arith)
first_part (z ∷ r) s y l e = let q : y ≡ z = cc in here q

module _ (t : Table) (ns : List ℕ) (g : Good t ns) (d e : Rows) (k : Decomposition t ns d) where
  -- a job that is prime in the old rows is not decomposed
  pub prime_whole : (y x : ℕ) (tail : List ℕ) → Alone d y → Decomposes t ns d e y x tail → ⊥
  unfolding expand
  prime_whole y x tail p h =
      let m : Memᴰ y (d x) =
      first_part (d x) (expand d tail) y (decomposed_some t ns d g x h.is_job (k x h.is_job)) (sym h.fits.equal ∙ p) in
      ⊎_elim (λ (q : y ≡ x). precedes_distinct ns x y h.earlier (sym q))
      (λ (q : precedes ns y x ≡ true). never_both (precedes ns y x) q (precedes_once ns x y h.earlier))
      ((k x h.is_job).lower y m)

  -- PRIMES STAY PRIME
  row_stays : (y : ℕ) (row : List ℕ) → NewRow t ns d e y row → Alone d y → row ≡ y ∷ []
  row_stays y _ (whole none) p = refl
  row_stays y _ (parted x tail h) p = absurd (prime_whole y x tail p h)

  pub primes_stay : (y : ℕ) → Refined t ns d e y → Alone d y → Alone e y
  primes_stay y h p = row_stays y (e y) h p

-- NO NEW PRIME: THE ROWS ARE THE SAME
pub same_rows : (t : Table) (ns : List ℕ) (d e : Rows) → Decomposition t ns e → Refines t ns d e → NoNewPrime t d e →
    (j : ℕ) → j < t.jobs → e j ≡ d j
same_rows t ns d e k h none j l =
    sym (alone_expand d (e j) (λ m i. none m (each_over t (e j) (k j l).inside m i) ((k j l).primes m i)))
    ∙ refined_through t ns d e j (h j l)

-- whether a row is a job alone
unfoldable pub alone_row : (job : ℕ) → (row : List ℕ) → Bool
alone_row j [] = false
alone_row j (x ∷ []) = eqb x j
alone_row j (x ∷ y ∷ r) = false

alone_row_true : (j : ℕ) (row : List ℕ) → alone_row j row ≡ true → row ≡ j ∷ []
unfolding alone_row
alone_row_true j [] h = cc
alone_row_true j (x ∷ []) h = ap (λ i. i ∷ []) (eqb-true x j h)
alone_row_true j (x ∷ y ∷ r) h = cc

alone_row_this : (j : ℕ) (row : List ℕ) → row ≡ j ∷ [] → alone_row j row ≡ true
unfolding alone_row
alone_row_this j row h = rw h (eq-eqb j j refl)

unfoldable pub alone_test : Rows → (job : ℕ) → Bool
alone_test d j = alone_row j (d j)

pub alone_true : (d : Rows) (j : ℕ) → alone_test d j ≡ true → Alone d j
unfolding alone_test
alone_true d j h = alone_row_true j (d j) h

pub true_alone : (d : Rows) (j : ℕ) → Alone d j → alone_test d j ≡ true
unfolding alone_test
true_alone d j h = alone_row_this j (d j) h

-- THE MEASURE: how many jobs of the table are not prime in the rows
unfoldable pub composite : Table → Rows → ℕ
composite t d = count (λ j. not (alone_test d j)) t.jobs

module _ (t : Table) (d e : Rows) (stay : (j : ℕ) → j < t.jobs → Alone d j → Alone e j) where
  composite_stays : (j : ℕ) → j < t.jobs → not (alone_test e j) ≡ true → not (alone_test d j) ≡ true
  composite_stays j l h =
      by_test (alone_test d j)
      (λ p. absurd (true≢false (sym (rw (true_alone e j (stay j l (alone_true d j p))) at h)))) (λ p. rw p)

  pub composite_falls : (j : ℕ) → j < t.jobs → Alone e j → (Alone d j → ⊥) → composite t e < composite t d
  unfolding composite
  composite_falls j l p q =
      omega (
        arith,
        count_more (λ i. not (alone_test e i)) (λ i. not (alone_test d i)) t.jobs composite_stays j l
            (rw (true_alone e j p)) (by_test (alone_test d j) (λ h. absurd (q (alone_true d j h))) (λ h. rw h)),
      )
