-- Jobs whose new row is their old one: those that are prime already, and those that keep what they were decomposed by the round before, the
-- jobs after the rules of both keeping their rows. Assumes nothing.
use mathlib.Core.Path.{◌≡◌, refl, sym, ap, subst, ◌∙◌}
use mathlib.Core.Bool.{true}
use mathlib.Core.Logic.{⊎_elim}
use mathlib.Core.List.Memᴰ
use mathlib.Core.List.Memᴰ.{tail as there}
use mathlib.Core.List.{List, ◌∷◌, ◌++◌, Memᴰ}
use Prim.Native.Nat.{ℕ, ◌<◌}
use native.Mathlib.Omega.{arith}
use lib.ListN.{get_or}
use Rattle.bpa.specs.Plans.{Table, HasRule}
use Rattle.bpa.specs.Norms.{sum_of, Good}
use Rattle.bpa.specs.Method.{Rows, expand, precedes, lowering}
use Rattle.bpa.proofs.Basics.EachJob.{Each, each_over, expand_agree}
use Rattle.bpa.proofs.Judge.Candidates.{lowering_rule}
use Rattle.decompositions.specs.Decompositions.{
  Alone,
  Decomposition,
  Answers,
  Fits,
  Decomposes,
  NewRow,
  whole,
  parted,
  Refined,
  Refines,
}
use Rattle.decompositions.proofs.NewRows.{Earlier, earlier_plan, lowering_earlier, tail_lower, alone_expand}
use Rattle.decompositions.proofs.NoNewPrime.{prime_whole, primes_stay}

-- the jobs after the rules of z have the rows of the round before, and those earlier than y have them again
abbrev pub Keeps : Table → (norms : List ℕ) → (before d e : Rows) → (y z : ℕ) → Type 0
Keeps t ns before d e y z = (a : ℕ) (w : List ℕ) → HasRule t z a w →
    Each (λ j. (before j ≡ d j) × (precedes ns j y ≡ true → d j ≡ e j)) w

-- two plans that are equal by some rows are equal by others that agree with them
equal_too : (f f' : Rows) (w v tail : List ℕ) → Each (λ j. f j ≡ f' j) w → Each (λ j. f j ≡ f' j) v → Each (λ j. f j ≡ f' j) tail →
    expand f w ≡ expand f (v ++ tail) → expand f' w ≡ expand f' (v ++ tail)
equal_too f f' w v tail left right behind h =
    sym (expand_agree f f' w left) ∙ h
    ∙ expand_agree f f' (v ++ tail) (λ j m. ⊎_elim (right j) (behind j) (Memᴰ.append_cases v m))

module _ (t : Table) (ns : List ℕ) (g : Good t ns) where
  -- A PRIME STAYS AS IT IS
  pub prime_kept : (d e : Rows) → Decomposition t ns d → (y : ℕ) → Alone d y → NewRow t ns d e y (d y)
  prime_kept d e k y p = subst (NewRow t ns d e y) (sym p) (whole (λ x tail. prime_whole t ns g d e k y x tail p))

  -- a job whose row the last round did not change, after which the rows of earlier jobs were refined
  module _ (before d e : Rows) (kb : Decomposition t ns before) (k : Decomposition t ns d) (y : ℕ) (hy : y < t.jobs) (same : before y ≡ d y)
      (refined : Earlier t ns y (Refined t ns d e)) (own : Keeps t ns before d e y y)
    where
      -- it was decomposed into x and a tail, which fit it again
      module _ (x : ℕ) (tail : List ℕ) (first : Keeps t ns before d e y x) (h : Decomposes t ns before d y x tail) (is : d y ≡ x ∷ tail) where
        in_row : (j : ℕ) → Memᴰ j tail → Memᴰ j (d y)
        in_row j m = rw is (there m)

        tail_old : Each (λ j. before j ≡ d j) tail
        tail_old j m = (kb y hy).primes j (rw same (in_row j m)) ∙ sym ((k y hy).primes j (in_row j m))

        prime_stays : (j : ℕ) → j < t.jobs → precedes ns j y ≡ true → Alone d j → Alone e j
        prime_stays j l p = primes_stay t ns g d e k j (refined j l p)

        tail_new : Each (λ j. d j ≡ e j) tail
        tail_new j m =
            let alone : Alone d j = (k y hy).primes j (in_row j m) in
            alone
            ∙ sym
            (prime_stays j (each_over t (d y) (k y hy).inside j (in_row j m)) (tail_lower t ns g d y hy x tail h.ends h.is_job j m) alone)

        -- a row after a rule of y or of x
        after_new : (z a : ℕ) (w : List ℕ) → Keeps t ns before d e y z → HasRule t z a w → sum_of ns w < get_or ns y 0 → Each (λ j. d j ≡ e j) w
        after_new z a w keeps r l j m =
            (keeps a w r j m).1 (earlier_plan t ns (λ i. precedes ns i y ≡ true) y w (λ i b q. q) (g.closed z a w r) l j m)

        answers_again : (a : ℕ) (w v : List ℕ) → HasRule t y a w → HasRule t x a v → Answers ns before d y tail w v → Answers ns d e y tail w v
        answers_again a w v r s n = record {
          norm = n.norm;
          by_new = λ l.
              equal_too d e w v tail (after_new y a w own r l) (after_new x a v first s (omega (arith, n.norm))) tail_new (n.by_new l);
          by_old = λ l.
              equal_too before d w v tail (λ j m. (own a w r j m).0) (λ j m. (first a v s j m).0) tail_old (n.by_old l);
        }

        fits_again : Fits t ns d e y x tail
        fits_again = record {
          equal = sym (alone_expand d (d y) (k y hy).primes) ∙ ap (expand d) is;
          forth = λ a w r. let (v, s, n) = h.fits.forth a w r in (v, s, answers_again a w v r s n);
          back = λ a v s. let (w, r, n) = h.fits.back a v s in (w, r, answers_again a w v r s n);
        }

        lowering_new : Each (λ j. d j ≡ e j) (lowering ns t.rules y)
        lowering_new j m =
            let (a, r, f) = lowering_rule t ns g y hy in
            (own a (lowering ns t.rules y) r j m).1 (lowering_earlier t ns g (λ i. precedes ns i y ≡ true) y hy (λ i b q. q) j m)

        decomposes_again : Decomposes t ns d e y x tail
        decomposes_again = record {
          is_job = h.is_job;
          earlier = h.earlier;
          prime = prime_stays x h.is_job h.earlier h.prime;
          ends = record {
            front = h.ends.front;
            parts = sym (expand_agree d e (lowering ns t.rules y) lowering_new) ∙ h.ends.parts;
            norm = h.ends.norm;
          };
          fits = fits_again;
        }

      kept : (row : List ℕ) → d y ≡ row → Keeps t ns before d e y (get_or row 0 0) → NewRow t ns before d y row → NewRow t ns d e y row
      kept _ is first (whole none) = subst (NewRow t ns d e y) is (prime_kept d e k y is)
      kept _ is first (parted x tail h) = parted x tail (decomposes_again x tail first h is)

  -- A ROW STAYS: the rules of the job, and of the first job of its row, lead to jobs that keep their rows
  pub row_kept : (before d e : Rows) → Decomposition t ns before → Decomposition t ns d → Refines t ns before d →
      (y : ℕ) → y < t.jobs → before y ≡ d y → Earlier t ns y (Refined t ns d e) →
      Keeps t ns before d e y y → Keeps t ns before d e y (get_or (d y) 0 0) → NewRow t ns d e y (d y)
  row_kept before d e kb k r y hy same refined own first =
      kept before d e kb k y hy same refined own (d y) refl first (r y hy)
