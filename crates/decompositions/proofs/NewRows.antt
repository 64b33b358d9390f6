-- The new row of a job: it depends on the new rows of earlier jobs only, it is decomposed again, and it stands for the same old row.
-- Expansions by decomposed rows. Assumes nothing.
use mathlib.Core.Path.{◌≡◌, refl, sym, ap₂, subst, ◌∙◌}
use mathlib.Core.Bool.{true}
use mathlib.Core.Logic.{inl, inr, ⊎_elim}
use mathlib.Core.List.{List, [], ◌∷◌, ◌++◌, append-nil}
use mathlib.Core.List.Memᴰ.{head as here}
use mathlib.Core.List.Memᴰ.{tail as there}
use mathlib.Core.List.Memᴰ
use Prim.Native.Nat.{ℕ, ◌≤◌, ◌<◌}
use native.Mathlib.Omega.{arith}
use lib.ListN.{length, get_or}
use Rattle.bpa.specs.Plans.{Table, over}
use Rattle.bpa.specs.Norms.{sum_of, Good}
use Rattle.bpa.specs.Method.{Rows, expand, precedes, lowering}
use Rattle.bpa.proofs.Basics.Plans.{over_cons, over_none, over_one, over_append, over_right, sum_append, sum_one, norm_positive}
use Rattle.bpa.proofs.Basics.Order.{less_precedes}
use Rattle.bpa.proofs.Basics.EachJob.{Each, each_over, each_norm, expand_agree, expand_each}
use Rattle.bpa.proofs.Judge.Rows.{expand_append}
use Rattle.bpa.proofs.Judge.Candidates.{lowering_rule}
use Rattle.bpa.proofs.Basics.SameSteps.{SameSteps}
use Rattle.bpa.proofs.Forms.PrimeRows.{some_job}
use Rattle.decompositions.specs.Decompositions.{Alone, Decomposed, Answers, Fits, Tail, Decomposes, NewRow, whole, parted, Refined}

-- what holds of the jobs before a job, in the order of jobs
abbrev pub Earlier : Table → (norms : List ℕ) → (job : ℕ) → (ℕ → Type 0) → Type 0
Earlier t ns y P = (j : ℕ) → j < t.jobs → precedes ns j y ≡ true → P j

-- EXPANSIONS
expand_inside : (t : Table) (d : Rows) (p : List ℕ) → Each (λ j. over t (d j) ≡ true) p → over t (expand d p) ≡ true
unfolding expand
expand_inside t d [] h = over_none t
expand_inside t d (j ∷ js) h =
    over_append t (d j) (expand d js) (h j (here refl)) (expand_inside t d js (λ i m. h i (there m)))

-- if the row of each job in e stands for its row in d, an expansion by e stands for the one by d
pub expand_through : (d e : Rows) (p : List ℕ) → Each (λ j. expand d (e j) ≡ d j) p → expand d (expand e p) ≡ expand d p
unfolding expand
expand_through d e [] h = refl
expand_through d e (j ∷ js) h =
    expand_append d (e j) (expand e js) ∙ ap₂ ◌++◌ (h j (here refl)) (expand_through d e js (λ i m. h i (there m)))

-- jobs that are prime in the rows stand for themselves
pub alone_expand : (d : Rows) (p : List ℕ) → Each (Alone d) p → expand d p ≡ p
unfolding expand
alone_expand d [] h = refl
alone_expand d (j ∷ js) h = ap₂ ◌++◌ (h j (here refl)) (alone_expand d js (λ i m. h i (there m)))

module _ (t : Table) (ns : List ℕ) (d : Rows) where
  pub expanded_norm : (p : List ℕ) → Each (Decomposed t ns d) p → sum_of ns (expand d p) ≡ sum_of ns p
  unfolding expand sum_of
  expanded_norm [] h = refl
  expanded_norm (j ∷ js) h =
      omega (arith, sum_append ns (d j) (expand d js), (h j (here refl)).norm, expanded_norm js (λ i m. h i (there m)))

  pub expanded_over : (p : List ℕ) → Each (Decomposed t ns d) p → over t (expand d p) ≡ true
  expanded_over p h = expand_inside t d p (λ j m. (h j m).inside)

  pub expanded_primes : (p : List ℕ) → Each (Decomposed t ns d) p → Each (Alone d) (expand d p)
  expanded_primes p h = expand_each d (Alone d) p (λ j m. (h j m).primes)

  pub decomposed_some : Good t ns → (j : ℕ) → j < t.jobs → Decomposed t ns d j → 1 ≤ length (d j)
  decomposed_some g j l h = some_job ns (d j) (omega (arith, norm_positive t ns g j l, h.norm))

-- a job that is decomposed into x and a tail has the steps of x
pub decomposes_same_steps : (t : Table) (ns : List ℕ) (d e : Rows) (y x : ℕ) (tail : List ℕ) →
    Decomposes t ns d e y x tail → SameSteps t ns y x
decomposes_same_steps t ns d e y x tail h = record {
  forth = λ a w r. let (v, s, k) = h.fits.forth a w r in (v, s, omega (arith, k.norm, h.ends.norm));
  back = λ a v s. let (w, r, k) = h.fits.back a v s in (w, r, omega (arith, k.norm, h.ends.norm));
}

-- the new row of a job stands for its old row
through : (t : Table) (ns : List ℕ) (d e : Rows) (y : ℕ) (row : List ℕ) → NewRow t ns d e y row → expand d row ≡ d y
unfolding expand
through t ns d e y _ (whole none) = append-nil (d y)
through t ns d e y _ (parted x tail h) = sym h.fits.equal

pub refined_through : (t : Table) (ns : List ℕ) (d e : Rows) (y : ℕ) → Refined t ns d e y → expand d (e y) ≡ d y
refined_through t ns d e y h = through t ns d e y (e y) h

-- a plan whose norm is below the norm of a job has earlier jobs only
pub earlier_plan : (t : Table) (ns : List ℕ) (P : ℕ → Type 0) (y : ℕ) (p : List ℕ) → Earlier t ns y P → over t p ≡ true →
    sum_of ns p < get_or ns y 0 → Each P p
earlier_plan t ns P y p h o l j m = h j (each_over t p o j m) (less_precedes ns j y (omega (arith, each_norm ns p j m)))

module _ (t : Table) (ns : List ℕ) (g : Good t ns) where
  -- the jobs after the first norm-lowering rule of a job are earlier ones
  pub lowering_earlier : (P : ℕ → Type 0) (y : ℕ) → y < t.jobs → Earlier t ns y P → Each P (lowering ns t.rules y)
  lowering_earlier P y hy h =
      let w : List ℕ = lowering ns t.rules y in
      let (a, r, e) = lowering_rule t ns g y hy in
      earlier_plan t ns P y w h (g.closed y a w r) (omega arith)

  module _ (e : Rows) (y : ℕ) (hy : y < t.jobs) (x : ℕ) (tail : List ℕ) (k : Tail t ns e y x tail) where
    pub tail_over : Earlier t ns y (λ j. over t (e j) ≡ true) → over t tail ≡ true
    tail_over o =
        over_right t k.front tail
        (subst (λ l. over t l ≡ true) k.parts
        (expand_inside t e (lowering ns t.rules y) (lowering_earlier (λ j. over t (e j) ≡ true) y hy o)))

    pub tail_primes : Earlier t ns y (λ j. Each (Alone e) (e j)) → Each (Alone e) tail
    tail_primes o j m =
        expand_each e (Alone e) (lowering ns t.rules y) (lowering_earlier (λ i. Each (Alone e) (e i)) y hy o) j
        (rw k.parts (Memᴰ.append_right k.front m))

    pub tail_lower : x < t.jobs → Each (λ j. precedes ns j y ≡ true) tail
    tail_lower hx j m = less_precedes ns j y (omega (arith, k.norm, norm_positive t ns g x hx, each_norm ns tail j m))

  -- A NEW ROW DEPENDS ON THE NEW ROWS OF EARLIER JOBS ONLY
  module _ (d e e' : Rows) (y : ℕ) (hy : y < t.jobs) (same : Earlier t ns y (λ j. e j ≡ e' j)) where
    plan_agree : (p : List ℕ) → over t p ≡ true → sum_of ns p < get_or ns y 0 → expand e p ≡ expand e' p
    plan_agree p o l = expand_agree e e' p (earlier_plan t ns (λ j. e j ≡ e' j) y p same o l)

    answers_agree : (tail w v : List ℕ) → over t tail ≡ true → over t w ≡ true → over t v ≡ true →
        Answers ns d e y tail w v → Answers ns d e' y tail w v
    answers_agree tail w v o oᵣ oᵥ h = record {
      norm = h.norm;
      by_new = λ l. sym (plan_agree w oᵣ l) ∙ h.by_new l
          ∙ plan_agree (v ++ tail) (over_append t v tail oᵥ o) (omega (arith, h.norm, sum_append ns v tail));
      by_old = h.by_old;
    }

    fits_agree : (x : ℕ) (tail : List ℕ) → over t tail ≡ true → Fits t ns d e y x tail → Fits t ns d e' y x tail
    fits_agree x tail o h = record {
      equal = h.equal;
      forth = λ a w r.
          let (v, s, k) = h.forth a w r in
          (v, s, answers_agree tail w v o (g.closed y a w r) (g.closed x a v s) k);
      back = λ a v s.
          let (w, r, k) = h.back a v s in
          (w, r, answers_agree tail w v o (g.closed y a w r) (g.closed x a v s) k);
    }

    decomposes_agree : (x : ℕ) (tail : List ℕ) → Earlier t ns y (λ j. over t (e j) ≡ true) →
        Decomposes t ns d e y x tail → Decomposes t ns d e' y x tail
    decomposes_agree x tail o h = record {
      is_job = h.is_job;
      earlier = h.earlier;
      prime = sym (same x h.is_job h.earlier) ∙ h.prime;
      ends = record {
        front = h.ends.front;
        parts = sym (expand_agree e e' (lowering ns t.rules y) (lowering_earlier (λ j. e j ≡ e' j) y hy same)) ∙ h.ends.parts;
        norm = h.ends.norm;
      };
      fits = fits_agree x tail (tail_over e y hy x tail h.ends o) h.fits;
    }

  pub new_row_agree : (d e e' : Rows) (y : ℕ) (row : List ℕ) → y < t.jobs → Earlier t ns y (λ j. over t (e j) ≡ true) →
      Earlier t ns y (λ j. e j ≡ e' j) → NewRow t ns d e y row → NewRow t ns d e' y row
  new_row_agree d e e' y _ hy o same (whole none) =
      whole (λ x tail h.
      none x tail
      (decomposes_agree d e' e y hy (λ j l k. sym (same j l k)) x tail
      (λ j l k. subst (λ r. over t r ≡ true) (same j l k) (o j l k)) h))
  new_row_agree d e e' y _ hy o same (parted x tail h) = parted x tail (decomposes_agree d e e' y hy same x tail o h)

  -- A NEW ROW IS DECOMPOSED
  module _ (d e : Rows) (y : ℕ) (hy : y < t.jobs) (before : Earlier t ns y (Decomposed t ns e)) where
    row_decomposed : (row : List ℕ) → e y ≡ row → NewRow t ns d e y row → Decomposed t ns e y
    unfolding sum_of
    row_decomposed _ p (whole none) = record {
      inside = rw p (over_one t y hy);
      norm = rw p (sum_one ns y);
      primes = λ m k. subst (Alone e) (sym (Memᴰ.eq_of_singleton (rw p at k))) p;
      lower = λ m k. inl (Memᴰ.eq_of_singleton (rw p at k));
    }
    row_decomposed _ p (parted x tail h) = record {
      inside =
          rw p
          (over_cons t x tail h.is_job (tail_over e y hy x tail h.ends (λ j l k. (before j l k).inside)));
      norm = rw p h.ends.norm;
      primes = λ m k.
          ⊎_elim (λ (q : m ≡ x). subst (Alone e) (sym q) h.prime)
          (tail_primes e y hy x tail h.ends (λ j l k. (before j l k).primes) m) (Memᴰ.cases_cons (rw p at k));
      lower = λ m k.
          inr
          (⊎_elim (λ (q : m ≡ x). subst (λ j. precedes ns j y ≡ true) (sym q) h.earlier)
          (tail_lower e y hy x tail h.ends h.is_job m) (Memᴰ.cases_cons (rw p at k)));
    }

    pub new_row_decomposed : Refined t ns d e y → Decomposed t ns e y
    new_row_decomposed h = row_decomposed (e y) refl h
