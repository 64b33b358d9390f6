-- From good norms to the prime rows, and from these to the answers. Assumes nothing.
use mathlib.Core.Path.{◌≡◌, sym, ap, ap₂, ◌∙◌, subst}
use mathlib.Core.Bool.{Bool, true}
use mathlib.Core.List.{List}
use Prim.Native.Nat.{ℕ, ◌+◌, ◌≤◌, ◌<◌, min}
use native.Mathlib.Omega.{arith}
use lib.IntN.{ℤ, pos, negsuc}
use lib.ListN.{length, take}
use Rattle.bpa.specs.Plans.{Table, all_below, over}
use Rattle.bpa.specs.Norms.{sum_of, Good}
use Rattle.bpa.specs.Method.{expand, same, prime_form}
use Rattle.bpa.proofs.Basics.Cases.{same_test}
use Rattle.bpa.proofs.Basics.Plans.{length_norm}
use Rattle.decompositions.specs.Decompositions.{Final}
use Rattle.decompositions.proofs.Expansions.{decomposed_over, decomposed_norm}
use Rattle.rules.specs.Places.{table_of}
use Rattle.rows.specs.Region.{row, Within, Readable, Comparable, old_half}
use Rattle.rows.proofs.WrittenPlans.{within_readable}
use Rattle.form.specs.Written.{Tells}
use Rattle.form.proofs.Lengths.{form_long}
use Rattle.facts.specs.Columns.{norms_in, table_by, FactsAbout}
use Rattle.facts.specs.declared.Facts.{Facts}
use Rattle.facts.proofs.TableFacts.{tables}
use Rattle.refining.specs.Rounds.{FinalIn}
use Rattle.answer.specs.Answer.{Writes}
use Rattle.answer.proofs.Answers.{too_short, written}
use Rattle.area.specs.Areas.{put, IsPut}
use Rattle.engine.specs.Engine.{PrimeRows}

-- THE LAST ROWS of the rounds are prime rows
module _
    (t : Table) (ns : List ℕ) (g : Good t ns) (lens region : List ℕ)
    (w : Within t.jobs lens region) (f : Final t ns (row lens region)) where
  rows_long : (p : List ℕ) → over t p ≡ true → length (expand (row lens region) p) ≡ sum_of lens p
  unfolding over
  rows_long p o = form_long lens region p (within_readable t.jobs lens region p w o)

  -- no form is longer than the norm of its plan
  rows_short : (p : List ℕ) → over t p ≡ true → sum_of lens p ≤ sum_of ns p
  rows_short p o =
      let e = expand (row lens region) p in
      omega (
        arith,
        rows_long p o,
        length_norm t ns g e (decomposed_over t ns (row lens region) f.decomposition p o),
        decomposed_norm t ns (row lens region) f.decomposition p o,
      )

  final_prime : PrimeRows t ns lens region
  final_prime = record {
    within = w;
    form = f.form;
    short = rows_short;
    told = λ a p q o u s. same_test a (same t p q) (λ e. f.equal_same p q o u (s.same e)) (λ e. s.told (f.same_equal p q o u e));
  }

-- the rows of a table of which the facts speak
module _ {n : ℕ} {rs ns : List ℕ} {facts : Facts} (f : FactsAbout n rs ns facts) where
  same_table : table_by facts ≡ table_of n rs
  same_table = ap₂ table_of f.count f.rules_are

  pub prime_rows_in : {lens area : List ℕ} → FinalIn facts lens area → PrimeRows (table_of n rs) ns lens (take 12288 area)
  unfolding table_of old_half
  prime_rows_in {lens} {area} l =
      subst (λ (t : Table). PrimeRows t ns lens (take 12288 area)) same_table
      (subst (λ (k : List ℕ). PrimeRows (table_by facts) k lens (take 12288 area)) f.norms_are
      (final_prime (table_by facts) (norms_in facts) (tables facts).good lens (take 12288 area) l.within l.final))

-- WHAT THE PRIME ROWS ANSWER
module _ (n : ℕ) (rs ns lens region : List ℕ) (r : PrimeRows (table_of n rs) ns lens region) where
  rows_within : Within n lens region
  unfolding table_of
  rows_within = r.within

  -- two plans compared by them
  module _ (p q : List ℕ) (o : all_below n p ≡ true) (u : all_below n q ≡ true) where
    pub rows_comparable : Comparable lens region p q
    rows_comparable = record { jobs = n; within = rows_within; left = o; right = u }

    pub rows_tell : (a : Bool) → Tells a (expand (row lens region) p) (expand (row lens region) q) → a ≡ same (table_of n rs) p q
    unfolding table_of over
    rows_tell a s = r.told a p q o u s

  module _ (p : List ℕ) (o : all_below n p ≡ true) where
    pub readable : Readable lens region p
    readable = within_readable n lens region p rows_within o

    form : expand (row lens region) p ≡ prime_form (table_of n rs) p
    unfolding table_of over
    form = r.form p o

    long : length (expand (row lens region) p) ≡ sum_of lens p
    long = form_long lens region p readable

    pub few : sum_of ns p ≤ 4096 → length (expand (row lens region) p) ≤ 4096
    unfolding table_of over
    few small = omega (arith, long, r.short p o)

    module _ (small : sum_of ns p ≤ 4096) (need : ℕ) (is : need ≡ min 4097 (sum_of lens p)) (out : List ℕ) where
      exact : need ≡ sum_of lens p
      unfolding table_of over
      exact = omega (arith, r.short p o)

      size : length (prime_form (table_of n rs) p) ≡ need
      size = ap length (sym form) ∙ long ∙ sym exact

      pub form_refused : length out < need → Writes 0 (prime_form (table_of n rs) p) out (negsuc 9) out
      form_refused h = too_short (prime_form (table_of n rs) p) out (omega (arith, size))

      pub form_room : need ≤ length out → 0 + length (expand (row lens region) p) ≤ length out
      form_room h = omega (arith, long, exact)

      pub form_written : {a : ℤ} {m : ℕ} {out' : List ℕ} → need ≤ length out → IsPut 0 (expand (row lens region) p) out m out' → a ≡ pos m →
          Writes 0 (prime_form (table_of n rs) p) out a out'
      form_written h w e =
          written (prime_form (table_of n rs) p) out (omega (arith, size)) (e ∙ ap pos (omega (arith, w.next, long, size, exact)))
          (w.output ∙ ap (λ (f : List ℕ). put 0 f out) form)
