-- The first rows are a decomposition, and plans that match for every number of rounds are equal by them: they have equal norms.
-- Assumes nothing.
use mathlib.Core.Path.{◌≡◌, refl, sym, ap, ap₂, subst, ◌∙◌}
use mathlib.Core.Bool.{true}
use mathlib.Core.Logic.{⊎_elim, ⊎_map}
use mathlib.Core.List.Memᴰ
use mathlib.Core.List.{List, [], ◌∷◌, ◌++◌, Memᴰ}
use Prim.Native.Nat.{ℕ, zero, suc, ◌≤◌, ◌<◌}
use native.Mathlib.Omega.{arith}
use lib.ListN.{get_or, replicate, replicate-append-replicate}
use Rattle.bpa.specs.Plans.{Table, over}
use Rattle.bpa.specs.Norms.{sum_of, Good}
use Rattle.bpa.specs.Method.{Rows, expand, precedes}
use Rattle.bpa.proofs.Basics.Plans.{over_head, over_tail, over_cons, over_none}
use Rattle.bpa.proofs.Basics.Order.{precedes_le}
use Rattle.bpa.proofs.Rounds.Equivalence.{equivalent_norm}
use Rattle.decompositions.specs.Decompositions.{Alone, Decomposition, Covers, FirstRows}

-- COPIES of one job
copies_over : (t : Table) (n j : ℕ) → j < t.jobs → over t (replicate n j) ≡ true
copies_over t zero j h = over_none t
copies_over t (suc n) j h = over_cons t j (replicate n j) h (copies_over t n j h)

copies_norm : (ns : List ℕ) (n j : ℕ) → get_or ns j 0 ≡ 1 → sum_of ns (replicate n j) ≡ n
unfolding sum_of
copies_norm ns zero j h = refl
copies_norm ns (suc n) j h = omega (arith, copies_norm ns n j h)

copies_same : (n j m : ℕ) → Memᴰ m (replicate n j) → m ≡ j
copies_same zero j m k = absurd (Memᴰ.not-nil k)
copies_same (suc n) j m k = ⊎_elim (λ (e : m ≡ j). e) (copies_same n j m) (Memᴰ.cases_cons k)

module _ (t : Table) (ns : List ℕ) (g : Good t ns) (d : Rows) (f : FirstRows t ns d) where
  -- no job has a lesser norm than the first one
  first_least : (j : ℕ) → j < t.jobs → get_or ns f.first 0 ≤ get_or ns j 0
  first_least j h =
      ⊎_elim (λ (e : j ≡ f.first). omega (arith, ap (λ i. get_or ns i 0) e)) (precedes_le ns f.first j) (f.least j h)

  -- so nothing is left after its norm-lowering rule
  first_after : (w : List ℕ) → over t w ≡ true → get_or ns f.first 0 ≡ suc (sum_of ns w) → get_or ns f.first 0 ≡ 1
  unfolding sum_of
  first_after [] o e = e
  first_after (j ∷ js) o e = absurd (omega (arith, first_least j (over_head t j js o)))

  first_norm : get_or ns f.first 0 ≡ 1
  first_norm =
      let (a, w, r, e) = g.falls f.first f.is_job in
      first_after w (g.closed f.first a w r) e

  first_alone : Alone d f.first
  first_alone = f.rows f.first f.is_job ∙ ap (λ n. replicate n f.first) first_norm

  -- THE FIRST ROWS ARE A DECOMPOSITION
  pub first_decomposition : Decomposition t ns d
  first_decomposition j h =
      let n : ℕ = get_or ns j 0 in
      let e : d j ≡ replicate n f.first = f.rows j h in
      let same : (m : ℕ) → Memᴰ m (d j) → m ≡ f.first = λ m k. copies_same n f.first m (subst (Memᴰ m) e k) in
      record {
        inside = rw e (copies_over t n f.first f.is_job);
        norm = rw e (copies_norm ns n f.first first_norm);
        primes = λ m k. subst (Alone d) (sym (same m k)) first_alone;
        lower = λ m k.
            ⊎_map (λ (p : j ≡ f.first). same m k ∙ sym p)
            (λ (p : precedes ns f.first j ≡ true). subst (λ i. precedes ns i j ≡ true) (sym (same m k)) p) (f.least j h);
      }

  -- EQUAL NORMS, EQUAL EXPANSIONS
  expand_copies : (p : List ℕ) → over t p ≡ true → expand d p ≡ replicate (sum_of ns p) f.first
  unfolding expand sum_of
  expand_copies [] o = refl
  expand_copies (j ∷ js) o =
      ap₂ ◌++◌ (f.rows j (over_head t j js o)) (expand_copies js (over_tail t j js o))
      ∙ replicate-append-replicate (get_or ns j 0) (sum_of ns js) f.first

  pub first_covers : Covers t d
  first_covers p q o o' h =
      expand_copies p o ∙ ap (λ n. replicate n f.first) (equivalent_norm t ns g p q o o' h) ∙ sym (expand_copies q o')
