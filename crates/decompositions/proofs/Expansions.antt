-- Expansions by a decomposition, and by rows that refine it: they keep to the table and keep the norm, to expand twice changes nothing,
-- and plans equal by the new rows are equal by the old ones. Assumes nothing.
use mathlib.Core.Path.{◌≡◌, sym, ap, ◌∙◌}
use mathlib.Core.Bool.{true}
use mathlib.Core.List.{List, [], ◌∷◌, append-nil}
use Prim.Native.Nat.{ℕ}
use Rattle.bpa.specs.Plans.{Table, over}
use Rattle.bpa.specs.Norms.{sum_of}
use Rattle.bpa.specs.Method.{Rows, expand}
use Rattle.bpa.proofs.Basics.EachJob.{Each, each_over}
use Rattle.decompositions.specs.Decompositions.{Alone, Decomposed, Decomposition, Refines}
use Rattle.decompositions.proofs.NewRows.{expand_through, alone_expand, expanded_norm, expanded_over, expanded_primes, refined_through}

pub expand_one : (d : Rows) (j : ℕ) → expand d (j ∷ []) ≡ d j
unfolding expand
expand_one d j = append-nil (d j)

module _ (t : Table) (ns : List ℕ) (d : Rows) (k : Decomposition t ns d) where
  each_decomposed : (p : List ℕ) → over t p ≡ true → Each (Decomposed t ns d) p
  each_decomposed p o j m = k j (each_over t p o j m)

  pub decomposed_over : (p : List ℕ) → over t p ≡ true → over t (expand d p) ≡ true
  decomposed_over p o = expanded_over t ns d p (each_decomposed p o)

  pub decomposed_norm : (p : List ℕ) → over t p ≡ true → sum_of ns (expand d p) ≡ sum_of ns p
  decomposed_norm p o = expanded_norm t ns d p (each_decomposed p o)

  pub decomposed_primes : (p : List ℕ) → over t p ≡ true → Each (Alone d) (expand d p)
  decomposed_primes p o = expanded_primes t ns d p (each_decomposed p o)

  pub decomposed_twice : (p : List ℕ) → over t p ≡ true → expand d (expand d p) ≡ expand d p
  decomposed_twice p o = alone_expand d (expand d p) (decomposed_primes p o)

module _ (t : Table) (ns : List ℕ) (d e : Rows) (r : Refines t ns d e) where
  pub refined_equal : (p : List ℕ) → over t p ≡ true → expand d (expand e p) ≡ expand d p
  refined_equal p o = expand_through d e p (λ j m. refined_through t ns d e j (r j (each_over t p o j m)))

  pub new_old : (p q : List ℕ) → over t p ≡ true → over t q ≡ true → expand e p ≡ expand e q → expand d p ≡ expand d q
  new_old p q o o' h = sym (refined_equal p o) ∙ ap (expand d) h ∙ refined_equal q o'
