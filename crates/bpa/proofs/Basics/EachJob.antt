-- A property of every job of a plan, and how it passes to the jobs of an expansion. Assumes nothing.
use mathlib.Core.Path.{◌≡◌, refl, sym, ap₂, subst}
use mathlib.Core.Bool.{true}
use mathlib.Core.Logic.{⊎_elim}
use mathlib.Core.List.{List, [], ◌∷◌, ◌++◌}
use mathlib.Core.List.Memᴰ.{head as here}
use mathlib.Core.List.Memᴰ.{tail as there}
use mathlib.Core.List.{Memᴰ}
use mathlib.Core.List.Memᴰ
use Prim.Native.Nat.{ℕ, ◌≤◌, ◌<◌}
use native.Mathlib.Omega.{arith}
use lib.ListN.{length, get_or, length-append}
use Rattle.bpa.specs.Plans.{Table, over}
use Rattle.bpa.specs.Norms.{sum_of}
use Rattle.bpa.specs.Method.{Rows, expand}
use Rattle.bpa.proofs.Basics.Plans.{over_head, over_tail}

abbrev pub Each : (ℕ → Type 0) → (plan : List ℕ) → Type 0
Each P p = (j : ℕ) → Memᴰ j p → P j

module _ (P : ℕ → Type 0) where
  pub each_none : Each P []
  each_none j m = absurd (Memᴰ.not-nil m)

  pub each_cons : (j : ℕ) (js : List ℕ) → P j → Each P js → Each P (j ∷ js)
  each_cons j js h k i m = ⊎_elim (λ (e : i ≡ j). subst P (sym e) h) (k i) (Memᴰ.cases_cons m)

  each_append : (p q : List ℕ) → Each P p → Each P q → Each P (p ++ q)
  each_append p q h k i m = ⊎_elim (h i) (k i) (Memᴰ.append_cases p m)

-- a plan over a table names jobs only, and none of a greater norm than its own
pub each_over : (t : Table) (p : List ℕ) → over t p ≡ true → Each (λ j. j < t.jobs) p
each_over t [] o = each_none (λ j. j < t.jobs)
each_over t (j ∷ js) o = each_cons (λ i. i < t.jobs) j js (over_head t j js o) (each_over t js (over_tail t j js o))

pub each_norm : (ns p : List ℕ) → Each (λ j. get_or ns j 0 ≤ sum_of ns p) p
unfolding sum_of
each_norm ns [] = each_none (λ j. get_or ns j 0 ≤ sum_of ns [])
each_norm ns (j ∷ js) =
    each_cons (λ i. get_or ns i 0 ≤ sum_of ns (j ∷ js)) j js (omega arith) (λ i m. omega (arith, each_norm ns js i m))

module _ (e : Rows) where
  pub expand_agree : (f : Rows) (p : List ℕ) → Each (λ j. e j ≡ f j) p → expand e p ≡ expand f p
  unfolding expand
  expand_agree f [] h = refl
  expand_agree f (j ∷ js) h = ap₂ ◌++◌ (h j (here refl)) (expand_agree f js (λ i m. h i (there m)))

  pub expand_each : (P : ℕ → Type 0) (p : List ℕ) → Each (λ j. Each P (e j)) p → Each P (expand e p)
  unfolding expand
  expand_each P [] h = each_none P
  expand_each P (j ∷ js) h =
      each_append P (e j) (expand e js) (h j (here refl)) (expand_each P js (λ i m. h i (there m)))

  pub expand_longer : (p : List ℕ) → Each (λ j. 1 ≤ length (e j)) p → length p ≤ length (expand e p)
  unfolding expand
  expand_longer [] h = omega arith
  expand_longer (j ∷ js) h =
      omega (arith, length-append (e j) (expand e js), h j (here refl), expand_longer js (λ i m. h i (there m)))
