-- Norms, sums and rounds depend on a row's numbers alone, not on the zeros beyond its end. Assumes nothing.
use mathlib.Core.Path.{◌≡◌, refl, ap, ap₂, ◌∙◌}
use mathlib.Core.Bool.{Bool, ◌&&◌, cond}
use mathlib.Core.List.{List, [], ◌∷◌, map}
use Prim.Native.Nat.{ℕ, zero, suc, ◌+◌, min}
use lib.Dec.{ltb, eqb}
use Rattle.bpa.specs.Plans.{Rule, Table}
use Rattle.bpa.specs.Norms.{sum_of, all_known, lesser, best, one_round, capped_round}
use Rattle.norm.specs.NormArrays.{Agree}

module _ (a b : List ℕ) (e : Agree a b) where
  pub sum_agree : (p : List ℕ) → sum_of a p ≡ sum_of b p
  unfolding sum_of
  sum_agree [] = refl
  sum_agree (j ∷ js) = ap₂ ◌+◌ (e j) (sum_agree js)

  known_agree : (p : List ℕ) → all_known a p ≡ all_known b p
  unfolding all_known
  known_agree [] = refl
  known_agree (j ∷ js) = ap₂ ◌&&◌ (ap (ltb 0) (e j)) (known_agree js)

  best_agree : (j : ℕ) (rs : List Rule) → best j a rs ≡ best j b rs
  unfolding best
  best_agree j [] = refl
  best_agree j (r ∷ rs) =
      ap₂ (λ (k : Bool) (s : ℕ). cond (eqb r.job j && k) (lesser (suc s) (best j a rs)) (best j a rs)) (known_agree r.after) (sum_agree r.after)
      ∙ ap (λ (x : ℕ). cond (eqb r.job j && all_known b r.after) (lesser (suc (sum_of b r.after)) x) x) (best_agree j rs)

  round_agree : (n j : ℕ) (rs : List Rule) → one_round n j a rs ≡ one_round n j b rs
  unfolding one_round
  round_agree zero j rs = refl
  round_agree (suc n) j rs = ap₂ ◌∷◌ (best_agree j rs) (round_agree n (suc j) rs)

  pub capped_agree : (m : ℕ) (t : Table) → capped_round m t a ≡ capped_round m t b
  unfolding capped_round
  capped_agree m t = ap (map (min m)) (round_agree t.jobs 0 t.rules)
