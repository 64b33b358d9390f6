-- ONE TABLE WRITTEN WITH OTHER JOBS: each plan of it is the same as the plan of the other table that has the new names of its jobs. Assumes a good
-- table.
use mathlib.Core.Path.{◌≡◌, refl, sym, ap, subst, ◌∙◌}
use mathlib.Core.Bool.{true}
use mathlib.Core.List.{List, [], ◌∷◌, ◌++◌, map, map-append}
use mathlib.Core.Logic.{◌↔◌}
use Prim.Native.Nat.{ℕ}
use Rattle.bpa.specs.Plans.{Table, over, Step}
use Rattle.bpa.specs.Norms.{norms, Good}
use Rattle.bpa.specs.Bisimilar.{Bisimilar}
use Rattle.bpa.proofs.Basics.Plans.{over_head, over_tail, over_cons, over_none}
use Rattle.bpa.proofs.Base.MethodDecides.{equivalent_bisimilar}
use Rattle.bpa.proofs.Rounds.Approximants.{approx_sym, approx_trans}
use Rattle.bpa.proofs.Rounds.Equivalence.{Equivalent, bisimilar_equivalent}
use Rattle.joined.specs.Joined.{renumbered, joined, OwnRules, AnyBisimulationBetween, Renames}
use Rattle.joined.proofs.RenumberedPlans.{over_left, over_right}
use Rattle.joined.proofs.JoinedNorms.{joined_good}
use Rattle.joined.proofs.BetweenTables.{between_approx, right_same}

module _ (f : ℕ → ℕ) (t u : Table) (k : Renames f t u) where
  pub over_renamed : (p : List ℕ) → over t p ≡ true → over u (map f p) ≡ true
  over_renamed [] o = over_none u
  over_renamed (j ∷ p) o = over_cons u (f j) (map f p) (k.jobs j (over_head t j p o)) (over_renamed p (over_tail t j p o))

  renamed_step : (p : List ℕ) (a : ℕ) (q : List ℕ) → over t p ≡ true → Step t p a q → Step u (map f p) a (map f q)
  renamed_step [] a q o s = absurd s
  renamed_step (j ∷ p) a q o (w, m, e) = (map f w, k.forth j a w (over_head t j p o) m, ap (map f) e ∙ map-append f w p)

  step_renamed : (p : List ℕ) (a : ℕ) (s : List ℕ) → over t p ≡ true → Step u (map f p) a s → (q : List ℕ) × Step t p a q × (s ≡ map f q)
  step_renamed [] a s o d = absurd d
  step_renamed (j ∷ p) a s o (v, m, e) =
      let (w, r, d) = k.back j a v (over_head t j p o) m in
      (w ++ p, (w, r, refl), e ∙ ap (λ (l : List ℕ). l ++ map f p) d ∙ sym (map-append f w p))

-- EACH PLAN IS THE SAME AS THE RENAMED ONE, and so as whatever that is the same as in its table
module _ (f : ℕ → ℕ) (t u : Table) (k : Renames f t u) (own : OwnRules t) (g : Good t (norms t)) (h : Good u (norms u)) where
  abbrev v : Table
  v = joined t u

  good : Good v (norms v)
  good = joined_good t u own g h

  matched : AnyBisimulationBetween t u (λ p q. q ≡ map f p)
  unfolding AnyBisimulationBetween
  matched p q o l e = (
    (λ a p' s. (map f p', subst (λ (x : List ℕ). Step u x a (map f p')) (sym e) (renamed_step f t u k p a p' o s), refl)),
    (λ a q' s. step_renamed f t u k p a q' o (subst (λ (x : List ℕ). Step u x a q') e s)),
  )

  pub renamed_equivalent : (p : List ℕ) → over t p ≡ true → Equivalent v p (renumbered t.jobs (map f p))
  renamed_equivalent p o = between_approx t u own g h (λ x y. y ≡ map f x) matched p (map f p) o (over_renamed f t u k p o) refl

  pub renamed_same : (p q : List ℕ) → over t p ≡ true → Bisimilar v p (renumbered t.jobs q) ↔ Bisimilar u (map f p) q
  renamed_same p q o =
      let n = t.jobs in
      let fp = renumbered n (map f p) in
      let oₚ = over_renamed f t u k p o in (
        (λ b.
            let l = sym (over_right t u q) ∙ b.over_right in
            (right_same t u own g h (map f p) q oₚ l).1
            (equivalent_bisimilar v (norms v) good fp (renumbered n q) (over_right t u (map f p) ∙ oₚ) b.over_right
            (λ m. approx_trans v m fp p (renumbered n q) (approx_sym v m p fp (renamed_equivalent p o m)) (bisimilar_equivalent v (norms v) good p (renumbered n q) b m)))),
        (λ b.
            let c = (right_same t u own g h (map f p) q oₚ b.over_right).0 b in
            equivalent_bisimilar v (norms v) good p (renumbered n q) (over_left t u p o) c.over_right
            (λ m. approx_trans v m p fp (renumbered n q) (renamed_equivalent p o m) (bisimilar_equivalent v (norms v) good fp (renumbered n q) c m))),
      )
