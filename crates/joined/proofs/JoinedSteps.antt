-- PLANS OF ONE SIDE STEP AS IN THEIR OWN TABLE. Assumes nothing.
use mathlib.Core.Path.{◌≡◌, refl, sym, ap, ◌∙◌}
use mathlib.Core.Bool.{true}
use mathlib.Core.List.{List, [], ◌∷◌, ◌++◌}
use Prim.Native.Nat.{ℕ}
use Rattle.bpa.specs.Plans.{Table, over, Step}
use Rattle.bpa.proofs.Basics.Plans.{over_head}
use Rattle.joined.specs.Joined.{renumbered, joined, OwnRules}
use Rattle.joined.proofs.RenumberedPlans.{renumbered_append, over_left, over_right}
use Rattle.joined.proofs.StepsThrough.{Through}
use Rattle.joined.proofs.JoinedRules.{left_rule, right_rule, rule_left, rule_right}

module _ (t u : Table) where
  pub left_step : (p : List ℕ) (a : ℕ) (q : List ℕ) → Step t p a q → Step (joined t u) p a q
  left_step [] a q s = s
  left_step (j ∷ js) a q (w, m, e) = (w, left_rule t u j a w m, e)

  pub step_left : (p : List ℕ) (a : ℕ) (q : List ℕ) → over t p ≡ true → Step (joined t u) p a q → Step t p a q
  step_left [] a q o s = s
  step_left (j ∷ js) a q o (w, m, e) = (w, rule_left t u j a w (over_head t j js o) m, e)

  pub right_step : (p : List ℕ) (a : ℕ) (q : List ℕ) → Step u p a q → Step (joined t u) (renumbered t.jobs p) a (renumbered t.jobs q)
  unfolding renumbered
  right_step [] a q s = absurd s
  right_step (j ∷ js) a q (w, m, e) =
      (renumbered t.jobs w, right_rule t u j a w m, ap (renumbered t.jobs) e ∙ renumbered_append t.jobs w js)

  module _ (own : OwnRules t) where
    pub step_right : (p : List ℕ) (a : ℕ) (r : List ℕ) → Step (joined t u) (renumbered t.jobs p) a r →
        (q : List ℕ) × Step u p a q × (r ≡ renumbered t.jobs q)
    unfolding renumbered
    step_right [] a r s = absurd s
    step_right (j ∷ js) a r (w, m, e) =
        let (v, k, d) = rule_right t u own j a w m in
        (v ++ js, (v, k, refl), e ∙ ap (λ (l : List ℕ). l ++ renumbered t.jobs js) d ∙ sym (renumbered_append t.jobs v js))

-- so the steps of either table go through to the joined one
pub left_through : (t u : Table) → Through (λ p. p) t (joined t u)
left_through t u = record {
  plan = over_left t u;
  forth = λ p a q o s. left_step t u p a q s;
  back = λ p a r o s. (r, step_left t u p a r o s, refl);
}

pub right_through : (t u : Table) → OwnRules t → Through (renumbered t.jobs) u (joined t u)
right_through t u own = record {
  plan = λ p o. over_right t u p ∙ o;
  forth = λ p a q o s. right_step t u p a q s;
  back = λ p a r o s. step_right t u own p a r s;
}
