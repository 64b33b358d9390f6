-- Laws of plans over a table: their jobs, their steps and their norms. Assumes nothing.
use mathlib.Core.Path.{◌≡◌, refl, subst, sym, ◌∙◌}
use mathlib.Core.Bool.{true}
use mathlib.Core.List.{List, [], ◌∷◌, ◌++◌, append_assoc}
use Prim.Native.Nat.{ℕ, suc, ◌+◌, ◌≤◌, ◌<◌}
use native.Mathlib.Numerals.{add-one}
use native.Mathlib.Omega.{arith}
use lib.Dec.{ltb}
use lib.ListN.{length, get_or, drop, drop_of_length-le}
use lib.Seq.{drop-cons}
use borrow.Author.Tests.{ltb-true, lt-ltb}
use Rattle.bpa.specs.Plans.{Table, all_below, over, HasRule, Step}
use Rattle.bpa.specs.Norms.{sum_of, Good}
use Rattle.bpa.proofs.Basics.Cases.{and_left, and_right, and_both}

module _ (t : Table) where
  pub over_head : (j : ℕ) (js : List ℕ) → over t (j ∷ js) ≡ true → j < t.jobs
  unfolding over all_below
  over_head j js h = ltb-true j t.jobs (and_left (ltb j t.jobs) (all_below t.jobs js) h)

  pub over_tail : (j : ℕ) (js : List ℕ) → over t (j ∷ js) ≡ true → over t js ≡ true
  unfolding over all_below
  over_tail j js h = and_right (ltb j t.jobs) (all_below t.jobs js) h

  pub over_cons : (j : ℕ) (js : List ℕ) → j < t.jobs → over t js ≡ true → over t (j ∷ js) ≡ true
  unfolding over all_below
  over_cons j js h k = and_both (ltb j t.jobs) (all_below t.jobs js) (lt-ltb j t.jobs h) k

  pub over_none : over t [] ≡ true
  unfolding over all_below
  over_none = refl

  pub over_one : (j : ℕ) → j < t.jobs → over t (j ∷ []) ≡ true
  over_one j h = over_cons j [] h over_none

  pub over_append : (p q : List ℕ) → over t p ≡ true → over t q ≡ true → over t (p ++ q) ≡ true
  over_append [] q h k = k
  over_append (j ∷ p) q h k = over_cons j (p ++ q) (over_head j p h) (over_append p q (over_tail j p h) k)

  pub over_left : (p q : List ℕ) → over t (p ++ q) ≡ true → over t p ≡ true
  over_left [] q h = over_none
  over_left (j ∷ p) q h = over_cons j p (over_head j (p ++ q) h) (over_left p q (over_tail j (p ++ q) h))

  pub over_right : (p q : List ℕ) → over t (p ++ q) ≡ true → over t q ≡ true
  over_right [] q h = h
  over_right (j ∷ p) q h = over_right p q (over_tail j (p ++ q) h)

pub sum_append : (ns : List ℕ) (p q : List ℕ) → sum_of ns (p ++ q) ≡ sum_of ns p + sum_of ns q
unfolding sum_of
sum_append ns [] q = omega arith
sum_append ns (j ∷ p) q = omega (arith, sum_append ns p q)

pub sum_one : (ns : List ℕ) (j : ℕ) → sum_of ns (j ∷ []) ≡ get_or ns j 0
unfolding sum_of
sum_one ns j = omega arith

-- from place i on
pub sum_at : (ns p : List ℕ) (i : ℕ) → i < length p → sum_of ns (drop i p) ≡ get_or ns (get_or p i 0) 0 + sum_of ns (drop (i + 1) p)
unfolding sum_of
sum_at ns p i h = rw (drop-cons p i 0 h, add-one)

pub sum_end : (ns p : List ℕ) (i : ℕ) → length p ≤ i → sum_of ns (drop i p) ≡ 0
unfolding sum_of
sum_end ns p i h = rw (drop_of_length-le p h)

-- a step of the front of a plan is a step of the plan, and a plan with a front has no others
module _ (t : Table) where
  pub step_append : (p q r : List ℕ) (a : ℕ) → Step t p a q → Step t (p ++ r) a (q ++ r)
  step_append [] q r a s = absurd s
  step_append (j ∷ js) q r a (w, h, e) = (w, h, rw e (append_assoc w js r))

  pub step_front : (j : ℕ) (js r s : List ℕ) (a : ℕ) → Step t ((j ∷ js) ++ r) a s →
      (q : List ℕ) × Step t (j ∷ js) a q × (s ≡ q ++ r)
  step_front j js r s a (w, h, e) = (w ++ js, (w, h, refl), e ∙ sym (append_assoc w js r))

-- moves keep a plan over its table
pub closed_step : (t : Table) → ((j a : ℕ) (w : List ℕ) → HasRule t j a w → over t w ≡ true) →
    (p q : List ℕ) (a : ℕ) → over t p ≡ true → Step t p a q → over t q ≡ true
closed_step t closed [] q a o s = absurd s
closed_step t closed (j ∷ js) q a o (w, r, e) =
    subst (λ l. over t l ≡ true) (sym e) (over_append t w js (closed j a w r) (over_tail t j js o))

module _ (t : Table) (ns : List ℕ) (g : Good t ns) where
  pub step_over : (p q : List ℕ) (a : ℕ) → over t p ≡ true → Step t p a q → over t q ≡ true
  step_over = closed_step t g.closed

  pub norm_positive : (j : ℕ) → j < t.jobs → 1 ≤ get_or ns j 0
  norm_positive j h = omega (arith, (g.falls j h).3)

  pub norm_zero : (p : List ℕ) → over t p ≡ true → sum_of ns p ≡ 0 → p ≡ []
  unfolding sum_of
  norm_zero [] h e = refl
  norm_zero (j ∷ p) h e = absurd (omega (arith, norm_positive j (over_head t j p h)))

  -- a plan is no longer than its norm
  pub length_norm : (p : List ℕ) → over t p ≡ true → length p ≤ sum_of ns p
  unfolding sum_of
  length_norm [] h = omega arith
  length_norm (j ∷ p) h = omega (arith, length_norm p (over_tail t j p h), norm_positive j (over_head t j p h))

  -- no step lowers the norm by more than one
  pub step_slow : (p q : List ℕ) (a : ℕ) → Step t p a q → sum_of ns p ≤ 1 + sum_of ns q
  unfolding sum_of
  step_slow [] q a s = absurd s
  step_slow (j ∷ js) q a (w, r, e) =
      subst (λ l. get_or ns j 0 + sum_of ns js ≤ 1 + sum_of ns l) (sym e)
      (omega (arith, sum_append ns w js, g.slow j a w r))

  -- each plan with a job has a step that lowers its norm by one
  pub step_falls : (j : ℕ) (js : List ℕ) → over t (j ∷ js) ≡ true →
      (a : ℕ) × (q : List ℕ) × Step t (j ∷ js) a q × (sum_of ns (j ∷ js) ≡ suc (sum_of ns q))
  unfolding sum_of
  step_falls j js h =
      let (a, w, r, e) = g.falls j (over_head t j js h) in
      (a, w ++ js, (w, r, refl), omega (arith, sum_append ns w js))
