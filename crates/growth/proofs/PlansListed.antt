-- The plans over a table that have no more than so many jobs are a list. Assumes nothing.
use mathlib.Core.Path.{◌≡◌, refl, subst}
use mathlib.Core.Bool.{true}
use mathlib.Core.List.Memᴰ
use mathlib.Core.List.{List, [], ◌∷◌, ◌++◌, map, Memᴰ}
use Prim.Native.Nat.{ℕ, zero, suc, ◌≤◌, ◌<◌}
use native.Mathlib.Decide.{ℕ_discrete}
use native.Mathlib.Omega.{arith}
use lib.ListN.{length}
use Rattle.bpa.specs.Plans.{Table, over}
use Rattle.bpa.proofs.Basics.Plans.{over_head, over_tail}

-- each job below a bound in front of each plan of a list
with_each : (below : ℕ) → List (List ℕ) → List (List ℕ)
with_each zero ps = []
with_each (suc n) ps = map (λ (p : List ℕ). n ∷ p) ps ++ with_each n ps

in_each : (n j : ℕ) (p : List ℕ) (ps : List (List ℕ)) → j < n → Memᴰ p ps → Memᴰ (j ∷ p) (with_each n ps)
unfolding with_each
in_each zero j p ps h m = absurd (omega arith)
in_each (suc n) j p ps h m = go (ℕ_discrete n j) (λ l. in_each n j p ps l m)
  where
    go : Dec (n ≡ j) → (j < n → Memᴰ (j ∷ p) (with_each n ps)) → Memᴰ (j ∷ p) (map (λ (q : List ℕ). n ∷ q) ps ++ with_each n ps)
    go (yes e) r =
        Memᴰ.append_left (with_each n ps)
        (subst (λ (x : ℕ). Memᴰ (x ∷ p) (map (λ (q : List ℕ). n ∷ q) ps)) e (Memᴰ.map (λ (q : List ℕ). n ∷ q) m))
    go (no e) r = Memᴰ.append_right (map (λ (q : List ℕ). n ∷ q) ps) (r (omega arith))

module _ (t : Table) where
  pub plans_within : (most : ℕ) → List (List ℕ)
  plans_within zero = [] ∷ []
  plans_within (suc n) = [] ∷ with_each t.jobs (plans_within n)

  pub all_within : (n : ℕ) (p : List ℕ) → over t p ≡ true → length p ≤ n → Memᴰ p (plans_within n)
  unfolding plans_within
  all_within zero [] o h = Memᴰ.head refl
  all_within zero (j ∷ p) o h = absurd (omega arith)
  all_within (suc n) [] o h = Memᴰ.head refl
  all_within (suc n) (j ∷ p) o h =
      Memᴰ.tail (in_each t.jobs j p (plans_within n) (over_head t j p o) (all_within n p (over_tail t j p o) (omega arith)))
