-- Links that lead back from rule to rule. Assumes nothing.
use mathlib.Core.Path.{◌≡◌, refl, sym, subst}
use mathlib.Core.List.{List}
use Prim.Native.Nat.{ℕ, ◌≤◌, ◌<◌}
use native.Mathlib.Omega.{arith}
use lib.ListN.{get_or, set}
use lib.Seq.{get_or-set_other}
use Rattle.repeated.specs.Repeated.{Leads, here, back}

-- a rule that links lead to is the one they start from, or they lead on to it
pub leads_on : (links : List ℕ) (k e : ℕ) → (k ≡ e → ⊥) → Leads links k e → Leads links (get_or links k 0) e
leads_on links k e d (here x) = absurd (d refl)
leads_on links k e d (back x y s b l) = l

-- a link that leads to no earlier rule is the last
pub leads_nowhere : (links : List ℕ) (k e : ℕ) → k ≤ get_or links k 0 → Leads links k e → k ≡ e
leads_nowhere links k e h (here x) = refl
leads_nowhere links k e h (back x y s b l) = absurd (omega (arith, h, b))

-- a later rule's link changes nothing
pub leads_still : (links : List ℕ) (at v k e : ℕ) → k < at → Leads links k e → Leads (set links at v) k e
leads_still links at v k e h (here x) = here k
leads_still links at v k e h (back x y s b l) =
    let same : get_or (set links at v) k 0 ≡ get_or links k 0 = get_or-set_other links at k v 0 (λ q. omega arith) in
    back k e s (omega (arith, same, b)) (subst (λ (x : ℕ). Leads (set links at v) x e) (sym same) (leads_still links at v (get_or links k 0) e (omega (arith, h, b)) l))
