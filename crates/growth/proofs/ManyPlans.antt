-- An endless plan can become as many plans as one likes of which no two are the same: one more is apart from all before it. Assumes nothing.
use mathlib.Core.Path.{◌≡◌, refl, sym, ap, subst}
use mathlib.Core.List.Memᴰ
use mathlib.Core.List.{List, [], ◌∷◌}
use mathlib.Core.Logic.{⊎_elim}
use Prim.Native.Nat.{ℕ, zero, suc}
use Rattle.bpa.specs.Plans.{Table}
use Rattle.growth.specs.Growth.{Becomes, Endless, ManyApart}

pub many_apart : (t : Table) (p : List ℕ) → Endless t p → (n : ℕ) → ManyApart t p n
many_apart t p e zero = ([], refl, (λ q m. absurd (Memᴰ.not-nil m)), tt)
many_apart t p e (suc n) =
    let (plans, h, each, apart) = many_apart t p e n in
    let (q, b, none) = e plans in (
      q ∷ plans,
      ap suc h,
      (λ r m. ⊎_elim (λ (k : r ≡ q). subst (Becomes t p) (sym k) b) (each r) (Memᴰ.cases_cons m)),
      (none, apart),
    )
