-- PLANS OF ONE TABLE AS PLANS OF ANOTHER: where their steps correspond, plans are the same in the one exactly if they are in the other. Assumes
-- good tables.
use mathlib.Core.Path.{◌≡◌, sym, subst}
use mathlib.Core.Bool.{true}
use mathlib.Core.List.{List}
use mathlib.Core.Logic.{◌↔◌}
use Prim.Native.Nat.{ℕ, zero, suc}
use Rattle.bpa.specs.Plans.{Table, over, Step}
use Rattle.bpa.specs.Norms.{Good}
use Rattle.bpa.specs.Bisimilar.{Simulates, Approx, Bisimilar}
use Rattle.bpa.proofs.Basics.Plans.{step_over}
use Rattle.bpa.proofs.Base.MethodDecides.{equivalent_bisimilar}
use Rattle.bpa.proofs.Rounds.Equivalence.{bisimilar_equivalent}

-- r makes plans over t plans over v with the same steps
pub record Through (r : List ℕ → List ℕ) (t v : Table) : Type 0 where
  pub plan : (p : List ℕ) → over t p ≡ true → over v (r p) ≡ true
  pub forth : (p : List ℕ) (a : ℕ) (q : List ℕ) → over t p ≡ true → Step t p a q → Step v (r p) a (r q)
  pub back : (p : List ℕ) (a : ℕ) (s : List ℕ) → over t p ≡ true → Step v (r p) a s → (q : List ℕ) × Step t p a q × (s ≡ r q)

module _ (t v : Table) (r : List ℕ → List ℕ) (k : Through r t v) (ns ms : List ℕ) (g : Good t ns) (h : Good v ms) where
  -- one round more, in either table
  module _ (m : ℕ) (same : (p q : List ℕ) → over t p ≡ true → over t q ≡ true → Approx t m p q ↔ Approx v m (r p) (r q))
      (p q : List ℕ) (o : over t p ≡ true) (l : over t q ≡ true) where
    forth : Simulates t (Approx t m) p q → Simulates v (Approx v m) (r p) (r q)
    forth f a s d =
        let (p', c, e) = k.back p a s o d in
        let (q', b, i) = f a p' c in (
          r q',
          k.forth q a q' l b,
          subst (λ (x : List ℕ). Approx v m x (r q')) (sym e) ((same p' q' (step_over t ns g p p' a o c) (step_over t ns g q q' a l b)).0 i),
        )

    back : Simulates v (Approx v m) (r p) (r q) → Simulates t (Approx t m) p q
    back f a p' c =
        let (s, d, i) = f a (r p') (k.forth p a p' o c) in
        let (q', b, e) = k.back q a s l d in
        (q', b, (same p' q' (step_over t ns g p p' a o c) (step_over t ns g q q' a l b)).1 (subst (λ (x : List ℕ). Approx v m (r p') x) e i))

  through_approx : (m : ℕ) (p q : List ℕ) → over t p ≡ true → over t q ≡ true → Approx t m p q ↔ Approx v m (r p) (r q)
  through_approx zero p q o l = (λ i. tt, λ i. tt)
  through_approx (suc m) p q o l =
      let same = through_approx m in (
        (λ i. (forth m same p q o l i.0, forth m same q p l o i.1)),
        (λ i. (back m same p q o l i.0, back m same q p l o i.1)),
      )

  pub through_same : (p q : List ℕ) → over t p ≡ true → over t q ≡ true → Bisimilar t p q ↔ Bisimilar v (r p) (r q)
  through_same p q o l = (
    (λ b. equivalent_bisimilar v ms h (r p) (r q) (k.plan p o) (k.plan q l)
        (λ m. (through_approx m p q o l).0 (bisimilar_equivalent t ns g p q b m))),
    (λ b. equivalent_bisimilar t ns g p q o l (λ m. (through_approx m p q o l).1 (bisimilar_equivalent v ms h (r p) (r q) b m))),
  )
