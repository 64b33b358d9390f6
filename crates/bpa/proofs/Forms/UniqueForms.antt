-- Equivalent rows of jobs that the base pairs with no job are equal. Assumes nothing.
use mathlib.Core.Path.{◌≡◌, refl, sym, ap₂, subst}
use mathlib.Core.Bool.{true}
use mathlib.Core.List.Memᴰ.{head as here}
use mathlib.Core.List.Memᴰ.{tail as there}
use mathlib.Core.List.{List, [], ◌∷◌, ◌++◌}
use Prim.Native.Nat.{ℕ, ◌≤◌, ◌<◌}
use native.Mathlib.Decide.{ℕ_discrete}
use native.Mathlib.Omega.{arith}
use lib.ListN.{get_or}
use Rattle.bpa.specs.Plans.{Table, over}
use Rattle.bpa.specs.Norms.{sum_of, Good}
use Rattle.bpa.specs.Method.{Base, precedes, candidate}
use Rattle.bpa.proofs.Basics.Plans.{over_head, over_tail, over_cons, over_one, norm_positive}
use Rattle.bpa.proofs.Rounds.Approximants.{approx_sym}
use Rattle.bpa.proofs.Rounds.Equivalence.{Equivalent, equivalent_norm, equivalent_cancel_left, equivalent_split}
use Rattle.bpa.proofs.Base.ExactBase.{Exact}
use Rattle.bpa.proofs.Basics.Cases.{by_test}
use Rattle.bpa.proofs.Basics.Order.{precedes_le, precedes_total}
use Rattle.bpa.proofs.Judge.Candidates.{candidate_reduces, candidate_over}
use Rattle.bpa.proofs.Basics.EachJob.{Each}
use Rattle.bpa.proofs.Forms.LeastPair.{Unpaired}
use Rattle.bpa.proofs.Forms.LowestJobs.{begins}

module _ (t : Table) (ns : List ℕ) (g : Good t ns) (b : Base) (ex : Exact t ns b) where
  -- the greater of two different heads has a pair
  no_earlier : (x y : ℕ) (α β : List ℕ) → over t (x ∷ α) ≡ true → over t (y ∷ β) ≡ true → Unpaired ns b y t.jobs →
      Equivalent t (x ∷ α) (y ∷ β) → precedes ns x y ≡ true → ⊥
  no_earlier x y α β ox oy u e p =
      let hx : x < t.jobs = over_head t x α ox in
      let hy : y < t.jobs = over_head t y β oy in
      let c : List ℕ = candidate t ns y x in
      let le : get_or ns x 0 ≤ get_or ns y 0 = precedes_le ns x y p in
      let s : Equivalent t (y ∷ []) (x ∷ c) × Equivalent t α (c ++ β) =
      equivalent_split t ns g x y α β c ox oy le
      (candidate_reduces t ns g y x hy le) e in
      u x hx (begins t ns g b ex y x c hy (over_cons t x c hx (candidate_over t ns g y x hy le)) p s.0)

  same_head : (x y : ℕ) (α β : List ℕ) → over t (x ∷ α) ≡ true → over t (y ∷ β) ≡ true →
      Unpaired ns b x t.jobs → Unpaired ns b y t.jobs → Equivalent t (x ∷ α) (y ∷ β) → x ≡ y
  same_head x y α β ox oy ux uy e = go (ℕ_discrete x y)
    where
      go : Dec (x ≡ y) → x ≡ y
      go (yes s) = s
      go (no d) =
          by_test (precedes ns x y) (λ p. absurd (no_earlier x y α β ox oy uy e p))
          (λ p. absurd (no_earlier y x β α oy ox ux (λ k. approx_sym t k (x ∷ α) (y ∷ β) (e k)) (precedes_total ns x y d p)))

  pub unpaired_unique : (p q : List ℕ) → over t p ≡ true → over t q ≡ true →
      Each (λ j. Unpaired ns b j t.jobs) p → Each (λ j. Unpaired ns b j t.jobs) q → Equivalent t p q → p ≡ q
  unfolding sum_of
  unpaired_unique [] [] op oq up uq e = refl
  unpaired_unique [] (y ∷ β) op oq up uq e =
      let s : sum_of ns [] ≡ sum_of ns (y ∷ β) = equivalent_norm t ns g [] (y ∷ β) op oq e in
      absurd (omega (arith, norm_positive t ns g y (over_head t y β oq)))
  unpaired_unique (x ∷ α) [] op oq up uq e =
      let s : sum_of ns (x ∷ α) ≡ sum_of ns [] = equivalent_norm t ns g (x ∷ α) [] op oq e in
      absurd (omega (arith, norm_positive t ns g x (over_head t x α op)))
  unpaired_unique (x ∷ α) (y ∷ β) op oq up uq e =
      let h : x ≡ y = same_head x y α β op oq (up x (here refl)) (uq y (here refl)) e in
      let r : Equivalent t α β =
      equivalent_cancel_left t ns g (x ∷ []) α β (over_one t x (over_head t x α op)) (over_tail t x α op) (over_tail t y β oq)
      (subst (λ (z : ℕ). Equivalent t (x ∷ α) (z ∷ β)) (sym h) e) in
      ap₂ ◌∷◌ h
      (unpaired_unique α β (over_tail t x α op) (over_tail t y β oq) (λ j m. up j (there m)) (λ j m. uq j (there m)) r)
