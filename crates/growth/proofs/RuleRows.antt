-- Rows of the rules of jobs: the jobs in them, and those that others stand behind. Assumes nothing.
use mathlib.Core.Path.{◌≡◌, refl, sym, ap, subst}
use mathlib.Core.Bool.{Bool, true, ◌&&◌, true≢false}
use mathlib.Core.List.Memᴰ
use mathlib.Core.List.{List, [], ◌∷◌, ◌++◌, Memᴰ}
use mathlib.Core.Logic.{◌↔◌, ⊎_elim}
use Prim.Native.Nat.{ℕ}
use lib.Dec.{eqb}
use borrow.Author.Tests.{eqb-true, eq-eqb}
use Rattle.bpa.specs.Plans.{Rule}
use Rattle.bpa.proofs.Basics.Cases.{or_cases, or_left, or_right, and_left, and_right, and_both}
use Rattle.alike.specs.Alike.{stands_in}
use Rattle.growth.specs.Reached.{JobSet, has, comes_in, all_but_last, fronts}
use Rattle.growth.proofs.JobSets.{cond_cases, cond_left, cond_right, stands_member}

-- a job in the row of a rule of a member
abbrev ComesIn : JobSet → List Rule → (job : ℕ) → Type 0
ComesIn s rs j = (r : Rule) × Memᴰ r rs × (has s r.job ≡ true) × Memᴰ j r.after

pub comes_exactly : (s : JobSet) (rs : List Rule) (j : ℕ) → (comes_in s rs j ≡ true) ↔ ComesIn s rs j
unfolding comes_in
comes_exactly s [] j = ((λ e. absurd (true≢false (sym e))), (λ w. absurd (Memᴰ.not-nil w.1)))
comes_exactly s (r ∷ rs) j = (
  (λ e.
      ⊎_elim
      (λ h. (r, Memᴰ.head refl, and_left a b h, (stands_member r.after j).0 (and_right a b h)))
      (λ h. let (q, m, i, k) = (comes_exactly s rs j).0 h in (q, Memᴰ.tail m, i, k))
      (or_cases (a && b) (comes_in s rs j) e)),
  (λ w.
      let (q, m, i, k) = w in
      ⊎_elim
      (λ (e : q ≡ r).
      or_left (a && b) (comes_in s rs j)
      (and_both a b (subst (λ (x : Rule). has s x.job ≡ true) e i)
      ((stands_member r.after j).1 (subst (λ (x : Rule). Memᴰ j x.after) e k))))
      (λ n. or_right (a && b) (comes_in s rs j) ((comes_exactly s rs j).1 (q, n, i, k)))
      (Memᴰ.cases_cons m)),
)
  where
    a : Bool
    a = has s r.job

    b : Bool
    b = stands_in r.after j

-- a job that others stand behind, in a row of a job
abbrev pub InFront : List Rule → (job front : ℕ) → Type 0
InFront rs j k = (r : Rule) × Memᴰ r rs × (r.job ≡ j) × Memᴰ k (all_but_last r.after)

pub fronts_exactly : (rs : List Rule) (j k : ℕ) → Memᴰ k (fronts rs j) ↔ InFront rs j k
unfolding fronts
fronts_exactly [] j k = ((λ m. absurd (Memᴰ.not-nil m)), (λ w. absurd (Memᴰ.not-nil w.1)))
fronts_exactly (r ∷ rs) j k = (
  (λ m.
      ⊎_elim
      (λ (w : (eqb r.job j ≡ true) × Memᴰ k own). (r, Memᴰ.head refl, eqb-true r.job j w.0, w.1))
      (λ n. let (q, h, i, l) = (fronts_exactly rs j k).0 n in (q, Memᴰ.tail h, i, l))
      (cond_cases k own (fronts rs j) (eqb r.job j) m)),
  (λ w.
      let (q, h, i, l) = w in
      ⊎_elim
      (λ (e : q ≡ r).
      cond_left k own (fronts rs j) (eqb r.job j) (eq-eqb r.job j (subst (λ (x : Rule). x.job ≡ j) e i))
      (subst (λ (x : Rule). Memᴰ k (all_but_last x.after)) e l))
      (λ n. cond_right k own (fronts rs j) (eqb r.job j) ((fronts_exactly rs j k).1 (q, n, i, l)))
      (Memᴰ.cases_cons h)),
)
  where
    own : List ℕ
    own = all_but_last r.after

-- where such a job stands in its row
abbrev StandsBefore : (row : List ℕ) → (job : ℕ) → Type 0
StandsBefore w k = (u : List ℕ) × (i : ℕ) × (v : List ℕ) × (w ≡ u ++ k ∷ i ∷ v)

pub stands_before : (w : List ℕ) (k : ℕ) → Memᴰ k (all_but_last w) → StandsBefore w k
unfolding all_but_last
stands_before [] k m = absurd (Memᴰ.not-nil m)
stands_before (i ∷ []) k m = absurd (Memᴰ.not-nil m)
stands_before (i ∷ j ∷ w) k m =
    ⊎_elim (λ (e : k ≡ i). ([], j, w, ap (λ (x : ℕ). x ∷ j ∷ w) (sym e)))
    (λ n. let (u, x, v, e) = stands_before (j ∷ w) k n in (i ∷ u, x, v, ap (λ (l : List ℕ). i ∷ l) e)) (Memᴰ.cases_cons m)

-- they are jobs of the row
pub in_row : (w : List ℕ) (k : ℕ) → Memᴰ k (all_but_last w) → Memᴰ k w
unfolding all_but_last
in_row [] k m = absurd (Memᴰ.not-nil m)
in_row (i ∷ []) k m = absurd (Memᴰ.not-nil m)
in_row (i ∷ j ∷ w) k m = ⊎_elim (λ (e : k ≡ i). Memᴰ.head e) (λ n. Memᴰ.tail (in_row (j ∷ w) k n)) (Memᴰ.cases_cons m)
