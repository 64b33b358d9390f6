-- `runs_by` holds a run for each rule that lowers the norm of the job by one, and no others. Assumes nothing.
use mathlib.Core.Path.{◌≡◌, refl, ap, ap₂, subst}
use mathlib.Core.List.{List, [], ◌∷◌}
use mathlib.Core.List.Memᴰ
use mathlib.Core.List.Memᴰ.{head as here}
use mathlib.Core.List.Memᴰ.{tail as there}
use mathlib.Core.List.{Memᴰ}
use mathlib.Core.Logic.{⊎_elim}
use Prim.Native.Nat.{ℕ, suc}
use lib.Dec.{eqb}
use lib.ListN.{get_or}
use borrow.Author.Tests.{eqb-true, eq-eqb}
use Rattle.bpa.specs.Plans.{Rule}
use Rattle.bpa.specs.Norms.{sum_of}
use Rattle.bpa.specs.Method.{Rows, expand}
use Rattle.bpa.proofs.Basics.Cases.{and_left, and_right, and_both, never_both}
use Rattle.bpa.proofs.Norm.NormRounds.{cond_elim}
use Rattle.first_run.specs.FirstRun.{runs_by}

module _ (ns : List ℕ) (j : ℕ) where
  -- a rule of the job that lowers its norm by one
  abbrev Lowers : Rule → Type 0
  Lowers r = (r.job ≡ j) × (get_or ns j 0 ≡ suc (sum_of ns r.after))

  module _ (f : Rows) where
    abbrev run_by : Rule → List ℕ
    run_by r = r.move ∷ expand f r.after

    -- by more rules: a run by the first one too if it is such a rule, and else no other
    runs_cases : (P : List (List ℕ) → Type 0) (r : Rule) (rs : List Rule) →
        (Lowers r → P (run_by r ∷ runs_by f ns j rs)) → ((Lowers r → ⊥) → P (runs_by f ns j rs)) → P (runs_by f ns j (r ∷ rs))
    unfolding runs_by
    runs_cases P r rs taken passed =
        let n = get_or ns j 0 in
        let m = suc (sum_of ns r.after) in
        cond_elim P _ _ _
        (λ e. taken (eqb-true r.job j (and_left (eqb r.job j) _ e), eqb-true n m (and_right (eqb r.job j) _ e)))
        (λ e. passed (λ (o, l). never_both _ (and_both (eqb r.job j) (eqb n m) (eq-eqb r.job j o) (eq-eqb n m l)) e))

    abbrev ByLowering : List Rule → (row : List ℕ) → Type 0
    ByLowering rs row = (r : Rule) × Memᴰ r rs × Lowers r × (row ≡ run_by r)

    pub by_lowering : (rs : List Rule) {row : List ℕ} → Memᴰ row (runs_by f ns j rs) → ByLowering rs row
    unfolding runs_by
    by_lowering [] m = absurd (Memᴰ.not-nil m)
    by_lowering (r ∷ rs) {row} m =
        runs_cases (λ l. Memᴰ row l → ByLowering (r ∷ rs) row) r rs
        (λ h k. ⊎_elim (λ e. (r, here refl, h, e)) (λ d. later (by_lowering rs d)) (Memᴰ.cases_cons k))
        (λ h k. later (by_lowering rs k)) m
      where
        later : ByLowering rs row → ByLowering (r ∷ rs) row
        later (s, k, h, e) = (s, there k, h, e)

    pub each_lowering : (rs : List Rule) {r : Rule} → Memᴰ r rs → Lowers r → Memᴰ (run_by r) (runs_by f ns j rs)
    each_lowering [] m h = absurd (Memᴰ.not-nil m)
    each_lowering (s ∷ rs) {r} m h =
        runs_cases (Memᴰ (run_by r)) s rs
        (λ k. ⊎_elim (λ e. here (ap run_by e)) (λ d. there (each_lowering rs d h)) (Memᴰ.cases_cons m))
        (λ k. ⊎_elim (λ e. absurd (k (subst Lowers e h))) (λ d. each_lowering rs d h) (Memᴰ.cases_cons m))

  -- only what the jobs after such rules run matters
  pub runs_agree : (f g : Rows) (rs : List Rule) →
      ((r : Rule) → Memᴰ r rs → Lowers r → expand f r.after ≡ expand g r.after) → runs_by f ns j rs ≡ runs_by g ns j rs
  unfolding runs_by
  runs_agree f g [] h = refl
  runs_agree f g (r ∷ rs) h =
      let rest = runs_agree f g rs (λ s m. h s (there m)) in
      runs_cases f (λ l. l ≡ runs_by g ns j (r ∷ rs)) r rs
      (λ k. runs_cases g (λ l. run_by f r ∷ runs_by f ns j rs ≡ l) r rs
      (λ k'. ap₂ (λ l ls. (r.move ∷ l) ∷ ls) (h r (here refl) k) rest) (λ n. absurd (n k)))
      (λ n. runs_cases g (λ l. runs_by f ns j rs ≡ l) r rs (λ k. absurd (n k)) (λ n'. rest))
