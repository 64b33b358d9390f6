-- A base that is full at a level stays full at a higher one when pairs that do not fit are dropped. Assumes nothing.
use mathlib.Core.Path.{◌≡◌, ap, ◌∙◌}
use mathlib.Core.Bool.{true}
use mathlib.Core.List.Memᴰ
use mathlib.Core.List.{List, [], ◌∷◌, Memᴰ}
use mathlib.Core.Logic.{⊎_elim}
use Prim.Native.Nat.{ℕ, suc, ◌+◌, ◌≤◌, ◌<◌, max}
use native.Mathlib.Omega.{arith}
use lib.ListN.{get_or}
use Rattle.bpa.specs.Plans.{Rule, Table, Step}
use Rattle.bpa.specs.Norms.{sum_of, Good}
use Rattle.bpa.specs.Bisimilar.{Approx}
use Rattle.bpa.specs.Method.{candidate, Base, judged, fits}
use Rattle.bpa.specs.Bases.{Full}
use Rattle.bpa.proofs.Basics.Plans.{over_one, over_cons, sum_append, step_over}
use Rattle.bpa.proofs.Rounds.Approximants.{approx_sym, approx_mono}
use Rattle.bpa.proofs.Rounds.Cancellation.{any_reduct}
use Rattle.bpa.proofs.Basics.Order.{precedes_le}
use Rattle.bpa.proofs.Judge.Candidates.{candidate_reduces, candidate_over}
use Rattle.bpa.proofs.Base.MatchedMoves.{simulates_matched}
use Rattle.bpa.proofs.Judge.JudgeMonotone.{judged_symmetric}
use Rattle.bpa.proofs.Judge.JudgeComplete.{rounds_for, rounds_least, judged_complete}

pub full_higher : (t : Table) (ns : List ℕ) (n m : ℕ) (b : Base) → n ≤ m → Full t ns n b → Full t ns m b
full_higher t ns n m b l full y x hy hx o δ oδ h = full y x hy hx o δ oδ (approx_mono t n m (y ∷ []) (x ∷ δ) l h)

-- the greatest norm of the jobs after a rule
unfoldable pub most : (norms : List ℕ) → List Rule → ℕ
most ns [] = 0
most ns (r ∷ rs) = max (sum_of ns r.after) (most ns rs)

most_bounds : (ns : List ℕ) (rs : List Rule) (r : Rule) → Memᴰ r rs → sum_of ns r.after ≤ most ns rs
unfolding most
most_bounds ns [] r m = absurd (Memᴰ.not-nil m)
most_bounds ns (r₁ ∷ rs) r m =
    ⊎_elim (λ (e : r ≡ r₁). omega (arith, ap (λ u. sum_of ns u.after) e))
    (λ k. omega (arith, most_bounds ns rs r k)) (Memᴰ.cases_cons m)

-- the level at which a base is full after it lost pairs that do not fit
unfoldable pub next_level : Table → (norms : List ℕ) → (level : ℕ) → ℕ
next_level t ns n = suc (rounds_for n (most ns t.rules) t.jobs) + suc (most ns t.rules)

pub level_rises : (t : Table) (ns : List ℕ) (n : ℕ) → n ≤ next_level t ns n
unfolding next_level
level_rises t ns n = omega (arith, rounds_least n (most ns t.rules) t.jobs)

module _ (t : Table) (ns : List ℕ) (g : Good t ns) where
  pub norm_bound : (j : ℕ) → j < t.jobs → get_or ns j 0 ≤ suc (most ns t.rules)
  norm_bound j h =
      let (a, w, r, e) = g.falls j h in
      omega (arith, most_bounds ns t.rules (record { job = j; move = a; after = w }) r)

  pub step_bound : (j a : ℕ) (p : List ℕ) → Step t (j ∷ []) a p → sum_of ns p ≤ most ns t.rules
  unfolding sum_of
  step_bound j a p (w, r, e) =
      omega (
        arith,
        ap (sum_of ns) e,
        sum_append ns w [],
        most_bounds ns t.rules (record { job = j; move = a; after = w }) r,
      )

  -- the pairs that fit by a full base
  pub full_fits : (n : ℕ) (b : Base) → Full t ns n b → Full t ns (next_level t ns n) (fits t ns b)
  unfolding next_level fits
  full_fits n b full y x hy hx o δ oδ h =
      let v = most ns t.rules in
      let k = rounds_for n v t.jobs in
      let c = candidate t ns y x in
      let le : get_or ns x 0 ≤ get_or ns y 0 = precedes_le ns x y o in
      let h' : Approx t (suc k) (y ∷ []) (x ∷ c) =
      any_reduct t ns g (suc k) (suc k + suc v) x y δ c hx hy oδ (omega (arith, norm_bound y hy))
      (omega (arith, norm_bound y hy, rounds_least n v t.jobs)) (candidate_reduces t ns g y x hy le) h in
      let rests : (a : ℕ) (p q : List ℕ) → Step t (y ∷ []) a p → Step t (x ∷ c) a q → Approx t k p q →
      judged t ns b p q ≡ true =
      λ a p q s s' m.
      judged_complete t ns g b v p q (step_over t ns g (y ∷ []) p a (over_one t y hy) s)
      (step_over t ns g (x ∷ c) q a (over_cons t x c hx (candidate_over t ns g y x hy le)) s') (step_bound y a p s)
      n full m in
      simulates_matched (judged t ns b) t (y ∷ []) (x ∷ c)
      (λ a p s. let (q, s', m) = h'.0 a p s in (q, s', rests a p q s s' m))
      (λ a q s'.
      let (p, s, m) = h'.1 a q s' in
      (p, s, judged_symmetric t ns b q p ∙ rests a p q s s' (approx_sym t k q p m)))
