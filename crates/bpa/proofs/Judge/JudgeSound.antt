-- What the judge calls the same matches for n rounds, if each held pair does. Assumes nothing.
use mathlib.Core.Path.{◌≡◌, sym, subst}
use mathlib.Core.Bool.{true}
use mathlib.Core.List.{List, [], ◌∷◌}
use Prim.Native.Nat.{ℕ}
use Rattle.bpa.specs.Plans.{Table, over}
use Rattle.bpa.specs.Norms.{Good}
use Rattle.bpa.specs.Bisimilar.{Approx}
use Rattle.bpa.specs.Method.{Rows, itself, candidate, expand, Base, judge, judged}
use Rattle.bpa.specs.Bases.{OrderedPairs}
use Rattle.bpa.proofs.Rounds.Approximants.{approx_sym, approx_trans}
use Rattle.bpa.proofs.Judge.Candidates.{candidates_closed}
use Rattle.bpa.proofs.Judge.Rows.{itself_over, itself_match, RowsOver, RowsMatch, expand_match, grow_match}
use Rattle.bpa.proofs.Judge.Differences.{equal_difference}
use Rattle.bpa.proofs.Judge.JudgeTurns.{judge_induction}

-- each held pair matches for n rounds
abbrev pub Sound : Table → (norms : List ℕ) → (rounds : ℕ) → Base → Type 0
Sound t ns n b = OrderedPairs t ns (λ y x. b y x ≡ true → Approx t n (y ∷ []) (x ∷ candidate t ns y x))

module _ (t : Table) (ns : List ℕ) (g : Good t ns) where
  pub judge_sound : (n : ℕ) (b : Base) → Sound t ns n b → (f : ℕ) (e : Rows) → RowsOver t e → RowsMatch t n e →
      (p q : List ℕ) → over t p ≡ true → over t q ≡ true → judge ns (candidate t ns) b f e p q ≡ true → Approx t n p q
  judge_sound n b s f e r m p q o o' h =
      judge_induction t ns (candidate t ns) (candidates_closed t ns g) b p q o o' (λ f e. RowsMatch t n e → Approx t n p q)
      (λ f e r d m.
      approx_trans t n p (expand e p) q (expand_match t e r ns g n m p o)
      (approx_sym t n q (expand e p)
      (subst (λ l. Approx t n q l) (sym (equal_difference (expand e p) (expand e q) d)) (expand_match t e r ns g n m q o'))))
      (λ f e r x y d u l i m.
      i (grow_match t (candidate t ns) e r u.greater u.lesser
      (candidates_closed t ns g u.greater u.lesser u.greater_job u.lesser_job u.order) ns g n u.lesser_job m
      (s u.greater u.lesser u.greater_job u.lesser_job u.order l))) f e r h m

  pub judged_sound : (n : ℕ) (b : Base) → Sound t ns n b → (p q : List ℕ) → over t p ≡ true → over t q ≡ true →
      judged t ns b p q ≡ true → Approx t n p q
  unfolding judged
  judged_sound n b s p q o o' h = judge_sound n b s t.jobs itself (itself_over t) (itself_match t n) p q o o' h
