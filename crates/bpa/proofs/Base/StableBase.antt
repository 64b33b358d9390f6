-- The pairs of a stable base match for every number of rounds. Assumes nothing.
use mathlib.Core.Path.{◌≡◌}
use mathlib.Core.Bool.{true}
use mathlib.Core.List.{List, [], ◌∷◌}
use Prim.Native.Nat.{ℕ, zero, suc}
use Rattle.bpa.specs.Plans.{Table, over}
use Rattle.bpa.specs.Norms.{Good}
use Rattle.bpa.specs.Bisimilar.{Simulates, Approx}
use Rattle.bpa.specs.Method.{candidate, Base, judged, fits}
use Rattle.bpa.proofs.Basics.Plans.{over_one, over_cons, step_over}
use Rattle.bpa.proofs.Basics.Order.{precedes_le}
use Rattle.bpa.proofs.Judge.Candidates.{candidate_over}
use Rattle.bpa.proofs.Base.MatchedMoves.{matched_simulates}
use Rattle.bpa.proofs.Judge.JudgeSound.{Sound, judged_sound}
use Rattle.bpa.proofs.Base.Refinement.{Stable}

module _ (t : Table) (ns : List ℕ) (g : Good t ns) (b : Base) where
  -- plans that simulate each other up to the judge match one round more than its pairs
  simulates_sound : (n : ℕ) → Sound t ns n b → (p q : List ℕ) → over t p ≡ true → over t q ≡ true →
      Simulates t (λ p' q'. judged t ns b p' q' ≡ true) p q → Simulates t (Approx t n) p q
  simulates_sound n s p q o o' h a p' i =
      let (q', k, e) = h a p' i in
      (q', k, judged_sound t ns g n b s p' q' (step_over t ns g p p' a o i) (step_over t ns g q q' a o' k) e)

  pub stable_sound : Stable t ns b → (n : ℕ) → Sound t ns n b
  unfolding fits
  stable_sound s zero y x hy hx o h = tt
  stable_sound s (suc n) y x hy hx o h =
      let c = candidate t ns y x in
      let oₓ : over t (x ∷ c) ≡ true = over_cons t x c hx (candidate_over t ns g y x hy (precedes_le ns x y o)) in
      let (l, r) = matched_simulates (judged t ns b) t (y ∷ []) (x ∷ c) (s y x hy hx o h) in (
        simulates_sound n (stable_sound s n) (y ∷ []) (x ∷ c) (over_one t y hy) oₓ l,
        simulates_sound n (stable_sound s n) (x ∷ c) (y ∷ []) oₓ (over_one t y hy) r,
      )
