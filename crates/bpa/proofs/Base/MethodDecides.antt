-- THE METHOD DECIDES: judged by an exact base, plans are the same exactly if they are bisimilar. Assumes nothing.
use mathlib.Core.Path.{◌≡◌, ◌∙◌}
use mathlib.Core.Bool.{true, false}
use mathlib.Core.List.{List}
use Prim.Native.Nat.{ℕ, suc}
use native.Mathlib.Omega.{arith}
use Rattle.bpa.specs.Plans.{Table, over}
use Rattle.bpa.specs.Norms.{sum_of, Good}
use Rattle.bpa.specs.Bisimilar.{Simulates, Approx, Bisimulation, Bisimilar}
use Rattle.bpa.specs.Method.{candidate, Base, judged, final_base}
use Rattle.bpa.specs.Bases.{OrderedPairs}
use Rattle.bpa.proofs.Basics.Plans.{step_over}
use Rattle.bpa.proofs.Rounds.Approximants.{approx_sym}
use Rattle.bpa.proofs.Rounds.Equivalence.{Equivalent}
use Rattle.bpa.proofs.Basics.Cases.{same_test, never_both}
use Rattle.bpa.proofs.Judge.Candidates.{candidates_closed}
use Rattle.bpa.proofs.Judge.JudgeMonotone.{judged_symmetric, judged_in_range}
use Rattle.bpa.proofs.Judge.JudgeSound.{judged_sound}
use Rattle.bpa.proofs.Judge.JudgeComplete.{rounds_for, judged_complete}
use Rattle.bpa.proofs.Base.Refinement.{final_level, final_full}
use Rattle.bpa.proofs.Base.ExactBase.{Exact, exact_base}

-- a plan that matches this one for so many rounds is bisimilar to it
unfoldable pub deciding_rounds : Table → (norms : List ℕ) → (plan : List ℕ) → ℕ
deciding_rounds t ns p = rounds_for (final_level t ns) (sum_of ns p) t.jobs

module _ (t : Table) (ns : List ℕ) (g : Good t ns) where
  -- exact bases hold the same pairs
  exact_holds : (b b' : Base) → Exact t ns b → Exact t ns b' → OrderedPairs t ns (λ y x. b y x ≡ true → b' y x ≡ true)
  exact_holds b b' k k' y x hy hx o h =
      k'.full y x (candidate t ns y x) hy hx (candidates_closed t ns g y x hy hx o) o (k.sound y x hy hx o h)

  pub exact_agree : (b b' : Base) → Exact t ns b → Exact t ns b' → OrderedPairs t ns (λ y x. b y x ≡ b' y x)
  exact_agree b b' k k' y x hy hx o =
      same_test (b y x) (b' y x) (exact_holds b b' k k' y x hy hx o) (exact_holds b' b k' k y x hy hx o)

  module _ (b : Base) (k : Exact t ns b) where
    module _ (p q : List ℕ) (o : over t p ≡ true) (o' : over t q ≡ true) where
      pub judged_equivalent : judged t ns b p q ≡ true → Equivalent t p q
      judged_equivalent h n = judged_sound t ns g n b (λ y x hy hx l e. k.sound y x hy hx l e n) p q o o' h

      pub matching_judged : Approx t (deciding_rounds t ns p) p q → judged t ns b p q ≡ true
      unfolding deciding_rounds
      matching_judged h =
          judged_in_range t ns g b (final_base t ns) (exact_agree b (final_base t ns) k (exact_base t ns g)) p q o o' ∙
          judged_complete t ns g (final_base t ns) (sum_of ns p) p q o o' (omega arith) (final_level t ns) (final_full t ns g) h

      pub equivalent_judged : Equivalent t p q → judged t ns b p q ≡ true
      equivalent_judged h = matching_judged (h (deciding_rounds t ns p))

      -- plans that are judged apart are told apart in a number of rounds that is known before
      pub judged_apart : judged t ns b p q ≡ false → Approx t (deciding_rounds t ns p) p q → ⊥
      judged_apart h m = never_both (judged t ns b p q) (matching_judged m) h

    judged_simulates : (p q : List ℕ) → over t p ≡ true → over t q ≡ true → Equivalent t p q →
        Simulates t (λ p' q'. judged t ns b p' q' ≡ true) p q
    judged_simulates p q o o' h a p' s =
        let (q', s', m) = (h (suc (deciding_rounds t ns p'))).0 a p' s in
        (q', s', matching_judged p' q' (step_over t ns g p p' a o s) (step_over t ns g q q' a o' s') m)

    pub judged_bisimulation : Bisimulation t (judged t ns b)
    unfolding Bisimulation
    judged_bisimulation p q o o' h =
        let e : Equivalent t p q = judged_equivalent p q o o' h in (
          judged_simulates p q o o' e,
          λ a q' s.
              let (p', s', r) = judged_simulates q p o' o (λ n. approx_sym t n p q (e n)) a q' s in
              (p', s', judged_symmetric t ns b p' q' ∙ r),
        )

  pub equivalent_bisimilar : (p q : List ℕ) → over t p ≡ true → over t q ≡ true → Equivalent t p q → Bisimilar t p q
  equivalent_bisimilar p q o o' h = record {
    over_left = o;
    over_right = o';
    relation = judged t ns (final_base t ns);
    bisimulation = judged_bisimulation (final_base t ns) (exact_base t ns g);
    related = equivalent_judged (final_base t ns) (exact_base t ns g) p q o o' h;
  }
