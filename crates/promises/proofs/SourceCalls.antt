-- What the calls about sameness tell, for every source of tables: f is the refusal of the source and t its table, which is accepted once it passes.
-- An image is one source, an image under an alike list another. Assumes nothing.
use mathlib.Core.Path.{◌≡◌, sym, ap, subst, ◌∙◌}
use mathlib.Core.Bool.{Bool, true}
use mathlib.Core.List.{List, [], ◌∷◌, Memᴰ}
use mathlib.Core.Logic.{◌↔◌}
use Prim.Native.Nat.{ℕ, ◌≤◌, ◌<◌}
use lib.IntN.{ℤ, pos}
use lib.ListN.{length, take}
use Rattle.bpa.specs.Plans.{Table}
use Rattle.bpa.specs.Norms.{norms}
use Rattle.bpa.specs.Bisimilar.{Bisimilar, Lowest, Form}
use Rattle.bpa.specs.Method.{same, prime_form}
use Rattle.bpa.proofs.Basics.Cases.{by_test, never_both}
use Rattle.bpa.proofs.Base.MethodDecides.{equivalent_bisimilar}
use Rattle.bpa.proofs.Forms.FormMeaning.{stands_lowest}
use Rattle.bpa.proofs.Answers.{same_exact, same_forms, form_exists, form_single, form_longest, lowest_own_form}
use Rattle.answer.specs.Refusals.{or_else, space_refusal}
use Rattle.answer.specs.Answer.{one_if, Writes, with_space, GivesWithSpace, WritesWithSpace}
use Rattle.answer.proofs.RefusalChains.{neither, both_pass}
use Rattle.answer.proofs.Results.{result_is, one_yes, one_no, written_result, result_written}
use Rattle.refusal.specs.Refusals.{plan_refusal, plans_refusal, Accepted, AcceptedPlan}
use Rattle.refusal.proofs.PlanRefusals.{accepted_plan, accepted_plans, job_passed}
use Rattle.workspace.proofs.UsablePart.{long_passes}

-- a number for yes or no, and what yes means exactly
pub told_exactly : (b : Bool) (n : ℕ) {X : Type 0} → n ≡ one_if b → (b ≡ true) ↔ X → ((n ≡ 1) ↔ X) × ((n ≡ 0) ↔ (X → ⊥))
told_exactly b n v exact = (
  ((λ e. exact.0 ((one_yes b).0 (sym v ∙ e))), (λ x. v ∙ (one_yes b).1 (exact.1 x))),
  (
    (λ e x. never_both b (exact.1 x) ((one_no b).0 (sym v ∙ e))),
    (λ none. v ∙ (one_no b).1 (by_test b (λ e. absurd (none (exact.0 e))) (λ e. e))),
  ),
)

module _ (f : ℕ) (t : Table) (source : f ≡ 0 → Accepted t) where
  -- the refusals of a call about one plan and about two, and what the calls answer
  abbrev one : (plan : List ℕ) → ℕ
  one p = or_else f (plan_refusal t p)

  abbrev two : (left right : List ℕ) → ℕ
  two p q = or_else f (plans_refusal t p q)

  abbrev Told : (left right space : List ℕ) → ℤ → (space' : List ℕ) → Type 0
  Told p q s r s' = GivesWithSpace (two p q) (one_if (same t p q)) s r s'

  abbrev Wrote : (plan out space : List ℕ) → ℤ → (out' space' : List ℕ) → Type 0
  Wrote p o s r o' s' = WritesWithSpace (one p) (prime_form t p) o s r o' s'

  -- a comparison that gives back a number was not refused
  pub answer_given : (p q s s' : List ℕ) (n : ℕ) → Told p q s (pos n) s' → Accepted t × AcceptedPlan t p × AcceptedPlan t q × (n ≡ one_if (same t p q))
  answer_given p q s s' n w =
      let (z, v) = result_is (with_space s (two p q)) (one_if (same t p q)) n w.answer in
      let (i, k) = neither f (plans_refusal t p q) (neither (space_refusal s) (two p q) z).1 in
      let (a, c) = accepted_plans t p q k in
      (source i, a, c, v)

  pub answer_tells : (p q s s' : List ℕ) (n : ℕ) → Told p q s (pos n) s' →
      ((n ≡ 1) ↔ Bisimilar t p q) × ((n ≡ 0) ↔ (Bisimilar t p q → ⊥))
  answer_tells p q s s' n w =
      let (k, a, c, v) = answer_given p q s s' n w in
      told_exactly (same t p q) n v (same_exact t k.good p q a.over_table c.over_table)

  accepted : (p : List ℕ) → one p ≡ 0 → Accepted t × AcceptedPlan t p
  accepted p h = let (i, k) = neither f (plan_refusal t p) h in (source i, accepted_plan t p k)

  -- a call that gives back a result was not refused
  bytes_written : (p o o' s s' : List ℕ) (n : ℕ) → Wrote p o s (pos n) o' s' → (one p ≡ 0) × (n ≡ length (take n o')) × (take n o' ≡ prime_form t p)
  bytes_written p o o' s s' n w =
      let a = written_result (with_space s (one p)) (prime_form t p) o o' n w.written in
      ((neither (space_refusal s) (one p) a.passed).1, a.count ∙ ap length (sym a.bytes), a.bytes)

  form_of_bytes : (p o o' s s' : List ℕ) (n : ℕ) → Wrote p o s (pos n) o' s' → Form t p (take n o')
  form_of_bytes p o o' s s' n w =
      let (z, c, e) = bytes_written p o o' s s' n w in
      let (a, b) = accepted p z in
      subst (Form t p) (sym e) (form_exists t a.good p b.over_table)

  pub bytes_form : (p o o' s s' : List ℕ) (n : ℕ) → Wrote p o s (pos n) o' s' →
      Form t p (take n o') × (length (take n o') ≡ n) × ((q : List ℕ) → Bisimilar t q p → length q ≤ n)
  bytes_form p o o' s s' n w =
      let (z, c, e) = bytes_written p o o' s s' n w in
      let form = form_of_bytes p o o' s s' n w in (
        form,
        sym c,
        λ q b. subst (λ (m : ℕ). length q ≤ m) (sym c) (form_longest t (accepted p z).0.good p (take n o') q form b),
      )

  -- a call about the plan of one job passes its checks
  one_job : (j : ℕ) (s : List ℕ) → f ≡ 0 → j < t.jobs → 65536 ≤ length s → with_space s (one (j ∷ [])) ≡ 0
  one_job j s h l k =
      both_pass (space_refusal s) (one (j ∷ [])) (long_passes s k) (both_pass f (plan_refusal t (j ∷ [])) h (job_passed t j (source h) l))

  pub bytes_stand : (j : ℕ) → f ≡ 0 → j < t.jobs →
      (Lowest t j → (o o' s s' : List ℕ) (r : ℤ) → 1 ≤ length o → 65536 ≤ length s → Wrote (j ∷ []) o s r o' s' →
      (r ≡ pos 1) × (take 1 o' ≡ j ∷ []))
      × ((p o o' s s' : List ℕ) (n : ℕ) → Wrote p o s (pos n) o' s' → Memᴰ j (take n o') → Lowest t j)
  bytes_stand j h l =
      let g = (source h).good in (
        λ low o o' s s' r room space w.
            let own : j ∷ [] ≡ prime_form t (j ∷ []) = form_single t g (j ∷ []) (j ∷ []) (lowest_own_form t g j low) in
            let checks = with_space s (one (j ∷ [])) in
            let k : Writes checks (j ∷ []) o r o' = subst (λ (x : List ℕ). Writes checks x o r o') (sym own) w.written in
            result_written checks (j ∷ []) o r o' (one_job j s h l space) room k,
        λ p o o' s s' n w m. stands_lowest t (norms t) g (equivalent_bisimilar t (norms t) g) j p (take n o') (form_of_bytes p o o' s s' n w) m,
      )

  pub bytes_tell : (p q o o' s s' u u' v v' : List ℕ) (n m : ℕ) → Wrote p o s (pos n) o' s' → Wrote q u v (pos m) u' v' →
      (take n o' ≡ take m u') ↔ Bisimilar t p q
  bytes_tell p q o o' s s' u u' v v' n m w x =
      let (z, c, e) = bytes_written p o o' s s' n w in
      let (h, d, k) = bytes_written q u u' v v' m x in
      let (a, b) = accepted p z in
      let oₚ = b.over_table in
      let o₌ = (accepted q h).1.over_table in
      let g = a.good in
      let forms = same_forms t g p q oₚ o₌ in
      let exact = same_exact t g p q oₚ o₌ in (
        (λ y. exact.0 (forms.1 (sym e ∙ y ∙ k))),
        (λ y. e ∙ forms.0 (exact.1 y) ∙ sym k),
      )
