-- In a table without a choice of outcome, plans that are apart are told by a complete run of one of them, so that plans with the same complete
-- runs are the same (002, proposition 8.4). Assumes nothing.
use mathlib.Core.Path.{◌≡◌, refl, sym, subst}
use mathlib.Core.Bool.{true, false}
use mathlib.Core.List.Memᴰ
use mathlib.Core.List.{List, [], ◌∷◌, Memᴰ}
use mathlib.Core.Logic.{◌↔◌, ◌⊎◌, inl, inr, ⊎_elim}
use Prim.Native.Nat.{ℕ, zero, suc}
use Rattle.bpa.specs.Plans.{Table, Move, over, Step, Runs, longer_run, moves}
use Rattle.bpa.specs.Norms.{norms, Good}
use Rattle.bpa.specs.Bisimilar.{Simulates, Approx}
use Rattle.bpa.specs.Method.{same}
use Rattle.bpa.proofs.Basics.Cases.{by_test}
use Rattle.bpa.proofs.Basics.Moves.{moves_are_steps, steps_are_moves}
use Rattle.bpa.proofs.Basics.Plans.{step_over}
use Rattle.bpa.proofs.Norm.NormFewest.{norm_fewest}
use Rattle.bpa.proofs.Answers.{same_exact, apart_told, enough_rounds}
use Rattle.first_run.proofs.RunParts.{first_move}
use Rattle.replay.specs.Replay.{by_move, none_left}
use Rattle.replay.proofs.ReplayExact.{is_move, of_move, none_in, one_in}
use Rattle.deterministic.specs.Deterministic.{Deterministic}
use Rattle.deterministic.specs.CompleteRuns.{SameRuns, OnlyLeft, TellingRun}
use Rattle.deterministic.proofs.SingleSteps.{single_step}
use Rattle.deterministic.proofs.BisimilarRuns.{bisimilar_runs}

-- a step by a move, or none
abbrev StepBy : Table → (plan : List ℕ) → (move : ℕ) → Type 0
StepBy t q a = (q' : List ℕ) × Step t q a q'

step_or_none : (t : Table) (q : List ℕ) (a : ℕ) → StepBy t q a ⊎ (StepBy t q a → ⊥)
step_or_none t q a =
    let ms = moves t q in
    by_test (none_left (by_move a ms))
    (λ e. inr (λ s. let (r, k) = s in none_in (by_move a ms) r e (of_move a r ms (steps_are_moves t q a r k))))
    (λ e. let (r, m) = one_in (by_move a ms) e in inl (r, moves_are_steps t q a r (is_move a r ms m)))

module _ (t : Table) (g : Good t (norms t)) (d : Deterministic t) where
  -- a complete run of a plan over the table
  complete : (p : List ℕ) → over t p ≡ true → (run : List ℕ) × Runs t p run []
  complete p o = let ((run, r, e), least) = norm_fewest t g p o in (run, r)

  -- a run that tells what is left tells the plans before it
  only_before : (p p' q q' run : List ℕ) (a : ℕ) → Step t p a p' → Step t q a q' → OnlyLeft t p' q' run → OnlyLeft t p q (a ∷ run)
  only_before p p' q q' run a s k (r, n) = (
    longer_run p p' a run [] s r,
    λ h. let (x, m, i) = first_move t h in n (subst (λ (l : List ℕ). Runs t l run []) (single_step t d q a x q' m k) i),
  )

  told_before : (p p' q q' : List ℕ) (a : ℕ) → Step t p a p' → Step t q a q' → TellingRun t p' q' → TellingRun t p q
  told_before p p' q q' a s k (run, w) = (
    a ∷ run,
    ⊎_elim (λ (x : OnlyLeft t p' q' run). inl (only_before p p' q q' run a s k x))
        (λ (x : OnlyLeft t q' p' run). inr (only_before q q' p p' run a k s x)) w,
  )

  told_turned : (p q : List ℕ) → TellingRun t p q → TellingRun t q p
  told_turned p q (run, w) = (run, ⊎_elim (λ (x : OnlyLeft t p q run). inr x) (λ (x : OnlyLeft t q p run). inl x) w)

  -- each of some steps is matched for so many rounds, or a run tells the plans
  module _ (n : ℕ) (below : (p q : List ℕ) → over t p ≡ true → over t q ≡ true → Approx t n p q ⊎ TellingRun t p q) (p q : List ℕ)
      (o : over t p ≡ true) (oq : over t q ≡ true) where
    abbrev Matched : Move → Type 0
    Matched m = (q' : List ℕ) × Step t q m.move q' × Approx t n m.rest q'

    one_step : (m : Move) → Step t p m.move m.rest → Matched m ⊎ TellingRun t p q
    one_step m s =
        let op = step_over t (norms t) g p m.rest m.move o s in
        ⊎_elim
        (λ (h : StepBy t q m.move).
        let (q', k) = h in
        ⊎_elim (λ (x : Approx t n m.rest q'). inl (q', k, x))
        (λ (x : TellingRun t m.rest q'). inr (told_before p m.rest q q' m.move s k x))
        (below m.rest q' op (step_over t (norms t) g q q' m.move oq k)))
        (λ (h : StepBy t q m.move → ⊥).
        let (run, r) = complete m.rest op in
        inr (m.move ∷ run, inl (longer_run p m.rest m.move run [] s r, λ x. let (y, k, i) = first_move t x in h (y, k))))
        (step_or_none t q m.move)

    all_steps : (ms : List Move) → ((m : Move) → Memᴰ m ms → Step t p m.move m.rest) →
        ((m : Move) → Memᴰ m ms → Matched m) ⊎ TellingRun t p q
    all_steps [] f = inl (λ m k. absurd (Memᴰ.not-nil k))
    all_steps (x ∷ ms) f =
        ⊎_elim
        (λ (h : Matched x).
        ⊎_elim
        (λ (k : (m : Move) → Memᴰ m ms → Matched m).
        inl (λ m i. ⊎_elim (λ (e : m ≡ x). subst Matched (sym e) h) (k m) (Memᴰ.cases_cons i)))
        (λ (k : TellingRun t p q). inr k) (all_steps ms (λ m k. f m (Memᴰ.tail k))))
        (λ (h : TellingRun t p q). inr h) (one_step x (f x (Memᴰ.head refl)))

    half : Simulates t (Approx t n) p q ⊎ TellingRun t p q
    half =
        ⊎_elim
        (λ (h : (m : Move) → Memᴰ m (moves t p) → Matched m).
        inl (λ a p' s. h (record { move = a; rest = p' }) (steps_are_moves t p a p' s)))
        (λ (h : TellingRun t p q). inr h)
        (all_steps (moves t p) (λ m k. moves_are_steps t p m.move m.rest k))

  -- PLANS MATCH for so many rounds, or a run tells them
  matched_or_told : (n : ℕ) (p q : List ℕ) → over t p ≡ true → over t q ≡ true → Approx t n p q ⊎ TellingRun t p q
  matched_or_told zero p q o oq = inl tt
  matched_or_told (suc n) p q o oq =
      let below = matched_or_told n in
      ⊎_elim
      (λ (h : Simulates t (Approx t n) p q).
      ⊎_elim (λ (k : Simulates t (Approx t n) q p). inl (h, k)) (λ (k : TellingRun t q p). inr (told_turned q p k)) (half n below q p oq o))
      (λ (h : TellingRun t p q). inr h) (half n below p q o oq)

  module _ (p q : List ℕ) (o : over t p ≡ true) (oq : over t q ≡ true) where
    -- PLANS THAT ARE APART: a complete run of one of them that is none of the other
    pub run_tells : same t p q ≡ false → TellingRun t p q
    run_tells e =
        let n = enough_rounds t p in
        ⊎_elim (λ (h : Approx t n p q). absurd (apart_told t g p q o oq e h)) (λ (h : TellingRun t p q). h) (matched_or_told n p q o oq)

    -- THE SAME exactly if the complete runs are
    pub same_by_runs : (same t p q ≡ true) ↔ SameRuns t p q
    same_by_runs = (
      (λ e. bisimilar_runs t (norms t) g p q ((same_exact t g p q o oq).0 e)),
      (λ r.
          by_test (same t p q) (λ e. e) (λ e.
          let (run, w) = run_tells e in
          ⊎_elim (λ (x : OnlyLeft t p q run). absurd (x.1 ((r run).0 x.0))) (λ (x : OnlyLeft t q p run). absurd (x.1 ((r run).1 x.0))) w)),
    )
