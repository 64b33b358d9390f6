-- Runs of plans in a row: a run of a front and then one of what waits behind it. Assumes nothing.
use mathlib.Core.Path.{◌≡◌, refl, sym, ap, subst}
use mathlib.Core.List.{List, [], ◌∷◌, ◌++◌, append-nil, cons≢nil}
use mathlib.Core.Logic.{◌⊎◌, inl, inr, ⊎_elim}
use Prim.Native.Nat.{ℕ}
use Rattle.bpa.specs.Plans.{Table, Runs, empty_run, longer_run}
use Rattle.bpa.proofs.Basics.Plans.{step_append, step_front}
use Rattle.first_run.proofs.RunParts.{first_move}

module _ (t : Table) where
  -- a run without a move leaves the plan as it is
  pub no_move : {p end : List ℕ} → Runs t p [] end → p ≡ end
  no_move (empty_run p) = refl

  -- two runs, one after the other
  pub run_then : {p run q more end : List ℕ} → Runs t p run q → Runs t q more end → Runs t p (run ++ more) end
  run_then (empty_run p) s = s
  run_then {more = more} {end = end} (longer_run p q a run r k h) s = longer_run p q a (run ++ more) end k (run_then h s)

  -- the front of a run
  pub run_front : (run more : List ℕ) {p end : List ℕ} → Runs t p (run ++ more) end → (q : List ℕ) × Runs t p run q × Runs t q more end
  run_front [] more {p} r = (p, empty_run p, r)
  run_front (a ∷ run) more {p} r =
      let (q, s, k) = first_move t r in
      let (u, h, m) = run_front run more k in
      (u, longer_run p q a run u s h, m)

  -- what waits behind stays
  pub run_waiting : {p run end : List ℕ} (q : List ℕ) → Runs t p run end → Runs t (p ++ q) run (end ++ q)
  run_waiting q (empty_run p) = empty_run (p ++ q)
  run_waiting w (longer_run p q a run end s r) =
      longer_run (p ++ w) (q ++ w) a run (end ++ w) (step_append t p q w a s) (run_waiting w r)

  -- a front that is through, and then what waits
  pub run_both : {p run q more end : List ℕ} → Runs t p run [] → Runs t q more end → Runs t (p ++ q) (run ++ more) end
  run_both {q = q} r s = run_then (run_waiting q r) s

  -- a run of two plans in a row stays within the first, or is a complete run of the first and then one of the second
  abbrev pub Within : (p q run end : List ℕ) → Type 0
  Within p q run end = (rest : List ℕ) × Runs t p run rest × (end ≡ rest ++ q)

  abbrev pub Behind : (p q run end : List ℕ) → Type 0
  Behind p q run end = (front : List ℕ) × (more : List ℕ) × (run ≡ front ++ more) × Runs t p front [] × Runs t q more end

  pub split : (run p q : List ℕ) {end : List ℕ} → Runs t (p ++ q) run end → Within p q run end ⊎ Behind p q run end
  split [] [] q r = inr ([], [], refl, empty_run [], r)
  split [] (j ∷ js) q r = inl (j ∷ js, empty_run (j ∷ js), sym (no_move r))
  split (a ∷ run) [] q r = inr ([], a ∷ run, refl, empty_run [], r)
  split (a ∷ run) (j ∷ js) q {end} r =
      let (u, s, k) = first_move t r in
      let (v, m, e) = step_front t j js q u a s in
      ⊎_elim
      (λ (w : Within v q run end). let (rest, h, f) = w in inl (rest, longer_run (j ∷ js) v a run rest m h, f))
      (λ (w : Behind v q run end).
      let (front, more, f, h, i) = w in inr (a ∷ front, more, ap (λ (l : List ℕ). a ∷ l) f, longer_run (j ∷ js) v a front [] m h, i))
      (split run v q (subst (λ (l : List ℕ). Runs t l run end) e k))

  -- a complete run of both is a complete run of each
  pub split_complete : (run p q : List ℕ) → Runs t (p ++ q) run [] → Behind p q run []
  split_complete run p q r =
      ⊎_elim
      (λ (w : Within p q run []).
      let (rest, h, e) = w in
      let (f, g) = both_empty rest q (sym e) in
      (run, [], sym (append-nil run), subst (λ (l : List ℕ). Runs t p run l) f h, subst (λ (l : List ℕ). Runs t l [] []) (sym g) (empty_run [])))
      (λ (w : Behind p q run []). w)
      (split run p q r)
    where
      both_empty : (u v : List ℕ) → u ++ v ≡ [] → (u ≡ []) × (v ≡ [])
      both_empty [] v e = (refl, e)
      both_empty (x ∷ u) v e = absurd (cons≢nil e)
