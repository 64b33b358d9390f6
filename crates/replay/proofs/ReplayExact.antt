-- THE ANSWER OF A REPLAY means what it says: `replay` gives the number of the meaning, in every table. Assumes nothing.
use mathlib.Core.Path.{◌≡◌, refl, sym, ap, ◌∙◌, subst}
use mathlib.Core.Bool.{true, false, cond, true≢false}
use mathlib.Core.List.{List, [], ◌∷◌, nil≢cons, Memᴰ}
use mathlib.Core.Logic.{◌⊎◌, inl, inr, ⊎_elim, ⊎_map}
use Prim.Native.Nat.{ℕ, suc, ◌+◌}
use native.Mathlib.Omega.{arith}
use lib.Dec.{eqb}
use lib.ListN.{take}
use borrow.Author.Tests.{eqb-true, eq-eqb}
use Rattle.bpa.specs.Plans.{Table, Step, Runs, empty_run, longer_run, Move, moves}
use Rattle.bpa.proofs.Basics.Cases.{by_test, never_both}
use Rattle.bpa.proofs.Basics.Moves.{moves_are_steps, steps_are_moves}
use Rattle.first_run.proofs.RunParts.{first_move}
use Rattle.replay.specs.Replay.{Says, by_move, after_move, none_left, one_empty, replay_from, replay}
use Rattle.replay.proofs.RunSplits.{no_move}

-- WHAT PLANS BECOME by a move
module _ (a : ℕ) (q : List ℕ) where
  abbrev pub this : Move
  this = record { move = a; rest = q }

  pub is_move : (ms : List Move) → Memᴰ q (by_move a ms) → Memᴰ this ms
  unfolding by_move
  is_move [] m = absurd (mathlib.Core.List.Memᴰ.not-nil m)
  is_move (x ∷ ms) m =
      by_test (eqb x.move a)
      (λ e.
      let k : Memᴰ q (x.rest ∷ by_move a ms) = rw e at m in
      ⊎_elim
      (λ (f : q ≡ x.rest). mathlib.Core.List.Memᴰ.head (λ i. record { move = sym (eqb-true x.move a e) i; rest = f i }))
      (λ (h : Memᴰ q (by_move a ms)). mathlib.Core.List.Memᴰ.tail (is_move ms h))
      (mathlib.Core.List.Memᴰ.cases_cons k))
      (λ e. let k : Memᴰ q (by_move a ms) = rw e at m in mathlib.Core.List.Memᴰ.tail (is_move ms k))

  pub of_move : (ms : List Move) → Memᴰ this ms → Memᴰ q (by_move a ms)
  unfolding by_move
  of_move [] m = absurd (mathlib.Core.List.Memᴰ.not-nil m)
  of_move (x ∷ ms) m =
      ⊎_elim
      (λ (f : this ≡ x).
      rw (eq-eqb x.move a (sym (ap (λ (y : Move). y.move) f))) (mathlib.Core.List.Memᴰ.head (ap (λ (y : Move). y.rest) f)))
      (λ (h : Memᴰ this ms).
      by_test (eqb x.move a) (λ e. rw e (mathlib.Core.List.Memᴰ.tail (of_move ms h))) (λ e. rw e (of_move ms h)))
      (mathlib.Core.List.Memᴰ.cases_cons m)

-- some of the plans
abbrev Some : (plans : List (List ℕ)) → (List ℕ → Type 0) → Type 0
Some ps P = (p : List ℕ) × Memᴰ p ps × P p

module _ (t : Table) where
  module _ (a : ℕ) (q : List ℕ) where
    some_step : (ps : List (List ℕ)) → Memᴰ q (after_move t a ps) → Some ps (λ p. Step t p a q)
    unfolding after_move
    some_step [] m = absurd (mathlib.Core.List.Memᴰ.not-nil m)
    some_step (p ∷ ps) m =
        ⊎_elim
        (λ (h : Memᴰ q (by_move a (moves t p))). (p, mathlib.Core.List.Memᴰ.head refl, moves_are_steps t p a q (is_move a q (moves t p) h)))
        (λ (h : Memᴰ q (after_move t a ps)). let (x, k, s) = some_step ps h in (x, mathlib.Core.List.Memᴰ.tail k, s))
        (mathlib.Core.List.Memᴰ.append_cases (by_move a (moves t p)) m)

    step_some : (ps : List (List ℕ)) (p : List ℕ) → Memᴰ p ps → Step t p a q → Memᴰ q (after_move t a ps)
    unfolding after_move
    step_some [] p m s = absurd (mathlib.Core.List.Memᴰ.not-nil m)
    step_some (x ∷ ps) p m s =
        ⊎_elim
        (λ (e : p ≡ x).
        mathlib.Core.List.Memᴰ.append_left (after_move t a ps)
        (of_move a q (moves t x) (steps_are_moves t x a q (subst (λ (u : List ℕ). Step t u a q) e s))))
        (λ (h : Memᴰ p ps). mathlib.Core.List.Memᴰ.append_right (by_move a (moves t x)) (step_some ps p h s))
        (mathlib.Core.List.Memᴰ.cases_cons m)

  -- a run of one of the plans goes on with a run of one of those that they become
  runs_on : (a : ℕ) (log end : List ℕ) (ps : List (List ℕ)) → Some ps (λ p. Runs t p (a ∷ log) end) → Some (after_move t a ps) (λ q. Runs t q log end)
  runs_on a log end ps (p, m, r) = let (q, s, k) = first_move t r in (q, step_some a q ps p m s, k)

  runs_back : (a : ℕ) (log end : List ℕ) (ps : List (List ℕ)) → Some (after_move t a ps) (λ q. Runs t q log end) → Some ps (λ p. Runs t p (a ∷ log) end)
  runs_back a log end ps (q, m, r) = let (p, k, s) = some_step a q ps m in (p, k, longer_run p q a log end s r)

-- NONE LEFT, and one that is empty
pub none_in : (ps : List (List ℕ)) (q : List ℕ) → none_left ps ≡ true → Memᴰ q ps → ⊥
unfolding none_left
none_in [] q e m = mathlib.Core.List.Memᴰ.not-nil m
none_in (p ∷ ps) q e m = true≢false (sym e)

pub one_in : (ps : List (List ℕ)) → none_left ps ≡ false → (q : List ℕ) × Memᴰ q ps
unfolding none_left
one_in [] e = absurd (true≢false e)
one_in (p ∷ ps) e = (p, mathlib.Core.List.Memᴰ.head refl)

empty_in : (ps : List (List ℕ)) → one_empty ps ≡ true → Memᴰ [] ps
unfolding one_empty
empty_in [] e = absurd (true≢false (sym e))
empty_in ([] ∷ ps) e = mathlib.Core.List.Memᴰ.head refl
empty_in ((j ∷ js) ∷ ps) e = mathlib.Core.List.Memᴰ.tail (empty_in ps e)

in_empty : (ps : List (List ℕ)) (q : List ℕ) → q ≡ [] → Memᴰ q ps → one_empty ps ≡ true
unfolding one_empty
in_empty [] q z m = absurd (mathlib.Core.List.Memᴰ.not-nil m)
in_empty ([] ∷ ps) q z m = refl
in_empty ((j ∷ js) ∷ ps) q z m =
    ⊎_elim (λ (e : q ≡ j ∷ js). absurd (nil≢cons (sym z ∙ e))) (λ (h : Memᴰ q ps). in_empty ps q z h) (mathlib.Core.List.Memᴰ.cases_cons m)

-- THE ANSWER for some plans, of which there is one
module _ (t : Table) where
  abbrev Wholes : (plans : List (List ℕ)) → (log : List ℕ) → Type 0
  Wholes ps log = Some ps (λ p. Runs t p log [])

  abbrev Start : (plans : List (List ℕ)) → (log : List ℕ) → Type 0
  Start ps log = (end : List ℕ) × Some ps (λ p. Runs t p log end)

  abbrev Told : (place : ℕ) → (log : List ℕ) → (plans : List (List ℕ)) → ℕ → Type 0
  Told k log ps r =
      ((r ≡ 1) × Wholes ps log)
      ⊎ (((r ≡ 0) × ((Wholes ps log → ⊥) × Start ps log))
      ⊎ ((i : ℕ) × (r ≡ 2 + (k + i)) × (Start ps (take i log) × (Start ps (take (suc i) log) → ⊥))))

  nothing_left : (k : ℕ) (ps : List (List ℕ)) (p : List ℕ) → Memᴰ p ps → Told k [] ps (cond (one_empty ps) 1 0)
  nothing_left k ps p m =
      by_test (one_empty ps)
      (λ e. inl (rw e, ([], empty_in ps e, empty_run [])))
      (λ e.
      inr (inl (rw e, ((λ w. never_both (one_empty ps) (in_empty ps w.0 (no_move t w.2) w.1) e), (p, (p, m, empty_run p))))))

  -- one move more in front
  module _ (k a : ℕ) (log : List ℕ) (ps : List (List ℕ)) where
    abbrev qs : List (List ℕ)
    qs = after_move t a ps

    on : (l : List ℕ) → Start ps (a ∷ l) → Start qs l
    on l (end, s) = (end, runs_on t a l end ps s)

    back : (l : List ℕ) → Start qs l → Start ps (a ∷ l)
    back l (end, s) = (end, runs_back t a l end ps s)

    further : (r : ℕ) → Told (suc k) log qs r → Told k (a ∷ log) ps r
    further r =
        ⊎_map (λ (w : (r ≡ 1) × Wholes qs log). (w.0, runs_back t a log [] ps w.1))
        (⊎_map
        (λ (w : (r ≡ 0) × ((Wholes qs log → ⊥) × Start qs log)).
        (w.0, ((λ x. w.1.0 (runs_on t a log [] ps x)), back log w.1.1)))
        (λ (w : (i : ℕ) × (r ≡ 2 + (suc k + i)) × (Start qs (take i log) × (Start qs (take (suc i) log) → ⊥))).
        let (i, e, (s, n)) = w in
        (suc i, omega (arith, e), (back (take i log) s, (λ x. n (on (take (suc i) log) x))))))

    stops : (p : List ℕ) → Memᴰ p ps → none_left qs ≡ true → Told k (a ∷ log) ps (2 + k)
    stops p m e =
        inr (inr (0, omega arith, ((p, (p, m, empty_run p)), (λ x. let (end, (q, h, r)) = on [] x in none_in qs q e h))))

  told : (log : List ℕ) (k : ℕ) (ps : List (List ℕ)) (p : List ℕ) → Memᴰ p ps → Told k log ps (replay_from t k log ps)
  unfolding replay_from
  told [] k ps p m = nothing_left k ps p m
  told (a ∷ log) k ps p m =
      by_test (none_left (after_move t a ps))
      (λ e. rw e (stops k a log ps p m e))
      (λ e. let (q, h) = one_in (after_move t a ps) e in rw e (further k a log ps _ (told log (suc k) (after_move t a ps) q h)))

  -- THE ANSWER for one plan
  pub replay_says : (p log : List ℕ) → Says t p log (replay t p log)
  unfolding replay
  replay_says p log =
      ⊎_map (λ (w : (r ≡ 1) × Wholes ps log). (w.0, one [] log w.1))
      (⊎_map
      (λ (w : (r ≡ 0) × ((Wholes ps log → ⊥) × Start ps log)).
      (w.0, ((λ x. w.1.0 (p, mathlib.Core.List.Memᴰ.head refl, x)), begins log w.1.1)))
      (λ (w : (i : ℕ) × (r ≡ 2 + (0 + i)) × (Start ps (take i log) × (Start ps (take (suc i) log) → ⊥))).
      let (i, e, (s, n)) = w in
      (i, omega (arith, e), (begins (take i log) s, (λ x. n (x.0, (p, mathlib.Core.List.Memᴰ.head refl, x.1)))))))
      (told log 0 ps p (mathlib.Core.List.Memᴰ.head refl))
    where
      ps : List (List ℕ)
      ps = p ∷ []

      r : ℕ
      r = replay_from t 0 log ps

      one : (end l : List ℕ) → Some ps (λ q. Runs t q l end) → Runs t p l end
      one end l (q, m, k) = subst (λ (u : List ℕ). Runs t u l end) (mathlib.Core.List.Memᴰ.eq_of_singleton m) k

      begins : (l : List ℕ) → Start ps l → (end : List ℕ) × Runs t p l end
      begins l (end, s) = (end, one end l s)
