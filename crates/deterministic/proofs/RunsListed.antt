-- The list of the complete runs of a plan whose runs end soon is exact. Assumes nothing.
use mathlib.Core.Path.{◌≡◌, refl, sym, ap, ap₂, ◌∙◌, subst}
use mathlib.Core.Bool.{Bool, true, ◌&&◌, false≢true}
use mathlib.Core.List.{List, [], ◌∷◌, map, Memᴰ, cons≢nil}
use mathlib.Core.Logic.{⊎_elim}
use Prim.Native.Nat.{ℕ, zero, suc}
use Rattle.bpa.specs.Plans.{Table, Move, Runs, empty_run, longer_run, moves}
use Rattle.bpa.proofs.Basics.Cases.{and_left, and_right}
use Rattle.bpa.proofs.Basics.Moves.{moves_are_steps, steps_are_moves}
use Rattle.moves.specs.Shown.{equal_plans}
use Rattle.moves.proofs.ShownMoves.{plans_equal}
use Rattle.first_run.proofs.RunParts.{first_move}
use Rattle.replay.proofs.RunSplits.{no_move}
use Rattle.replay.proofs.EndsLaws.{no_run}
use Rattle.deterministic.specs.CompleteRuns.{SameRuns, by_each, runs_within, each_rest, ends_within, equal_lists, same_runs_within}

-- each move of a list with each run that is told of what it leaves
abbrev with_first : Move → (run : List ℕ) → List ℕ
with_first m run = m.move ∷ run

module _ (f : List ℕ → List (List ℕ)) where
  into_each : (ms : List Move) (m : Move) (run : List ℕ) → Memᴰ m ms → Memᴰ run (f m.rest) → Memᴰ (m.move ∷ run) (by_each f ms)
  unfolding by_each
  into_each [] m run k h = absurd (mathlib.Core.List.Memᴰ.not-nil k)
  into_each (x ∷ ms) m run k h =
      ⊎_elim
      (λ (e : m ≡ x).
      mathlib.Core.List.Memᴰ.append_left (by_each f ms)
      (mathlib.Core.List.Memᴰ.cast (ap (λ (y : Move). y.move ∷ run) e)
      (mathlib.Core.List.Memᴰ.map (with_first x) (subst (λ (y : Move). Memᴰ run (f y.rest)) e h))))
      (λ (i : Memᴰ m ms). mathlib.Core.List.Memᴰ.append_right (map (with_first x) (f x.rest)) (into_each ms m run i h)) (mathlib.Core.List.Memᴰ.cases_cons k)

  from_each : (ms : List Move) (run : List ℕ) → Memᴰ run (by_each f ms) →
      (m : Move) × (more : List ℕ) × Memᴰ m ms × Memᴰ more (f m.rest) × (m.move ∷ more ≡ run)
  unfolding by_each
  from_each [] run k = absurd (mathlib.Core.List.Memᴰ.not-nil k)
  from_each (x ∷ ms) run k =
      ⊎_elim
      (λ (i : Memᴰ run (map (with_first x) (f x.rest))).
      let (more, h, e) = mathlib.Core.List.Memᴰ.of_map (with_first x) (f x.rest) i in (x, more, mathlib.Core.List.Memᴰ.head refl, h, e))
      (λ (i : Memᴰ run (by_each f ms)). let (m, more, j, h, e) = from_each ms run i in (m, more, mathlib.Core.List.Memᴰ.tail j, h, e))
      (mathlib.Core.List.Memᴰ.append_cases (map (with_first x) (f x.rest)) k)

rest_of_each : (f : List ℕ → Bool) (ms : List Move) (m : Move) → each_rest f ms ≡ true → Memᴰ m ms → f m.rest ≡ true
unfolding each_rest
rest_of_each f [] m e k = absurd (mathlib.Core.List.Memᴰ.not-nil k)
rest_of_each f (x ∷ ms) m e k =
    ⊎_elim (λ (i : m ≡ x). ap (λ (y : Move). f y.rest) i ∙ and_left (f x.rest) (each_rest f ms) e)
    (rest_of_each f ms m (and_right (f x.rest) (each_rest f ms) e)) (mathlib.Core.List.Memᴰ.cases_cons k)

lists_equal : (l m : List (List ℕ)) → equal_lists l m ≡ true → l ≡ m
unfolding equal_lists
lists_equal [] [] e = refl
lists_equal [] (v ∷ m) e = absurd (false≢true e)
lists_equal (u ∷ l) [] e = absurd (false≢true e)
lists_equal (u ∷ l) (v ∷ m) e =
    ap₂ ◌∷◌ (plans_equal u v (and_left (equal_plans u v) (equal_lists l m) e)) (lists_equal l m (and_right (equal_plans u v) (equal_lists l m) e))

module _ (t : Table) where
  -- what is listed is a complete run
  listed_runs : (n : ℕ) (p run : List ℕ) → Memᴰ run (runs_within t n p) → Runs t p run []
  unfolding runs_within
  listed_runs zero [] run k = subst (λ (l : List ℕ). Runs t [] l []) (sym (mathlib.Core.List.Memᴰ.eq_of_singleton k)) (empty_run [])
  listed_runs zero (j ∷ js) run k = absurd (mathlib.Core.List.Memᴰ.not-nil k)
  listed_runs (suc n) [] run k = subst (λ (l : List ℕ). Runs t [] l []) (sym (mathlib.Core.List.Memᴰ.eq_of_singleton k)) (empty_run [])
  listed_runs (suc n) (j ∷ js) run k =
      let (m, more, i, h, e) = from_each (runs_within t n) (moves t (j ∷ js)) run k in
      subst (λ (l : List ℕ). Runs t (j ∷ js) l []) e
      (longer_run (j ∷ js) m.rest m.move more [] (moves_are_steps t (j ∷ js) m.move m.rest i) (listed_runs n m.rest more h))

  -- and each is listed
  runs_listed : (n : ℕ) (p run : List ℕ) → ends_within t n p ≡ true → Runs t p run [] → Memᴰ run (runs_within t n p)
  unfolding runs_within ends_within
  runs_listed zero [] run e r = mathlib.Core.List.Memᴰ.head (no_run t run [] r)
  runs_listed zero (j ∷ js) run e r = absurd (false≢true e)
  runs_listed (suc n) [] run e r = mathlib.Core.List.Memᴰ.head (no_run t run [] r)
  runs_listed (suc n) (j ∷ js) [] e r = absurd (cons≢nil (no_move t r))
  runs_listed (suc n) (j ∷ js) (a ∷ run) e r =
      let (q, s, k) = first_move t r in
      let i = steps_are_moves t (j ∷ js) a q s in
      into_each (runs_within t n) (moves t (j ∷ js)) (record { move = a; rest = q }) run i
      (runs_listed n q run (rest_of_each (ends_within t n) (moves t (j ∷ js)) (record { move = a; rest = q }) e i) k)

  -- PLANS WITH THE SAME LIST have the same complete runs
  module _ (n : ℕ) (p q : List ℕ) where
    same_listed : ends_within t n p ≡ true → ends_within t n q ≡ true → runs_within t n p ≡ runs_within t n q → SameRuns t p q
    same_listed e d same run = (
      (λ r. listed_runs n q run (subst (λ (l : List (List ℕ)). Memᴰ run l) same (runs_listed n p run e r))),
      (λ r. listed_runs n p run (subst (λ (l : List (List ℕ)). Memᴰ run l) (sym same) (runs_listed n q run d r))),
    )

    pub same_runs_listed : same_runs_within t n p q ≡ true → SameRuns t p q
    unfolding same_runs_within
    same_runs_listed e =
        let ends = and_left (ends_within t n p && ends_within t n q) (equal_lists (runs_within t n p) (runs_within t n q)) e in
        let lists = and_right (ends_within t n p && ends_within t n q) (equal_lists (runs_within t n p) (runs_within t n q)) e in
        same_listed (and_left (ends_within t n p) (ends_within t n q) ends) (and_right (ends_within t n p) (ends_within t n q) ends)
        (lists_equal (runs_within t n p) (runs_within t n q) lists)
