-- The test whether two plans' moves are matched both ways says that each simulates the other. Assumes nothing.
use mathlib.Core.Path.{◌≡◌, refl, sym, subst}
use mathlib.Core.Bool.{Bool, true, ◌&&◌, false≢true}
use mathlib.Core.List.Memᴰ
use mathlib.Core.List.{List, [], ◌∷◌, Memᴰ}
use mathlib.Core.Logic.{⊎_elim}
use Prim.Native.Nat.{ℕ}
use lib.Dec.{eqb}
use borrow.Author.Tests.{eqb-true, eq-eqb}
use Rattle.bpa.specs.Plans.{Table, Move, moves, Step}
use Rattle.bpa.specs.Bisimilar.{Simulates}
use Rattle.bpa.specs.Method.{answered, all_answered, matched}
use Rattle.bpa.proofs.Basics.Cases.{and_left, and_right, and_both, or_cases, or_left, or_right}
use Rattle.bpa.proofs.Basics.Moves.{moves_are_steps, steps_are_moves}

module _ (f : List ℕ → List ℕ → Bool) where
  abbrev Answers : Move → Move → Type 0
  Answers m n = (m.move ≡ n.move) × (f m.rest n.rest ≡ true)

  abbrev answers : Move → Move → Bool
  answers m n = eqb m.move n.move && f m.rest n.rest

  answered_by : (m : Move) (ns : List Move) → answered f m ns ≡ true → (n : Move) × Memᴰ n ns × Answers m n
  unfolding answered
  answered_by m [] h = absurd (false≢true h)
  answered_by m (n ∷ ns) h =
      let test = eqb m.move n.move in
      let same = f m.rest n.rest in
      ⊎_elim
      (λ e. (n, Memᴰ.head refl, (eqb-true m.move n.move (and_left test same e), and_right test same e)))
      (λ e. let (n', i, a) = answered_by m ns e in (n', Memᴰ.tail i, a)) (or_cases (answers m n) (answered f m ns) h)

  by_answer : (m : Move) (ns : List Move) (n : Move) → Memᴰ n ns → Answers m n → answered f m ns ≡ true
  unfolding answered
  by_answer m [] n i h = absurd (Memᴰ.not-nil i)
  by_answer m (n₁ ∷ ns) n i h =
      ⊎_elim
      (λ (e : n ≡ n₁).
      or_left (answers m n₁) (answered f m ns)
      (subst (λ k. answers m k ≡ true) e
      (and_both (eqb m.move n.move) (f m.rest n.rest) (eq-eqb m.move n.move h.0) h.1)))
      (λ k. or_right (answers m n₁) (answered f m ns) (by_answer m ns n k h)) (Memᴰ.cases_cons i)

  each_answered : (ms ns : List Move) → all_answered f ms ns ≡ true → (m : Move) → Memᴰ m ms → answered f m ns ≡ true
  unfolding all_answered
  each_answered [] ns h m i = absurd (Memᴰ.not-nil i)
  each_answered (m₁ ∷ ms) ns h m i =
      ⊎_elim (λ (e : m ≡ m₁). rw e (and_left (answered f m₁ ns) (all_answered f ms ns) h))
      (λ k. each_answered ms ns (and_right (answered f m₁ ns) (all_answered f ms ns) h) m k) (Memᴰ.cases_cons i)

  by_each : (ms ns : List Move) → ((m : Move) → Memᴰ m ms → answered f m ns ≡ true) → all_answered f ms ns ≡ true
  unfolding all_answered
  by_each [] ns h = refl
  by_each (m ∷ ms) ns h =
      and_both (answered f m ns) (all_answered f ms ns) (h m (Memᴰ.head refl))
      (by_each ms ns (λ n i. h n (Memᴰ.tail i)))

  abbrev Related : (p q : List ℕ) → Type 0
  Related p q = f p q ≡ true

  module _ (t : Table) where
    answered_simulates : (p q : List ℕ) → all_answered f (moves t p) (moves t q) ≡ true → Simulates t Related p q
    answered_simulates p q h a p' s =
        let m : Move = record { move = a; rest = p' } in
        let (n, i, e) =
        answered_by m (moves t q) (each_answered (moves t p) (moves t q) h m (steps_are_moves t p a p' s)) in
        (n.rest, subst (λ b. Step t q b n.rest) (sym e.0) (moves_are_steps t q n.move n.rest i), e.1)

    simulates_answered : (p q : List ℕ) → Simulates t Related p q → all_answered f (moves t p) (moves t q) ≡ true
    simulates_answered p q h =
        by_each (moves t p) (moves t q)
        (λ m i.
        let (q', s, e) = h m.move m.rest (moves_are_steps t p m.move m.rest i) in
        by_answer m (moves t q) (record { move = m.move; rest = q' }) (steps_are_moves t q m.move q' s) (refl, e))

    pub matched_simulates : (p q : List ℕ) → matched t f p q ≡ true → Simulates t Related p q × Simulates t Related q p
    unfolding matched
    matched_simulates p q h =
        let left = all_answered f (moves t p) (moves t q) in
        let right = all_answered f (moves t q) (moves t p) in
        (answered_simulates p q (and_left left right h), answered_simulates q p (and_right left right h))

    pub simulates_matched : (p q : List ℕ) → Simulates t Related p q → Simulates t Related q p → matched t f p q ≡ true
    unfolding matched
    simulates_matched p q h k =
        and_both (all_answered f (moves t p) (moves t q)) (all_answered f (moves t q) (moves t p))
        (simulates_answered p q h) (simulates_answered q p k)
