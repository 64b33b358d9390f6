-- The list of moves of a plan holds exactly its steps. Assumes nothing.
use mathlib.Core.Path.{◌≡◌, refl, sym, ◌∙◌, ap}
use mathlib.Core.Bool.{Bool, true, false, cond}
use mathlib.Core.List.Memᴰ
use mathlib.Core.List.{List, [], ◌∷◌, ◌++◌, Memᴰ}
use mathlib.Core.Logic.{◌⊎◌, inr, ⊎_elim, ⊎_map}
use Prim.Native.Nat.{ℕ}
use native.Mathlib.Omega.{arith}
use lib.Dec.{eqb}
use borrow.Author.Tests.{eqb-true, eq-eqb}
use Rattle.bpa.specs.Plans.{Rule, Table, Step, Move, job_moves, moves}

-- a list whose first element stands under a test
module _ (x y : Move) (l : List Move) where
  tested_cases : (b : Bool) → Memᴰ x (cond b (y ∷ l) l) → ((b ≡ true) × (x ≡ y)) ⊎ Memᴰ x l
  tested_cases true h = ⊎_map (λ e. (refl, e)) (λ m. m) (Memᴰ.cases_cons h)
  tested_cases false h = inr h

  tested_head : (b : Bool) → b ≡ true → x ≡ y → Memᴰ x (cond b (y ∷ l) l)
  tested_head true e h = Memᴰ.head h
  tested_head false e h = let z : ◌≡◌ {A = ℕ} 0 1 = cc in absurd (omega arith)

  tested_tail : (b : Bool) → Memᴰ x l → Memᴰ x (cond b (y ∷ l) l)
  tested_tail true h = Memᴰ.tail h
  tested_tail false h = h

-- the moves of a job, and the rules that they come from
module _ (j : ℕ) (xs : List ℕ) (a : ℕ) (q : List ℕ) where
  abbrev this : Move
  this = record { move = a; rest = q }

  abbrev move_by : Rule → Move
  move_by r = record { move = r.move; rest = r.after ++ xs }

  abbrev Fires : List Rule → Type 0
  Fires rs = (w : List ℕ) × Memᴰ {A = Rule} (record { job = j; move = a; after = w }) rs × (q ≡ w ++ xs)

  fires_of : (rs : List Rule) → Memᴰ this (job_moves j xs rs) → Fires rs
  unfolding job_moves
  fires_of [] h = absurd (Memᴰ.not-nil h)
  fires_of (r ∷ rs) h =
      ⊎_elim
      (λ (e : (eqb r.job j ≡ true) × (this ≡ move_by r)). (
        r.after,
        Memᴰ.head (λ i. record { job = sym (eqb-true r.job j e.0) i; move = (e.1 i).move; after = r.after }),
        ap (λ m. m.rest) e.1,
      ))
      (λ m. let (w, k, e) = fires_of rs m in (w, Memᴰ.tail k, e))
      (tested_cases this (move_by r) (job_moves j xs rs) (eqb r.job j) h)

  of_fires : (rs : List Rule) → Fires rs → Memᴰ this (job_moves j xs rs)
  unfolding job_moves
  of_fires [] (w, h, e) = absurd (Memᴰ.not-nil h)
  of_fires (r ∷ rs) (w, h, e) =
      ⊎_elim
      (λ (f : record { job = j; move = a; after = w } ≡ r).
      tested_head this (move_by r) (job_moves j xs rs) (eqb r.job j)
      (eq-eqb r.job j (sym (ap (λ s. s.job) f)))
      (λ i. record { move = (f i).move; rest = (e ∙ ap (λ s. s.after ++ xs) f) i }))
      (λ m. tested_tail this (move_by r) (job_moves j xs rs) (eqb r.job j) (of_fires rs (w, m, e)))
      (Memᴰ.cases_cons h)

pub moves_are_steps : (t : Table) (p : List ℕ) (a : ℕ) (q : List ℕ) →
    Memᴰ {A = Move} (record { move = a; rest = q }) (moves t p) → Step t p a q
unfolding moves
moves_are_steps t [] a q h = absurd (Memᴰ.not-nil h)
moves_are_steps t (j ∷ js) a q h = fires_of j js a q t.rules h

pub steps_are_moves : (t : Table) (p : List ℕ) (a : ℕ) (q : List ℕ) → Step t p a q →
    Memᴰ {A = Move} (record { move = a; rest = q }) (moves t p)
unfolding moves
steps_are_moves t [] a q s = absurd s
steps_are_moves t (j ∷ js) a q s = of_fires j js a q t.rules s
