-- The n-th move shown is a step, and each step is the n-th move shown for some n. Assumes nothing.
use mathlib.Core.Path.{◌≡◌, refl, sym, ap, ◌∙◌}
use mathlib.Core.List.{List, [], ◌∷◌, ◌++◌, cons≢nil}
use mathlib.Core.Logic.{inr}
use Prim.Native.Nat.{ℕ, zero, suc, ◌<◌}
use native.Mathlib.Omega.{arith}
use lib.Dec.{ltb}
use lib.ListN.{length}
use borrow.Author.Tests.{ltb-true, ltb-false}
use Rattle.bpa.specs.Plans.{Table, Move, Step, moves}
use Rattle.bpa.proofs.Basics.Cases.{by_test}
use Rattle.bpa.proofs.Basics.Moves.{moves_are_steps, steps_are_moves}
use Rattle.area.specs.Numbers.{low_first}
use Rattle.moves.specs.Shown.{shown, At}
use Rattle.moves.specs.Moves.{move_bytes}
use Rattle.moves.proofs.ShownMoves.{at_member, member_at, once_members}
use Rattle.moves.proofs.NoSuchMove.{no_such_move}

-- what stands at a place of a list, as bytes
placed : (ms : List Move) (n : ℕ) (m : Move) → At ms n m → move_bytes ms n ≡ low_first m.move ++ m.rest
unfolding move_bytes
placed [] n m h = absurd h
placed (x ∷ xs) zero m h = ap (λ (y : Move). low_first y.move ++ y.rest) (sym h)
placed (x ∷ xs) (suc n) m h = placed xs n m h

found : (ms : List Move) (n : ℕ) → 0 < length (move_bytes ms n) →
    (a : ℕ) × (q : List ℕ) × (move_bytes ms n ≡ low_first a ++ q) × At ms n (record { move = a; rest = q })
unfolding move_bytes
found [] n h = absurd (omega arith)
found (m ∷ ms) zero h = (m.move, m.rest, refl, refl)
found (m ∷ ms) (suc n) h = found ms n h

pub listed_step : (t : Table) (p : List ℕ) (n : ℕ) → 0 < length (move_bytes (shown t p) n) →
    (a : ℕ) × (q : List ℕ) × (move_bytes (shown t p) n ≡ low_first a ++ q) × At (shown t p) n (record { move = a; rest = q }) × Step t p a q
unfolding shown
listed_step t p n h =
    let (a, q, e, k) = found (shown t p) n h in
    (a, q, e, k, moves_are_steps t p a q ((once_members (moves t p) _).0 (at_member (shown t p) n _ k)))

pub step_listed : (t : Table) (p q : List ℕ) (a : ℕ) → Step t p a q →
    (n : ℕ) × (n < length (shown t p)) × (move_bytes (shown t p) n ≡ low_first a ++ q)
unfolding low_first shown
step_listed t p q a s =
    let (n, k) = member_at (shown t p) (record { move = a; rest = q }) ((once_members (moves t p) _).1 (steps_are_moves t p a q s)) in
    let e = placed (shown t p) n _ k in (
      n,
      by_test (ltb n (length (shown t p))) (ltb-true n (length (shown t p)))
          (λ f. absurd (cons≢nil (sym e ∙ (no_such_move t p n).1 (inr (ltb-false n (length (shown t p)) f))))),
      e,
    )
