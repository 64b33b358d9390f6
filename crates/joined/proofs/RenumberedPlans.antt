-- Plans whose jobs are numbered on: put together, taken apart, and over the joined table. Assumes nothing.
use mathlib.Core.Path.{◌≡◌, refl}
use mathlib.Core.Bool.{true, ◌&&◌}
use mathlib.Core.List.{List, [], ◌∷◌, ◌++◌, map-append}
use Prim.Native.Nat.{ℕ, ◌+◌}
use native.Mathlib.Omega.{arith}
use lib.Dec.{ltb}
use lib.ListN.{length, length-map}
use borrow.Author.Tests.{ltb-true, lt-ltb}
use Rattle.bpa.specs.Plans.{Table, all_below, over}
use Rattle.bpa.proofs.Basics.Cases.{same_test}
use Rattle.bpa.proofs.Basics.JobsBelow.{below_more}
use Rattle.joined.specs.Joined.{renumbered, joined}

pub renumbered_append : (n : ℕ) (p q : List ℕ) → renumbered n (p ++ q) ≡ renumbered n p ++ renumbered n q
unfolding renumbered
renumbered_append n p q = map-append (λ j. n + j) p q

pub renumbered_length : (n : ℕ) (p : List ℕ) → length (renumbered n p) ≡ length p
unfolding renumbered
renumbered_length n p = length-map p (λ j. n + j)

-- jobs below a bound
pub renumbered_below : (n m : ℕ) (p : List ℕ) → all_below (n + m) (renumbered n p) ≡ all_below m p
unfolding renumbered all_below
renumbered_below n m [] = refl
renumbered_below n m (j ∷ p) =
    let e : ltb (n + j) (n + m) ≡ ltb j m =
    same_test (ltb (n + j) (n + m)) (ltb j m) (λ h. lt-ltb j m (omega (arith, ltb-true (n + j) (n + m) h)))
    (λ h. lt-ltb (n + j) (n + m) (omega (arith, ltb-true j m h))) in
    λ i. e i && renumbered_below n m p i

-- PLANS OF EITHER TABLE are plans of the joined one
module _ (t u : Table) where
  pub over_left : (p : List ℕ) → over t p ≡ true → over (joined t u) p ≡ true
  unfolding over joined
  over_left p o = below_more t.jobs (t.jobs + u.jobs) p (omega arith) o

  pub over_right : (q : List ℕ) → over (joined t u) (renumbered t.jobs q) ≡ over u q
  unfolding over joined
  over_right q = renumbered_below t.jobs u.jobs q
