-- WHAT `same` ANSWERS OVER JOINED TABLES: for two copies as over the one, for exchanged tables the same, for a renamed table as over the other.
-- Assumes good tables.
use mathlib.Core.Path.{◌≡◌, ◌∙◌}
use mathlib.Core.Bool.{true}
use mathlib.Core.List.{List, map}
use mathlib.Core.Logic.{◌↔◌}
use Prim.Native.Nat.{ℕ}
use Rattle.bpa.specs.Plans.{Table, over}
use Rattle.bpa.specs.Norms.{norms, Good}
use Rattle.bpa.specs.Bisimilar.{Bisimilar}
use Rattle.bpa.specs.Method.{same}
use Rattle.bpa.proofs.Basics.Cases.{same_test}
use Rattle.bpa.proofs.Answers.{same_exact}
use Rattle.joined.specs.Joined.{renumbered, joined, OwnRules, BisimilarBetween, Renames}
use Rattle.joined.proofs.RenumberedPlans.{over_left, over_right}
use Rattle.joined.proofs.JoinedNorms.{joined_good}
use Rattle.joined.proofs.BetweenTables.{between_copies, between_exchanged, joined_between, between_joined}
use Rattle.joined.proofs.RenamedTables.{over_renamed, renamed_same}

-- by a bisimulation between the two tables
module _ (t u : Table) (own : OwnRules t) (g : Good t (norms t)) (h : Good u (norms u)) (p q : List ℕ) (o : over t p ≡ true) (l : over u q ≡ true) where
  exact : (same (joined t u) p (renumbered t.jobs q) ≡ true) ↔ Bisimilar (joined t u) p (renumbered t.jobs q)
  exact = same_exact (joined t u) (joined_good t u own g h) p (renumbered t.jobs q) (over_left t u p o) (over_right t u q ∙ l)

  pub same_between : (same (joined t u) p (renumbered t.jobs q) ≡ true) ↔ BisimilarBetween t u p q
  same_between = (
    (λ e. joined_between t u own g h p q o (exact.0 e)),
    (λ b. exact.1 (between_joined t u own g h p q b)),
  )

  pub same_renamed : (f : ℕ → ℕ) → Renames f t u → same (joined t u) p (renumbered t.jobs q) ≡ same u (map f p) q
  same_renamed f k =
      let r = renamed_same f t u k own g h p q o in
      let e = same_exact u h (map f p) q (over_renamed f t u k p o) l in
      same_test (same (joined t u) p (renumbered t.jobs q)) (same u (map f p) q) (λ x. e.1 (r.0 (exact.0 x))) (λ x. exact.1 (r.1 (e.0 x)))

pub same_copies : (t : Table) → OwnRules t → Good t (norms t) → (p q : List ℕ) → over t p ≡ true → over t q ≡ true →
    same (joined t t) p (renumbered t.jobs q) ≡ same t p q
same_copies t own g p q o l =
    let b = same_between t t own g g p q o l in
    let c = between_copies t p q in
    let e = same_exact t g p q o l in
    same_test (same (joined t t) p (renumbered t.jobs q)) (same t p q) (λ x. e.1 (c.0 (b.0 x))) (λ x. b.1 (c.1 (e.0 x)))

pub same_exchanged : (t u : Table) → OwnRules t → OwnRules u → Good t (norms t) → Good u (norms u) → (p q : List ℕ) → over t p ≡ true → over u q ≡ true →
    same (joined t u) p (renumbered t.jobs q) ≡ same (joined u t) q (renumbered u.jobs p)
same_exchanged t u own other g h p q o l =
    let b = same_between t u own g h p q o l in
    let c = same_between u t other h g q p l o in
    same_test (same (joined t u) p (renumbered t.jobs q)) (same (joined u t) q (renumbered u.jobs p))
    (λ x. c.1 (between_exchanged t u p q (b.0 x))) (λ x. b.1 (between_exchanged u t q p (c.0 x)))
