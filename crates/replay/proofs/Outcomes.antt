-- What a log comes to on a plan is one number: by its meaning no two are. Assumes nothing.
use mathlib.Core.Path.{◌≡◌, sym, subst}
use mathlib.Core.List.{List, []}
use mathlib.Core.Logic.{⊎_elim}
use Prim.Native.Nat.{ℕ, suc, ◌+◌, ◌≤◌}
use native.Mathlib.Omega.{arith}
use lib.Dec.{ltb}
use lib.ListN.{take, drop, take-append-drop}
use lib.Seq.{take-take}
use borrow.Author.Tests.{ltb-true, ltb-false}
use Rattle.bpa.specs.Plans.{Table, Runs}
use Rattle.bpa.proofs.Basics.Cases.{by_test}
use Rattle.replay.specs.Replay.{Begins, Whole, LeavesAt, Says}
use Rattle.replay.proofs.RunSplits.{run_front}

module _ (t : Table) (p log : List ℕ) where
  -- the beginning of what some run begins with
  begins_front : (k : ℕ) (l : List ℕ) → Begins t p l → Begins t p (take k l)
  begins_front k l (end, r) =
      let (q, h, m) = run_front t (take k l) (drop k l) (subst (λ (x : List ℕ). Runs t p x end) (sym (take-append-drop k l)) r) in
      (q, h)

  begins_shorter : (i k : ℕ) → i ≤ k → Begins t p (take k log) → Begins t p (take i log)
  begins_shorter i k h b = subst (Begins t p) (take-take i k log h) (begins_front i (take k log) b)

  -- the place is one, and there is none if some run begins with all of the log
  leaves_once : (i k : ℕ) → LeavesAt t p log i → LeavesAt t p log k → suc i ≤ k → ⊥
  leaves_once i k (b, n) (c, m) h = n (begins_shorter (suc i) k h c)

  same_place : (i k : ℕ) → LeavesAt t p log i → LeavesAt t p log k → i ≡ k
  same_place i k a b =
      by_test (ltb i k)
      (λ e. absurd (leaves_once i k a b (ltb-true i k e)))
      (λ e. by_test (ltb k i) (λ f. absurd (leaves_once k i b a (ltb-true k i f))) (λ f. omega (arith, ltb-false i k e, ltb-false k i f)))

  never_leaves : (k : ℕ) → Begins t p log → LeavesAt t p log k → ⊥
  never_leaves k b (c, n) = n (begins_front (suc k) log b)

  abbrev pub ToldWhole : ℕ → Type 0
  ToldWhole r = (r ≡ 1) × Whole t p log

  abbrev pub ToldPart : ℕ → Type 0
  ToldPart r = (r ≡ 0) × ((Whole t p log → ⊥) × Begins t p log)

  abbrev pub ToldPlace : ℕ → Type 0
  ToldPlace r = (k : ℕ) × (r ≡ 2 + k) × LeavesAt t p log k

  pub says_one : (r s : ℕ) → Says t p log r → Says t p log s → r ≡ s
  says_one r s a b =
      ⊎_elim
      (λ (w : ToldWhole r).
      ⊎_elim (λ (x : ToldWhole s). omega (arith, w.0, x.0))
      (⊎_elim (λ (x : ToldPart s). absurd (x.1.0 w.1)) (λ (x : ToldPlace s). absurd (never_leaves x.0 ([], w.1) x.2))) b)
      (⊎_elim
      (λ (w : ToldPart r).
      ⊎_elim (λ (x : ToldWhole s). absurd (w.1.0 x.1))
      (⊎_elim (λ (x : ToldPart s). omega (arith, w.0, x.0)) (λ (x : ToldPlace s). absurd (never_leaves x.0 w.1.1 x.2))) b)
      (λ (w : ToldPlace r).
      ⊎_elim (λ (x : ToldWhole s). absurd (never_leaves w.0 ([], x.1) w.2))
      (⊎_elim (λ (x : ToldPart s). absurd (never_leaves w.0 x.1.1 w.2))
      (λ (x : ToldPlace s). omega (arith, w.1, x.1, same_place w.0 x.0 w.2 x.2))) b))
      a
