-- A table of the lengths of rows with one length written anew. Assumes nothing.
use mathlib.Core.Path.{sym, subst, ap, ◌∙◌}
use mathlib.Core.List.{List}
use Prim.Native.Nat.{ℕ, ◌<◌}
use lib.Dec.{eqb}
use lib.ListN.{length, get_or, set}
use lib.Seq.{get_or-set_same, get_or-set_other}
use borrow.Author.Tests.{eqb-true, eqb-false}
use Rattle.bpa.proofs.Basics.Cases.{by_test}

-- what holds of the new length and of an old one holds of that one now
pub length_set_each : (P : ℕ → Type 0) (lens : List ℕ) (y n : ℕ) → y < length lens → P n → (j : ℕ) → P (get_or lens j 0) →
    P (get_or (set lens y n) j 0)
length_set_each P lens y n h p j q =
    by_test (eqb j y)
    (λ e. subst P (sym (ap (λ (i : ℕ). get_or (set lens y n) i 0) (eqb-true j y e) ∙ get_or-set_same lens y n 0 h)) p)
    (λ e. subst P (sym (get_or-set_other lens y j n 0 (eqb-false j y e))) q)
