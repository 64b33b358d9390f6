-- Two plans are equal exactly if they have no leftmost difference. Assumes nothing.
use mathlib.Core.Path.{◌≡◌, refl, sym, ap, ◌∙◌}
use mathlib.Core.Bool.{true, false, true≢false}
use mathlib.Core.List.{List}
use Prim.Native.Nat.{ℕ}
use Rattle.bpa.specs.Method.{Difference, equal, ends, differ, first_difference}
use Rattle.bpa.proofs.Judge.Differences.{difference_of_equal, equal_difference, equal_not_ends, equal_not_differ}
use Rattle.rows.specs.Answers.{meaning}
use Rattle.rows.specs.declared.Difference.{Difference as Answer}
use Rattle.rows.specs.declared.Difference.TheVariants.{Equal, Ends, Differ}
use Rattle.form.specs.Written.{Tells}

-- by the difference d that was found
module _ (p q : List ℕ) (d : Difference) (f : d ≡ first_difference p q) where
  pub tells_equal : equal ≡ d → Tells true p q
  tells_equal e = record { same = λ _. equal_difference p q (sym f ∙ sym e); told = λ _. refl }

  tells_apart : (equal ≡ d → ⊥) → Tells false p q
  tells_apart n =
      record {
        same = λ a. absurd (true≢false (sym a));
        told = λ s. absurd (n (sym (difference_of_equal p) ∙ ap (first_difference p) s ∙ sym f));
      }

  pub tells_ends : ends ≡ d → Tells false p q
  tells_ends e = tells_apart (λ s. equal_not_ends (s ∙ sym e))

  pub tells_differ : (x y : ℕ) → differ x y ≡ d → Tells false p q
  tells_differ x y e = tells_apart (λ s. equal_not_differ x y (s ∙ sym e))

only_equal : (d : Answer) → meaning d ≡ equal → d ≡ Equal
unfolding meaning
only_equal Equal e = refl
only_equal Ends e = absurd (equal_not_ends (sym e))
only_equal (Differ x y) e = absurd (equal_not_differ x y (sym e))

-- the same by the answer of a comparison
module _ (d : Answer) (p q : List ℕ) (f : meaning d ≡ first_difference p q) where
  pub same_if_equal : d ≡ Equal → p ≡ q
  unfolding meaning
  same_if_equal e = equal_difference p q (sym f ∙ ap meaning e)

  pub equal_if_same : p ≡ q → d ≡ Equal
  unfolding meaning
  equal_if_same e =
      let g : meaning d ≡ equal = f ∙ ap (first_difference p) (sym e) ∙ difference_of_equal p in
      only_equal d g
