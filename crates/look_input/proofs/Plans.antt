-- The plans of a pair, as they stand in its input. Assumes nothing.
use mathlib.Core.Path.{◌≡◌, sym, ap, subst, ◌∙◌}
use mathlib.Core.List.{List}
use Prim.Native.Nat.{ℕ, ◌+◌, ◌≤◌}
use native.Mathlib.Omega.{arith}
use lib.ListN.{take, drop}
use lib.Seq.{take-take, drop-drop}
use Rattle.area.proofs.Parts.{part}
use Rattle.look_input.specs.declared.Got.{Got}
use Rattle.look_input.specs.declared.Got.TheVariants.{Plan}
use Rattle.look_input.specs.Input.{plan_in, left_part, right_part, Reads}

-- bytes of a part are bytes of the whole
take_within : (a n m : ℕ) (xs : List ℕ) → a + n ≤ m → take n (drop a (take m xs)) ≡ take n (drop a xs)
take_within a n m xs h = part a n (take m xs) ∙ ap (drop a) (take-take (a + n) m xs h) ∙ sym (part a n xs)

pub plan_short : {g : Got} (n : ℕ) (p : List ℕ) → g ≡ Plan n → Reads g p → n ≤ 4096
unfolding Reads
plan_short n p e r = (subst (λ (g : Got). Reads g p) e r).1

module _ (n : ℕ) (input : List ℕ) where
  pub left_plan : Reads (Plan n) (left_part input) → take n (drop 2 input) ≡ plan_in (left_part input)
  unfolding Reads plan_in
  left_plan (e, h) = sym (take_within 2 n 4098 input (omega arith)) ∙ ap (λ (k : ℕ). take k (drop 2 (left_part input))) e

  pub right_plan : Reads (Plan n) (right_part input) → take n (drop 4100 input) ≡ plan_in (right_part input)
  unfolding Reads plan_in
  right_plan (e, h) =
      ap (take n) (sym (drop-drop 2 4098 input)) ∙ sym (take_within 2 n 4098 (drop 4098 input) (omega arith))
      ∙ ap (λ (k : ℕ). take k (drop 2 (right_part input))) e
