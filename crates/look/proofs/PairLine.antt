-- The line of a pair, by the cases of what was read. Assumes nothing.
use mathlib.Core.Path.{◌≡◌, refl, sym, ap, ap₂, subst, ◌∙◌}
use mathlib.Core.Bool.{Bool, true, false, cond}
use mathlib.Core.List.{List, [], ◌∷◌}
use mathlib.Core.Logic.{⊎_elim, inl, inr}
use Prim.Native.Nat.{ℕ, ◌+◌, ◌-◌}
use native.Mathlib.Omega.{arith}
use lib.ListN.{take, drop}
use denote.Enum.Declared.{tag_of}
use types.Run.{OneOf}
use Rattle.look_input.specs.declared.Got.{Got}
use Rattle.look_input.specs.declared.Got.TheVariants.{End, Cut, Long, Plan}
use Rattle.look_input.specs.Input.{plan_in, left_part, right_part, right_end, pair_got, Reads, PairRead}
use Rattle.look_input.specs.contracts.Got.{the_type}
use Rattle.look_input.proofs.Plans.{left_plan, right_plan}
use Rattle.look_lines.specs.Lines.{IsLine, pair_line, end_line}
use Rattle.look_lines.proofs.Puts.{line_as}
use Rattle.look.specs.Reports.{compare_answer, PairReport, whole, line_of, NextLine}

-- none of the first three cases is a whole plan
abbrev Ended : Got → Type 0
Ended g = OneOf (0 ∷ 1 ∷ 2 ∷ []) (tag_of the_type g)

not_plan : (n : ℕ) → Ended (Plan n) → ⊥
not_plan n h = ⊎_elim (λ (e : ◌≡◌ {A = ℕ} 3 0). omega arith) (⊎_elim (λ (e : ◌≡◌ {A = ℕ} 3 1). omega arith) (λ (e : ◌≡◌ {A = ℕ} 3 2). omega arith)) h

pub ended : (g : Got) → ((n : ℕ) → g ≡ Plan n → ⊥) → Ended g
ended End h = inl refl
ended Cut h = inr (inl refl)
ended Long h = inr (inr refl)
ended (Plan n) h = absurd (h n refl)

left_ended : (l r : Got) → Ended l → (pair_got l r ≡ l) × (whole l ≡ false)
unfolding pair_got whole
left_ended End r h = (refl, refl)
left_ended Cut r h = (refl, refl)
left_ended Long r h = (refl, refl)
left_ended (Plan n) r h = absurd (not_plan n h)

right_ended : (r : Got) → Ended r → whole (right_end r) ≡ false
unfolding whole
right_ended End h = refl
right_ended Cut h = refl
right_ended Long h = refl
right_ended (Plan n) h = absurd (not_plan n h)

module _ (bs : List ℕ) (k : ℕ) (i : List ℕ) (l r : Got) (p : PairRead l r i) {line line' : List ℕ} {size : ℕ} where
  -- by whether the pair is whole
  line_is : (b : Bool) → whole (pair_got l r) ≡ b →
      IsLine (cond b (pair_line k (compare_answer bs (plan_in (left_part i)) (plan_in (right_part i)))) (end_line (pair_got l r))) line size line' →
      NextLine bs k i line size b line'
  unfolding line_of
  line_is b f h = record { left = l; right = r; read = p; is_line = rw f h; again_is = sym f }

  ends : (g : Got) → pair_got l r ≡ g → whole g ≡ false → IsLine (end_line g) line size line' → NextLine bs k i line size false line'
  ends g e w h = line_is false (ap whole e ∙ w) (line_as (ap end_line (sym e)) h)

  pub ends_left : Ended l → IsLine (end_line l) line size line' → NextLine bs k i line size false line'
  ends_left o h = let (e, w) = left_ended l r o in ends l e w h

  pub ends_right : (n : ℕ) → l ≡ Plan n → Ended r → IsLine (end_line (right_end r)) line size line' → NextLine bs k i line size false line'
  unfolding pair_got
  ends_right n e o h = ends (right_end r) (ap (λ (x : Got). pair_got x r) e) (right_ended r o) h

  pub both_whole : (n m : ℕ) → l ≡ Plan n → r ≡ Plan m →
      PairReport bs k (take ((2 + n) - 2) (drop 2 i)) (take ((4100 + m) - 4100) (drop 4100 i)) line size line' → NextLine bs k i line size true line'
  unfolding pair_got whole
  both_whole n m d e h =
      let a : (2 + n) - 2 ≡ n = omega arith in
      let b : (4100 + m) - 4100 ≡ m = omega arith in
      let p_is = ap (λ (x : ℕ). take x (drop 2 i)) a ∙ left_plan n i (subst (λ (g : Got). Reads g (left_part i)) d p.left_read) in
      let q_is = ap (λ (x : ℕ). take x (drop 4100 i)) b ∙ right_plan m i (subst (λ (g : Got). Reads g (right_part i)) e p.right_read) in
      line_is true (ap₂ (λ (x y : Got). whole (pair_got x y)) d e) (line_as (ap₂ (λ (x y : List ℕ). pair_line k (compare_answer bs x y)) p_is q_is) h)
