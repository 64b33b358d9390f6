-- What the library answers for a plan of one job of an accepted table. Assumes nothing.
use mathlib.Core.Path.{◌≡◌, refl, sym, ap, subst, ◌∙◌}
use mathlib.Core.Bool.{Bool, true, false, cond, true≢false}
use mathlib.Core.List.{List, [], ◌∷◌}
use Prim.Native.Nat.{ℕ, zero, suc, ◌≤◌, ◌<◌}
use native.Mathlib.Nat.{le_refl}
use native.Mathlib.Omega.{arith}
use borrow.Author.Tests.{ltb-false}
use lib.Dec.{ltb}
use lib.IntN.{ℤ}
use lib.ListN.{length, take}
use Rattle.bpa.specs.Plans.{Table, over}
use Rattle.bpa.specs.Norms.{sum_of, norms, norm}
use Rattle.bpa.specs.Method.{prime_form}
use Rattle.bpa.proofs.Basics.Cases.{by_test}
use Rattle.bpa.proofs.Basics.Plans.{over_one, sum_one, length_norm}
use Rattle.bpa.proofs.Answers.{form_exists, same_norm}
use Rattle.refusal.specs.Refusals.{plan_refusal, Accepted}
use Rattle.refusal.proofs.PlanRefusals.{job_passed}
use Rattle.image.specs.Image.{image_refusal, table_in}
use Rattle.answer.specs.Refusals.{space_refusal, room_refusal}
use Rattle.answer.specs.Answer.{signed, with_room, with_space, Writes, GivesWithSpace, WritesWithSpace}
use Rattle.answer.proofs.RefusalChains.{passed_first, both_pass, neither}
use Rattle.answer.proofs.Results.{result_written}
use Rattle.table.proofs.ImageTables.{image_table}
use Rattle.workspace.proofs.UsablePart.{long_passes}
use Rattle.table.specs.CallRefusals.{one_plan}
use Rattle.look_lines.specs.Numbers.{result_in}

-- a call with a workspace that is long enough answers as if it had none
module _ (s : List ℕ) (h : 65536 ≤ length s) where
  no_space : (f : ℕ) → with_space s f ≡ f
  no_space f = passed_first (space_refusal s) f (long_passes s h)

  pub given : (f v : ℕ) {r : ℤ} {s' : List ℕ} → GivesWithSpace f v s r s' → r ≡ signed f v
  given f v c = c.answer ∙ ap (λ (x : ℕ). signed x v) (no_space f)

  pub written : (f : ℕ) {bs o o' s' : List ℕ} {r : ℤ} → WritesWithSpace f bs o s r o' s' → Writes f bs o r o'
  written f {bs} {o} {o'} {s'} {r} w = subst (λ (x : ℕ). Writes x bs o r o') (no_space f) w.written

at_most : (f v : ℕ) → result_in (signed f v) ≤ v
unfolding signed result_in
at_most zero v = le_refl v
at_most (suc f) v = omega arith

none : (f v : ℕ) → (f ≡ 0 → ⊥) → result_in (signed f v) ≡ 0
unfolding signed result_in
none zero v h = absurd (h refl)
none (suc f) v h = refl

full : (b : Bool) → b ≡ true → ◌≡◌ {A = ℕ} (cond b 10 0) 0 → ⊥
full true e z = omega arith
full false e z = let y : true ≡ false = sym e in true≢false y

-- a call writes no more than there is room for
pub result_within : (f : ℕ) (bs o : List ℕ) (r : ℤ) (o' : List ℕ) → Writes f bs o r o' → result_in r ≤ length o
unfolding with_room room_refusal
result_within f bs o r o' w =
    let e : result_in r ≡ result_in (signed (with_room f bs o) (length bs)) = ap result_in w.answer in
    by_test (ltb (length o) (length bs))
    (λ t. omega (arith, e, none (with_room f bs o) (length bs) (λ z. full (ltb (length o) (length bs)) t (neither f (room_refusal bs o) z).1)))
    (λ t. omega (arith, e, at_most (with_room f bs o) (length bs), ltb-false (length o) (length bs) t))

module _ (bs : List ℕ) (j : ℕ) (a : image_refusal bs ≡ 0) (h : j < (table_in bs).jobs) where
  abbrev t : Table
  t = table_in bs

  abbrev p : List ℕ
  p = j ∷ []

  accepted : Accepted t
  accepted = image_table bs a

  is_over : over t p ≡ true
  is_over = over_one t j h

  small : sum_of (norms t) p ≤ 512
  small = omega (arith, sum_one (norms t) j, accepted.small j)

  not_refused : one_plan bs p ≡ 0
  not_refused = both_pass (image_refusal bs) (plan_refusal t p) a (job_passed t j accepted h)

  pub norm_shown : result_in (signed (one_plan bs p) (norm t p)) ≡ norm t p
  unfolding signed result_in
  norm_shown = ap (λ (f : ℕ). result_in (signed f (norm t p))) not_refused

  -- a form is no longer than its norm, which is the job's
  short : length (prime_form t p) ≤ 512
  unfolding norm
  short =
      let f = (form_exists t accepted.good p is_over).bisimilar in
      omega (arith, length_norm t (norms t) accepted.good (prime_form t p) f.over_right, same_norm t accepted.good p (prime_form t p) f, small)

  pub form_shown : (o : List ℕ) (r : ℤ) (o' : List ℕ) → length o ≡ 512 → Writes (one_plan bs p) (prime_form t p) o r o' →
      take (result_in r) o' ≡ prime_form t p
  unfolding result_in
  form_shown o r o' e w =
      let (n, b) = result_written (one_plan bs p) (prime_form t p) o r o' not_refused (omega (arith, short)) w in
      ap (λ (z : ℤ). take (result_in z) o') n ∙ b
