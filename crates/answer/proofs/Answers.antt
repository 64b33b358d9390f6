-- How a call's answer comes about, for each of the four shapes: refused, too little room, done. Assumes nothing.
use mathlib.Core.Path.{◌≡◌, refl, sym, ap, ◌∙◌}
use mathlib.Core.Bool.{Bool, cond}
use mathlib.Core.List.{List, []}
use Prim.Native.Nat.{ℕ, zero, suc, ◌≤◌, ◌<◌}
use native.Mathlib.Omega.{arith}
use lib.Dec.{ltb}
use lib.IntN.{ℤ, pos, negsuc}
use lib.ListN.{length}
use borrow.Author.Tests.{lt-ltb, le-ltb}
use Rattle.area.specs.Areas.{put}
use Rattle.area.proofs.PutLaws.{put_none}
use Rattle.answer.specs.Refusals.{room_refusal}
use Rattle.answer.specs.Answer.{signed, Gives, with_room, output_after, Writes}
use Rattle.answer.proofs.RefusalChains.{refused_first, passed_first}

-- a refusal's number does not depend on the result
same_refusal : (f v w : ℕ) → (f ≡ 0 → ⊥) → signed f v ≡ signed f w
unfolding signed
same_refusal zero v w h = absurd (h refl)
same_refusal (suc f) v w h = refl

unwritten : (f : ℕ) (bs o : List ℕ) → (f ≡ 0 → ⊥) → output_after f bs o ≡ o
unfolding output_after
unwritten zero bs o h = absurd (h refl)
unwritten (suc f) bs o h = refl

module _ {f g : ℕ} (e : f ≡ g) where
  -- A NUMBER: refused by what the code worked out, or done
  pub gives_refused : (v : ℕ) {r : ℤ} → (f ≡ 0 → ⊥) → r ≡ signed f 0 → Gives g v r
  gives_refused v h d = d ∙ same_refusal f 0 v h ∙ ap (λ (x : ℕ). signed x v) e

  pub gives_done : (v : ℕ) {r : ℤ} → f ≡ 0 → r ≡ pos v → Gives g v r
  unfolding signed
  gives_done v z d = d ∙ ap (λ (x : ℕ). signed x v) (sym z ∙ e)

  -- BYTES WRITTEN: refused by an earlier check, or as the function answers that was called once all checks were past
  pub writes_refused : {bs o : List ℕ} {r : ℤ} → (f ≡ 0 → ⊥) → r ≡ signed f 0 → Writes g bs o r o
  unfolding with_room
  writes_refused {bs} {o} h d =
      let k : with_room g bs o ≡ f = refused_first g (room_refusal bs o) (λ z. h (e ∙ z)) ∙ sym e in
      record {
        answer = d ∙ same_refusal f 0 (length bs) h ∙ ap (λ (x : ℕ). signed x (length bs)) (sym k);
        output = sym (unwritten f bs o h) ∙ ap (λ (x : ℕ). output_after x bs o) (sym k);
      }

  pub writes_done : {bs o o' : List ℕ} {r : ℤ} → f ≡ 0 → Writes 0 bs o r o' → Writes g bs o r o'
  writes_done z w = rw (sym e ∙ z) w

-- what such a function answers: the output too short, or written
module _ (bs o : List ℕ) where
  room : (b : Bool) → ltb (length o) (length bs) ≡ b → with_room 0 bs o ≡ cond b 10 0
  unfolding with_room room_refusal
  room b e = passed_first 0 (room_refusal bs o) refl ∙ ap (λ (x : Bool). cond x 10 0) e

  pub too_short : length o < length bs → Writes 0 bs o (negsuc 9) o
  unfolding signed output_after
  too_short l =
      let k = room _ (lt-ltb (length o) (length bs) l) in
      record {
        answer = ap (λ (x : ℕ). signed x (length bs)) (sym k);
        output = ap (λ (x : ℕ). output_after x bs o) (sym k);
      }

  pub written : {r : ℤ} {o' : List ℕ} → length bs ≤ length o → r ≡ pos (length bs) → o' ≡ put 0 bs o → Writes 0 bs o r o'
  unfolding signed output_after
  written l e d =
      let k = room _ (le-ltb (length o) (length bs) l) in
      record {
        answer = e ∙ ap (λ (x : ℕ). signed x (length bs)) (sym k);
        output = d ∙ ap (λ (x : ℕ). output_after x bs o) (sym k);
      }

-- nothing to write
pub nothing : (bs o : List ℕ) → bs ≡ [] → Writes 0 bs o (pos 0) o
nothing bs o e = rw e (written [] o (omega arith) refl (sym (put_none 0 o)))
