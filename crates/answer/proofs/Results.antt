-- A call that gives back a result was not refused, and a call that is not refused gives one: what it wrote. Assumes nothing.
use mathlib.Core.Path.{◌≡◌, refl, ap, ◌∙◌}
use mathlib.Core.Bool.{Bool, true, false, cond}
use mathlib.Core.List.{List}
use Prim.Native.Nat.{ℕ, zero, suc, ◌≤◌}
use native.Mathlib.Omega.{arith}
use lib.IntN.{ℤ, pos}
use lib.ListN.{length, take, drop}
use lib.Seq.{take-append_seam}
use borrow.Author.Tests.{le-ltb}
use Rattle.area.specs.Areas.{put}
use Rattle.area.proofs.PutLaws.{put_front}
use Rattle.answer.specs.Refusals.{room_refusal}
use Rattle.answer.specs.Answer.{signed, one_if, with_room, output_after, Writes}
use Rattle.answer.proofs.RefusalChains.{passed_first, neither}

-- a number is no refusal
pub result_is : (f v n : ℕ) → pos n ≡ signed f v → (f ≡ 0) × (n ≡ v)
unfolding signed
result_is zero v n e = (refl, cc)
result_is (suc f) v n e = absurd (let z : ◌≡◌ {A = ℕ} 0 1 = cc in omega arith)

-- yes is 1, and no is 0
pub one_yes : (b : Bool) → (one_if b ≡ 1 → b ≡ true) × (b ≡ true → one_if b ≡ 1)
unfolding one_if
one_yes true = (λ e. refl, λ e. refl)
one_yes false = (λ e. absurd (omega arith), λ e. ap one_if e)

pub one_no : (b : Bool) → (one_if b ≡ 0 → b ≡ false) × (b ≡ false → one_if b ≡ 0)
unfolding one_if
one_no true = (λ e. absurd (omega arith), λ e. ap one_if e)
one_no false = (λ e. refl, λ e. refl)

-- the bytes at the front of the output
front : (bs o : List ℕ) → take (length bs) (put 0 bs o) ≡ bs
front bs o = ap (take (length bs)) (put_front bs o) ∙ take-append_seam bs (drop (length bs) o)

pub record Result (f : ℕ) (bs o o' : List ℕ) (n : ℕ) : Type 0 where
  pub passed : f ≡ 0
  pub count : n ≡ length bs
  pub bytes : take n o' ≡ bs

pub written_result : (f : ℕ) (bs o o' : List ℕ) (n : ℕ) → Writes f bs o (pos n) o' → Result f bs o o' n
unfolding with_room output_after
written_result f bs o o' n w =
    let (z, e) = result_is (with_room f bs o) (length bs) n w.answer in
    record {
      passed = (neither f (room_refusal bs o) z).0;
      count = e;
      bytes =
          ap (λ (x : ℕ). take x o') e
          ∙ ap (take (length bs)) (w.output ∙ ap (λ (x : ℕ). output_after x bs o) z)
          ∙ front bs o;
    }

pub result_written : (f : ℕ) (bs o : List ℕ) (r : ℤ) (o' : List ℕ) → f ≡ 0 → length bs ≤ length o → Writes f bs o r o' →
    (r ≡ pos (length bs)) × (take (length bs) o' ≡ bs)
unfolding with_room room_refusal output_after signed
result_written f bs o r o' z l w =
    let k : with_room f bs o ≡ 0 = passed_first f (room_refusal bs o) z ∙ ap (λ (b : Bool). cond b 10 0) (le-ltb (length o) (length bs) l) in (
      w.answer ∙ ap (λ (x : ℕ). signed x (length bs)) k,
      ap (take (length bs)) (w.output ∙ ap (λ (x : ℕ). output_after x bs o) k) ∙ front bs o,
    )
