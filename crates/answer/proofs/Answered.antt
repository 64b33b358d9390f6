-- What a call gives back by the result of its checks and of what they let pass. Assumes nothing.
use Rattle.std.proofs.Common.{◌≡◌, ℕ, List, length, refl, sym, ap, ◌∙◌, ◌≤◌, ◌<◌, Result, Ok, Err}
use lib.IntN.{pos}
use Rattle.answer.specs.declared.Refusal.{Refusal}
use Rattle.answer.specs.Refusals.{number, refusal_of}
use Rattle.answer.specs.Answer.{signed, answered, Gives, Writes}
use Rattle.area.specs.Areas.{put}
use Rattle.answer.specs.declared.Refusal.TheVariants.{OutputShort}
use Rattle.answer.proofs.Answers.{gives_refused, gives_done, writes_refused, writes_done, too_short, written}
use Rattle.answer.proofs.ResultChains.{number_positive}

-- a refusal is given back as its number, and a result as it is
pub answered_err : (x : Result ℕ Refusal) (r : Refusal) → x ≡ Err r → answered x ≡ signed (number r) 0
unfolding answered
answered_err x r p = ap answered p

pub answered_ok : (x : Result ℕ Refusal) (v : ℕ) → x ≡ Ok v → answered x ≡ pos v
unfolding answered
answered_ok x v p = ap answered p

module _ (x : Result ℕ Refusal) {f : ℕ} (e : refusal_of x ≡ f) where
  number_is : (r : Refusal) → x ≡ Err r → number r ≡ f
  unfolding refusal_of
  number_is r p = sym (ap refusal_of p) ∙ e

  -- A NUMBER, or bytes written: refused by a check
  pub gives_err : (r : Refusal) (v : ℕ) → x ≡ Err r → Gives f v (answered x)
  gives_err r v p = gives_refused (number_is r p) v (number_positive r) (answered_err x r p)

  pub writes_err : (r : Refusal) {bs o : List ℕ} → x ≡ Err r → Writes f bs o (answered x) o
  writes_err r p = writes_refused (number_is r p) (number_positive r) (answered_err x r p)

-- once all checks are past
pub gives_ok : (x : Result ℕ Refusal) {f : ℕ} (v : ℕ) → f ≡ 0 → x ≡ Ok v → Gives f v (answered x)
gives_ok x {f} v z p = let e : f ≡ f = refl in gives_done e v z (answered_ok x v p)

pub writes_ok : (x : Result ℕ Refusal) {f : ℕ} {bs o o' : List ℕ} → f ≡ 0 → Writes 0 bs o (answered x) o' → Writes f bs o (answered x) o'
writes_ok x {f} z w = let e : f ≡ f = refl in writes_done e z w

-- what a function answers that is called once all checks are past: the output is too short, or written
pub short_err : (bs o : List ℕ) → length o < length bs → Writes 0 bs o (answered (Err OutputShort)) o
unfolding answered number signed
short_err bs o l = too_short bs o l

pub written_ok : (bs o : List ℕ) (v : ℕ) {o' : List ℕ} → length bs ≤ length o → v ≡ length bs → o' ≡ put 0 bs o → Writes 0 bs o (answered (Ok v)) o'
unfolding answered
written_ok bs o v l e d = written bs o l (ap pos e) d
