-- What an answer shows of itself: its refusal's number or its result. Assumes nothing.
use Rattle.std.proofs.Common.{◌≡◌, refl, sym, ap, ◌∙◌, [], ◌∷◌, ◌++◌, ℕ, zero, suc, Result, Ok, Err}
use Rattle.std.specs.Result.{result_unwrap_or}
use Rattle.answer.specs.declared.Refusal.{Refusal}
use Rattle.answer.specs.Refusals.{number}
use Rattle.answer.specs.Answer.{signed, answered}
use Rattle.answer.proofs.ResultChains.{number_positive}
use Rattle.look_lines.specs.Numbers.{refusal_in, result_in}
use Rattle.look_lines.specs.Lines.{field, verdict}
use Rattle.look_lines.proofs.Parts.{verdict_refused, verdict_same, verdict_apart}

shown : (n : ℕ) → refusal_in (signed n 0) ≡ n
unfolding signed refusal_in
shown zero = refl
shown (suc n) = refl

pub refused_shown : (x : Result ℕ Refusal) (r : Refusal) (n : ℕ) → x ≡ Err r → n ≡ number r →
    field (32 ∷ 114 ∷ 101 ∷ 102 ∷ 117 ∷ 115 ∷ 101 ∷ 100 ∷ 32 ∷ []) n ++ (10 ∷ []) ≡ verdict (refusal_in (answered x)) (result_in (answered x))
unfolding answered
refused_shown x r n is number_is =
    let e : n ≡ refusal_in (answered x) = number_is ∙ sym (shown (number r)) ∙ ap (λ (y : Result ℕ Refusal). refusal_in (answered y)) (sym is) in
    ap (λ (m : ℕ). field (32 ∷ 114 ∷ 101 ∷ 102 ∷ 117 ∷ 115 ∷ 101 ∷ 100 ∷ 32 ∷ []) m ++ (10 ∷ [])) e
    ∙ verdict_refused (refusal_in (answered x)) (result_in (answered x)) (λ z. number_positive r (sym number_is ∙ e ∙ z))

pub apart_shown : (x : Result ℕ Refusal) (v : ℕ) → x ≡ Ok v → v ≡ 0 → 32 ∷ 97 ∷ 112 ∷ 97 ∷ 114 ∷ 116 ∷ 10 ∷ [] ≡ verdict (refusal_in (answered x)) (result_in (answered x))
unfolding answered refusal_in result_in
apart_shown x v is none =
    verdict_apart 0 v refl none ∙ ap (λ (y : Result ℕ Refusal). verdict (refusal_in (answered y)) (result_in (answered y))) (sym is)

pub same_shown : (x : Result ℕ Refusal) (v : ℕ) → x ≡ Ok v → (v ≡ 0 → ⊥) →
    32 ∷ 115 ∷ 97 ∷ 109 ∷ 101 ∷ 10 ∷ [] ≡ verdict (refusal_in (answered x)) (result_in (answered x))
unfolding answered refusal_in result_in
same_shown x v is some =
    verdict_same 0 v refl some ∙ ap (λ (y : Result ℕ Refusal). verdict (refusal_in (answered y)) (result_in (answered y))) (sym is)

none : (n : ℕ) → result_in (signed n 0) ≡ 0
unfolding signed result_in
none zero = refl
none (suc n) = refl

-- the result, or 0 for a refusal
pub result_or_none : (x : Result ℕ Refusal) → result_unwrap_or x 0 ≡ result_in (answered x)
unfolding answered result_in
result_or_none (Ok v) = refl
result_or_none (Err r) = sym (none (number r))
