-- Checks one after another that hand on their refusals: what the first comes to is the first of both. Assumes nothing.
use Rattle.std.proofs.Common.{◌≡◌, ℕ, sym, ap, ◌∙◌, arith, Result, Ok, Err}
use Rattle.answer.specs.declared.Refusal.{Refusal}
use Rattle.answer.specs.declared.Refusal.TheVariants.{WorkspaceShort, BadLength, BadChecksum, BadHeader, BadPlace, NoNorm, JobNormHigh, NoSuchJob, PlanNormHigh, OutputShort, LogLength, AlikeLength, AlikeClash, TablesLarge}
use Rattle.answer.specs.Refusals.{number, refusal_of, or_else}
use Rattle.answer.proofs.RefusalChains.{refused_first, passed_first}

-- no refusal has number 0
pub number_positive : (r : Refusal) → number r ≡ 0 → ⊥
unfolding number
number_positive WorkspaceShort h = omega (arith, h)
number_positive BadLength h = omega (arith, h)
number_positive BadChecksum h = omega (arith, h)
number_positive BadHeader h = omega (arith, h)
number_positive BadPlace h = omega (arith, h)
number_positive NoNorm h = omega (arith, h)
number_positive JobNormHigh h = omega (arith, h)
number_positive NoSuchJob h = omega (arith, h)
number_positive PlanNormHigh h = omega (arith, h)
number_positive OutputShort h = omega (arith, h)
number_positive LogLength h = omega (arith, h)
number_positive AlikeLength h = omega (arith, h)
number_positive AlikeClash h = omega (arith, h)
number_positive TablesLarge h = omega (arith, h)

-- a refusal that is handed on stays what it is
pub handed : {A B : Type 0} (x : Result A Refusal) (y : Result B Refusal) (r : Refusal) {f : ℕ} → x ≡ Err r → y ≡ Err r → refusal_of x ≡ f → refusal_of y ≡ f
unfolding refusal_of
handed x y r p q e = ap refusal_of q ∙ sym (ap refusal_of p) ∙ e

-- THE FIRST CHECK REFUSES: what is handed on is the refusal of both
pub err_stops : {A B : Type 0} (x : Result A Refusal) (y : Result B Refusal) (r : Refusal) {f : ℕ} (g : ℕ) →
    x ≡ Err r → y ≡ Err r → refusal_of x ≡ f → refusal_of y ≡ or_else f g
unfolding refusal_of
err_stops x y r {f} g p q e =
    let n : number r ≡ f = sym (ap refusal_of p) ∙ e in
    ap refusal_of q ∙ n ∙ sym (refused_first f g (λ z. number_positive r (n ∙ z)))

-- THE FIRST CHECK PASSES: it came to no refusal, and what the others come to is the refusal of both
pub ok_passes : {A : Type 0} (x : Result A Refusal) (a : A) {f : ℕ} → x ≡ Ok a → refusal_of x ≡ f → f ≡ 0
unfolding refusal_of
ok_passes x a p e = sym e ∙ ap refusal_of p

pub ok_goes_on : {A B : Type 0} (x : Result A Refusal) (a : A) (y : Result B Refusal) {f g : ℕ} →
    x ≡ Ok a → refusal_of x ≡ f → refusal_of y ≡ g → refusal_of y ≡ or_else f g
ok_goes_on x a y {f} {g} p e h = h ∙ sym (passed_first f g (ok_passes x a p e))
