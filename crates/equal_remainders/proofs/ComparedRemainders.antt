-- What two rules leave, as comparisons of written plans tell of it. Assumes nothing.
use Rattle.std.proofs.Common.{◌≡◌, Bool, List, ◌++◌, ℕ, ◌↔◌, IsTrue, sym, ap, ◌∙◌}
use Rattle.bpa.specs.Method.{Rows, expand}
use Rattle.rules.specs.Places.{rule_at}
use Rattle.equal_remainders.specs.EqualRemainders.{LeftEqual}

pub afters_tell : (e : Rows) (rs rest tail : List ℕ) (r s : ℕ) (p q : List ℕ) (out : Bool) → p ≡ (rule_at rs r).after → q ≡ (rule_at rs s).after →
    tail ≡ rest → (IsTrue out ↔ (expand e p ≡ expand e q ++ tail)) → IsTrue out ↔ LeftEqual e rs rest r s
afters_tell e rs rest tail r s p q out p_is q_is tail_is t =
    let left : expand e p ≡ expand e (rule_at rs r).after = ap (expand e) p_is in
    let right : expand e q ++ tail ≡ expand e (rule_at rs s).after ++ rest =
    ap (λ (l : List ℕ). expand e l ++ tail) q_is ∙ ap (λ (l : List ℕ). expand e (rule_at rs s).after ++ l) tail_is in
    (λ h. sym left ∙ t.0 h ∙ right, λ a. t.1 (left ∙ a ∙ sym right))
