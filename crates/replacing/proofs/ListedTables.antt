-- A TABLE OF AN IMAGE UNDER A LIST: what the checks of both come to, and the table once they are past. Assumes nothing.
use Rattle.std.proofs.Common.{◌≡◌, ℕ, List, Bool, true, false, refl, sym, ap, ◌∙◌, Result, Ok, Err}
use mir.Val.{bool_byte}
use Rattle.bpa.specs.Plans.{Table}
use Rattle.answer.specs.declared.Refusal.{Refusal}
use Rattle.answer.specs.Refusals.{refusal_of, or_else}
use Rattle.answer.specs.Answer.{one_if}
use Rattle.answer.proofs.RefusalChains.{passed_first, both_pass}
use Rattle.answer.proofs.ResultChains.{err_stops, ok_passes, ok_goes_on}
use Rattle.table.specs.Sources.{Source, table_held}
use Rattle.table.specs.declared.held.HeldTable.{HeldTable}
use Rattle.alike.specs.Alike.{replaced}
use Rattle.alike_list.specs.AlikeLists.{alike_pairs, alike_refusal}

-- a refusal that is handed on
pub handed_on : {A B : Type 0} (x : Result A Refusal) (y : Result B Refusal) (r : Refusal) {f : ℕ} → x ≡ Err r → y ≡ Err r → refusal_of x ≡ f → refusal_of y ≡ f
unfolding refusal_of
handed_on x y r p q e = ap refusal_of q ∙ sym (ap refusal_of p) ∙ e

-- yes and no as a byte
pub byte_is : (b : Bool) → bool_byte b ≡ one_if b
unfolding one_if
byte_is true = refl
byte_is false = refl

-- what comes after
pub then_stops : {A : Type 0} (y : Result A Refusal) (r : Refusal) {f : ℕ} (g : ℕ) → y ≡ Err r → refusal_of y ≡ f → refusal_of y ≡ or_else f g
then_stops y r g q e = err_stops y y r g q q e

pub then_goes_on : {A : Type 0} (y : Result A Refusal) {f g : ℕ} → f ≡ 0 → refusal_of y ≡ g → refusal_of y ≡ or_else f g
then_goes_on y {f} {g} z e = e ∙ sym (passed_first f g z)

-- a table from a source, and the list that it is put under
module _ {f : ℕ} {t : Table} {x : Result HeldTable Refusal} (s : Source f t x) (ls : List ℕ) where
  pub source_refused : {A : Type 0} (y : Result A Refusal) (r : Refusal) → x ≡ Err r → y ≡ Err r → refusal_of y ≡ or_else f (alike_refusal ls)
  source_refused y r p q = err_stops x y r (alike_refusal ls) p q s.refusal_is

  module _ (h : HeldTable) (p : x ≡ Ok h) {B : Type 0} (u : Result B Refusal) (e : refusal_of u ≡ alike_refusal ls) where
    pub list_refused : {A : Type 0} (y : Result A Refusal) (r : Refusal) → u ≡ Err r → y ≡ Err r → refusal_of y ≡ or_else f (alike_refusal ls)
    list_refused y r q d = ok_goes_on x h y p s.refusal_is (handed_on u y r q d e)

    pub listed_passed : (b : B) → u ≡ Ok b → or_else f (alike_refusal ls) ≡ 0
    listed_passed b q = both_pass f (alike_refusal ls) (ok_passes x h p s.refusal_is) (ok_passes u b q e)

    pub listed_is : (k : HeldTable) → table_held k ≡ replaced (alike_pairs ls) (table_held h) → table_held k ≡ replaced (alike_pairs ls) t
    listed_is k d = d ∙ ap (replaced (alike_pairs ls)) (s.holds h p)
