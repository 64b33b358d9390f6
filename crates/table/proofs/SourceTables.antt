-- WHAT THE SOURCES OF TABLES GIVE: a refusal, or a table that is accepted and held with its exact norms. Assumes nothing.
use Rattle.std.proofs.Common.{◌≡◌, ℕ, ◌≤◌, ◌<◌, ◌*◌, List, length, get_or, take, sym, ap, ◌∙◌, arith, Result, Ok, Err}
use Rattle.bpa.specs.Plans.{Table}
use Rattle.rules.specs.Places.{table_of}
use Rattle.rules.specs.Lists.{GoodList}
use Rattle.rules.proofs.ListLaws.{table_closed}
use Rattle.norm.specs.NormArrays.{NormArray, ExactNorms}
use Rattle.answer.specs.declared.Refusal.{Refusal}
use Rattle.answer.specs.Refusals.{refusal_of}
use Rattle.answer.proofs.ResultChains.{err_stops, ok_passes, ok_goes_on}
use Rattle.refusal.specs.Refusals.{norms_refusal, table_refusal, Accepted}
use Rattle.refusal.proofs.NormArray.{array_refusal, exact_norms}
use Rattle.refusal.proofs.TableRefusals.{accepted_table}
use Rattle.image.specs.Image.{layout_refusal, image_refusal, table_in}
use Rattle.image.specs.Reading.{HoldsTable}
use Rattle.table.specs.Sources.{Source, table_held}
use Rattle.table.specs.declared.held.HeldTable.{HeldTable}
use Rattle.table.proofs.ImageTables.{same_table}

-- a refusal that is handed on
pub refused : {A : Type 0} {f : ℕ} {t : Table} (x : Result A Refusal) (r : Result HeldTable Refusal) (e : Refusal) →
    x ≡ Err e → r ≡ Err e → refusal_of x ≡ f → Source f t r
unfolding refusal_of
refused x r e p q k = record {
  refusal_is = ap refusal_of q ∙ sym (ap refusal_of p) ∙ k;
  holds = λ h d. let z : Ok h ≡ Err e = sym d ∙ q in cc;
}

-- and a table that is held
pub same_held : (x h : HeldTable) → ◌≡◌ {A = Result HeldTable Refusal} (Ok x) (Ok h) → table_held h ≡ table_held x
same_held x h d = let e : x ≡ h = cc in ap table_held (sym e)

-- A LIST OF RULES with the array of its norms, of which the checks of norms came to x
module _ (jobs : ℕ) (rs ns : List ℕ) (list : GoodList jobs rs) (a : NormArray (table_of jobs rs) ns) {A : Type 0} (x : Result A Refusal)
    (e : refusal_of x ≡ norms_refusal (take jobs ns)) where
  pub norms_checked : refusal_of x ≡ table_refusal (table_of jobs rs)
  norms_checked = e ∙ array_refusal jobs rs list ns a

  module _ (u : A) (p : x ≡ Ok u) where
    pub accepted : Accepted (table_of jobs rs)
    accepted = accepted_table (table_of jobs rs) (table_closed jobs rs list) (ok_passes x u p norms_checked)

    pub exact : ExactNorms (table_of jobs rs) ns
    exact = exact_norms jobs rs list ns a accepted

    pub finite : (j : ℕ) → j < jobs → 0 < get_or ns j 0
    unfolding table_of
    finite j h = let f = accepted.good.falls j h in omega (arith, exact.at j, f.3)

-- enough norms are there
pub enough : {t : Table} {jobs : ℕ} {ns : List ℕ} {rs : List ℕ} → GoodList jobs rs → NormArray t ns → jobs ≤ length ns
enough g a = omega (arith, g.jobs, a.size)

-- AN IMAGE whose layout is good
module _ (bs : List ℕ) {A : Type 0} (x : Result A Refusal) (e : refusal_of x ≡ layout_refusal bs) where
  pub layout_refused : {r : Result HeldTable Refusal} {k : Refusal} → x ≡ Err k → r ≡ Err k → Source (image_refusal bs) (table_in bs) r
  unfolding image_refusal
  layout_refused {r} {k} p q = record {
    refusal_is = err_stops x r k _ p q e;
    holds = λ h d. let z : Ok h ≡ Err k = sym d ∙ q in cc;
  }

  pub layout_passed : (u : A) → x ≡ Ok u → {jobs count : ℕ} {rules : List ℕ} → HoldsTable bs jobs count rules → {r : Result HeldTable Refusal} →
      Source (table_refusal (table_of jobs (take (8 * count) rules))) (table_of jobs (take (8 * count) rules)) r →
      Source (image_refusal bs) (table_in bs) r
  unfolding image_refusal
  layout_passed u p h {r} s =
      let same = same_table bs (ok_passes x u p e) h in
      record {
        refusal_is = ok_goes_on x u r p e (s.refusal_is ∙ ap table_refusal same);
        holds = λ l d. s.holds l d ∙ same;
      }
