-- When two jobs are equal by the old rows: what comparisons of written plans ask and tell. Assumes nothing.
use Rattle.std.proofs.Common.{◌≡◌, Bool, true, List, [], ◌∷◌, ◌++◌, ℕ, ◌↔◌, IsTrue, refl, sym, ◌∙◌}
use mathlib.Core.List.{append-nil}
use lib.Dec.{ltb}
use borrow.Author.Tests.{lt-ltb}
use Rattle.bpa.specs.Plans.{all_below}
use Rattle.bpa.specs.Method.{expand}
use Rattle.bpa.proofs.Basics.Cases.{and_both}
use Rattle.rows.specs.declared.Rows.{Rows}
use Rattle.rows.specs.Region.{Comparable}
use Rattle.rows.specs.Rows.{rows_of}
use Rattle.fingerprints.specs.declared.Prints.{Prints}
use Rattle.rule_filter.specs.declared.Pair.{Pair}
use Rattle.answering.specs.Agreeing.{EqualOld, OldPair}

-- TWO JOBS, one as a plan of one job, the other with its tail
pub jobs_comparable : {prints : Prints} {old : Rows} {parts : List ℕ} {pair : Pair} → OldPair prints old parts pair →
    Comparable old.lens.now old.bytes.now (pair.mine ∷ []) parts
unfolding all_below
jobs_comparable {pair = pair} o = record {
  jobs = o.jobs;
  within = o.within;
  left = and_both (ltb pair.mine o.jobs) true (lt-ltb pair.mine o.jobs o.y_job) refl;
  right = o.parts_below;
}

pub jobs_tell : (old : Rows) (y : ℕ) (parts : List ℕ) (out : Bool) →
    (IsTrue out ↔ (expand (rows_of old) (y ∷ []) ≡ expand (rows_of old) parts ++ [])) → IsTrue out ↔ EqualOld old parts y
unfolding expand
jobs_tell old y parts out t =
    let alone = append-nil (rows_of old y) in
    let right = append-nil (expand (rows_of old) parts) in
    (λ h. record { is = sym alone ∙ t.0 h ∙ right }, λ f. t.1 (alone ∙ f.is ∙ sym right))
