-- Rows that are equal for all jobs: what holds of the ones holds of the others. Assumes nothing.
use mathlib.Core.Path.{◌≡◌, sym, subst, ◌∙◌}
use mathlib.Core.Bool.{true}
use mathlib.Core.List.{List, Memᴰ}
use Prim.Native.Nat.{ℕ, ◌<◌}
use lib.ListN.{get_or}
use Rattle.bpa.specs.Plans.{Table, over}
use Rattle.bpa.specs.Norms.{sum_of, Good}
use Rattle.bpa.specs.Method.{Rows}
use Rattle.bpa.proofs.Basics.EachJob.{each_over}
use Rattle.decompositions.specs.Decompositions.{Decomposition, FirstRows, NewRow, Refines}
use Rattle.decompositions.proofs.NewRows.{new_row_agree}

module _ (t : Table) (ns : List ℕ) (e e' : Rows) (same : (j : ℕ) → j < t.jobs → e' j ≡ e j) where
  pub first_agree : FirstRows t ns e → FirstRows t ns e'
  first_agree f =
      record { first = f.first; is_job = f.is_job; least = f.least; rows = λ j h. same j h ∙ f.rows j h }

  pub decomposition_agree : Decomposition t ns e → Decomposition t ns e'
  decomposition_agree d j h =
      let q = same j h in
      let member : (m : ℕ) → Memᴰ m (e' j) → Memᴰ m (e j) = λ m. subst (Memᴰ m) q in
      record {
        inside = subst (λ r. over t r ≡ true) (sym q) (d j h).inside;
        norm = subst (λ r. sum_of ns r ≡ get_or ns j 0) (sym q) (d j h).norm;
        primes = λ m i. same m (each_over t (e j) (d j h).inside m (member m i)) ∙ (d j h).primes m (member m i);
        lower = λ m i. (d j h).lower m (member m i);
      }

  pub refines_agree : Good t ns → (d : Rows) → Decomposition t ns e → Refines t ns d e → Refines t ns d e'
  refines_agree g d k r j h =
      subst (NewRow t ns d e' j) (sym (same j h))
      (new_row_agree t ns g d e e' j (e j) h (λ i l p. (k i l).inside) (λ i l p. sym (same i l)) (r j h))
