-- The length of a plan's expansion, by the lengths of the rows. Assumes nothing.
use mathlib.Core.Path.{◌≡◌, refl, ◌∙◌}
use mathlib.Core.List.{List, [], ◌∷◌}
use Prim.Native.Nat.{ℕ, suc}
use native.Mathlib.Omega.{arith}
use lib.ListN.{length, length-append}
use Rattle.bpa.specs.Norms.{sum_of}
use Rattle.bpa.specs.Method.{expand}
use Rattle.rows.specs.Region.{row, Readable}
use Rattle.rows.proofs.WrittenPlans.{row_long}

-- a plan's length, written out
pub form_long : (lens region plan : List ℕ) → Readable lens region plan → length (expand (row lens region) plan) ≡ sum_of lens plan
unfolding expand sum_of
form_long lens region [] r = refl
form_long lens region (j ∷ plan) r =
    length-append (row lens region j) (expand (row lens region) plan)
    ∙ rw (
      row_long lens region (j ∷ plan) r 0 (omega arith) j refl,
      form_long lens region plan (record { size = r.size; job = λ i h. r.job (suc i) (omega arith); short = λ i h. r.short (suc i) (omega arith) }),
    )
