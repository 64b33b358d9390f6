-- The rows that have moved, copied over the old ones, job by job. Assumes nothing.
use mathlib.Core.Path.{◌≡◌, refl, sym, ap, subst, ◌∙◌}
use mathlib.Core.Logic.{⊎_elim}
use mathlib.Core.Bool.{Bool, false}
use mathlib.Core.List.{List}
use Prim.Native.Nat.{ℕ, ◌+◌, ◌*◌, ◌≤◌, ◌<◌}
use native.Mathlib.Nat.{eq-or-lt_of_le}
use native.Mathlib.Omega.{arith}
use lib.ListN.{length, get_or, drop, length-drop}
use lib.Seq.{length-take-le, set-get_or}
use Rattle.area.specs.Areas.{put}
use Rattle.area.proofs.Puts.{put_length}
use Rattle.rows.specs.Region.{row}
use Rattle.rows.proofs.OneRow.{row_new, row_old}
use Rattle.halves.specs.HalvesWritten.{CanKeep, Kept}

-- ONE ROW WRITTEN ANEW with its length
module _ (lens region v : List ℕ) (y : ℕ) (fits : 512 * y + length v ≤ length region) (long : length v ≡ get_or lens y 0) where
  row_put : y < length lens → row lens (put (512 * y) v region) y ≡ v
  row_put h =
      subst (λ (l : List ℕ). row l (put (512 * y) v region) y ≡ v) (set-get_or lens y 0)
      (row_new lens region v y (get_or lens y 0) fits long h)

  row_beside : (j : ℕ) → (j ≡ y → ⊥) → get_or lens j 0 ≤ 512 → get_or lens y 0 ≤ 512 → row lens (put (512 * y) v region) j ≡ row lens region j
  row_beside j d a b =
      subst (λ (l : List ℕ). row l (put (512 * y) v region) j ≡ row lens region j) (set-get_or lens y 0)
      (row_old lens region v y (get_or lens y 0) fits long j d a b)

-- the jobs before j have their new rows, and the others are as they were
pub record Keeping (jobs : ℕ) (lens new before after : List ℕ) (j : ℕ) : Type 0 where
  pub size : length after ≡ length before
  pub done : (k : ℕ) → k < j → row lens after k ≡ row lens new k
  pub later : (k : ℕ) → j ≤ k → k < jobs → row lens after k ≡ row lens before k

module _ (jobs : ℕ) (lens new : List ℕ) (moved : List Bool) (before : List ℕ) (asks : CanKeep jobs lens new moved before) where
  pub keeping_first : Keeping jobs lens new before before 0
  keeping_first = record { size = refl; done = λ k h. absurd (omega arith); later = λ k a b. refl }

  module _ (after : List ℕ) (j : ℕ) (w : Keeping jobs lens new before after j) where
    -- a job that has not moved
    pub keeping_same : j < jobs → get_or moved j false ≡ false → Keeping jobs lens new before after (j + 1)
    keeping_same h e = record {
      size = w.size;
      done = λ k l.
          ⊎_elim
          (λ (q : k ≡ j).
          subst (λ (i : ℕ). row lens after i ≡ row lens new i) (sym q)
          (w.later j (omega arith) h ∙ asks.others j h e))
          (λ (q : k < j). w.done k q) (eq-or-lt_of_le (omega arith));
      later = λ k a b. w.later k (omega arith) b;
    }

    -- a job whose row is copied
    row_long : (v : List ℕ) → j < jobs → v ≡ row lens new j → length v ≡ get_or lens j 0
    unfolding row
    row_long v h is =
        ap length is
        ∙ length-take-le (get_or lens j 0) (drop (512 * j) new)
        (omega (arith, length-drop (512 * j) new, asks.within.size, asks.within.few, asks.within.short j h))

    pub row_fits : (v : List ℕ) → j < jobs → v ≡ row lens new j → 512 * j + length v ≤ length after
    row_fits v h is = omega (arith, row_long v h is, w.size, asks.size, asks.within.few, asks.within.short j h)

    pub keeping_row : (v : List ℕ) → j < jobs → v ≡ row lens new j → Keeping jobs lens new before (put (512 * j) v after) (j + 1)
    keeping_row v h is =
        let short : get_or lens j 0 ≤ 512 = asks.within.short j h in
        let long : length v ≡ get_or lens j 0 = row_long v h is in
        let fits : 512 * j + length v ≤ length after = row_fits v h is in
        let inside : j < length lens = omega (arith, asks.within.table) in
        record {
          size = put_length (512 * j) v after fits ∙ w.size;
          done = λ k l.
              ⊎_elim
              (λ (q : k ≡ j).
              subst (λ (i : ℕ). row lens (put (512 * j) v after) i ≡ row lens new i) (sym q)
              (row_put lens after v j fits long inside ∙ is))
              (λ (q : k < j).
              row_beside lens after v j fits long k (λ s. omega arith) (asks.within.short k (omega arith)) short ∙ w.done k q)
              (eq-or-lt_of_le (omega arith));
          later = λ k a b.
              row_beside lens after v j fits long k (λ s. omega arith) (asks.within.short k b) short ∙ w.later k (omega arith) b;
        }

    pub keeping_last : jobs ≤ j → Kept jobs lens new before after
    keeping_last h = record { size = w.size; old_are = λ k l. w.done k (omega arith) }
