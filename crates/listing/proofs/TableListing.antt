-- By the prime rows of a table, what is written is the listing of its catalogue. Assumes nothing.
use mathlib.Core.Path.{◌≡◌, ap, ◌∙◌}
use mathlib.Core.List.{List, ◌++◌}
use Prim.Native.Nat.{ℕ, ◌+◌, ◌≤◌}
use native.Mathlib.Omega.{arith}
use lib.ListN.{length, get_or, take}
use Rattle.rules.specs.Places.{table_of}
use Rattle.norm.specs.NormArrays.{ExactNorms}
use Rattle.rows.specs.Region.{row}
use Rattle.engine.specs.Engine.{PrimeRows}
use Rattle.words.specs.Words.{word_bytes}
use Rattle.catalogue.specs.Catalogue.{rows_of, catalogue}
use Rattle.form_weights.specs.Weighed.{Weighed}
use Rattle.form_weights.proofs.TableWeights.{weights_are}
use Rattle.row_counts.specs.Counts.{Counts}
use Rattle.nth_row.specs.declared.row.Row.{Row}
use Rattle.nth_row.specs.Rows.{IsRow}
use Rattle.std.specs.Prelude.{Option, IsNone, IfSome}
use mathlib.Core.Logic.{◌↔◌}
use Rattle.listing.specs.Listing.{listing, row_bytes}
use Rattle.listing.proofs.Listed.{row_listed}

module _ (n : ℕ) (rs ns lens region ws : List ℕ) (few : n ≤ 24) (exact : ExactNorms (table_of n rs) ns) (p : PrimeRows (table_of n rs) ns lens region)
    (w : Weighed n ns (row lens region) ws) where
  rows_are : (v : ℕ) → rows_of (take n ws) v ≡ catalogue (table_of n rs) v
  unfolding table_of catalogue
  rows_are v =
      ap (λ (l : List ℕ). rows_of l v)
      (weights_are (table_of n rs) ns (row lens region) ws few exact.at p.form w)

  module _ (v k : ℕ) (cs : List ℕ) (c : Counts (take n ws) (v + 1) cs) where
    count_is : get_or cs v 0 ≡ length (catalogue (table_of n rs) v)
    count_is = c.at v (omega arith) ∙ ap length (rows_are v)

    pub row_written : (row : Option Row) → IsNone row ↔ (length (rows_of (take n ws) v) ≤ k) → IfSome row (IsRow (rows_of (take n ws) v) k) →
        word_bytes (get_or cs v 0) ++ row_bytes row ≡ listing (catalogue (table_of n rs) v) k
    row_written row none some =
        row_listed (catalogue (table_of n rs) v) k (get_or cs v 0) count_is row (rw (rows_are v) at none) (rw (rows_are v) at some)
