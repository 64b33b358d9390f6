-- Plans that are equal by the rows have equal fingerprints: by the old rows always, by the new ones if their norm is below that of the job
-- whose new row is worked out. So rules that agree have equal fingerprints. Assumes nothing.
use mathlib.Core.Path.{◌≡◌, sym, ap, ap₂, ◌∙◌}
use mathlib.Core.Bool.{true}
use mathlib.Core.List.{List, ◌∷◌, ◌++◌}
use Prim.Native.Nat.{ℕ, ◌<◌}
use native.Mathlib.Omega.{arith}
use lib.Dec.{ltb}
use lib.ListN.{get_or}
use Rattle.bpa.specs.Plans.{Table, over, all_below}
use Rattle.bpa.specs.Norms.{sum_of}
use Rattle.bpa.specs.Method as method
use Rattle.bpa.specs.Method.{expand}
use Rattle.bpa.proofs.Judge.Rows.{expand_append}
use Rattle.decompositions.proofs.NewRows.{expand_through, refined_through}
use Rattle.rules.specs.Places.{rule_at, rule_count}
use Rattle.rules.proofs.ListLaws.{good_rule}
use Rattle.rows.specs.Rows.{rows_of}
use Rattle.rows.specs.declared.Rows.{Rows}
use Rattle.fingerprints.specs.Fingerprints.{join, value_from, power_from}
use Rattle.fingerprints.specs.declared.Print.{Print}
use Rattle.fingerprints.specs.declared.Prints.{Prints}
use Rattle.fingerprints.proofs.PrintLaws.{equal_values, equal_rows_values}
use Rattle.facts.specs.Columns.{norms_in, jobs_in, bytes_in, table_by}
use Rattle.facts.specs.declared.Facts.{Facts}
use Rattle.facts.proofs.TableFacts.{tables, row_norm}
use Rattle.rule_filter.specs.RuleFilter.{SamePrint}
use Rattle.equal_remainders.specs.EqualRemainders.{rows_for, rest_for}
use Rattle.answering.specs.Agreeing.{Agree}
use Rattle.decomposing.specs.Decomposing.{Decomposable, EarlierRows}
use Rattle.candidates.proofs.JobsOfTable.{job_below, over_by, over_below, lesser_plan}
use Rattle.decomposing.proofs.RulePlaces.{by_rows}

module _ (facts : Facts) (prints : Prints) (old new : Rows) (place : ℕ) (h : Decomposable facts prints old new place) (y : ℕ)
    (earlier : EarlierRows facts (rows_of old) (rows_of new) y) where
  abbrev t : Table
  t = table_by facts

  abbrev ns : List ℕ
  ns = norms_in facts

  abbrev d : method.Rows
  d = rows_of old

  abbrev e : method.Rows
  e = rows_of new

  -- the new rows of a plan of earlier jobs stand for its old rows
  refined_plan : (p : List ℕ) → over t p ≡ true → sum_of ns p < get_or ns y 0 → expand d (expand e p) ≡ expand d p
  refined_plan p o l =
      expand_through d e p
      (lesser_plan t ns (λ j. expand d (e j) ≡ d j) y p
      (λ j b k. refined_through t ns d e j (earlier j (job_below facts j b) k).0) o l)

  rule_below : (i : ℕ) → i < rule_count (bytes_in facts) → all_below (jobs_in facts) (rule_at (bytes_in facts) i).after ≡ true
  rule_below i l = (good_rule (jobs_in facts) (bytes_in facts) (tables facts).list i l).after

  rule_over : (i : ℕ) → i < rule_count (bytes_in facts) → over t (rule_at (bytes_in facts) i).after ≡ true
  rule_over i l = over_by facts (rule_at (bytes_in facts) i).after (rule_below i l)

  module _ (tail : List ℕ) (inside : over t tail ≡ true) (print : Print) (value_is : print.value ≡ value_from prints 0 tail)
      (power_is : print.power ≡ power_from prints 1 tail) where
    tail_below : all_below (jobs_in facts) tail ≡ true
    tail_below = over_below facts tail inside

    module _ (r s : ℕ) (hr : r < rule_count (bytes_in facts)) (hs : s < rule_count (bytes_in facts)) where
      abbrev w : List ℕ
      w = (rule_at (bytes_in facts) r).after

      abbrev v : List ℕ
      v = (rule_at (bytes_in facts) s).after

      same_print : expand d w ≡ expand d v ++ expand d tail → SamePrint (bytes_in facts) prints print r s
      same_print k = record {
        is =
            equal_values (jobs_in facts) d prints w v tail h.printed (rule_below r hr) (rule_below s hs) tail_below
            (k ∙ sym (expand_append d v tail))
            ∙ ap₂ (join (value_from prints 0 v)) (sym power_is) (sym value_is);
      }

      pub rules_same_print : (norm gap : ℕ) (behind : List ℕ) → norm ≡ get_or ns y 0 → behind ≡ expand d tail →
          Agree (rows_for (ltb (get_or facts.sums r 0) norm) d e) (bytes_in facts) facts.sums gap (rest_for (ltb (get_or facts.sums r 0) norm) behind tail) r s →
          SamePrint (bytes_in facts) prints print r s
      rules_same_print norm gap behind norm_is behind_is =
          by_rows d e behind tail (λ (f : method.Rows) (rest : List ℕ). Agree f (bytes_in facts) facts.sums gap rest r s → SamePrint (bytes_in facts) prints print r s)
          (get_or facts.sums r 0) norm
          (λ l k.
          let left : sum_of ns w < get_or ns y 0 = omega (arith, row_norm facts r hr) in
          let right : sum_of ns v < get_or ns y 0 = omega (arith, k.norm, row_norm facts s hs) in
          same_print
          (sym (refined_plan w (rule_over r hr) left)
          ∙ ap (expand d) k.equal
          ∙ expand_append d (expand e v) tail
          ∙ ap (λ (p : List ℕ). p ++ expand d tail) (refined_plan v (rule_over s hs) right)))
          (λ l k. same_print (k.equal ∙ ap (λ (p : List ℕ). expand d v ++ p) behind_is))

    -- the two jobs themselves
    pub jobs_same_print : (x : ℕ) → y < jobs_in facts → x < jobs_in facts → d y ≡ expand d (x ∷ tail) →
        get_or prints.values y 0 ≡ join (get_or prints.values x 0) print.power print.value
    jobs_same_print x hy hx k =
        equal_rows_values (jobs_in facts) d prints y x tail h.printed hy hx tail_below k
        ∙ ap₂ (join (get_or prints.values x 0)) (sym power_is) (sym value_is)
