-- The row of a short job put anew: of one move, or of a run that was made. Assumes nothing.
use Rattle.std.proofs.Common.{◌≡◌, ◌∙◌, ◌*◌, ◌-◌, ◌<◌, ◌≤◌, ℕ, List, arith, ap, ap₂, sym, length, get_or, take}
use Rattle.area.specs.Areas.{put, IsPut}
use Rattle.area.specs.Numbers.{low_first, all_low_first}
use Rattle.area.proofs.Numbers.{all_length}
use Rattle.rules.specs.Places.{rule_at, table_of}
use Rattle.rules.specs.Lists.{GoodList}
use Rattle.rules.proofs.ListLaws.{good_rule}
use Rattle.norm.specs.NormArrays.{ExactNorms, GoodNorms}
use Rattle.norm.proofs.NormedTables.{good_norms}
use Rattle.lowering.specs.Lowering.{Lowers, run_by, short_row}
use Rattle.lowering.proofs.LoweringRules.{run_by_length, only_move}
use Rattle.lowering.proofs.ShortRows.{row_put, row_kept, made_front}
use Rattle.choices.specs.Choices.{Keeps}

module _ (n : ℕ) (rs ns : List ℕ) (list : GoodList n rs) (exact : ExactNorms (table_of n rs) ns) (finite : (j : ℕ) → j < n → 0 < get_or ns j 0) (rule : ℕ)
    (low : Lowers rs ns (rule_at rs rule).job rule) (rows rows' : List ℕ) (size : length rows ≡ 4080) where
  abbrev job : ℕ
  job = (rule_at rs rule).job

  good : GoodNorms n rs ns
  good = good_norms n rs ns list exact finite

  small : job < 24
  small = omega (arith, (good_rule n rs list rule low.place).job, list.jobs)

  run_length : length (all_low_first (run_by n rs rule)) ≡ 2 * get_or ns job 0
  run_length = all_length (run_by n rs rule) ∙ ap (λ (k : ℕ). 2 * k) (run_by_length n rs ns good rule low.place ∙ sym low.falls)

  put_kept : (new : List ℕ) → get_or ns job 0 ≤ 85 → new ≡ all_low_first (run_by n rs rule) → rows' ≡ put (170 * job) new rows → Keeps n rs ns job rule rows rows'
  put_kept new short e p =
      let long : length new ≡ 2 * get_or ns job 0 = ap length e ∙ run_length in
      record {
        row = λ l. ap (λ (v : List ℕ). short_row ns v job) p ∙ row_put ns rows job new size small (omega arith) long ∙ e;
        others = λ i other l. ap (λ (v : List ℕ). short_row ns v i) p ∙ row_kept ns rows job new size small (omega arith) i other l;
      }

  -- a job of norm 1: the move of its rule
  pub alone_kept : (place move : ℕ) → place ≡ job → move ≡ (rule_at rs rule).move → get_or ns job 0 ≡ 1 → rows' ≡ put (170 * place) (low_first move) rows →
      Keeps n rs ns job rule rows rows'
  alone_kept place move e f one p =
      put_kept (low_first (rule_at rs rule).move) (omega arith) (sym (only_move n rs ns good rule low one))
      (p ∙ ap₂ (λ (x v : ℕ). put (170 * x) (low_first v) rows) e f)

  -- another short one: the run that was made
  pub run_kept : (place r : ℕ) (made area : List ℕ) → place ≡ job → get_or ns job 0 ≤ 85 → IsPut 0 (all_low_first (run_by n rs rule)) area r made →
      rows' ≡ put (170 * place) (take r made) rows → Keeps n rs ns job rule rows rows'
  run_kept place r made area e short m p =
      let k : r ≡ r - 0 = omega arith in
      put_kept (take r made) short (ap (λ (i : ℕ). take i made) k ∙ made_front m) (p ∙ ap (λ (x : ℕ). put (170 * x) (take r made) rows) e)

  pub made_length : (r : ℕ) (made area : List ℕ) → IsPut 0 (all_low_first (run_by n rs rule)) area r made → r ≡ 2 * get_or ns job 0
  made_length r made area m = omega (arith, m.next, run_length)
