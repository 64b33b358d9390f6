-- What is known of the jobs of a table below a bound, as it is lent: the table is good, and each of those jobs runs by its rule and by its row.
-- Assumes nothing.
use Rattle.std.proofs.Common.{◌≡◌, ◌∙◌, ◌+◌, ◌*◌, ◌-◌, ◌<◌, ◌≤◌, ℕ, List, arith, ap, length, get_or, take, drop}
use Rattle.area.specs.Numbers.{all_low_first}
use Rattle.rules.specs.Places.{table_of}
use Rattle.norm.specs.NormArrays.{GoodNorms}
use Rattle.norm.proofs.NormedTables.{good_norms}
use Rattle.first_run.specs.FirstRun.{run_of}
use Rattle.lowering.specs.Lowering.{run_by, Picks, short_row}
use Rattle.lowering.proofs.LoweringRules.{picked}
use Rattle.lowering.proofs.ShortRows.{lent_row, short_length}
use Rattle.rule_runs.specs.declared.Kept.{Kept}

module _ (kept : Kept) where
  abbrev n : ℕ
  n = kept.table.jobs

  abbrev rs : List ℕ
  rs = kept.table.rules.now

  abbrev ns : List ℕ
  ns = kept.table.norms.now

  pub good : GoodNorms n rs ns
  good = good_norms n rs ns kept.table.list kept.table.exact kept.table.finite

  -- a job whose norm is below the bound, as it was looked up
  module _ (job : ℕ) (h : job < n) (known : get_or ns job 0 < kept.below) where
    pub picks : Picks n rs ns job (get_or kept.low.now job 0)
    picks = kept.chosen.picks job h known

    pub by_rule : run_of (table_of n rs) job ≡ run_by n rs (get_or kept.low.now job 0)
    by_rule = picked n rs ns good job (get_or kept.low.now job 0) h picks

    -- a short one
    module _ (m : ℕ) (is : m ≡ get_or ns job 0) (short : m ≤ 85) where
      abbrev lent : List ℕ
      lent = take (170 * job + 2 * m - 170 * job) (drop (170 * job) kept.rows.now)

      short_job : get_or ns job 0 ≤ 85
      short_job = omega arith

      pub by_whole_row : take (2 * m) (drop (170 * job) kept.rows.now) ≡ all_low_first (run_of (table_of n rs) job)
      unfolding short_row
      by_whole_row = ap (λ (k : ℕ). take (2 * k) (drop (170 * job) kept.rows.now)) is ∙ kept.chosen.row job h known short_job

      pub by_row : lent ≡ all_low_first (run_of (table_of n rs) job)
      by_row = lent_row ns kept.rows.now job m is ∙ kept.chosen.row job h known short_job

      pub row_length : length lent ≡ 2 * get_or ns job 0
      row_length = ap length (lent_row ns kept.rows.now job m is) ∙ short_length ns kept.rows.now job kept.chosen.size (omega (arith, good.list.jobs)) short_job
