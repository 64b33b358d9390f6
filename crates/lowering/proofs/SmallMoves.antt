-- Where the moves of rules are numbers of two bytes, so are those of runs: what is read back from a run's bytes is the run. Assumes nothing.
use mathlib.Core.Path.{◌≡◌, ap}
use mathlib.Core.List.Memᴰ
use mathlib.Core.List.{List}
use mathlib.Core.Logic.{⊎_elim}
use Prim.Native.Nat.{ℕ, ◌<◌}
use native.Mathlib.Omega.{arith}
use Rattle.bpa.specs.Plans.{Rule, over, HasRule}
use Rattle.area.specs.Numbers.{all_low_first, numbers_in}
use Rattle.area.proofs.Numbers.{numbers_back}
use Rattle.rules.specs.Places.{rule_at, rule_count, table_of}
use Rattle.rules.proofs.ListLaws.{place_of_rule, good_rule}
use Rattle.norm.specs.NormArrays.{GoodNorms}
use Rattle.first_run.specs.FirstRun.{first_run}
use Rattle.first_run.proofs.RunParts.{run_moves}
use Rattle.first_run.proofs.FirstRuns.{first_run_first}
use Rattle.lowering.specs.Lowering.{run_by}

module _ (n : ℕ) (rs ns : List ℕ) (g : GoodNorms n rs ns) (small : (i : ℕ) → i < rule_count rs → (rule_at rs i).move < 65536) where
  rule_small : (j a : ℕ) (w : List ℕ) → HasRule (table_of n rs) j a w → a < 65536
  rule_small j a w r =
      let (i, l, e) = place_of_rule n rs j a w r in
      omega (arith, ap (λ (x : Rule). x.move) e, small i l)

  pub run_back : (i : ℕ) → i < rule_count rs → numbers_in (all_low_first (run_by n rs i)) ≡ run_by n rs i
  unfolding run_by first_run over table_of
  run_back i h =
      let runs = (first_run_first (table_of n rs) g.good (rule_at rs i).after (good_rule n rs g.list i h).after).runs in
      numbers_back (run_by n rs i)
      (λ v m. ⊎_elim (λ (e : v ≡ (rule_at rs i).move). omega (arith, small i h)) (λ k. run_moves (table_of n rs) 65536 rule_small runs v k) (Memᴰ.cases_cons m))
