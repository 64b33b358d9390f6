-- Rules that lower a job's norm by one, by the array of norms and by the table's own, and the run by the one that is chosen. Assumes nothing.
use mathlib.Core.Path.{◌≡◌, sym, ap, ◌∙◌, subst}
use mathlib.Core.List.{List, ◌∷◌}
use Prim.Native.Nat.{ℕ, suc, ◌<◌}
use native.Mathlib.Omega.{arith}
use lib.ListN.{length, get_or}
use Rattle.bpa.specs.Plans.{Rule, over, HasRule}
use Rattle.bpa.specs.Norms.{sum_of, norms, norm}
use Rattle.bpa.specs.Method.{expand}
use Rattle.bpa.proofs.Basics.Plans.{norm_zero}
use Rattle.area.specs.Numbers.{low_first, all_low_first}
use Rattle.rules.specs.Places.{rule_at, rule_count, table_of}
use Rattle.rules.proofs.ListLaws.{rule_of, place_of_rule, good_rule}
use Rattle.norm.specs.NormArrays.{GoodNorms}
use Rattle.norm.proofs.Agreement.{sum_agree}
use Rattle.first_run.specs.FirstRun.{Before, run_of, first_run}
use Rattle.lowering.specs.Lowering.{Lowers, run_by, Picks}
use Rattle.first_run.proofs.FirstRuns.{run_only, first_run_length}

module _ (n : ℕ) (rs ns : List ℕ) (g : GoodNorms n rs ns) where
  -- a norm-lowering rule of the table stands at some place
  pub lowering_at : (j a : ℕ) (w : List ℕ) → HasRule (table_of n rs) j a w → get_or (norms (table_of n rs)) j 0 ≡ suc (sum_of (norms (table_of n rs)) w) →
      (i : ℕ) × Lowers rs ns j i × (rule_at rs i ≡ record { job = j; move = a; after = w })
  lowering_at j a w r e =
      let (i, l, f) = place_of_rule n rs j a w r in (
        i,
        record {
          place = l;
          job = ap (λ (x : Rule). x.job) f;
          falls = g.exact.at j ∙ e ∙ ap suc (sym (ap (λ (x : Rule). sum_of ns x.after) f ∙ sum_agree ns (norms (table_of n rs)) g.exact.at w));
        },
        f,
      )

  -- and each job has one
  pub one_lowers : (j : ℕ) → j < n → (i : ℕ) × Lowers rs ns j i
  unfolding table_of
  one_lowers j h =
      let (a, w, r, e) = g.good.falls j h in
      let (i, l, f) = lowering_at j a w r e in
      (i, l)

  module _ (j i : ℕ) (l : Lowers rs ns j i) where
    pub has_rule : HasRule (table_of n rs) j (rule_at rs i).move (rule_at rs i).after
    has_rule = subst (λ (x : ℕ). HasRule (table_of n rs) x (rule_at rs i).move (rule_at rs i).after) l.job (rule_of n rs i l.place)

    pub falls_exactly : get_or (norms (table_of n rs)) j 0 ≡ suc (sum_of (norms (table_of n rs)) (rule_at rs i).after)
    falls_exactly = sym (g.exact.at j) ∙ l.falls ∙ ap suc (sum_agree ns (norms (table_of n rs)) g.exact.at (rule_at rs i).after)

  -- the run by the chosen rule is the job's first run
  pub picked : (j i : ℕ) → j < n → Picks n rs ns j i → run_of (table_of n rs) j ≡ run_by n rs i
  unfolding run_by table_of
  picked j i h p =
      run_only (table_of n rs) g.good j (rule_at rs i).move (rule_at rs i).after h (has_rule j i p.lowers) (falls_exactly j i p.lowers)
      (λ b v r e before.
      let (k, l, f) = lowering_at j b v r e in
      p.first k l (subst (λ (x : Rule). Before (x.move ∷ expand (run_of (table_of n rs)) x.after) (run_by n rs i)) (sym f) before))

  -- a run by a rule is one move longer than the norm of the jobs after it
  pub run_by_length : (i : ℕ) → i < rule_count rs → length (run_by n rs i) ≡ suc (sum_of ns (rule_at rs i).after)
  unfolding run_by first_run norm over table_of
  run_by_length i h =
      ap suc (first_run_length (table_of n rs) g.good (rule_at rs i).after (good_rule n rs g.list i h).after
      ∙ sym (sum_agree ns (norms (table_of n rs)) g.exact.at (rule_at rs i).after))

  -- the run of a job of norm 1 is the move of a rule
  pub only_move : (i : ℕ) → Lowers rs ns (rule_at rs i).job i → get_or ns (rule_at rs i).job 0 ≡ 1 → all_low_first (run_by n rs i) ≡ low_first (rule_at rs i).move
  unfolding run_by over table_of expand all_low_first low_first
  only_move i low e =
      let t = table_of n rs in
      let zero : sum_of (norms t) (rule_at rs i).after ≡ 0 = omega (arith, low.falls, sum_agree ns (norms t) g.exact.at (rule_at rs i).after) in
      let none = norm_zero t (norms t) g.good (rule_at rs i).after (good_rule n rs g.list i low.place).after zero in
      ap (λ (w : List ℕ). all_low_first ((rule_at rs i).move ∷ expand (run_of t) w)) none
