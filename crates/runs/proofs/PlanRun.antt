-- The first run of a plan, written job by job: what is written, followed by the first runs of the jobs left, is that run. Assumes nothing.
use mathlib.Core.Path.{◌≡◌, refl, sym, ap, ap₂, ◌∙◌}
use mathlib.Core.Bool.{true}
use mathlib.Core.List.{List, [], ◌++◌, append_assoc, append-nil}
use Prim.Native.Nat.{ℕ, suc, ◌+◌, ◌*◌, ◌≤◌, ◌<◌}
use native.Mathlib.Omega.{arith}
use lib.ListN.{length, get_or, take, drop, length-append}
use lib.Seq.{take_all}
use Rattle.bpa.specs.Plans.{over}
use Rattle.bpa.specs.Norms.{sum_of}
use Rattle.bpa.specs.Method.{expand}
use Rattle.bpa.proofs.Basics.Plans.{sum_at, sum_end}
use Rattle.bpa.proofs.Basics.JobsBelow.{below_at}
use Rattle.rows.proofs.Parts.{expand_at, expand_end}
use Rattle.rules.specs.Places.{table_of}
use Rattle.norm.specs.NormArrays.{GoodNorms}
use Rattle.area.specs.Numbers.{all_low_first}
use Rattle.area.proofs.Numbers.{all_append}
use Rattle.first_run.specs.FirstRun.{run_of, first_run}
use Rattle.first_run.proofs.FirstRuns.{run_length}

pub record Writing (n : ℕ) (rs ns plan : List ℕ) (i to : ℕ) (out : List ℕ) : Type 0 where
  pub inside : i ≤ length plan
  pub same : length out ≡ 2 * sum_of ns plan
  pub run : List ℕ
  pub is : run ++ expand (run_of (table_of n rs)) (drop i plan) ≡ first_run (table_of n rs) plan
  pub left : length run + sum_of ns (drop i plan) ≡ sum_of ns plan
  pub next : to ≡ 2 * length run
  pub front : take to out ≡ all_low_first run

module _ (n : ℕ) (rs ns : List ℕ) (plan : List ℕ) where
  pub writing_start : (out : List ℕ) → length out ≡ 2 * sum_of ns plan → Writing n rs ns plan 0 0 out
  unfolding first_run all_low_first
  writing_start out e = record {
    inside = omega arith;
    same = e;
    run = [];
    is = refl;
    left = omega arith;
    next = omega arith;
    front = refl;
  }

  module _ (i to : ℕ) (out : List ℕ) (w : Writing n rs ns plan i to out) where
    pub writing_end : length plan ≤ i → out ≡ all_low_first (first_run (table_of n rs) plan)
    writing_end h =
        let whole : w.run ≡ first_run (table_of n rs) plan =
        sym (append-nil w.run) ∙ ap (λ (l : List ℕ). w.run ++ l) (sym (expand_end (run_of (table_of n rs)) plan i h)) ∙ w.is in
        let all : length out ≤ to = omega (arith, w.same, w.left, w.next, sum_end ns plan i h) in
        sym (take_all to out all) ∙ w.front ∙ ap all_low_first whole

    module _ (g : GoodNorms n rs ns) (o : over (table_of n rs) plan ≡ true) (h : i < length plan) where
      abbrev x : ℕ
      x = get_or plan i 0

      pub next_below : x < n
      unfolding over table_of
      next_below = below_at n plan i o h

      sums : length w.run + (get_or ns x 0 + sum_of ns (drop (i + 1) plan)) ≡ sum_of ns plan
      sums = omega (arith, w.left, sum_at ns plan i h)

      -- what the next job needs is known, and there is room for its run
      pub next_known : get_or ns x 0 < suc (sum_of ns plan)
      next_known = omega (arith, sums)

      pub next_room : to + 2 * get_or ns x 0 ≤ length out
      next_room = omega (arith, sums, w.next, w.same)

      -- the bytes of its run are put behind
      pub writing_more : (row out' : List ℕ) (to' : ℕ) → row ≡ all_low_first (run_of (table_of n rs) x) → length out' ≡ length out →
          to' ≡ to + 2 * get_or ns x 0 → take to' out' ≡ take to out ++ row → Writing n rs ns plan (i + 1) to' out'
      unfolding table_of
      writing_more row out' to' e l t p =
          let R = run_of (table_of n rs) in
          let long : length (R x) ≡ get_or ns x 0 = run_length (table_of n rs) g.good x next_below ∙ sym (g.exact.at x) in
          record {
            inside = omega arith;
            same = l ∙ w.same;
            run = w.run ++ R x;
            is = append_assoc w.run (R x) (expand R (drop (i + 1) plan)) ∙ ap (λ (q : List ℕ). w.run ++ q) (sym (expand_at R plan i h)) ∙ w.is;
            left = omega (arith, sums, long, length-append w.run (R x));
            next = omega (arith, t, w.next, long, length-append w.run (R x));
            front = p ∙ ap₂ ◌++◌ w.front e ∙ sym (all_append w.run (R x));
          }
