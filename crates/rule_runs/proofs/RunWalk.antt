-- The first run of a plan put together from rows: the moves written, followed by the first runs of the jobs on the stack, are that run. So the
-- run by a rule is its move, and then that of the jobs after it. Assumes nothing.
use mathlib.Core.Path.{◌≡◌, refl, sym, ap, ap₂, ◌∙◌, subst}
use mathlib.Core.Bool.{true}
use mathlib.Core.List.{List, [], ◌∷◌, ◌++◌, append_assoc, append-nil}
use Prim.Native.Nat.{ℕ, ◌+◌, ◌*◌, ◌≤◌, ◌<◌}
use native.Mathlib.Numerals.{add-one}
use native.Mathlib.Omega.{arith}
use lib.ListN.{length, get_or, drop, length-append, length-drop, drop_of_length-le}
use lib.Seq.{drop-cons}
use Rattle.bpa.specs.Plans.{over}
use Rattle.bpa.specs.Norms.{sum_of, norms}
use Rattle.bpa.specs.Method.{expand}
use Rattle.bpa.proofs.Basics.Plans.{over_head, over_tail, over_append, sum_append, norm_positive, length_norm}
use Rattle.bpa.proofs.Judge.Rows.{expand_append}
use Rattle.rules.specs.Places.{rule_at, rule_count, table_of}
use Rattle.rules.proofs.ListLaws.{good_rule}
use Rattle.norm.specs.NormArrays.{GoodNorms}
use Rattle.norm.proofs.Agreement.{sum_agree}
use Rattle.area.specs.Areas.{put, IsPut}
use Rattle.area.specs.Numbers.{low_first, all_low_first}
use Rattle.area.proofs.Numbers.{all_append, all_length}
use Rattle.area.proofs.PutLaws.{put_none, drop_put, put_put}
use Rattle.first_run.specs.FirstRun.{run_of, first_run}
use Rattle.first_run.proofs.FirstRuns.{run_length}
use Rattle.lowering.specs.Lowering.{Lowers, run_by}
use Rattle.rule_runs.specs.Stacks.{Pushed}

pub record Walking (n : ℕ) (rs ns plan : List ℕ) (at : ℕ) (start stack : List ℕ) (top to : ℕ) (made : List ℕ) : Type 0 where
  pub size : length stack ≡ 512
  pub place : top ≤ 512
  pub same : length made ≡ length start
  pub jobs : over (table_of n rs) (drop top stack) ≡ true
  pub run : List ℕ
  pub left : length run + sum_of ns (drop top stack) ≡ sum_of ns plan
  pub next : to ≡ at + 2 * length run
  pub output : made ≡ put at (all_low_first run) start
  pub is : run ++ expand (run_of (table_of n rs)) (drop top stack) ≡ first_run (table_of n rs) plan

-- jobs put before those on the stack
pushed : (after stack : List ℕ) (top r : ℕ) (stack' : List ℕ) → Pushed after stack top r stack' → top ≤ length stack → drop r stack' ≡ after ++ drop top stack
pushed after stack top r stack' p h =
    ap (drop r) p.output ∙ drop_put r after stack (omega (arith, p.fits)) ∙ ap (λ (k : ℕ). after ++ drop k stack) p.fits

-- moves put behind others
pub put_behind_moves : (run more : List ℕ) (at to : ℕ) (start made made' : List ℕ) → at ≤ length start → to ≡ at + 2 * length run →
    made ≡ put at (all_low_first run) start → made' ≡ put to (all_low_first more) made → made' ≡ put at (all_low_first (run ++ more)) start
put_behind_moves run more at to start made made' h e f g =
    let k : to ≡ at + length (all_low_first run) = e ∙ omega (arith, all_length run) in
    g ∙ ap₂ (λ (i : ℕ) (l : List ℕ). put i (all_low_first more) l) k f ∙ put_put at (all_low_first run) (all_low_first more) start h
    ∙ ap (λ (l : List ℕ). put at l start) (sym (all_append run more))

-- the run by a rule: its move, and the first run of the jobs after it behind
pub move_and_run : (n : ℕ) (rs : List ℕ) (rule at to a : ℕ) (start made made' : List ℕ) → at ≤ length start → a ≡ (rule_at rs rule).move →
    made ≡ put at (low_first a) start → IsPut (at + 2) (all_low_first (first_run (table_of n rs) (rule_at rs rule).after)) made to made' →
    IsPut at (all_low_first (run_by n rs rule)) start to made'
unfolding run_by first_run all_low_first low_first
move_and_run n rs rule at to a start made made' h m o p = record {
  next = p.next ∙ omega arith;
  output = put_behind_moves (a ∷ []) (first_run (table_of n rs) (rule_at rs rule).after) at (at + 2) start made made' h (omega arith) o p.output
      ∙ ap (λ (x : ℕ). put at (all_low_first (x ∷ first_run (table_of n rs) (rule_at rs rule).after)) start) m;
}

module _ (n : ℕ) (rs ns : List ℕ) (g : GoodNorms n rs ns) where
  pub after_over : (i : ℕ) → i < rule_count rs → over (table_of n rs) (rule_at rs i).after ≡ true
  unfolding over table_of
  after_over i h = (good_rule n rs g.list i h).after

  -- a plan is no longer than its norm
  no_longer : (p : List ℕ) → over (table_of n rs) p ≡ true → length p ≤ sum_of ns p
  no_longer p o = omega (arith, length_norm (table_of n rs) (norms (table_of n rs)) g.good p o, sum_agree ns (norms (table_of n rs)) g.exact.at p)

  module _ (plan : List ℕ) (at : ℕ) (start : List ℕ) where
    pub walking_start : (l stack : List ℕ) (top : ℕ) → over (table_of n rs) plan ≡ true → length l ≡ 512 → length stack ≡ 512 → Pushed plan l 512 top stack →
        Walking n rs ns plan at start stack top at start
    unfolding first_run all_low_first
    walking_start l stack top o e f p =
        let here : drop top stack ≡ plan =
        pushed plan l 512 top stack p (omega arith)
        ∙ ap (λ (r : List ℕ). plan ++ r) (let h : length l ≤ 512 = omega arith in drop_of_length-le l h)
        ∙ append-nil plan in
        record {
          size = f;
          place = omega (arith, p.fits);
          same = refl;
          jobs = subst (λ (q : List ℕ). over (table_of n rs) q ≡ true) (sym here) o;
          run = [];
          left = omega (arith, ap (sum_of ns) here);
          next = omega arith;
          output = sym (put_none at start);
          is = ap (expand (run_of (table_of n rs))) here;
        }

    module _ (stack : List ℕ) (top to : ℕ) (made : List ℕ) (w : Walking n rs ns plan at start stack top to made) where
      pub walking_end : 512 ≤ top → IsPut at (all_low_first (first_run (table_of n rs) plan)) start to made
      unfolding expand
      walking_end h =
          let none : drop top stack ≡ [] = let k : length stack ≤ top = omega (arith, w.size) in drop_of_length-le stack k in
          let whole : w.run ≡ first_run (table_of n rs) plan =
          sym (append-nil w.run) ∙ ap (λ (q : List ℕ). w.run ++ expand (run_of (table_of n rs)) q) (sym none) ∙ w.is in
          record {
            next = w.next ∙ omega (arith, all_length w.run, ap length (ap all_low_first whole));
            output = w.output ∙ ap (λ (q : List ℕ). put at (all_low_first q) start) whole;
          }

      module _ (h : top < 512) where
        abbrev next : ℕ
        next = get_or stack top 0

        abbrev rest : List ℕ
        rest = drop (top + 1) stack

        head : drop top stack ≡ next ∷ rest
        head = drop-cons stack top 0 (omega (arith, w.size)) ∙ ap (λ (k : ℕ). next ∷ drop k stack) (sym (add-one top))

        known : over (table_of n rs) (next ∷ rest) ≡ true
        known = subst (λ (p : List ℕ). over (table_of n rs) p ≡ true) head w.jobs

        pub next_below : next < n
        unfolding table_of
        next_below = over_head (table_of n rs) next rest known

        sums : length w.run + (get_or ns next 0 + sum_of ns rest) ≡ sum_of ns plan
        unfolding sum_of
        sums = ap (λ (p : List ℕ). length w.run + sum_of ns p) (sym head) ∙ w.left

        pub next_positive : 1 ≤ get_or ns next 0
        unfolding table_of
        next_positive = omega (arith, g.exact.at next, norm_positive (table_of n rs) (norms (table_of n rs)) g.good next next_below)

        -- what the next job needs is there, and there is room for its run
        pub next_known : get_or ns next 0 ≤ sum_of ns plan
        next_known = omega (arith, sums)

        pub next_room : to + 2 * get_or ns next 0 ≤ at + 2 * sum_of ns plan
        next_room = omega (arith, sums, w.next)

        whole : w.run ++ (run_of (table_of n rs) next ++ expand (run_of (table_of n rs)) rest) ≡ first_run (table_of n rs) plan
        unfolding expand
        whole = ap (λ (p : List ℕ). w.run ++ expand (run_of (table_of n rs)) p) (sym head) ∙ w.is

        module _ (room : at + 2 * sum_of ns plan ≤ length start) where
          -- a short job: its row is put behind
          pub walking_row : (lent made' : List ℕ) (to' : ℕ) → lent ≡ all_low_first (run_of (table_of n rs) next) → IsPut to lent made to' made' →
              length made' ≡ length made → Walking n rs ns plan at start stack (top + 1) to' made'
          unfolding table_of
          walking_row lent made' to' e p k =
              let R = run_of (table_of n rs) next in
              let long : length R ≡ get_or ns next 0 = run_length (table_of n rs) g.good next next_below ∙ sym (g.exact.at next) in
              record {
                size = w.size;
                place = omega arith;
                same = k ∙ w.same;
                jobs = over_tail (table_of n rs) next rest known;
                run = w.run ++ R;
                left = omega (arith, sums, long, length-append w.run R);
                next = p.next ∙ omega (arith, w.next, ap length e, all_length R, length-append w.run R);
                output = put_behind_moves w.run R at to start made made' (omega arith) w.next w.output (p.output ∙ ap (λ (l : List ℕ). put to l made) e);
                is = append_assoc w.run R (expand (run_of (table_of n rs)) rest) ∙ whole;
              }

          -- another: its rule's move is put behind, and the jobs after it on the stack
          module _ (k : ℕ) (low : Lowers rs ns next k) (first : run_of (table_of n rs) next ≡ run_by n rs k) where
            abbrev after : List ℕ
            after = (rule_at rs k).after

            left_over : over (table_of n rs) (after ++ rest) ≡ true
            left_over = over_append (table_of n rs) after rest (after_over k low.place) (over_tail (table_of n rs) next rest known)

            pub after_fits : sum_of ns plan < 512 → length after ≤ top + 1
            after_fits most =
                omega (arith, no_longer (after ++ rest) left_over, length-append after rest, sum_append ns after rest, length-drop (top + 1) stack, w.size, low.falls, sums)

            pub walking_rule : (a : ℕ) (stack' made' : List ℕ) (top' : ℕ) → a ≡ (rule_at rs k).move → made' ≡ put to (low_first a) made → length made' ≡ length made →
                Pushed after stack (top + 1) top' stack' → length stack' ≡ 512 → Walking n rs ns plan at start stack' top' (to + 2) made'
            unfolding run_by all_low_first low_first
            walking_rule a stack' made' top' m o k' p size =
                let here = pushed after stack (top + 1) top' stack' p (omega (arith, w.size)) in
                let R = run_of (table_of n rs) in
                let one : List ℕ = (rule_at rs k).move ∷ [] in
                record {
                  size = size;
                  place = omega (arith, p.fits);
                  same = k' ∙ w.same;
                  jobs = subst (λ (q : List ℕ). over (table_of n rs) q ≡ true) (sym here) left_over;
                  run = w.run ++ one;
                  left = ap (λ (q : List ℕ). length (w.run ++ one) + sum_of ns q) here
                      ∙ omega (arith, length-append w.run one, sum_append ns after rest, low.falls, sums);
                  next = omega (arith, w.next, length-append w.run one);
                  output = put_behind_moves w.run one at to start made made' (omega arith) w.next w.output (o ∙ ap (λ (x : ℕ). put to (low_first x) made) m);
                  is = append_assoc w.run one (expand R (drop top' stack'))
                      ∙ ap (λ (l : List ℕ). w.run ++ ((rule_at rs k).move ∷ l)) (ap (expand R) here ∙ expand_append R after rest)
                      ∙ ap (λ (l : List ℕ). w.run ++ (l ++ expand R rest)) (sym first)
                      ∙ whole;
                }
