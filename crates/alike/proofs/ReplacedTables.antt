-- The replaced table: its norms and the plans over it are those of the table, it is good if the table is, and its steps are those of the
-- table with their moves replaced. Assumes nothing.
use mathlib.Core.Path.{◌≡◌, refl, sym, ap, ◌∙◌}
use mathlib.Core.Bool.{◌&&◌, cond}
use mathlib.Core.List.Memᴰ
use mathlib.Core.List.{List, [], ◌∷◌, map}
use Prim.Native.Nat.{ℕ, zero, suc}
use lib.Dec.{eqb}
use lib.ListN.{replicate}
use Rattle.bpa.specs.Plans.{Rule, Table, over, HasRule, Step}
use Rattle.bpa.specs.Norms.{sum_of, all_known, lesser, best, one_round, rounds, norms, Good}
use Rattle.alike.specs.Alike.{Pair, replace, replaced_rule, replaced}

-- WITHOUT A LIST nothing is replaced
pub replaced_none : (t : Table) → replaced [] t ≡ t
unfolding replaced replaced_rule replace
replaced_none t = λ i. record { jobs = t.jobs; rules = same t.rules i }
  where
    same : (rs : List Rule) → map (replaced_rule []) rs ≡ rs
    same [] = refl
    same (r ∷ rs) = ap (λ (l : List Rule). r ∷ l) (same rs)

module _ (ps : List Pair) where
  -- the norms
  best_replaced : (j : ℕ) (ns : List ℕ) (rs : List Rule) → best j ns (map (replaced_rule ps) rs) ≡ best j ns rs
  unfolding best replaced_rule
  best_replaced j ns [] = refl
  best_replaced j ns (r ∷ rs) =
      ap (λ (x : ℕ). cond (eqb r.job j && all_known ns r.after) (lesser (suc (sum_of ns r.after)) x) x) (best_replaced j ns rs)

  round_replaced : (left j : ℕ) (ns : List ℕ) (rs : List Rule) → one_round left j ns (map (replaced_rule ps) rs) ≡ one_round left j ns rs
  unfolding one_round
  round_replaced zero j ns rs = refl
  round_replaced (suc n) j ns rs = λ i. best_replaced j ns rs i ∷ round_replaced n (suc j) ns rs i

  module _ (t : Table) where
    rounds_replaced : (left : ℕ) (ns : List ℕ) → rounds left (replaced ps t) ns ≡ rounds left t ns
    unfolding rounds replaced
    rounds_replaced zero ns = refl
    rounds_replaced (suc n) ns =
        ap (rounds n (replaced ps t)) (round_replaced t.jobs 0 ns t.rules) ∙ rounds_replaced n (one_round t.jobs 0 ns t.rules)

    pub norms_replaced : norms (replaced ps t) ≡ norms t
    unfolding norms replaced
    norms_replaced = rounds_replaced t.jobs (replicate t.jobs 0)

    pub over_replaced : (p : List ℕ) → over (replaced ps t) p ≡ over t p
    unfolding over replaced
    over_replaced p = refl

    -- the rules
    pub rule_replaced : (j a : ℕ) (w : List ℕ) → HasRule t j a w → HasRule (replaced ps t) j (replace ps a) w
    unfolding replaced replaced_rule
    rule_replaced j a w m = Memᴰ.map (replaced_rule ps) m

    pub rule_raw : (j b : ℕ) (w : List ℕ) → HasRule (replaced ps t) j b w → (a : ℕ) × HasRule t j a w × (replace ps a ≡ b)
    unfolding replaced replaced_rule
    rule_raw j b w m =
        let (r, k, e) = Memᴰ.of_map (replaced_rule ps) t.rules m in
        let same : r ≡ record { job = j; move = r.move; after = w } = λ i. record { job = (e i).job; move = r.move; after = (e i).after } in
        (r.move, Memᴰ.cast (sym same) k, ap (λ (x : Rule). x.move) e)

    -- A GOOD TABLE stays good
    pub good_replaced : (ns : List ℕ) → Good t ns → Good (replaced ps t) ns
    unfolding over replaced
    good_replaced ns g = record {
      closed = λ j a w m. let (b, k, e) = rule_raw j a w m in g.closed j b w k;
      slow = λ j a w m. let (b, k, e) = rule_raw j a w m in g.slow j b w k;
      falls = λ j h. let (a, w, m, e) = g.falls j h in (replace ps a, w, rule_replaced j a w m, e);
    }

    pub good_raw : (ns : List ℕ) → Good (replaced ps t) ns → Good t ns
    unfolding over replaced
    good_raw ns g = record {
      closed = λ j a w m. g.closed j (replace ps a) w (rule_replaced j a w m);
      slow = λ j a w m. g.slow j (replace ps a) w (rule_replaced j a w m);
      falls = λ j h. let (b, w, m, e) = g.falls j h in let (a, k, d) = rule_raw j b w m in (a, w, k, e);
    }

    -- THE STEPS
    pub step_replaced : (p : List ℕ) (a : ℕ) (q : List ℕ) → Step t p a q → Step (replaced ps t) p (replace ps a) q
    step_replaced [] a q s = s
    step_replaced (j ∷ js) a q (w, m, e) = (w, rule_replaced j a w m, e)

    pub step_raw : (p : List ℕ) (b : ℕ) (q : List ℕ) → Step (replaced ps t) p b q → (a : ℕ) × Step t p a q × (replace ps a ≡ b)
    step_raw [] b q s = absurd s
    step_raw (j ∷ js) b q (w, m, e) = let (a, k, d) = rule_raw j b w m in (a, (w, k, e), d)
