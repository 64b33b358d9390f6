-- Norms by rounds over the rules, and a table whose norms are finite. Assumes nothing: these are definitions.
use Rattle.std.specs.Prelude.{◌≡◌, Bool, true, ◌&&◌, cond, List, [], ◌∷◌, map, ℕ, zero, suc, ◌+◌, ◌≤◌, ◌<◌, min, ltb, eqb, length, get_or, replicate}
use Rattle.bpa.specs.Plans.{Rule, Table, over, HasRule, Runs}

-- The norm of a plan by the norms of its jobs, which stand at their numbers; 0 stands for none yet.
unfoldable pub sum_of : (norms : List ℕ) → (plan : List ℕ) → ℕ
sum_of ns [] = 0
sum_of ns (j ∷ js) = get_or ns j 0 + sum_of ns js

unfoldable pub all_known : (norms : List ℕ) → (plan : List ℕ) → Bool
all_known ns [] = true
all_known ns (j ∷ js) = ltb 0 (get_or ns j 0) && all_known ns js

-- the lesser of two norms, of which 0 is none
unfoldable pub lesser : (a b : ℕ) → ℕ
lesser a b = cond (eqb a 0) b (cond (eqb b 0) a (min a b))

-- the cheapest rule of a job by the norms so far
unfoldable pub best : (job : ℕ) → (norms : List ℕ) → List Rule → ℕ
best j ns [] = 0
best j ns (r ∷ rs) =
    cond (eqb r.job j && all_known ns r.after) (lesser (suc (sum_of ns r.after)) (best j ns rs)) (best j ns rs)

unfoldable pub one_round : (left j : ℕ) → (norms : List ℕ) → List Rule → List ℕ
one_round zero j ns rs = []
one_round (suc n) j ns rs = best j ns rs ∷ one_round n (suc j) ns rs

unfoldable pub rounds : (left : ℕ) → Table → (norms : List ℕ) → List ℕ
rounds zero t ns = ns
rounds (suc n) t ns = rounds n t (one_round t.jobs 0 ns t.rules)

-- THE NORMS of a table's jobs. As many rounds as jobs are enough: a cheapest run repeats no job within itself.
unfoldable pub norms : Table → List ℕ
norms t = rounds t.jobs t (replicate t.jobs 0)

unfoldable pub norm : Table → (plan : List ℕ) → ℕ
norm t p = sum_of (norms t) p

-- THE MEANING OF A NORM: a run of so many moves leads from the plan to the empty plan, and no run is shorter
abbrev pub Fewest : Table → (plan : List ℕ) → (moves : ℕ) → Type 0
Fewest t p n =
    ((run : List ℕ) × Runs t p run [] × (length run ≡ n)) × ((run : List ℕ) → Runs t p run [] → n ≤ length run)

-- no run leads from the plan to the empty plan
abbrev pub NeverEnds : Table → (plan : List ℕ) → Type 0
NeverEnds t p = (run : List ℕ) → Runs t p run [] → ⊥

-- CAPPED NORMS: a norm above the bound counts as the bound, so that numbers stay small.
unfoldable pub capped_round : (bound : ℕ) → Table → (norms : List ℕ) → List ℕ
capped_round m t ns = map (min m) (one_round t.jobs 0 ns t.rules)

unfoldable pub capped_rounds : (bound left : ℕ) → Table → (norms : List ℕ) → List ℕ
capped_rounds m zero t ns = ns
capped_rounds m (suc n) t ns = capped_rounds m n t (capped_round m t ns)

-- What the theorems ask of a table and its norms: rules keep to the table, no rule lowers a norm by more than one, and each
-- job has a rule that lowers it by one. So every norm is at least 1.
pub record Good (t : Table) (ns : List ℕ) : Type 0 where
  pub closed : (j a : ℕ) (w : List ℕ) → HasRule t j a w → over t w ≡ true
  pub slow : (j a : ℕ) (w : List ℕ) → HasRule t j a w → get_or ns j 0 ≤ suc (sum_of ns w)
  pub falls : (j : ℕ) → j < t.jobs → (a : ℕ) × (w : List ℕ) × HasRule t j a w × (get_or ns j 0 ≡ suc (sum_of ns w))
