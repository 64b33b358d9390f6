-- AN ALIKE LIST ACTS ON BOTH TABLES: the joined table with its moves replaced is the two tables, their moves replaced, joined. Assumes nothing.
use mathlib.Core.Path.{◌≡◌, refl, ap, ◌∙◌}
use mathlib.Core.List.{List, [], ◌∷◌, ◌++◌, map, map-append}
use Prim.Native.Nat.{ℕ, ◌+◌}
use Rattle.bpa.specs.Plans.{Rule, Table}
use Rattle.alike.specs.Alike.{Pair, replaced_rule, replaced}
use Rattle.alike.proofs.ReplacedTables.{rule_raw}
use Rattle.joined.specs.Joined.{renumbered_rule, joined, OwnRules}

-- a rule's move and its jobs are changed one after the other, whichever first
each_rule : (ps : List Pair) (n : ℕ) (rs : List Rule) →
    map (replaced_rule ps) (map (renumbered_rule n) rs) ≡ map (renumbered_rule n) (map (replaced_rule ps) rs)
unfolding replaced_rule renumbered_rule
each_rule ps n [] = refl
each_rule ps n (r ∷ rs) = ap (λ (l : List Rule). renumbered_rule n (replaced_rule ps r) ∷ l) (each_rule ps n rs)

pub replaced_joined : (ps : List Pair) (t u : Table) → replaced ps (joined t u) ≡ joined (replaced ps t) (replaced ps u)
unfolding replaced joined
replaced_joined ps t u =
    let right = map (renumbered_rule t.jobs) u.rules in
    ap (λ (rs : List Rule). record { jobs = t.jobs + u.jobs; rules = rs })
    (map-append (replaced_rule ps) t.rules right ∙ ap (λ (l : List Rule). map (replaced_rule ps) t.rules ++ l) (each_rule ps t.jobs u.rules))

pub own_replaced : (ps : List Pair) (t : Table) → OwnRules t → OwnRules (replaced ps t)
unfolding replaced
own_replaced ps t own j b w m = let (a, k, e) = rule_raw ps t j b w m in own j a w k
