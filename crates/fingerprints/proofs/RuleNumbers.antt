-- The numbers of what rules leave, one rule after the other; the fingerprints of the jobs' rows stay as they are. Assumes nothing.
use Rattle.std.proofs.Common.{◌≡◌, List, [], ◌∷◌, ℕ, suc, ◌+◌, ◌<◌, length, get_or, refl, sym, ap, ◌∙◌, subst, arith}
use lib.Dec.{eqb}
use lib.ListN.{set}
use lib.Seq.{get_or-set_same, get_or-set_other}
use borrow.Author.Tests.{eqb-true, eqb-false}
use Rattle.bpa.proofs.Basics.Cases.{by_test}
use Rattle.rules.specs.Places.{rule_at}
use Rattle.fingerprints.specs.declared.Prints.{Prints}
use Rattle.fingerprints.specs.Fingerprints.{join, value_from, RulePrint}

-- the same fingerprints of jobs
abbrev with_rules : Prints → List ℕ → Prints
with_rules ps rs = record { values = ps.values; powers = ps.powers; rules = rs }

value_kept : (ps : Prints) (rs : List ℕ) (a : ℕ) (plan : List ℕ) → value_from (with_rules ps rs) a plan ≡ value_from ps a plan
unfolding value_from
value_kept ps rs a [] = refl
value_kept ps rs a (j ∷ js) = value_kept ps rs (join a (get_or ps.powers j 0) (get_or ps.values j 0)) js

print_kept : (ps : Prints) (rs plan : List ℕ) (r : ℕ) → RulePrint ps plan r → RulePrint (with_rules ps rs) plan r
print_kept ps rs plan r p = record { is = λ h. p.is h ∙ ap suc (sym (value_kept ps rs 0 plan)); small = p.small }

-- the rules before i have their numbers
pub record Numbered (rules : List ℕ) (before now : Prints) (i : ℕ) : Type 0 where
  pub values : now.values ≡ before.values
  pub powers : now.powers ≡ before.powers
  pub numbers : (k : ℕ) → k < i → RulePrint now (rule_at rules k).after (get_or now.rules k 0)

pub numbered_more : (rules : List ℕ) (before now : Prints) (i v : ℕ) → Numbered rules before now i → i < length now.rules →
    RulePrint now (rule_at rules i).after v → Numbered rules before (with_rules now (set now.rules i v)) (i + 1)
numbered_more rules before now i v w h here = record {
  values = w.values;
  powers = w.powers;
  numbers = λ k l.
      print_kept now (set now.rules i v) (rule_at rules k).after (get_or (set now.rules i v) k 0)
      (by_test (eqb k i)
      (λ q. subst (λ (n : ℕ). RulePrint now (rule_at rules n).after (get_or (set now.rules i v) n 0)) (sym (eqb-true k i q))
      (subst (RulePrint now (rule_at rules i).after) (sym (get_or-set_same now.rules i v 0 h)) here))
      (λ q. subst (RulePrint now (rule_at rules k).after) (sym (get_or-set_other now.rules i k v 0 (eqb-false k i q)))
      (w.numbers k (omega (arith, eqb-false k i q)))));
}
