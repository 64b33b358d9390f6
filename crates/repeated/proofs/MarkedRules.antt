-- Marks of rules, set one by one. Assumes nothing.
use mathlib.Core.Path.{sym, subst, ◌∙◌}
use mathlib.Core.Bool.{Bool, false, true≢false}
use mathlib.Core.List.{List}
use Prim.Native.Nat.{ℕ, ◌≤◌}
use native.Mathlib.Omega.{arith}
use lib.Dec.{eqb}
use lib.ListN.{set, replicate, get_or-replicate}
use lib.Seq.{get_or-set_other}
use borrow.Author.Tests.{eqb-true, eqb-false}
use Rattle.bpa.proofs.Basics.Cases.{by_test}
use Rattle.rules.specs.Places.{rule_count}
use Rattle.repeated.specs.Repeated.{Repeated, RepeatsMarked, MarksRepeats}

pub none_marked : (rs : List ℕ) → rule_count rs ≤ 252 → RepeatsMarked rs (replicate 252 0)
none_marked rs few = record {
  repeated = λ i h l. absurd (omega (arith, get_or-replicate {A = ℕ} 252 i 0 0 (omega arith)));
}

pub one_marked : (rs marks : List ℕ) (k : ℕ) → RepeatsMarked rs marks → Repeated rs k → RepeatsMarked rs (set marks k 1)
one_marked rs marks k m r = record {
  repeated = λ i h l.
      by_test (eqb i k) (λ b. subst (Repeated rs) (sym (eqb-true i k b)) r)
      (λ b. m.repeated i h (omega (arith, get_or-set_other marks k i 1 0 (eqb-false i k b))));
}

pub no_mark : (rs : List ℕ) → rule_count rs ≤ 252 → MarksRepeats rs (replicate 252 false)
no_mark rs few = record {
  repeated = λ i h l. absurd (true≢false (sym l ∙ get_or-replicate {A = Bool} 252 i false false (omega arith)));
}
