-- The array of norm-lowering rules: its test, and what it holds once every rule was looked at. Assumes nothing.
use mathlib.Core.Path.{◌≡◌, refl, sym, ap, ◌∙◌}
use mathlib.Core.Bool.{true, false}
use mathlib.Core.List.{List}
use Prim.Native.Nat.{ℕ, suc, ◌<◌}
use native.Mathlib.Nat.{zero-add}
use native.Mathlib.Omega.{arith}
use lib.Dec.{eqb}
use lib.ListN.{length, get_or}
use borrow.Author.Tests.{eqb-true, eq-eqb}
use Rattle.bpa.specs.Plans.{Rule}
use Rattle.bpa.specs.Norms.{sum_of}
use Rattle.bpa.specs.Method.{lowering}
use Rattle.bpa.proofs.Basics.Cases.{and_left, and_right, and_both, is_false}
use Rattle.rules.specs.Places.{rule_at, rule_count, table_of}
use Rattle.prepare.specs.Prepared.{all_rules, seek, lowers, Normed, Lowered}
use Rattle.prepare.proofs.FirstRule.{all_length, all_at, seek_found, lowering_at}
use Rattle.prepare.proofs.FirstRuleArray.{Filled}

module _ (ns : List ℕ) (k : ℕ) (r : Rule) where
  pub own_lowers : lowers ns k r ≡ true → r.job ≡ k
  unfolding lowers
  own_lowers e = eqb-true r.job k (and_left (eqb r.job k) (eqb (get_or ns k 0) (suc (sum_of ns r.after))) e)

  lowers_norm : lowers ns k r ≡ true → get_or ns k 0 ≡ suc (sum_of ns r.after)
  unfolding lowers
  lowers_norm e =
      eqb-true (get_or ns k 0) (suc (sum_of ns r.after)) (and_right (eqb r.job k) (eqb (get_or ns k 0) (suc (sum_of ns r.after))) e)

  pub does_lower : r.job ≡ k → get_or ns k 0 ≡ suc (sum_of ns r.after) → lowers ns k r ≡ true
  unfolding lowers
  does_lower e h =
      and_both (eqb r.job k) (eqb (get_or ns k 0) (suc (sum_of ns r.after))) (eq-eqb r.job k e)
      (eq-eqb (get_or ns k 0) (suc (sum_of ns r.after)) h)

  pub lowers_not : (get_or ns k 0 ≡ suc (sum_of ns r.after) → ⊥) → lowers ns k r ≡ false
  lowers_not h = is_false (lowers ns k r) (λ e. h (lowers_norm e))

-- each job of a table with norms has a norm-lowering rule
module _ (n : ℕ) (rs ns : List ℕ) (g : Normed n rs ns) where
  found : (j : ℕ) → j < n → seek (lowers ns j) (all_rules rs) < length (all_rules rs)
  unfolding table_of all_rules
  found j h =
      let (a, w, m, e) = g.good.falls j h in
      let r : Rule = record { job = j; move = a; after = w } in
      seek_found (lowers ns j) (all_rules rs) r m (does_lower ns j r refl e)

  in_table : (j : ℕ) → lowering ns (all_rules rs) j ≡ lowering ns (table_of n rs).rules j
  unfolding table_of all_rules
  in_table j = refl

  pub lowered : (low : List ℕ) → n < 25 → Filled (lowers ns) rs low 0 → Lowered n rs ns low
  lowered low small f =
      let at : (j : ℕ) → j < n → get_or low j 0 ≡ seek (lowers ns j) (all_rules rs) = λ j h. f j (omega arith) ∙ zero-add _ in
      let inside : (j : ℕ) → j < n → get_or low j 0 < rule_count rs = λ j h. omega (arith, at j h, found j h, all_length rs) in
      record {
        inside = inside;
        after = λ j h.
            let d = rule_at rs (get_or low j 0) in
            ap (λ (r : Rule). r.after) (sym (all_at rs (get_or low j 0) d (inside j h)))
            ∙ ap (λ (k : ℕ). (get_or (all_rules rs) k d).after) (at j h)
            ∙ lowering_at ns j (all_rules rs) d (found j h) ∙ in_table j;
      }
