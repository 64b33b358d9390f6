-- Searches among the rules of a list: the first rule that passes a test, found from the last rule to the first. Assumes nothing.
use mathlib.Core.Path.{◌≡◌, sym, ap, ◌∙◌, subst}
use mathlib.Core.Bool.{Bool, true, false, true≢false}
use mathlib.Core.List.Memᴰ
use mathlib.Core.List.{List, [], ◌∷◌, Memᴰ}
use mathlib.Core.Logic.{⊎_elim}
use Prim.Native.Nat.{ℕ, suc, ◌+◌, ◌<◌}
use native.Mathlib.Omega.{arith}
use lib.ListN.{length, get_or, drop}
use lib.Seq.{drop-cons, drop-length}
use Rattle.bpa.specs.Plans.{Rule}
use Rattle.bpa.specs.Method.{lowering}
use Rattle.bpa.proofs.Basics.Cases.{by_test}
use Rattle.rules.specs.Places.{rule_at, rule_count}
use Rattle.rules.proofs.ListLaws.{length_rules_in, rules_in_at}
use Rattle.prepare.specs.Prepared.{all_rules, seek, lowers}

-- THE RULES FROM A POSITION ON
pub all_length : (rs : List ℕ) → length (all_rules rs) ≡ rule_count rs
unfolding all_rules
all_length rs = length_rules_in (rule_count rs) rs

pub all_at : (rs : List ℕ) (i : ℕ) (d : Rule) → i < rule_count rs → get_or (all_rules rs) i d ≡ rule_at rs i
unfolding all_rules
all_at rs i d h = rules_in_at (rule_count rs) rs i d h

pub all_cons : (rs : List ℕ) (i : ℕ) → i < rule_count rs → drop i (all_rules rs) ≡ rule_at rs i ∷ drop (suc i) (all_rules rs)
all_cons rs i h =
    drop-cons (all_rules rs) i (rule_at rs i) (omega (arith, all_length rs))
    ∙ ap (λ (r : Rule). r ∷ drop (suc i) (all_rules rs)) (all_at rs i (rule_at rs i) h)

pub all_end : (rs : List ℕ) → drop (rule_count rs) (all_rules rs) ≡ []
all_end rs = ap (λ (n : ℕ). drop n (all_rules rs)) (sym (all_length rs)) ∙ drop-length (all_rules rs)

-- A SEARCH
module _ (f : Rule → Bool) where
  seek_here : (r : Rule) (l : List Rule) → f r ≡ true → seek f (r ∷ l) ≡ 0
  unfolding seek
  seek_here r l e = rw e

  seek_past : (r : Rule) (l : List Rule) → f r ≡ false → seek f (r ∷ l) ≡ suc (seek f l)
  unfolding seek
  seek_past r l e = rw e

  pub seek_found : (l : List Rule) (r : Rule) → Memᴰ r l → f r ≡ true → seek f l < length l
  seek_found [] r m e = absurd (Memᴰ.not-nil m)
  seek_found (s ∷ l) r m e =
      by_test (f s)
      (λ q. omega (arith, seek_here s l q))
      (λ q.
      ⊎_elim
      (λ (k : r ≡ s). absurd (true≢false (sym e ∙ ap f k ∙ q)))
      (λ (k : Memᴰ r l). omega (arith, seek_past s l q, seek_found l r k e))
      (Memᴰ.cases_cons m))

  -- a value kept from the last rule to the first: what it becomes at a rule that passes and at one that does not
  pub seek_step : (rs : List ℕ) (i v : ℕ) → i < rule_count rs →
      (f (rule_at rs i) ≡ true → v ≡ i) →
      (f (rule_at rs i) ≡ false → v ≡ suc i + seek f (drop (suc i) (all_rules rs))) →
      v ≡ i + seek f (drop i (all_rules rs))
  seek_step rs i v h hit miss =
      let l = drop (suc i) (all_rules rs) in
      subst (λ (k : List Rule). v ≡ i + seek f k) (sym (all_cons rs i h))
      (by_test (f (rule_at rs i))
      (λ e. omega (arith, hit e, seek_here (rule_at rs i) l e))
      (λ e. omega (arith, miss e, seek_past (rule_at rs i) l e)))

  pub seek_end : (rs : List ℕ) → rule_count rs ≡ rule_count rs + seek f (drop (rule_count rs) (all_rules rs))
  unfolding seek
  seek_end rs = rw (all_end rs) (omega arith)

-- the jobs after the first norm-lowering rule
pub lowering_at : (ns : List ℕ) (j : ℕ) (l : List Rule) (d : Rule) → seek (lowers ns j) l < length l →
    (get_or l (seek (lowers ns j) l) d).after ≡ lowering ns l j
unfolding lowering lowers
lowering_at ns j [] d h = absurd (omega arith)
lowering_at ns j (r ∷ l) d h =
    by_test (lowers ns j r)
    (λ e. ap (λ (k : ℕ). (get_or (r ∷ l) k d).after) (seek_here (lowers ns j) r l e) ∙ sym (rw e))
    (λ e.
    ap (λ (k : ℕ). (get_or (r ∷ l) k d).after) (seek_past (lowers ns j) r l e)
    ∙ lowering_at ns j l d (omega (arith, seek_past (lowers ns j) r l e))
    ∙ sym (rw e))
