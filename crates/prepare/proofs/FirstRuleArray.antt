-- An array with a place for each job, filled from the last rule to the first: at each job the first rule that passes the job's test. Assumes nothing.
use mathlib.Core.Path.{◌≡◌, sym, ap, ◌∙◌, subst}
use mathlib.Core.Bool.{Bool, true, false, true≢false}
use mathlib.Core.List.{List}
use Prim.Native.Nat.{ℕ, suc, ◌+◌, ◌<◌}
use native.Mathlib.Omega.{arith}
use lib.ListN.{length, get_or, drop, set, replicate, get_or-replicate}
use lib.Seq.{get_or-set_same, get_or-set_other}
use borrow.Author.Count.{below_more}
use borrow.Author.Tests.{eqb-true, eq-eqb}
use Rattle.bpa.specs.Plans.{Rule}
use Rattle.rules.specs.Places.{rule_at, rule_count}
use Rattle.prepare.specs.Prepared.{all_rules, seek, of_job}
use Rattle.prepare.proofs.FirstRule.{seek_step, seek_end}

-- an array filled from the front: what holds of each value stored holds of one more
pub stored_more : (P : ℕ → ℕ → Type 0) (a : List ℕ) (i v : ℕ) → i < length a → ((k : ℕ) → k < i → P k (get_or a k 0)) → P i v →
    (k : ℕ) → k < i + 1 → P k (get_or (set a i v) k 0)
stored_more P a i v l h p =
    below_more (λ (k : ℕ). P k (get_or (set a i v) k 0)) i
    (λ k m. subst (P k) (sym (get_or-set_other a i k v 0 (λ e. absurd (omega arith)))) (h k m))
    (subst (P i) (sym (get_or-set_same a i v 0 l)) p)

-- the place of each job holds the first rule, from a position on, that passes the job's test
abbrev pub Filled : (tests : ℕ → Rule → Bool) → (rules places : List ℕ) → (i : ℕ) → Type 0
Filled f rs a i = (k : ℕ) → k < 24 → get_or a k 0 ≡ i + seek (f k) (drop i (all_rules rs))

module _ (f : ℕ → Rule → Bool) (own : (k : ℕ) (r : Rule) → f k r ≡ true → r.job ≡ k) (rs a : List ℕ) where
  pub fill_end : (v : ℕ) → v ≡ rule_count rs → Filled f rs (replicate 24 v) v
  fill_end v e k h =
      get_or-replicate 24 k v 0 h ∙ subst (λ (n : ℕ). n ≡ n + seek (f k) (drop n (all_rules rs))) (sym e) (seek_end (f k) rs)

  pub fill_hit : (i j : ℕ) → length a ≡ 24 → i < rule_count rs → j < 24 → f j (rule_at rs i) ≡ true → Filled f rs a (suc i) →
      Filled f rs (set a j i) i
  fill_hit i j l h b t e k m =
      seek_step (f k) rs i (get_or (set a j i) k 0) h
      (λ q. subst (λ (n : ℕ). get_or (set a j i) n 0 ≡ i) (sym (own j (rule_at rs i) t) ∙ own k (rule_at rs i) q) (get_or-set_same a j i 0 (omega arith)))
      (λ q. get_or-set_other a j k i 0 (λ w. true≢false (sym t ∙ ap (λ (n : ℕ). f n (rule_at rs i)) (sym w) ∙ q)) ∙ e k m)

  pub fill_miss : (i : ℕ) → i < rule_count rs → f (rule_at rs i).job (rule_at rs i) ≡ false → Filled f rs a (suc i) → Filled f rs a i
  fill_miss i h t e k m =
      seek_step (f k) rs i (get_or a k 0) h
      (λ q. absurd (true≢false (sym q ∙ ap (λ (n : ℕ). f n (rule_at rs i)) (sym (own k (rule_at rs i) q)) ∙ t)))
      (λ q. e k m)

-- THE TEST of a job: the rule is its own
pub own_job : (k : ℕ) (r : Rule) → of_job k r ≡ true → r.job ≡ k
unfolding of_job
own_job k r e = eqb-true r.job k e

pub job_own : (k : ℕ) (r : Rule) → r.job ≡ k → of_job k r ≡ true
unfolding of_job
job_own k r e = eq-eqb r.job k e
