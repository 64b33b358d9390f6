-- The search for the rule of a job whose run is earliest, along the chain of its rules of least move. Assumes nothing.
use mathlib.Core.Path.{◌≡◌, subst}
use mathlib.Core.List.{List}
use mathlib.Core.Logic.{⊎_elim}
use Prim.Native.Nat.{ℕ, ◌≤◌, ◌<◌}
use native.Mathlib.Omega.{arith}
use lib.Dec.{ltb}
use lib.ListN.{length, take, get_or}
use borrow.Author.Tests.{ltb-true, ltb-false}
use Rattle.bpa.proofs.Basics.Cases.{by_test}
use Rattle.area.specs.Numbers.{all_low_first}
use Rattle.rules.specs.Places.{rule_at, rule_count}
use Rattle.first_run.specs.FirstRun.{Before}
use Rattle.first_run.proofs.DictionaryOrder.{before_asym, before_trans}
use Rattle.lowering.specs.Lowering.{Lowers, run_by, Picks}
use Rattle.least_moves.specs.Chains.{Least, NextTie, ChainFrom}
use Rattle.least_moves.proofs.ChainsMade.{least_later}

-- no rule of least move before i has a run that comes before that of a rule
abbrev pub Passed : (n : ℕ) → (rs ns : List ℕ) → (j rule i : ℕ) → Type 0
Passed n rs ns j rule i = (m : ℕ) → m < i → Least rs ns j 0 m → Before (run_by n rs m) (run_by n rs rule) → ⊥

-- a rule of the job whose run is the earliest so far, and the run, two bytes a move
pub record Choosing (n : ℕ) (rs ns : List ℕ) (j size : ℕ) (best : List ℕ) (rule i : ℕ) : Type 0 where
  pub own : Least rs ns j 0 rule
  pub inside : i ≤ rule_count rs
  pub ahead : i < rule_count rs → Least rs ns j 0 i
  pub passed : Passed n rs ns j rule i
  pub room : length best ≡ 1024
  pub run : take size best ≡ all_low_first (run_by n rs rule)

module _ (n : ℕ) (rs ns : List ℕ) (j : ℕ) where
  -- a rule with the move of one that is of least move is so too
  also_least : (i k : ℕ) → Least rs ns j 0 i → Lowers rs ns j k → (rule_at rs k).move ≡ (rule_at rs i).move → Least rs ns j 0 k
  also_least i k m low e = record { lowers = low; after = omega arith; least = λ o h l. omega (arith, m.least o h l, e) }

  -- one rule more, and the gap behind it
  passed_to : (rule k to : ℕ) → Least rs ns j 0 k → Passed n rs ns j rule k → (Before (run_by n rs k) (run_by n rs rule) → ⊥) → NextTie rs ns j k to →
      Passed n rs ns j rule to
  passed_to rule k to own before not gap m l low =
      by_test (ltb m k) (λ t. before m (ltb-true m k t) low)
      (λ f. by_test (ltb k m)
      (λ t.
      let e : (rule_at rs m).move ≡ (rule_at rs k).move = omega (arith, own.least m (omega arith) low.lowers, low.least k (omega arith) own.lowers) in
      absurd (gap.between m (ltb-true k m t) l low.lowers e))
      (λ g. let e : m ≡ k = omega (arith, ltb-false m k f, ltb-false k m g) in λ b. not (subst (λ (x : ℕ). Before (run_by n rs x) (run_by n rs rule)) e b)))

  never_itself : (k : ℕ) → Before (run_by n rs k) (run_by n rs k) → ⊥
  never_itself k b = before_asym (run_by n rs k) (run_by n rs k) b b

  -- a run whose first move is later does not come before
  later_move : (k rule : ℕ) → (rule_at rs rule).move < (rule_at rs k).move → Before (run_by n rs k) (run_by n rs rule) → ⊥
  unfolding run_by Before
  later_move k rule h b =
      ⊎_elim (λ (l : (rule_at rs k).move < (rule_at rs rule).move). omega arith) (λ e. omega (arith, e.0)) b

  -- once all rules of least move are passed, no run comes before
  pub picks : (rule i : ℕ) → Least rs ns j 0 rule → Passed n rs ns j rule i → rule_count rs ≤ i → Picks n rs ns j rule
  picks rule i own passed l = record {
    lowers = own.lowers;
    first = λ k low.
        by_test (ltb (rule_at rs rule).move (rule_at rs k).move) (λ t. later_move k rule (ltb-true (rule_at rs rule).move (rule_at rs k).move t))
        (λ t.
        let e : (rule_at rs k).move ≡ (rule_at rs rule).move =
        omega (arith, own.least k (omega arith) low, ltb-false (rule_at rs rule).move (rule_at rs k).move t) in
        passed k (omega (arith, low.place)) (also_least rule k own low e));
  }

  module _ (next : List ℕ) (start : ℕ) (c : ChainFrom rs ns next j start) where
    gap : (i : ℕ) → Least rs ns j 0 i → NextTie rs ns j i (get_or next i 0)
    gap i m = c.goes_on i (least_later rs ns j 0 i i (omega arith) (omega arith) m)

    -- the next rule is of least move too
    next_least : (i : ℕ) (m : Least rs ns j 0 i) → get_or next i 0 < rule_count rs → Least rs ns j 0 (get_or next i 0)
    next_least i m t = let (low, e) = (gap i m).own t in also_least i (get_or next i 0) m low e

    first_passed : Passed n rs ns j start (get_or next start 0)
    first_passed = passed_to start start (get_or next start 0) c.own (λ m l no. absurd (c.none m l no)) (never_itself start) (gap start c.own)

    pub picks_only : rule_count rs ≤ get_or next start 0 → Picks n rs ns j start
    picks_only = picks start (get_or next start 0) c.own first_passed

    pub choosing_start : (size : ℕ) (best : List ℕ) → length best ≡ 1024 → take size best ≡ all_low_first (run_by n rs start) →
        Choosing n rs ns j size best start (get_or next start 0)
    choosing_start size best l e = record {
      own = c.own;
      inside = (gap start c.own).within;
      ahead = next_least start c.own;
      passed = first_passed;
      room = l;
      run = e;
    }

    module _ (size : ℕ) (best : List ℕ) (rule i : ℕ) (h : Choosing n rs ns j size best rule i) where
      pub choosing_end : rule_count rs ≤ i → Picks n rs ns j rule
      choosing_end = picks rule i h.own h.passed

      module _ (l : i < rule_count rs) where
        pub rises : i < get_or next i 0
        rises = (gap i (h.ahead l)).rises

        -- the rule is kept
        pub choosing_kept : (Before (run_by n rs i) (run_by n rs rule) → ⊥) → Choosing n rs ns j size best rule (get_or next i 0)
        choosing_kept not = record {
          own = h.own;
          inside = (gap i (h.ahead l)).within;
          ahead = next_least i (h.ahead l);
          passed = passed_to rule i (get_or next i 0) (h.ahead l) h.passed not (gap i (h.ahead l));
          room = h.room;
          run = h.run;
        }

        -- the next one is better
        pub choosing_better : (made : List ℕ) → Before (run_by n rs i) (run_by n rs rule) → length made ≡ 1024 → take size made ≡ all_low_first (run_by n rs i) →
            Choosing n rs ns j size made i (get_or next i 0)
        choosing_better made b m e = record {
          own = h.ahead l;
          inside = (gap i (h.ahead l)).within;
          ahead = next_least i (h.ahead l);
          passed = passed_to i i (get_or next i 0) (h.ahead l)
              (λ k under low before. h.passed k under low (before_trans (run_by n rs k) (run_by n rs i) (run_by n rs rule) before b)) (never_itself i) (gap i (h.ahead l));
          room = m;
          run = e;
        }
