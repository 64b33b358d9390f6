-- The rules of a job along its chain: no job after a rule that was passed has moved. Assumes nothing.
use Rattle.std.proofs.Common.{◌≡◌, Bool, List, ℕ, ◌≤◌, ◌<◌, length, get_or, refl, subst, arith}
use Rattle.bpa.specs.Plans.{Rule}
use Rattle.bpa.proofs.Basics.JobsBelow.{below_at}
use Rattle.rules.specs.Places.{rule_at, rule_count}
use Rattle.rules.proofs.ListLaws.{good_rule}
use Rattle.prepare.proofs.Chains.{chain_rises}
use Rattle.prepare.proofs.PassedRules as walk
use Rattle.facts.specs.declared.Facts.{Facts}
use Rattle.facts.specs.Columns.{jobs_in, bytes_in}
use Rattle.facts.proofs.TableFacts.{tables}
use Rattle.settled.specs.SettledJobs.{Unmoved, Untouched}

module _ (facts : Facts) (moved : List Bool) (job : ℕ) where
  abbrev Kept : ℕ → Type 0
  Kept i = Unmoved moved (rule_at (bytes_in facts) i).after

  -- a position of the chain: no job after a rule before it has moved
  abbrev pub Passed : ℕ → Type 0
  Passed k = walk.Passed (bytes_in facts) job (rule_count (bytes_in facts)) Kept k

  abbrev total : ℕ
  total = rule_count (bytes_in facts)

  pub passed_start : job < 24 → (k : ℕ) → k ≡ get_or facts.first job 0 → Passed k
  passed_start h k e = walk.passed_start (bytes_in facts) facts.first facts.next (tables facts).chained job total Kept h refl k e

  module _ (k : ℕ) (p : Passed k) (h : k < total) where
    pub place_below : k < 252
    place_below = omega (arith, (tables facts).list.few)

    pub jobs_below : (i : ℕ) → i < length (rule_at (bytes_in facts) k).after → get_or (rule_at (bytes_in facts) k).after i 0 < 24
    jobs_below i l =
        let list = (tables facts).list in
        omega (arith, below_at (jobs_in facts) (rule_at (bytes_in facts) k).after i (good_rule (jobs_in facts) (bytes_in facts) list k h).after l, list.jobs)

    pub rises : k < get_or facts.next k 0
    rises = chain_rises (bytes_in facts) facts.first facts.next (tables facts).chained job k h p.on

    pub passed_next : Unmoved moved (rule_at (bytes_in facts) k).after → (n : ℕ) → n ≡ get_or facts.next k 0 → Passed n
    passed_next here n e =
        walk.passed_next (bytes_in facts) facts.first facts.next (tables facts).chained job total Kept k p h
        (λ i m l b same. subst (λ (r : Rule). Unmoved moved r.after) same) here n e

  -- the end of the chain
  pub passed_all : (k : ℕ) → Passed k → total ≤ k → Untouched (bytes_in facts) moved job
  passed_all k p h i l = p.each i (omega arith)
