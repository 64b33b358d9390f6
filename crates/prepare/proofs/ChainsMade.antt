-- Chains made from the last rule to the first: for each job its next rule from a position on, and after each rule from there on the next
-- of its job. Assumes nothing.
use Rattle.std.proofs.Common.{List, ℕ, suc, ◌≤◌, ◌<◌, get_or}
use Rattle.rules.specs.Places.{rule_at, rule_count}
use Rattle.prepare.specs.Prepared.{NextOf}

-- the places of the jobs hold their next rules from a position on
abbrev pub Begun : (rules places : List ℕ) → (i : ℕ) → Type 0
Begun rs a i = (k : ℕ) → k < 24 → NextOf rs k i (get_or a k 0)

-- from a position on, the place of each rule holds the next rule of its job
abbrev pub Linked : (rules places : List ℕ) → (i : ℕ) → Type 0
Linked rs a i = (k : ℕ) → i ≤ k → k < rule_count rs → NextOf rs (rule_at rs k).job (suc k) (get_or a k 0)
