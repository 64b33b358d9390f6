-- The test for growth by bits. Assumes nothing: these are definitions.
use Rattle.std.specs.Prelude.{◌≡◌, List, ℕ, get_or}
use Rattle.bits.specs.Bits.{bit}
use Rattle.closure.specs.Linked.{Linked}

-- some job that is reached can be reached from the jobs in its rows that others stand behind
abbrev pub SomeBack : (rows fronts : List ℕ) → (reached : ℕ) → Type 0
SomeBack rows fronts reached = (j : ℕ) × (bit reached j ≡ 1) × Linked rows (get_or fronts j 0) j
