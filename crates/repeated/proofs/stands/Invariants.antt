-- The rules looked at fall, and what links led back to is still ahead if it is equal to the rule. Assumes nothing.
use Rattle.std.proofs.Common.{ℕ, ◌≡◌, ◌<◌}
use Rattle.repeated.specs.Repeated.{place_at, Leads}
use Rattle.repeated.proofs.stands.Given as goal

abbrev pub invariant-loop-k : goal.invariant-loop-k
invariant-loop-k l =
    l.last < l.i → (l.k < l.i) × ((e : ℕ) → Leads l.links l.last e → place_at l.rules e ≡ place_at l.rules l.i → Leads l.links l.k e)

abbrev pub decreases-loop-k : goal.decreases-loop-k
decreases-loop-k l = l.k
