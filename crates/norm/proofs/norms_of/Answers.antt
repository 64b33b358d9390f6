-- `norm::norms_of` meets its contract. Assumes nothing.
use Rattle.std.proofs.Common.{◌≡◌, ℕ, List, get_or, ap, sym, subst, add-one, arith, rules}
use Rattle.rules.specs.Places.{table_of}
use Rattle.norm.proofs.NormsByRounds.{Holds, none_known, one_more, settled, ended}
use Rattle.norm.proofs.norms_of.Goals as goal

pub returns-then-eq : goal.returns-then-eq
unfolding table_of
returns-then-eq c =
    let r = c.args.rules.now in
    let same : c.loop.known ≡ c.round-next.result = search rules in
    settled (table_of r.jobs r.bytes.now) c.loop.counter c.loop.known c.round-next.result c.loop.invariant c.round-next.ensures (omega arith)
    (λ k h. ap (λ (l : List ℕ). get_or l k 0) same)

pub loop-init : goal.loop-init
loop-init c = none_known (table_of c.args.rules.now.jobs c.args.rules.now.bytes.now)

pub loop-preserved : goal.loop-preserved
loop-preserved c =
    let t = table_of c.args.rules.now.jobs c.args.rules.now.bytes.now in
    subst (λ (k : ℕ). Holds t k c.round-next.result) (sym (add-one c.loop.counter))
    (one_more t c.loop.counter c.loop.known c.round-next.result c.loop.invariant c.round-next.ensures)

pub returns : goal.returns
unfolding table_of
returns c =
    let r = c.args.rules.now in
    let t = table_of r.jobs r.bytes.now in
    let e : c.loop.counter ≡ r.jobs = omega arith in
    ended t c.loop.known (subst (λ (k : ℕ). Holds t k c.loop.known) e c.loop.invariant)
