-- `settled::is_untouched` meets its contract: the walk along the chain of the job. Assumes nothing.
use Rattle.std.proofs.Common.{◌≡◌, List, ℕ, ◌<◌, length, get_or, ap, sym, subst, ◌∙◌, arith}
use Rattle.rules.specs.Places.{rule_at, rule_count}
use Rattle.facts.specs.Columns.{bytes_in}
use Rattle.settled.specs.SettledJobs.{Unmoved}
use Rattle.settled.proofs.ChainsPassed.{passed_start, jobs_below, rises, passed_next}
use Rattle.settled.proofs.is_untouched.Goals as goal

pub loop-k-init : goal.loop-k-init
loop-k-init c = passed_start c.args.facts.now c.args.moved.now c.args.job c.requires c.first_rule-k.result c.first_rule-k.ensures

-- a rule of the chain, as it is read
module _ (c : goal.After-after) where
  abbrev k : ℕ
  k = c.loop-k.k

  inside : k < rule_count (bytes_in c.args.facts.now)
  inside = omega (arith, ap rule_count c.list-rules.ensures.1)

  after_is : c.after.result.now ≡ (rule_at (bytes_in c.args.facts.now) k).after
  after_is = c.after.ensures.after ∙ ap (λ (l : List ℕ). (rule_at l k).after) c.list-rules.ensures.1

pub is_unmoved-requires : goal.is_unmoved-requires
is_unmoved-requires c =
    subst (λ (l : List ℕ). (i : ℕ) → i < length l → get_or l i 0 < 24) (sym (after_is c))
    (jobs_below c.args.facts.now c.args.moved.now c.args.job c.loop-k.k c.loop-k.invariant (inside c))

module _ (c : goal.After-from-k) where
  inside_here : c.loop-k.k < rule_count (bytes_in c.args.facts.now)
  inside_here = omega (arith, ap rule_count c.list-rules.ensures.1)

pub loop-k-smaller : goal.loop-k-smaller
loop-k-smaller c =
    omega (arith, inside_here c, rises c.args.facts.now c.args.moved.now c.args.job c.loop-k.k c.loop-k.invariant (inside_here c), c.from-k.ensures)

pub loop-k-preserved : goal.loop-k-preserved
loop-k-preserved c =
    passed_next c.args.facts.now c.args.moved.now c.args.job c.loop-k.k c.loop-k.invariant (inside_here c)
    (subst (Unmoved c.args.moved.now) (c.after.ensures.after ∙ ap (λ (l : List ℕ). (rule_at l c.loop-k.k).after) c.list-rules.ensures.1)
    (c.is_unmoved.ensures c.if-not-is_unmoved.false)) c.from-k.result c.from-k.ensures
