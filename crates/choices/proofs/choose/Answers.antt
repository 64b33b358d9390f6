-- `choices::choose` meets its contract: the job that comes next has no greater norm than those behind it, so what its run needs is known. Assumes
-- nothing.
use Rattle.std.proofs.Common.{◌≡◌, ◌∙◌, ◌+◌, ◌<◌, ◌≤◌, ℕ, List, suc, arith, ap, sym, subst, get_or, set, take, length-take}
use Rattle.std.proofs.lemmas.List.{take-take}
use Rattle.rules.specs.Places.{rule_at}
use Rattle.norm.specs.NormArrays.{GoodNorms}
use Rattle.norm.proofs.NormedTables.{good_norms}
use Rattle.order.specs.Order.{ordered}
use Rattle.order.proofs.OrderedJobs.{place_below}
use Rattle.lowering.specs.Lowering.{Picks, Chosen}
use Rattle.least_moves.specs.Chains.{ChainFrom}
use Rattle.choices.specs.Choices.{Keeps}
use Rattle.choices.proofs.KnownJobs.{Known, chosen_less, chain_of, chosen_all, chosen_below, known_more}
use Rattle.choices.proofs.choose.Goals.{After-from-job}
use Rattle.choices.proofs.choose.Goals as goal

-- a turn
module _ (c : After-from-job) where
  abbrev n : ℕ
  n = c.args.table.now.jobs

  abbrev rs : List ℕ
  rs = c.args.table.now.rules.now

  abbrev ns : List ℕ
  ns = c.args.table.now.norms.now

  abbrev ord : List ℕ
  ord = take n c.order-order.result

  abbrev low : List ℕ
  low = c.loop-job.low

  abbrev rows : List ℕ
  rows = c.loop-job.rows

  abbrev k : ℕ
  k = c.loop-job.job-index

  abbrev job : ℕ
  job = c.from-job.result

  good : GoodNorms n rs ns
  good = let table = c.args.table.now in good_norms n rs ns table.list table.exact table.finite

  in_order : take n ord ≡ ordered ns n
  in_order = take-take n n c.order-order.result (omega arith) ∙ c.order-order.ensures.1

  inside : k < n
  inside = omega (arith, c.loop-job-test.true, length-take n c.order-order.result)

  below : job < n
  below = omega (arith, c.from-job.ensures, place_below ns ord n in_order k inside)

  small : job < 24
  small = omega (arith, below, good.list.jobs)

  chosen : Chosen n rs ns low rows (get_or ns job 0)
  chosen =
      subst (λ (x : ℕ). Chosen n rs ns low rows (get_or ns x 0)) (sym c.from-job.ensures) (chosen_below n rs ns good ord in_order low rows k c.loop-job.invariant inside)

  -- the chain of the job, from its first rule on
  module _ (at : ℕ) (is : at ≡ get_or c.least_chains-first.result job 0) (within : get_or ns job 0 ≤ c.args.bound) where
    chain : ChainFrom rs ns c.least_chains-first.new.next job at
    chain =
        let l = c.least_chains-first in
        subst (ChainFrom rs ns l.new.next job) (sym is) (chain_of n rs ns good c.args.bound l.result l.new.next l.ensures.chains job below within)

    own : (rule_at rs at).job ≡ job
    own = chain.own.lowers.job

    picked_rule : (rule : ℕ) → Picks n rs ns (rule_at rs at).job rule → Picks n rs ns job rule
    picked_rule rule p = subst (λ (x : ℕ). Picks n rs ns x rule) own p

pub bounds-table-job : goal.bounds-table-job
bounds-table-job c = small c

pub invariant_of-kept : goal.invariant_of-kept
invariant_of-kept c =
    let t = (goal.at.invariant_of-kept c).After-from-job in
    record { chosen = subst (Chosen (n t) (rs t) (ns t) (low t) (rows t)) (sym c.from-norm.ensures) (chosen t) }

pub bounds-first-job : goal.bounds-first-job
bounds-first-job c = small (goal.at.bounds-first-job c).After-from-job

pub first_rule-rule-requires-clause-chain_from : goal.first_rule-rule-requires-clause-chain_from
first_rule-rule-requires-clause-chain_from c =
    let t = (goal.at.first_rule-rule-requires-clause-chain_from c).After-from-job in
    let within : get_or (ns t) (job t) 0 ≤ c.args.bound = omega arith in
    subst (λ (x : ℕ). ChainFrom (rs t) (ns t) c.least_chains-first.new.next x c.from.result) (sym (own t c.from.result c.from.ensures within))
    (chain t c.from.result c.from.ensures within)

pub first_rule-rule-requires-clause-known : goal.first_rule-rule-requires-clause-known
first_rule-rule-requires-clause-known c =
    let t = (goal.at.first_rule-rule-requires-clause-known c).After-from-job in
    let within : get_or (ns t) (job t) 0 ≤ c.args.bound = omega arith in
    omega (arith, ap (λ (x : ℕ). get_or (ns t) x 0) (own t c.from.result c.from.ensures within))

pub keep_row-requires-clause-chosen : goal.keep_row-requires-clause-chosen
keep_row-requires-clause-chosen c =
    let t = (goal.at.keep_row-requires-clause-chosen c).After-from-job in
    let within : get_or (ns t) (job t) 0 ≤ c.args.bound = omega arith in
    let p = picked_rule t c.from.result c.from.ensures within c.first_rule-rule.result c.first_rule-rule.ensures in
    subst (λ (x : ℕ). Chosen (n t) (rs t) (ns t) (low t) (rows t) (get_or (ns t) x 0)) (sym p.lowers.job) (chosen t)

pub bounds-low-job : goal.bounds-low-job
bounds-low-job c = small (goal.at.bounds-low-job c).After-from-job

pub loop-job-preserved : goal.loop-job-preserved
loop-job-preserved c =
    let t = (goal.at.loop-job-preserved c).After-from-job in
    let within : get_or (ns t) (job t) 0 ≤ c.args.bound = omega arith in
    let rule = c.first_rule-rule.result in
    let p = picked_rule t c.from.result c.from.ensures within rule c.first_rule-rule.ensures in
    let rows' = c.keep_row.new.rows in
    let keeps = subst (λ (x : ℕ). Keeps (n t) (rs t) (ns t) x rule (rows t) rows') p.lowers.job c.keep_row.ensures in
    subst (λ (x : ℕ). Known (n t) (rs t) (ns t) (ord t) (set (low t) x rule) rows' (k t + 1)) (sym c.from-job.ensures)
    (known_more (n t) (rs t) (ns t) (good t) (ord t) (in_order t) (low t) (rows t) (k t) c.loop-job.invariant (inside t) rule rows'
    (subst (λ (x : ℕ). Picks (n t) (rs t) (ns t) x rule) c.from-job.ensures p)
    (subst (λ (x : ℕ). Keeps (n t) (rs t) (ns t) x rule (rows t) rows') c.from-job.ensures keeps) c.keep_row.auto.rows)

pub returns-after-loop-job : goal.returns-after-loop-job
returns-after-loop-job c =
    let table = c.args.table.now in
    let n = table.jobs in
    let rs = table.rules.now in
    let ns = table.norms.now in
    let all : n ≤ c.loop-job.job-index = omega (arith, c.loop-job-test.false, length-take n c.order-order.result, table.list.jobs, c.order-order.ensures.0) in
    chosen_all n rs ns (good_norms n rs ns table.list table.exact table.finite) (take n c.order-order.result)
    (take-take n n c.order-order.result (omega arith) ∙ c.order-order.ensures.1) c.loop-job.low c.loop-job.rows c.loop-job.job-index c.loop-job.invariant
    (suc c.args.bound) all

pub returns-then-bound-norm : goal.returns-then-bound-norm
returns-then-bound-norm c =
    let t = (goal.at.returns-then-bound-norm c).After-from-job in
    chosen_less (n t) (rs t) (ns t) (low t) (rows t) (suc c.args.bound) (get_or (ns t) (job t) 0) (omega (arith, c.if-bound-norm.true)) (chosen t)
