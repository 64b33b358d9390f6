-- `Rules::after` meets its contract: each rule of a good list has at most four jobs after it, below the count. Assumes nothing.
use Rattle.std.proofs.Common.{◌≡◌, ◌≤◌, true, length, sym, subst, ℕ, List}
use Rattle.bpa.specs.Plans.{all_below}
use Rattle.rules.proofs.ListLaws.{good_has_place, good_rule}
use Rattle.rules.proofs.Rules.after.Goals as goal

pub rule_after-requires : goal.rule_after-requires
rule_after-requires c =
    let self = c.args.self.now in
    good_has_place self.jobs self.bytes.now self.good c.args.i c.requires

pub returns-clause-few : goal.returns-clause-few
returns-clause-few c =
    let self = c.args.self.now in
    subst (λ (l : List ℕ). length l ≤ 4) (sym c.rule_after.ensures) (good_rule self.jobs self.bytes.now self.good c.args.i c.requires).few

pub returns-clause-jobs : goal.returns-clause-jobs
returns-clause-jobs c =
    let self = c.args.self.now in
    subst (λ (l : List ℕ). all_below self.jobs l ≡ true) (sym c.rule_after.ensures) (good_rule self.jobs self.bytes.now self.good c.args.i c.requires).after
