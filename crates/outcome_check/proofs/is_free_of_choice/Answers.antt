-- `outcome_check::is_free_of_choice` meets its contract. Assumes nothing.
use Rattle.std.proofs.Common.{◌≡◌, ◌∙◌, ◌<◌, ◌+◌, ℕ, List, sym, subst, arith, rules}
use Rattle.rules.specs.Places.{rule_count}
use Rattle.outcome_check.proofs.PassedRules.{Passing, passing_start, passing_again, passing_new, passed_all, choice_found}
use Rattle.outcome_check.proofs.is_free_of_choice.Goals as goal
use Rattle.outcome_check.proofs.is_free_of_choice.Goals.{in-Ok+else-ne, in-Err}

pub loop-at-init : goal.loop-at-init
loop-at-init c = passing_start c.args.rules.now.bytes.now

pub returns-then-ne : goal.returns-then-ne
returns-then-ne c =
    let table = c.args.rules.now in
    let rs = table.bytes.now in
    let at = c.loop-at.at in
    let before = c.in-Ok.before in
    let other : c.after.result.now ≡ c.after-in-Ok.result.now → ⊥ = search rules in
    let inside : at < rule_count rs = omega (arith, c.count-at-end.ensures) in
    let earlier : before < at = c.in-Ok.ensures.earlier in
    choice_found table.jobs rs before at (omega arith) inside c.in-Ok.ensures.same
    (λ e. other (c.after.ensures.after ∙ e ∙ sym c.after-in-Ok.ensures.after))

pub loop-at-preserved : goal.loop-at-preserved
loop-at-preserved c =
    let rs = c.args.rules.now.bytes.now in
    let l = c.loop-at in
    elim c.match-find.branch [
      | in-Ok+else-ne w ↦
          let same : w.after.result.now ≡ w.after-in-Ok.result.now = search rules in
          subst (λ (slots : List ℕ). Passing rs slots (l.at + 1)) (sym w.slots-is)
          (passing_again rs l.slots l.at l.invariant w.in-Ok.before w.in-Ok.ensures.earlier w.in-Ok.ensures.same
          (sym w.after.ensures.after ∙ same ∙ w.after-in-Ok.ensures.after))
      | in-Err w ↦
          subst (λ (slots : List ℕ). Passing rs slots (l.at + 1)) (sym w.slots-is)
          (passing_new rs l.slots l.at l.invariant w.in-Err.slot w.in-Err.ensures.free (omega (arith, c.count-at-end.ensures)))
    ]

pub returns : goal.returns
returns c =
    let table = c.args.rules.now in
    passed_all table.jobs table.bytes.now c.loop-at.slots c.loop-at.at c.loop-at.invariant (omega (arith, c.count-at-end.ensures))
