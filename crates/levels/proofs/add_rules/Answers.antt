-- A rule for the move adds what its row reaches, and any other adds nothing.
use mathlib.Core.Path.{sym, ◌∙◌}
use native.Mathlib.Omega.{arith}
use Rattle.levels.proofs.RulesByLevel.{level_passed, level_added}
use Rattle.levels.proofs.add_rules.Goals.{then-action, else-action}
use Rattle.levels.proofs.add_rules.Goals as goal

pub loop-i-preserved : goal.loop-i-preserved
loop-i-preserved c =
    let a = c.args in
    let n = a.rules.now.jobs in
    let rs = a.rules.now.bytes.now in
    let l = c.loop-i in
    elim c.if-action.branch [
      | then-action w ↦ rw w.cells-is (record {
        size = w.add_rule.ensures.size ∙ l.invariant.size;
        added = λ log b.
            level_added n rs a.rules.now.good log a.left a.action l.i l.cells w.add_rule.new.cells (omega (arith, c.count-i-end.ensures.0))
            c.requires (sym c.action.ensures ∙ w.if-action.true) w.add_rule.ensures (l.invariant.added log b);
      })
      | else-action w ↦ rw w.cells-is (record {
        size = l.invariant.size;
        added = λ log b.
            level_passed n rs a.rules.now.good log a.left a.action l.i l.cells (λ e. w.if-action.false (c.action.ensures ∙ e)) (l.invariant.added log b);
      })
    ]
