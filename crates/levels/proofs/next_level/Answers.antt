-- A level that was cleared, and all rules for the move.
use mathlib.Core.Path.{◌∙◌}
use native.Mathlib.Numerals.{add-one}
use Rattle.levels.proofs.RulesByLevel.{level_none, level_known}
use Rattle.levels.proofs.next_level.Goals as goal

pub returns : goal.returns
returns c =
    let a = c.args in
    let n = a.rules.now.jobs in
    let rs = a.rules.now.bytes.now in
    record {
      size = c.add_rules.ensures.size ∙ c.clear_level.ensures.size;
      next = λ log inside move known.
          level_known n rs a.rules.now.good log a.left a.action c.add_rules.new.cells
          (c.add_rules.ensures.added log
          (level_none n rs a.rules.now.good log a.left a.action a.cells.now c.clear_level.new.cells c.requires
          (rw (add-one a.left) at c.clear_level.ensures) known))
          inside move;
    }
