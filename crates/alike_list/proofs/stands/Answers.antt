-- `alike_list::stands` meets its contract. Assumes nothing.
use Rattle.std.proofs.Common.{◌≡◌, ◌+◌, Bool, get_or, drop, sym, ap, ◌∙◌, arith}
use mathlib.Core.Bool.{◌||◌, or-false}
use lib.Dec.{eqb}
use borrow.Author.Tests.{eq-eqb, ne_eqb}
use Rattle.alike.specs.Alike.{stands_in}
use Rattle.alike_list.proofs.MoveRows.{found_now, found_not, found_next, stands_next, stands_end}
use Rattle.alike_list.proofs.stands.Goals as goal
use Rattle.alike_list.proofs.stands.Goals.{then-known-action, else-known-action}

pub loop-known-preserved : goal.loop-known-preserved
loop-known-preserved c =
    let v = c.loop-known in
    let row = c.args.row.now in
    let a = c.args.action in
    let b = get_or row v.known-index 0 in
    let found : c.if-known-action.found ≡ (v.found || eqb b a) =
    elim c.if-known-action.branch [
      | then-known-action w ↦ found_now v.found (eqb b a) (eq-eqb b a w.if-known-action.true) w.found-is
      | else-known-action w ↦ found_not v.found (eqb b a) (ne_eqb b a w.if-known-action.false) w.found-is
    ] in
    found_next v.found (eqb b a) (stands_in (drop (v.known-index + 1) row) a) found
    ∙ ap (λ (x : Bool). v.found || x) (sym (stands_next row v.known-index a (omega arith))) ∙ v.invariant

pub returns : goal.returns
returns c =
    let v = c.loop-known in
    sym (or-false v.found) ∙ ap (λ (x : Bool). v.found || x) (sym (stands_end c.args.row.now v.known-index c.args.action (omega arith))) ∙ v.invariant
