-- What is written is the listing of the table's catalogue.
use mathlib.Core.Path.{subst}
use mathlib.Core.List.{List}
use Prim.Native.Nat.{ℕ}
use Rattle.answer.specs.Answer.{Writes, answered}
use Rattle.listing.proofs.TableListing.{row_written}
use Rattle.listing.proofs.list.Goals as goal

pub returns : goal.returns
returns c =
    let table = c.args.table.now in
    let is = row_written table.jobs table.rules.now table.norms.now _ _ _ table.list.jobs table.exact c.refined_rows-lens.ensures c.weights-weights.ensures
    c.args.norm c.args.index _ c.counts-counts.ensures c.find_row.result c.find_row.ensures.none c.find_row.ensures.row in
    subst (λ (bytes : List ℕ). Writes 0 bytes c.args.out.now (answered c.put_answer.result) c.put_answer.new.out) is c.put_answer.ensures
