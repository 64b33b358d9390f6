use Rattle.engine.proofs.Tables.{prime_rows_in}
use Rattle.engine.proofs.refined_rows.Goals as goal

pub returns : goal.returns
returns c = prime_rows_in c.new.ensures c.refine.ensures
