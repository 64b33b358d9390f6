-- What the call about growth answers, for every input. Assumes nothing: these are definitions.
use Rattle.std.specs.Prelude.{List, ℕ, ℤ}
use Rattle.answer.specs.Answer.{Gives}
use Rattle.image.specs.Image.{table_in}
use Rattle.table.specs.CallRefusals.{one_plan}
use Rattle.growth.specs.Reached.{growth}

-- GROWTH: twice the number of jobs that the plan can reach, and one more if it is endless
abbrev pub Grown : (image plan : List ℕ) → ℤ → Type 0
Grown bs p r = Gives (one_plan bs p) (growth (table_in bs) p) r
