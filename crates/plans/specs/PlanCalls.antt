-- What the calls about one plan answer and leave behind, for every input. Assumes nothing: these are definitions.
use Rattle.std.specs.Prelude.{List, ℕ, ℤ}
use Rattle.bpa.specs.Norms.{norm}
use Rattle.area.specs.Numbers.{all_low_first}
use Rattle.answer.specs.Answer.{Gives, Writes}
use Rattle.image.specs.Image.{table_in}
use Rattle.moves.specs.Shown.{shown}
use Rattle.moves.specs.Moves.{move_bytes}
use Rattle.first_run.specs.FirstRun.{first_run}
use Rattle.table.specs.CallRefusals.{one_plan}

-- THE NORM of a plan
abbrev pub Normed : (image plan : List ℕ) → ℤ → Type 0
Normed bs p r = Gives (one_plan bs p) (norm (table_in bs) p) r

-- THE n-TH MOVE SHOWN: its number in two bytes and the remaining plan; no such move writes nothing and answers 0
abbrev pub Moved : (image plan : List ℕ) → (index : ℕ) → (out : List ℕ) → ℤ → (out' : List ℕ) → Type 0
Moved bs p n o r o' = Writes (one_plan bs p) (move_bytes (shown (table_in bs) p) n) o r o'

-- THE FIRST SHORTEST RUN: its moves, two bytes each
abbrev pub RanFirst : (image plan out : List ℕ) → ℤ → (out' : List ℕ) → Type 0
RanFirst bs p o r o' = Writes (one_plan bs p) (all_low_first (first_run (table_in bs) p)) o r o'
