-- What the call about a choice of outcome answers, for every input. Assumes nothing: these are definitions.
use Rattle.std.specs.Prelude.{List, ℕ, ℤ}
use Rattle.answer.specs.Answer.{one_if, Gives}
use Rattle.alike_list.specs.AlikeTables.{alike_table, listed_refusal}
use Rattle.deterministic.specs.Deterministic.{no_choice}

-- NO CHOICE OF OUTCOME: 1 for yes and 0 for no, of the table with its moves replaced; refusals 2 to 7, 12 and 13
abbrev pub Determined : (image alike : List ℕ) → ℤ → Type 0
Determined bs ls r = Gives (listed_refusal bs ls) (one_if (no_choice (alike_table bs ls))) r
