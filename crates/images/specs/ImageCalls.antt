-- What the calls that read and write images answer and leave behind, for every input. Assumes nothing: these are definitions.
use Rattle.std.specs.Prelude.{List, ℕ, ℤ}
use Rattle.rules.specs.Places.{table_bytes}
use Rattle.answer.specs.Answer.{Writes}
use Rattle.image.specs.Image.{image_refusal, table_in}
use Rattle.image.specs.Writing.{written, write_refusal}

-- READ AN IMAGE: the job count, then the rules
abbrev pub Read : (image out : List ℕ) → ℤ → (out' : List ℕ) → Type 0
Read bs o r o' = Writes (image_refusal bs) (table_bytes (table_in bs)) o r o'

-- WRITE AN IMAGE from a job count and 8-byte rules
abbrev pub Written : (jobs : ℕ) → (rules out : List ℕ) → ℤ → (out' : List ℕ) → Type 0
Written n rs o r o' = Writes (write_refusal n rs) (written n rs) o r o'
