-- What the lines of planlook say of an image and of plans. Assumes nothing: these are definitions.
use Rattle.std.specs.Prelude.{◌≡◌, Bool, true, false, cond, List, [], ◌∷◌, ℕ, zero, suc, ◌≤◌, ◌<◌, ℤ, length}
use Rattle.bpa.specs.Plans.{Table}
use Rattle.bpa.specs.Norms.{norm}
use Rattle.bpa.specs.Method.{same, prime_form}
use Rattle.image.specs.Image.{image_refusal, table_in}
use Rattle.answer.specs.Answer.{signed, one_if}
use Rattle.table.specs.CallRefusals.{two_plans}
use Rattle.area.specs.Areas.{IsPut}
use Rattle.look_input.specs.declared.Got.{Got}
use Rattle.look_input.specs.declared.Got.TheVariants.{End, Cut, Long, Plan}
use Rattle.look_input.specs.Input.{plan_in, left_part, right_part, pair_got, PairRead}
use Rattle.look_lines.specs.Lines.{IsLine, refused_line, table_line, job_line, pair_line, end_line}

-- the first line, of an accepted table or of a refusal
unfoldable pub first_line : (refusal : ℕ) → Table → List ℕ
first_line zero t = table_line t.jobs (length t.rules)
first_line (suc n) t = refused_line (suc n)

-- how many jobs are to be shown
unfoldable pub jobs_shown : (refusal : ℕ) → Table → ℕ
jobs_shown zero t = t.jobs
jobs_shown (suc n) t = 0

-- THE FIRST LINE of an image
pub record TableReport (image line : List ℕ) (jobs r : ℕ) (line' : List ℕ) : Type 0 where
  pub jobs_are : jobs ≡ jobs_shown (image_refusal image) (table_in image)
  pub is_line : IsLine (first_line (image_refusal image) (table_in image)) line r line'

-- A JOB'S LINE, with its norm and its prime form, if the image is accepted and has that job
pub record JobReport (image : List ℕ) (job : ℕ) (line : List ℕ) (r : ℕ) (line' : List ℕ) : Type 0 where
  pub within : r ≤ length line'
  pub put : image_refusal image ≡ 0 → job < (table_in image).jobs →
      IsPut 0 (job_line job (norm (table_in image) (job ∷ [])) (prime_form (table_in image) (job ∷ []))) line r line'

-- what comparing two plans answers
abbrev pub compare_answer : (image left right : List ℕ) → ℤ
compare_answer bs p q = signed (two_plans bs p q) (one_if (same (table_in bs) p q))

-- A PAIR'S LINE: whether its plans are the same, or why that is not answered
abbrev pub PairReport : (image : List ℕ) → (pair : ℕ) → (left right line : List ℕ) → (r : ℕ) → (line' : List ℕ) → Type 0
PairReport bs k p q l r l' = IsLine (pair_line k (compare_answer bs p q)) l r l'

-- whether a plan is whole
unfoldable pub whole : Got → Bool
whole End = false
whole Cut = false
whole Long = false
whole (Plan n) = true

-- THE LINE OF A PAIR AS IT WAS READ: that of its two plans if both are whole, else the word at which the run ends
unfoldable pub line_of : (image : List ℕ) → (pair : ℕ) → (input : List ℕ) → (left right : Got) → List ℕ
line_of bs k i l r =
    cond (whole (pair_got l r)) (pair_line k (compare_answer bs (plan_in (left_part i)) (plan_in (right_part i)))) (end_line (pair_got l r))

-- THE NEXT PAIR of the input, its line, and whether another may follow: behind a pair that is whole
pub record NextLine (image : List ℕ) (pair : ℕ) (input line : List ℕ) (r : ℕ) (again : Bool) (line' : List ℕ) : Type 0 where
  pub left : Got
  pub right : Got
  pub read : PairRead left right input
  pub is_line : IsLine (line_of image pair input left right) line r line'
  pub again_is : again ≡ whole (pair_got left right)
