-- The lines that planlook prints, in ASCII: 32 is a space, 10 ends a line. Assumes nothing: these are definitions.
use Rattle.std.specs.Prelude.{List, [], ◌∷◌, ◌++◌, ℕ, zero, suc, ◌≤◌, ℤ, length}
use Rattle.area.specs.Areas.{IsPut}
use Rattle.look_input.specs.declared.Got.{Got}
use Rattle.look_input.specs.declared.Got.TheVariants.{End, Cut, Long, Plan}
use Rattle.look_lines.specs.Numbers.{number, refusal_in, result_in}

-- a word and a number behind it
unfoldable pub field : (word : List ℕ) → (n : ℕ) → List ℕ
field w n = w ++ number n

-- jobs, each behind a space
unfoldable pub jobs_text : (plan : List ℕ) → List ℕ
jobs_text [] = []
jobs_text (j ∷ js) = field (32 ∷ []) j ++ jobs_text js

-- `refused N`
unfoldable pub refused_line : (refusal : ℕ) → List ℕ
refused_line n = field (114 ∷ 101 ∷ 102 ∷ 117 ∷ 115 ∷ 101 ∷ 100 ∷ 32 ∷ []) n ++ (10 ∷ [])

-- `table JOBS RULES`
unfoldable pub table_line : (jobs rules : ℕ) → List ℕ
table_line n k = (field (116 ∷ 97 ∷ 98 ∷ 108 ∷ 101 ∷ 32 ∷ []) n ++ field (32 ∷ []) k) ++ (10 ∷ [])

-- `job J NORM FORM`
unfoldable pub job_line : (job norm : ℕ) → (form : List ℕ) → List ℕ
job_line j n f = ((field (106 ∷ 111 ∷ 98 ∷ 32 ∷ []) j ++ field (32 ∷ []) n) ++ jobs_text f) ++ (10 ∷ [])

-- `same`, `apart` or `refused N`, behind a space
unfoldable pub verdict : (refusal result : ℕ) → List ℕ
verdict zero zero = 32 ∷ 97 ∷ 112 ∷ 97 ∷ 114 ∷ 116 ∷ 10 ∷ []
verdict zero (suc v) = 32 ∷ 115 ∷ 97 ∷ 109 ∷ 101 ∷ 10 ∷ []
verdict (suc n) v = field (32 ∷ 114 ∷ 101 ∷ 102 ∷ 117 ∷ 115 ∷ 101 ∷ 100 ∷ 32 ∷ []) (suc n) ++ (10 ∷ [])

-- `pair K` and the verdict on what comparing answered
unfoldable pub pair_line : (pair : ℕ) → (answer : ℤ) → List ℕ
pair_line k z = field (112 ∷ 97 ∷ 105 ∷ 114 ∷ 32 ∷ []) k ++ verdict (refusal_in z) (result_in z)

-- `cut` or `long`, at which a run ends; an end of the input and a whole plan have no such line
unfoldable pub end_line : Got → List ℕ
end_line End = []
end_line Cut = 99 ∷ 117 ∷ 116 ∷ 10 ∷ []
end_line Long = 108 ∷ 111 ∷ 110 ∷ 103 ∷ 10 ∷ []
end_line (Plan n) = []

-- a line at the front of an area, and how far it goes
pub record IsLine (bytes area : List ℕ) (r : ℕ) (area' : List ℕ) : Type 0 where
  pub put : IsPut 0 bytes area r area'
  pub within : r ≤ length area'
