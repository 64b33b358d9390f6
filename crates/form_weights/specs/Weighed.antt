-- The weights of jobs as an array of 24 numbers, by their norms and prime rows. Assumes nothing: these are definitions.
use Rattle.std.specs.Prelude.{◌≡◌, cond, List, ℕ, ◌<◌, length, get_or}
use Rattle.bpa.specs.Method.{Rows}
use Rattle.catalogue.specs.Catalogue.{is_alone}

unfoldable pub row_weight : (norm job : ℕ) → (row : List ℕ) → ℕ
row_weight n j r = cond (is_alone j r) n 0

pub record Weighed (jobs : ℕ) (norms : List ℕ) (e : Rows) (ws : List ℕ) : Type 0 where
  pub size : length ws ≡ 24
  pub at : (j : ℕ) → j < jobs → get_or ws j 0 ≡ row_weight (get_or norms j 0) j (e j)
