-- The numbers of rows of each weight, as an array of 13 numbers. Assumes nothing: these are definitions.
use Rattle.std.specs.Prelude.{◌≡◌, cond, List, [], ◌∷◌, ℕ, ◌+◌, ◌-◌, ◌≤◌, ◌<◌, ltb, eqb, length, get_or}
use Rattle.catalogue.specs.Catalogue.{rows_of}

-- THE NUMBERS OF ROWS of each weight below some weight
pub record Counts (ws : List ℕ) (below : ℕ) (cs : List ℕ) : Type 0 where
  pub size : length cs ≡ 13
  pub at : (u : ℕ) → u < below → get_or cs u 0 ≡ length (rows_of ws u)

-- how many rows can follow a job in a row of the weight `whole`: none if it has no weight or too much
unfoldable pub follow_count : (counts : List ℕ) → (whole weight : ℕ) → ℕ
follow_count cs v w = cond (eqb w 0) 0 (cond (ltb v w) 0 (get_or cs (v - w) 0))

-- how many rows of the weight `whole` begin with one of some jobs
unfoldable pub total : (counts : List ℕ) → (whole : ℕ) → (weights : List ℕ) → ℕ
total cs v [] = 0
total cs v (w ∷ ws) = follow_count cs v w + total cs v ws

-- numbers of which 24 can be added: 24 to the 11th is the most that there can be of weight 11
pub record Small (below : ℕ) (cs : List ℕ) : Type 0 where
  pub size : length cs ≡ 13
  pub few : (u : ℕ) → u < below → get_or cs u 0 ≤ 1521681143169024
