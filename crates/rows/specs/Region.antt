-- Expansion rows in a byte region: 24 rows of 512 bytes, one for each job, with a table of their lengths. Assumes nothing: these are definitions.
use Rattle.std.specs.Prelude.{◌≡◌, true, List, ℕ, ◌*◌, ◌≤◌, ◌<◌, length, get_or, take, drop}
use Rattle.bpa.specs.Plans.{all_below}
use Rattle.bpa.specs.Method.{Rows}

-- the rows of a region, as the method has them
unfoldable pub row : (lens region : List ℕ) → Rows
row lens region j = take (get_or lens j 0) (drop (512 * j) region)

-- every job has a row of 1 to 512 jobs, within the region
pub record Within (jobs : ℕ) (lens region : List ℕ) : Type 0 where
  pub few : jobs ≤ 24
  pub table : length lens ≡ 24
  pub size : length region ≡ 12288
  pub some : (j : ℕ) → j < jobs → 1 ≤ get_or lens j 0
  pub short : (j : ℕ) → j < jobs → get_or lens j 0 ≤ 512

-- one job has a row within the region
pub record HasRow (lens region : List ℕ) (job : ℕ) : Type 0 where
  pub is_job : job < 24
  pub size : length region ≡ 12288

-- the row of each job of a plan stands within the region
pub record Readable (lens region plan : List ℕ) : Type 0 where
  pub size : length region ≡ 12288
  pub job : (i : ℕ) → i < length plan → get_or plan i 0 < 24
  pub short : (i : ℕ) → i < length plan → get_or lens (get_or plan i 0) 0 ≤ 512

-- what the comparison of two plans asks
pub record Comparable (lens region p q : List ℕ) : Type 0 where
  pub jobs : ℕ
  pub within : Within jobs lens region
  pub left : all_below jobs p ≡ true
  pub right : all_below jobs q ≡ true

-- TWO DECOMPOSITIONS in one area of 24,576 bytes: the old rows stand in its first half, the new ones in the second
unfoldable pub old_half : (area : List ℕ) → List ℕ
old_half area = take 12288 area

unfoldable pub new_half : (area : List ℕ) → List ℕ
new_half area = drop 12288 area
