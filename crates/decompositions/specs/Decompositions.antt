-- DECOMPOSITIONS: rows by which each job is a row of jobs that stand for themselves, and new rows made from old ones. Two plans are
-- equal by the rows d if `expand d` gives the same list for both. Assumes nothing: these are definitions.
use Rattle.std.specs.Prelude.{◌≡◌, true, ◌⊎◌, ℕ, ◌+◌, ◌≤◌, ◌<◌, get_or, replicate}
use mathlib.Core.List.{List, [], ◌∷◌, ◌++◌, Memᴰ}
use Rattle.bpa.specs.Plans.{Table, over, HasRule}
use Rattle.bpa.specs.Norms.{sum_of}
use Rattle.bpa.specs.Bisimilar.{Approx}
use Rattle.bpa.specs.Method.{Rows, expand, precedes, lowering, same, prime_form}

-- a job that is prime in the rows: its row is itself alone
abbrev pub Alone : Rows → (job : ℕ) → Type 0
Alone d j = d j ≡ j ∷ []

-- what holds of the row of a job in a decomposition: it keeps to the table and has the job's norm; its jobs are prime in the rows, and
-- each is the job itself or precedes it
pub record Decomposed (t : Table) (ns : List ℕ) (d : Rows) (j : ℕ) : Type 0 where
  pub inside : over t (d j) ≡ true
  pub norm : sum_of ns (d j) ≡ get_or ns j 0
  pub primes : (m : ℕ) → Memᴰ m (d j) → Alone d m
  pub lower : (m : ℕ) → Memᴰ m (d j) → (m ≡ j) ⊎ (precedes ns m j ≡ true)

-- A DECOMPOSITION
abbrev pub Decomposition : Table → (norms : List ℕ) → Rows → Type 0
Decomposition t ns d = (j : ℕ) → j < t.jobs → Decomposed t ns d j

-- plans that match for every number of rounds are equal by the rows
abbrev pub Covers : Table → Rows → Type 0
Covers t d = (p q : List ℕ) → over t p ≡ true → over t q ≡ true → ((n : ℕ) → Approx t n p q) → expand d p ≡ expand d q

-- THE FIRST ROWS: each job is as many copies of the first job, in the order of jobs, as its norm
pub record FirstRows (t : Table) (ns : List ℕ) (d : Rows) : Type 0 where
  pub first : ℕ
  pub is_job : first < t.jobs
  pub least : (j : ℕ) → j < t.jobs → (j ≡ first) ⊎ (precedes ns first j ≡ true)
  pub rows : (j : ℕ) → j < t.jobs → d j ≡ replicate (get_or ns j 0) first

-- NEW ROWS e FROM OLD ROWS d. The row w after a move of y and the row v after a move of x, with a tail behind it, answer each other:
-- their norms are equal, and they are equal by the new rows if the norm of y falls, else by the old ones
pub record Answers (ns : List ℕ) (d e : Rows) (y : ℕ) (tail w v : List ℕ) : Type 0 where
  pub norm : sum_of ns w ≡ sum_of ns v + sum_of ns tail
  pub by_new : sum_of ns w < get_or ns y 0 → expand e w ≡ expand e (v ++ tail)
  pub by_old : get_or ns y 0 ≤ sum_of ns w → expand d w ≡ expand d (v ++ tail)

-- x with the tail behind it fits y: they are equal by the old rows, and their rules answer each other both ways
pub record Fits (t : Table) (ns : List ℕ) (d e : Rows) (y x : ℕ) (tail : List ℕ) : Type 0 where
  pub equal : d y ≡ expand d (x ∷ tail)
  pub forth : (a : ℕ) (w : List ℕ) → HasRule t y a w → (v : List ℕ) × HasRule t x a v × Answers ns d e y tail w v
  pub back : (a : ℕ) (v : List ℕ) → HasRule t x a v → (w : List ℕ) × HasRule t y a w × Answers ns d e y tail w v

-- the tail of x: that end of the expansion of the jobs after y's first norm-lowering rule which has the norm that x leaves to y
pub record Tail (t : Table) (ns : List ℕ) (e : Rows) (y x : ℕ) (tail : List ℕ) : Type 0 where
  pub front : List ℕ
  pub parts : expand e (lowering ns t.rules y) ≡ front ++ tail
  pub norm : get_or ns x 0 + sum_of ns tail ≡ get_or ns y 0

-- y is decomposed into x and its tail: x is an earlier job that is prime in the new rows, and fits
pub record Decomposes (t : Table) (ns : List ℕ) (d e : Rows) (y x : ℕ) (tail : List ℕ) : Type 0 where
  pub is_job : x < t.jobs
  pub earlier : precedes ns x y ≡ true
  pub prime : Alone e x
  pub ends : Tail t ns e y x tail
  pub fits : Fits t ns d e y x tail

-- THE NEW ROW of a job: an earlier prime that fits with its tail, or the job alone if none does. It speaks of the new rows of earlier
-- jobs only.
pub data NewRow (t : Table) (ns : List ℕ) (d e : Rows) (y : ℕ) : (row : List ℕ) → Type 0 where
  whole : ((x : ℕ) (tail : List ℕ) → Decomposes t ns d e y x tail → ⊥) → NewRow t ns d e y (y ∷ [])
  parted : (x : ℕ) (tail : List ℕ) → Decomposes t ns d e y x tail → NewRow t ns d e y (x ∷ tail)

-- the row of a job in e is its new row
abbrev pub Refined : Table → (norms : List ℕ) → (d e : Rows) → (job : ℕ) → Type 0
Refined t ns d e j = NewRow t ns d e j (e j)

-- A REFINEMENT of d
abbrev pub Refines : Table → (norms : List ℕ) → (d e : Rows) → Type 0
Refines t ns d e = (j : ℕ) → j < t.jobs → Refined t ns d e j

-- no prime is new
abbrev pub NoNewPrime : Table → (d e : Rows) → Type 0
NoNewPrime t d e = (j : ℕ) → j < t.jobs → Alone e j → Alone d j

-- WHAT THE LAST ROWS GIVE: prime forms of plans, and equality by them is the method's `same`
pub record Final (t : Table) (ns : List ℕ) (d : Rows) : Type 0 where
  pub decomposition : Decomposition t ns d
  pub form : (p : List ℕ) → over t p ≡ true → expand d p ≡ prime_form t p
  pub equal_same : (p q : List ℕ) → over t p ≡ true → over t q ≡ true → expand d p ≡ expand d q → same t p q ≡ true
  pub same_equal : (p q : List ℕ) → over t p ≡ true → over t q ≡ true → same t p q ≡ true → expand d p ≡ expand d q
