-- A second table joined to a first, as bytes, and refusal 15. Assumes nothing: these are definitions.
use Rattle.std.specs.Prelude.{◌≡◌, true, ◌||◌, cond, List, [], ◌∷◌, ℕ, ◌+◌, ◌*◌, ◌-◌, ◌≤◌, ◌<◌, ltb, length, get_or}
use Rattle.bpa.specs.Plans.{Table}
use Rattle.rules.specs.Places.{place_good, places_good, changed_places, rule_count}

-- REFUSAL 15: together the two tables have more than 24 jobs, or more than 252 rules as they are written
unfoldable pub tables_refusal : (t u : Table) → ℕ
tables_refusal t u = cond (ltb 24 (t.jobs + u.jobs) || ltb 252 (length t.rules + length u.rules)) 15 0

-- the same by the number of jobs and the bytes of the rules
unfoldable pub sizes_refusal : (jobs bytes : ℕ) → ℕ
sizes_refusal n e = cond (ltb 24 n || ltb 2016 e) 15 0

-- A PLACE WHOSE JOBS ARE NUMBERED ON: its job, and as many bytes of its row as it names jobs
abbrev pub numbered_on : (jobs count k byte : ℕ) → ℕ
numbered_on n c k x = cond (ltb k c) (n + x) x

unfoldable pub renumbered_place : (jobs : ℕ) → (place : List ℕ) → List ℕ
renumbered_place n y =
    let on : (k : ℕ) → ℕ = λ k. numbered_on n (get_or y 2 0) k (get_or y (3 + k) 0) in
    (n + get_or y 0 0) ∷ get_or y 1 0 ∷ get_or y 2 0 ∷ on 0 ∷ on 1 ∷ on 2 ∷ on 3 ∷ get_or y 7 0 ∷ []

-- and all places of a row
abbrev pub renumbered_places : (jobs : ℕ) → (places : List ℕ) → List ℕ
renumbered_places n xs = changed_places (renumbered_place n) (rule_count xs) xs

-- a good place whose jobs stay bytes when they are numbered on from so many
pub record GoodPlace (jobs : ℕ) (place : List ℕ) : Type 0 where
  pub size : length place ≡ 8
  pub bound : ℕ
  pub few : jobs + bound ≤ 256
  pub good : place_good bound place ≡ true

-- and a row of such places
pub record GoodPlaces (jobs : ℕ) (places : List ℕ) : Type 0 where
  pub whole : length places ≡ 8 * rule_count places
  pub bound : ℕ
  pub few : jobs + bound ≤ 256
  pub good : places_good (rule_count places) bound places ≡ true

-- THE NORMS of a second table behind those of a first
unfoldable pub norm_of : (first : List ℕ) → (jobs : ℕ) → (second : List ℕ) → (job : ℕ) → ℕ
norm_of ns n ms j = cond (ltb j n) (get_or ns j 0) (get_or ms (j - n) 0)

pub record JoinsNorms (first : List ℕ) (jobs : ℕ) (second norms : List ℕ) : Type 0 where
  pub size : length norms ≡ 24
  pub at : (j : ℕ) → j < 24 → get_or norms j 0 ≡ norm_of first jobs second j
