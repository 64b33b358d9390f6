-- Places: a rule as 8 bytes, and a list of them as a table. Assumes nothing: these are definitions.
use Rattle.std.specs.Prelude.{Bool, true, ◌&&◌, List, [], ◌∷◌, ◌++◌, ℕ, zero, suc, ◌+◌, ◌*◌, ◌-◌, ◌/◌, ◌%◌, ltb, leb, eqb, length, get_or, take, drop, replicate}
use Rattle.area.specs.Areas.{put}
use Rattle.bpa.specs.Plans.{Rule, Table, all_below}

unfoldable pub all_zero : List ℕ → Bool
all_zero [] = true
all_zero (b ∷ bs) = eqb b 0 && all_zero bs

-- A place: job, low byte of the move, number of jobs after, four bytes for those jobs, high byte of the move.
-- THE MOVE of a place: no other definition of today's format reads one
unfoldable pub move_in : (place : List ℕ) → ℕ
move_in xs = get_or xs 1 0 + 256 * get_or xs 7 0

-- the place with another move
unfoldable pub with_move : (move : ℕ) → (place : List ℕ) → List ℕ
with_move v xs = put 7 ((v / 256) ∷ []) (put 1 ((v % 256) ∷ []) xs)

-- its rule, if it is good
unfoldable pub rule_in : (place : List ℕ) → Rule
rule_in xs = record { job = get_or xs 0 0; move = move_in xs; after = take (get_or xs 2 0) (drop 3 xs) }

-- jobs are below the count, at most four stand after, and zeros stand where no job is named
unfoldable pub place_good : (jobs : ℕ) → (place : List ℕ) → Bool
place_good n xs =
    (ltb (get_or xs 0 0) n && leb (get_or xs 2 0) 4)
    && (all_below n (take (get_or xs 2 0) (drop 3 xs)) && all_zero (drop (3 + get_or xs 2 0) (take 7 xs)))

-- so many places in a row, each with what is asked of one
unfoldable pub each_place : (check : List ℕ → Bool) → (left : ℕ) → List ℕ → Bool
each_place f zero xs = true
each_place f (suc k) xs = f (take 8 xs) && each_place f k (drop 8 xs)

-- and each of them changed
unfoldable pub changed_places : (change : List ℕ → List ℕ) → (left : ℕ) → List ℕ → List ℕ
changed_places f zero xs = []
changed_places f (suc k) xs = f (take 8 xs) ++ changed_places f k (drop 8 xs)

unfoldable pub places_good : (left : ℕ) → (jobs : ℕ) → List ℕ → Bool
places_good k n xs = each_place (place_good n) k xs

unfoldable pub rules_in : (left : ℕ) → List ℕ → List Rule
rules_in zero xs = []
rules_in (suc k) xs = rule_in (take 8 xs) ∷ rules_in k (drop 8 xs)

-- the rule at a position of a list of 8-byte rules
unfoldable pub rule_at : (rules : List ℕ) → (i : ℕ) → Rule
rule_at rs i = rule_in (take 8 (drop (8 * i) rs))

-- THE TABLE of a job count and a list of 8-byte rules
unfoldable pub rule_count : (rules : List ℕ) → ℕ
rule_count rs = length rs / 8

unfoldable pub table_of : (jobs : ℕ) → (rules : List ℕ) → Table
table_of n rs = record { jobs = n; rules = rules_in (rule_count rs) rs }

-- a table as bytes: the job count, then each rule as a place
unfoldable pub place_of : Rule → List ℕ
place_of r =
    r.job ∷ (r.move % 256) ∷ length r.after ∷ (r.after ++ (replicate (4 - length r.after) 0 ++ (r.move / 256 ∷ [])))

unfoldable pub places_of : List Rule → List ℕ
places_of [] = []
places_of (r ∷ rs) = place_of r ++ places_of rs

unfoldable pub table_bytes : Table → List ℕ
table_bytes t = t.jobs ∷ places_of t.rules
