-- THE OLD FORMAT, of images written and read before moves had two bytes: a move was byte 1 of its place, and byte 7 was zero. Refusals 2 to 4
-- and what stands where are those of today. Assumes nothing: these are definitions.
use Rattle.std.specs.Prelude.{Bool, ◌&&◌, not, cond, List, [], ◌∷◌, ◌++◌, ℕ, zero, suc, ◌+◌, ◌*◌, ◌-◌, ◌%◌, ltb, leb, eqb, length, get_or, take, drop, replicate}
use Rattle.bpa.specs.Plans.{Rule, Table, all_below}
use Rattle.answer.specs.Refusals.{or_else}
use Rattle.rules.specs.Places.{all_zero, each_place, rule_count}
use Rattle.refusal.specs.Refusals.{table_refusal}
use Rattle.image.specs.Image.{block, blocks_in, rules_in_block, each_block, length_good, sum_good, head_good, image_jobs, image_places}

-- the rule of a place, and the table of a list of rules
unfoldable pub old_rule_in : (place : List ℕ) → Rule
old_rule_in xs = record { job = get_or xs 0 0; move = get_or xs 1 0; after = take (get_or xs 2 0) (drop 3 xs) }

unfoldable pub old_rules_in : (left : ℕ) → List ℕ → List Rule
old_rules_in zero xs = []
old_rules_in (suc k) xs = old_rule_in (take 8 xs) ∷ old_rules_in k (drop 8 xs)

unfoldable pub old_table_of : (jobs : ℕ) → (rules : List ℕ) → Table
old_table_of n rs = record { jobs = n; rules = old_rules_in (rule_count rs) rs }

-- a table as bytes
unfoldable pub old_place_of : Rule → List ℕ
old_place_of r = r.job ∷ r.move ∷ length r.after ∷ (r.after ++ replicate (5 - length r.after) 0)

unfoldable pub old_places_of : List Rule → List ℕ
old_places_of [] = []
old_places_of (r ∷ rs) = old_place_of r ++ old_places_of rs

unfoldable pub old_table_bytes : Table → List ℕ
old_table_bytes t = t.jobs ∷ old_places_of t.rules

-- OLD CHECK 5: zeros behind the jobs up to the end of the place
unfoldable pub old_place_good : (jobs : ℕ) → (place : List ℕ) → Bool
old_place_good n xs =
    (ltb (get_or xs 0 0) n && leb (get_or xs 2 0) 4)
    && (all_below n (take (get_or xs 2 0) (drop 3 xs)) && all_zero (drop (3 + get_or xs 2 0) (take 8 xs)))

unfoldable pub old_places_good : (left : ℕ) → (jobs : ℕ) → List ℕ → Bool
old_places_good k n xs = each_place (old_place_good n) k xs

unfoldable pub old_places_of_block : (jobs : ℕ) → (block : List ℕ) → Bool
old_places_of_block n x =
    old_places_good (rules_in_block x) n (drop 2 x)
    && all_zero (take (504 - 8 * rules_in_block x) (drop (2 + 8 * rules_in_block x) x))

unfoldable pub old_block_good : (image : List ℕ) → (k : ℕ) → Bool
old_block_good bs k = old_places_of_block (get_or bs 0 0) (block k bs)

-- THE OLD READER: refusals 2 to 5, the table, refusals 2 to 7
unfoldable pub old_layout_refusal : (image : List ℕ) → ℕ
old_layout_refusal bs =
    cond (not (length_good bs)) 2
    (cond (not (each_block (sum_good bs) (blocks_in bs) 0)) 3
    (cond (not (each_block (head_good bs) (blocks_in bs) 0)) 4
    (cond (not (each_block (old_block_good bs) (blocks_in bs) 0)) 5 0)))

unfoldable pub old_table_in : (image : List ℕ) → Table
old_table_in bs = old_table_of (image_jobs bs) (image_places bs)

unfoldable pub old_image_refusal : (image : List ℕ) → ℕ
old_image_refusal bs = or_else (old_layout_refusal bs) (table_refusal (old_table_in bs))

-- THE OLD WRITER: refusals 2, 4 and 5, and then 6 and 7; the image that it wrote is today's
unfoldable pub old_list_refusal : (jobs : ℕ) → (rules : List ℕ) → ℕ
old_list_refusal n rs =
    cond (not (eqb (length rs % 8) 0 && (leb 1 (rule_count rs) && leb (rule_count rs) 252))) 2
    (cond (not (leb 1 n && leb n 24)) 4 (cond (not (old_places_good (rule_count rs) n rs)) 5 0))

unfoldable pub old_write_refusal : (jobs : ℕ) → (rules : List ℕ) → ℕ
old_write_refusal n rs = or_else (old_list_refusal n rs) (table_refusal (old_table_of n rs))
