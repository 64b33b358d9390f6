-- Images: blocks, the table that they hold, and refusals 2 to 7. Assumes nothing: these are definitions.
use Rattle.std.specs.Prelude.{Bool, true, ◌&&◌, not, cond, List, [], ◌∷◌, ◌++◌, ℕ, zero, suc, ◌+◌, ◌*◌, ◌-◌, ◌/◌, ◌%◌, leb, eqb, length, get_or, take, drop}
use Rattle.area.specs.Numbers.{number_at}
use Rattle.bpa.specs.Plans.{Table}
use Rattle.rules.specs.Places.{all_zero, places_good, table_of}
use Rattle.answer.specs.Refusals.{or_else}
use Rattle.refusal.specs.Refusals.{table_refusal}

unfoldable pub byte_sum : List ℕ → ℕ
byte_sum [] = 0
byte_sum (b ∷ bs) = b + byte_sum bs

-- the checksum of a block: the sum of bytes 0 to 509, modulo the largest prime below 2 ^ 16
unfoldable pub checksum : (block : List ℕ) → ℕ
checksum x = byte_sum (take 510 x) % 65521

-- BLOCKS of 512 bytes
unfoldable pub block : (k : ℕ) → (image : List ℕ) → List ℕ
block k bs = take 512 (drop (512 * k) bs)

unfoldable pub blocks_in : (image : List ℕ) → ℕ
blocks_in bs = length bs / 512

-- the rules in a block, and the bytes of their places
unfoldable pub rules_in_block : (block : List ℕ) → ℕ
rules_in_block x = get_or x 1 0

unfoldable pub block_places : (block : List ℕ) → List ℕ
block_places x = take (8 * rules_in_block x) (drop 2 x)

-- the check passes for each block, from block k on
unfoldable pub each_block : (check : ℕ → Bool) → (left k : ℕ) → Bool
each_block f zero k = true
each_block f (suc n) k = f k && each_block f n (suc k)

-- CHECK 2: 1 to 4 whole blocks
unfoldable pub length_good : (image : List ℕ) → Bool
length_good bs = eqb (length bs % 512) 0 && (leb 1 (blocks_in bs) && leb (blocks_in bs) 4)

-- CHECK 3: the checksum
unfoldable pub sum_good : (image : List ℕ) → (k : ℕ) → Bool
sum_good bs k = eqb (number_at 510 (block k bs)) (checksum (block k bs))

-- CHECK 4: job count, rule count, number of the block, number of blocks
unfoldable pub rules_fit : (last : Bool) → (rules : ℕ) → Bool
rules_fit last r = cond last (leb 1 r && leb r 63) (eqb r 63)

unfoldable pub head_of : (jobs blocks k : ℕ) → (block : List ℕ) → Bool
head_of n b k x =
    ((leb 1 (get_or x 0 0) && leb (get_or x 0 0) 24) && eqb (get_or x 0 0) n)
    && (rules_fit (eqb (suc k) b) (rules_in_block x) && (eqb (number_at 506 x) k && eqb (number_at 508 x) b))

unfoldable pub head_good : (image : List ℕ) → (k : ℕ) → Bool
head_good bs k = head_of (get_or bs 0 0) (blocks_in bs) k (block k bs)

-- CHECK 5: the places in use, and zeros in the others
unfoldable pub places_of_block : (jobs : ℕ) → (block : List ℕ) → Bool
places_of_block n x =
    places_good (rules_in_block x) n (drop 2 x)
    && all_zero (take (504 - 8 * rules_in_block x) (drop (2 + 8 * rules_in_block x) x))

unfoldable pub block_good : (image : List ℕ) → (k : ℕ) → Bool
block_good bs k = places_of_block (get_or bs 0 0) (block k bs)

-- refusals 2 to 5, each over all blocks before the next
unfoldable pub layout_refusal : (image : List ℕ) → ℕ
layout_refusal bs =
    cond (not (length_good bs)) 2
    (cond (not (each_block (sum_good bs) (blocks_in bs) 0)) 3
    (cond (not (each_block (head_good bs) (blocks_in bs) 0)) 4
    (cond (not (each_block (block_good bs) (blocks_in bs) 0)) 5 0)))

-- THE TABLE of an image: its rules in order, as 8-byte places; it has a meaning once refusals 2 to 5 are past
unfoldable pub places_from : (left k : ℕ) → (image : List ℕ) → List ℕ
places_from zero k bs = []
places_from (suc n) k bs = block_places (block k bs) ++ places_from n (suc k) bs

unfoldable pub image_jobs : (image : List ℕ) → ℕ
image_jobs bs = get_or bs 0 0

unfoldable pub image_places : (image : List ℕ) → List ℕ
image_places bs = places_from (blocks_in bs) 0 bs

unfoldable pub table_in : (image : List ℕ) → Table
table_in bs = table_of (image_jobs bs) (image_places bs)

-- REFUSALS 2 TO 7 of an image
unfoldable pub image_refusal : (image : List ℕ) → ℕ
image_refusal bs = or_else (layout_refusal bs) (table_refusal (table_in bs))
