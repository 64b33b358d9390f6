-- What planlook reads, as bytes: an image, and pairs of plans. Of a plan there are two bytes of its length and then its jobs; its part of the
-- input holds 4,098 bytes, and a pair's input is its left plan's part and then its right plan's. Assumes nothing: these are definitions.
use Rattle.std.specs.Prelude.{◌≡◌, cond, ◌⊎◌, List, ℕ, zero, suc, ◌*◌, ◌≤◌, ◌<◌, leb, ltb, take, drop}
use Rattle.area.specs.Numbers.{number_at}
use Rattle.look_input.specs.declared.Got.{Got}
use Rattle.look_input.specs.declared.Got.TheVariants.{End, Cut, Long, Plan}

-- the size of an image by its first block, which has the number of blocks at 508: 1 to 4, else there is no image
unfoldable pub image_size : (area : List ℕ) → ℕ
image_size bs = cond (leb (number_at 508 bs) 4) (512 * number_at 508 bs) 0

-- the same once `count` bytes of that block came, and the size of an image once `count` of its bytes did: 0 where some are missing
unfoldable pub block_got : (count : ℕ) → (area : List ℕ) → ℕ
block_got k bs = cond (ltb k 512) 0 (image_size bs)

unfoldable pub image_got : (count size : ℕ) → ℕ
image_got k n = cond (ltb k n) 0 n

-- AN IMAGE THAT WAS READ has the size that its first block says; 0 is none
pub record ImageRead (area : List ℕ) (r : ℕ) : Type 0 where
  pub within : r ≤ 2048
  pub size : (r ≡ 0) ⊎ (r ≡ image_size area)

-- how many jobs a plan has, and which
unfoldable pub plan_length : (part : List ℕ) → ℕ
plan_length p = number_at 0 p

unfoldable pub plan_in : (part : List ℕ) → List ℕ
plan_in p = take (plan_length p) (drop 2 p)

-- the parts of a pair's input
abbrev pub left_part : (input : List ℕ) → List ℕ
left_part i = take 4098 i

abbrev pub right_part : (input : List ℕ) → List ℕ
right_part i = take 4098 (drop 4098 i)

-- what stands where a plan should be, once `count` bytes of its length came, and once `count` of its jobs did
unfoldable pub length_got : (count length : ℕ) → Got
length_got zero n = End
length_got (suc zero) n = Cut
length_got (suc (suc k)) n = cond (leb n 4096) (Plan n) Long

unfoldable pub jobs_got : (count length : ℕ) → Got
jobs_got k n = cond (ltb k n) Cut (Plan n)

-- WHAT A PLAN'S PART HOLDS once it was read. How many bytes came no contract can say, so nothing is said of an end and of a cut plan.
unfoldable pub Reads : Got → (part : List ℕ) → Type 0
Reads End p = Unit
Reads Cut p = Unit
Reads Long p = 4096 < plan_length p
Reads (Plan n) p = (n ≡ plan_length p) × (n ≤ 4096)

-- where the right plan of a pair is missing, the pair is cut
abbrev pub right_end : Got → Got
right_end End = Cut
right_end Cut = Cut
right_end Long = Long
right_end (Plan n) = Plan n

-- what a pair comes to: its left plan where that is not whole, else its right one
unfoldable pub pair_got : (left right : Got) → Got
pair_got End r = End
pair_got Cut r = Cut
pair_got Long r = Long
pair_got (Plan n) r = right_end r

-- A PAIR that was read
pub record PairRead (left right : Got) (input : List ℕ) : Type 0 where
  pub left_read : Reads left (left_part input)
  pub right_read : Reads right (right_part input)
