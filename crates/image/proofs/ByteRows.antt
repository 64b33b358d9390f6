-- Rows of bytes: their parts are rows of bytes, and so are the rules in an image. Assumes nothing.
use mathlib.Core.Path.{◌≡◌}
use mathlib.Core.Bool.{true}
use mathlib.Core.List.{List, []}
use Prim.Native.Nat.{ℕ, zero, suc, ◌+◌, ◌*◌, ◌≤◌, ◌<◌}
use native.Mathlib.Omega.{arith}
use lib.ListN.{length, get_or, take, drop, take-append-drop}
use lib.Seq.{get_or-take}
use Rattle.bpa.specs.Plans.{Table, all_below, over}
use Rattle.bpa.proofs.Basics.Plans.{over_none, over_append, over_left, over_right}
use Rattle.bpa.proofs.Basics.JobsBelow.{below_at}
use Rattle.rules.specs.Places.{rule_count}
use Rattle.rules.proofs.PlaceLaws.{room}
use Rattle.image.specs.Image.{block, blocks_in, rules_in_block, block_places, places_from, image_places}

-- bytes are the jobs of a table of 256
abbrev pub bytes : Table
bytes = record { jobs = 256; rules = [] }

pub byte_take : (k : ℕ) (xs : List ℕ) → over bytes xs ≡ true → over bytes (take k xs) ≡ true
byte_take k xs h = over_left bytes (take k xs) (drop k xs) (rw take-append-drop h)

pub byte_drop : (k : ℕ) (xs : List ℕ) → over bytes xs ≡ true → over bytes (drop k xs) ≡ true
byte_drop k xs h = over_right bytes (take k xs) (drop k xs) (rw take-append-drop h)

byte_places : (n k : ℕ) (bs : List ℕ) → over bytes bs ≡ true → over bytes (places_from n k bs) ≡ true
unfolding places_from block_places block
byte_places zero k bs h = over_none bytes
byte_places (suc n) k bs h =
    let x = take 512 (drop (512 * k) bs) in
    over_append bytes (take (8 * rules_in_block x) (drop 2 x)) (places_from n (suc k) bs)
    (byte_take (8 * rules_in_block x) (drop 2 x) (byte_drop 2 x (byte_take 512 (drop (512 * k) bs) (byte_drop (512 * k) bs h))))
    (byte_places n (suc k) bs h)

pub places_bytes : (bs : List ℕ) → all_below 256 bs ≡ true → all_below 256 (image_places bs) ≡ true
unfolding over image_places
places_bytes bs h = byte_places (blocks_in bs) 0 bs h

-- byte k of the place of a rule
pub place_byte : (bs : List ℕ) → all_below 256 bs ≡ true → (i k : ℕ) → i < rule_count (image_places bs) → k < 8 → get_or (image_places bs) (8 * i + k) 0 < 256
place_byte bs h i k l m = below_at 256 (image_places bs) (8 * i + k) (places_bytes bs h) (omega (arith, room (image_places bs) i l))

-- byte 1 of the first place of a row
pub first_low : (xs : List ℕ) → all_below 256 xs ≡ true → 8 ≤ length xs → get_or (take 8 xs) 1 0 < 256
first_low xs h l = omega (arith, get_or-take 8 xs 1 0 (omega arith), below_at 256 xs 1 h (omega arith))
