-- What is promised of images and tables of both ages, before moves had two bytes and since: statements, each a field of EveryPromise and proved by
-- a term of its name in small letters. The old reader and the old writer are those of `crates/old_format`. Assumes nothing.
use Rattle.std.specs.Prelude.{◌≡◌, true, List, ◌∷◌, ◌↔◌, ℕ, ◌+◌, ◌*◌, ◌≤◌, ◌<◌, ℤ, pos, length, get_or, take, drop}
use Rattle.bpa.specs.Plans.{HasRule}
use Rattle.rules.specs.Places.{rule_count, table_of}
use Rattle.image.specs.Image.{layout_refusal, image_refusal, image_places, table_in}
use Rattle.image.specs.Writing.{write_refusal, written}
use Rattle.old_format.specs.OldFormat.{old_table_of, old_table_bytes, old_layout_refusal, old_table_in, old_image_refusal, old_list_refusal, old_write_refusal}
use Rattle.images.specs.ImageCalls.{Read, Written}
use Rattle.promises.specs.Promises.{all_bytes}

-- OLD IMAGES MEAN WHAT THEY MEANT: unless the old reader answers 5, today's answers the same, and past refusals 2 to 5 it sees the same table
unfoldable pub OldImagesSame : Type 0
OldImagesSame =
    (bs : List ℕ) → (old_image_refusal bs ≡ 5 → ⊥) →
    (image_refusal bs ≡ old_image_refusal bs) × (old_layout_refusal bs ≡ 0 → table_in bs ≡ old_table_in bs)

-- and so for the writers
unfoldable pub OldListsSame : Type 0
OldListsSame =
    (n : ℕ) (rs : List ℕ) → (old_write_refusal n rs ≡ 5 → ⊥) →
    (write_refusal n rs ≡ old_write_refusal n rs) × (old_list_refusal n rs ≡ 0 → table_of n rs ≡ old_table_of n rs)

-- A LARGER MOVE IS NEVER A WRONG MOVE: an image past refusals 2 to 5 today meets refusal 5 in the old reader exactly if byte 7 of some place in use
-- is not zero
unfoldable pub LargerMeetsFive : Type 0
LargerMeetsFive =
    (bs : List ℕ) → layout_refusal bs ≡ 0 →
    (old_image_refusal bs ≡ 5) ↔ ((i : ℕ) × (i < rule_count (image_places bs)) × (0 < get_or (image_places bs) (8 * i + 7) 0))

-- that is: exactly if some rule of its table has a move above 255
unfoldable pub LargerMovesMeetFive : Type 0
LargerMovesMeetFive =
    (bs : List ℕ) → all_bytes bs ≡ true → layout_refusal bs ≡ 0 →
    (old_image_refusal bs ≡ 5) ↔ ((j a : ℕ) × (w : List ℕ) × HasRule (table_in bs) j a w × (255 < a))

-- ROUND TRIPS. Image-back and Table-back are of every accepted image and table, whatever its age. Beside them: the bytes that the old reader gave for an
-- image, written today, are that image
unfoldable pub OldImageBack : Type 0
OldImageBack =
    (bs : List ℕ) → all_bytes bs ≡ true → old_image_refusal bs ≡ 0 →
    (write_refusal (old_table_in bs).jobs (drop 1 (old_table_bytes (old_table_in bs))) ≡ 0)
    × (written (old_table_in bs).jobs (drop 1 (old_table_bytes (old_table_in bs))) ≡ bs)

-- and the image written today from a table that the old writer took is accepted by the old reader and holds that table there
unfoldable pub OldTableBack : Type 0
OldTableBack =
    (n : ℕ) (rs : List ℕ) → all_bytes rs ≡ true → old_write_refusal n rs ≡ 0 →
    (old_image_refusal (written n rs) ≡ 0) × (old_table_bytes (old_table_in (written n rs)) ≡ n ∷ rs)

-- the same of the bytes that the calls write: reading gives what the old reader gave
unfoldable pub OldImageRead : Type 0
OldImageRead =
    (bs o o' : List ℕ) (r : ℤ) (n : ℕ) → all_bytes bs ≡ true → old_image_refusal bs ≡ 0 → Read bs o r o' →
    n ≡ length (old_table_bytes (old_table_in bs)) → n ≤ length o → (r ≡ pos n) × (take n o' ≡ old_table_bytes (old_table_in bs))

-- and what writing wrote, the old reader accepts with that table
unfoldable pub OldTableWritten : Type 0
OldTableWritten =
    (jobs : ℕ) (rs o o' : List ℕ) (n : ℕ) → all_bytes rs ≡ true → old_write_refusal jobs rs ≡ 0 → Written jobs rs o (pos n) o' →
    (old_image_refusal (take n o') ≡ 0) × (old_table_bytes (old_table_in (take n o')) ≡ jobs ∷ rs)
