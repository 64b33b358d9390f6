-- What is promised of the numbers that the calls give back and of the bytes that they write: statements, each a field of
-- EveryPromise and proved by a term of its name in small letters. A call with a result is one that no check refused. Assumes nothing.
use Rattle.std.specs.Prelude.{◌≡◌, true, ◌↔◌, ◌⊎◌, ℕ, ◌+◌, ◌-◌, ◌≤◌, ◌<◌, ℤ, pos, length, get_or, take, drop}
use mathlib.Core.List.{List, [], ◌∷◌, Memᴰ}
use Rattle.bpa.specs.Plans.{Step}
use Rattle.bpa.specs.Norms.{Fewest}
use Rattle.bpa.specs.Bisimilar.{Bisimilar, Lowest, Form}
use Rattle.area.specs.Numbers.{number_at}
use Rattle.image.specs.Image.{image_refusal, table_in}
use Rattle.moves.specs.Shown.{shown}
use Rattle.moves.specs.Moves.{move_bytes}
use Rattle.table.specs.CallRefusals.{one_plan}
use Rattle.images.specs.ImageCalls.{Read, Written}
use Rattle.plans.specs.PlanCalls.{Normed, Moved}
use Rattle.sameness.specs.SamenessCalls.{Compared}
use Rattle.prime_forms.specs.FormCalls.{Formed}
use Rattle.promises.specs.Promises.{all_bytes}

-- what reading an image wrote, written again, is the image byte for byte
unfoldable pub ImageSurvives : Type 0
ImageSurvives =
    (bs o o' u u' : List ℕ) (n : ℕ) (r : ℤ) → all_bytes bs ≡ true → Read bs o (pos n) o' →
    Written (get_or o' 0 0) (take (n - 1) (drop 1 o')) u r u' → length bs ≤ length u →
    (r ≡ pos (length bs)) × (take (length bs) u' ≡ bs)

-- what writing a table wrote, read again, is the table byte for byte
unfoldable pub TableSurvives : Type 0
TableSurvives =
    (jobs : ℕ) (rs o o' u u' : List ℕ) (n : ℕ) (r : ℤ) → all_bytes rs ≡ true → Written jobs rs o (pos n) o' →
    Read (take n o') u r u' → length (jobs ∷ rs) ≤ length u →
    (r ≡ pos (length (jobs ∷ rs))) × (take (length (jobs ∷ rs)) u' ≡ jobs ∷ rs)

-- the norm given back is the fewest moves to the empty plan
unfoldable pub NormGiven : Type 0
NormGiven = (bs p : List ℕ) (n : ℕ) → Normed bs p (pos n) → Fewest (table_in bs) p n

-- the call for the n-th move writes the n-th move shown and answers 0 exactly if there is none; what it writes is a step: its move in
-- two bytes, then the remaining plan
unfoldable pub MoveWritten : Type 0
MoveWritten =
    (bs p o o' : List ℕ) (i n : ℕ) → Moved bs p i o (pos n) o' →
    (take n o' ≡ move_bytes (shown (table_in bs) p) i)
    × ((n ≡ 0) ↔ ((p ≡ []) ⊎ (length (shown (table_in bs) p) ≤ i)))
    × (all_bytes bs ≡ true → 0 < n → Step (table_in bs) p (number_at 0 (take n o')) (drop 2 (take n o')))

-- every step is written for some index, if the output area is long enough
unfoldable pub StepsWritten : Type 0
StepsWritten =
    (bs p q : List ℕ) (a : ℕ) → all_bytes bs ≡ true → one_plan bs p ≡ 0 → Step (table_in bs) p a q →
    (i : ℕ) × ((o o' : List ℕ) (r : ℤ) (n : ℕ) → n ≡ 2 + length q → n ≤ length o → Moved bs p i o r o' →
    (r ≡ pos n) × (number_at 0 (take n o') ≡ a) × (drop 2 (take n o') ≡ q))

-- and for one index only: no two indexes write the same
unfoldable pub MovesWrittenOnce : Type 0
MovesWrittenOnce =
    (bs p o o' u u' : List ℕ) (i k n : ℕ) → all_bytes bs ≡ true → Moved bs p i o (pos n) o' → Moved bs p k u (pos n) u' → 0 < n →
    take n o' ≡ take n u' → i ≡ k

-- compare answers 1 exactly for bisimilar plans and 0 exactly for others, whatever the workspaces held
unfoldable pub CompareTells : Type 0
CompareTells =
    (bs p q s s' : List ℕ) (n : ℕ) → Compared bs p q s (pos n) s' →
    ((n ≡ 1) ↔ Bisimilar (table_in bs) p q) × ((n ≡ 0) ↔ (Bisimilar (table_in bs) p q → ⊥))

-- THE THIRD DEMAND of the bytes. What is written is the prime form of the plan, and no bisimilar plan has more jobs
unfoldable pub FormWritten : Type 0
FormWritten =
    (bs p o o' s s' : List ℕ) (n : ℕ) → Formed bs p o s (pos n) o' s' →
    Form (table_in bs) p (take n o') × (length (take n o') ≡ n)
    × ((q : List ℕ) → Bisimilar (table_in bs) q p → length q ≤ n)

-- a lowest prime is written as the form of the plan of it alone, and no other job stands in a written form
unfoldable pub StandsWritten : Type 0
StandsWritten =
    (bs : List ℕ) (j : ℕ) → image_refusal bs ≡ 0 → j < (table_in bs).jobs →
    (Lowest (table_in bs) j → (o o' s s' : List ℕ) (r : ℤ) → 1 ≤ length o → 65536 ≤ length s →
    Formed bs (j ∷ []) o s r o' s' → (r ≡ pos 1) × (take 1 o' ≡ j ∷ []))
    × ((p o o' s s' : List ℕ) (n : ℕ) → Formed bs p o s (pos n) o' s' → Memᴰ j (take n o') → Lowest (table_in bs) j)

-- two prime forms written from one image are equal exactly if the plans are bisimilar
unfoldable pub FormsWritten : Type 0
FormsWritten =
    (bs p q o o' s s' u u' v v' : List ℕ) (n m : ℕ) → Formed bs p o s (pos n) o' s' → Formed bs q u v (pos m) u' v' →
    (take n o' ≡ take m u') ↔ Bisimilar (table_in bs) p q
