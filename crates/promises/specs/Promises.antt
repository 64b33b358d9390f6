-- What is promised of images, tables, plans and prime forms: statements, each a field of EveryPromise and proved by a term of its
-- name in small letters. Promises about plans are over every accepted table, whatever it comes from; that of an accepted image is
-- one. Assumes nothing.
use Rattle.std.specs.Prelude.{◌≡◌, Bool, true, false, ◌↔◌, ◌⊎◌, ℕ, ◌≤◌, ◌<◌, length, drop}
use mathlib.Core.List.{List, [], ◌∷◌, ◌++◌, Memᴰ}
use Rattle.bpa.specs.Plans.{Rule, Table, Move, all_below, over, HasRule, Step, moves}
use Rattle.bpa.specs.Norms.{norm, Fewest, NeverEnds}
use Rattle.bpa.specs.Bisimilar.{Approx, AnyBisimulation, Bisimilar, Lowest, Form}
use Rattle.bpa.specs.Method.{same, prime_form}
use Rattle.area.specs.Numbers.{low_first}
use Rattle.rules.specs.Places.{table_of, table_bytes}
use Rattle.refusal.specs.Refusals.{table_refusal, plan_refusal, plans_refusal, Closed, Accepted}
use Rattle.image.specs.Image.{layout_refusal, image_refusal, image_jobs, image_places, table_in}
use Rattle.image.specs.Writing.{list_refusal, write_refusal, written}
use Rattle.moves.specs.Shown.{shown, At, ByFirstPlaces, move_by}
use Rattle.moves.specs.Moves.{move_bytes}

unfoldable pub all_bytes : List ℕ → Bool
all_bytes xs = all_below 256 xs

-- bytes of an image that no refusal meets
pub record AcceptedImage (bs : List ℕ) : Type 0 where
  pub bytes : all_bytes bs ≡ true
  pub passed : image_refusal bs ≡ 0

-- IMAGES AND TABLES
-- an accepted image survives reading and writing byte for byte: by the table that it holds
unfoldable pub ImageBack : Type 0
ImageBack =
    (bs : List ℕ) → AcceptedImage bs →
    (write_refusal (table_in bs).jobs (drop 1 (table_bytes (table_in bs))) ≡ 0)
    × (written (table_in bs).jobs (drop 1 (table_bytes (table_in bs))) ≡ bs)

-- and by its places as they stand in its blocks
unfoldable pub PlacesBack : Type 0
PlacesBack =
    (bs : List ℕ) → AcceptedImage bs →
    (write_refusal (image_jobs bs) (image_places bs) ≡ 0) × (written (image_jobs bs) (image_places bs) ≡ bs)

-- two accepted images hold the same table exactly if they are equal byte for byte
unfoldable pub ImagesTell : Type 0
ImagesTell = (bs cs : List ℕ) → AcceptedImage bs → AcceptedImage cs → (table_in bs ≡ table_in cs) ↔ (bs ≡ cs)

-- an accepted table survives writing and reading
unfoldable pub TableBack : Type 0
TableBack =
    (n : ℕ) (rs : List ℕ) → all_bytes rs ≡ true → write_refusal n rs ≡ 0 →
    AcceptedImage (written n rs) × (table_bytes (table_in (written n rs)) ≡ n ∷ rs)

-- SOURCES OF TABLES
-- past refusals 2 to 5 the table of an image is closed, and refused as any other; once it passes, it is accepted
unfoldable pub ImageTable : Type 0
ImageTable =
    (bs : List ℕ) →
    (layout_refusal bs ≡ 0 → Closed (table_in bs) × (image_refusal bs ≡ table_refusal (table_in bs)))
    × (image_refusal bs ≡ 0 → Accepted (table_in bs))

-- and the same of a job count with a list of rules
unfoldable pub ListTable : Type 0
ListTable =
    (n : ℕ) (rs : List ℕ) →
    (list_refusal n rs ≡ 0 → Closed (table_of n rs) × (write_refusal n rs ≡ table_refusal (table_of n rs)))
    × (write_refusal n rs ≡ 0 → Accepted (table_of n rs))

-- REFUSALS 6 TO 9 are given for their conditions only
-- some job has no run to its end
abbrev pub SomeNeverEnds : Table → Type 0
SomeNeverEnds t = (j : ℕ) × (j < t.jobs) × NeverEnds t (j ∷ [])

-- each job has one, and the shortest of some job is longer than 512
abbrev pub SomeAbove512 : Table → Type 0
SomeAbove512 t =
    ((j : ℕ) → j < t.jobs → (v : ℕ) × Fewest t (j ∷ []) v)
    × ((j : ℕ) × (j < t.jobs) × (v : ℕ) × Fewest t (j ∷ []) v × (512 < v))

-- of a closed table, of an image, and of what the writer is given
unfoldable pub SixExactly : Type 0
SixExactly = (t : Table) → Closed t → (table_refusal t ≡ 6) ↔ SomeNeverEnds t

unfoldable pub ImageSix : Type 0
ImageSix = (bs : List ℕ) → (image_refusal bs ≡ 6) ↔ ((layout_refusal bs ≡ 0) × SomeNeverEnds (table_in bs))

unfoldable pub WriterSix : Type 0
WriterSix = (n : ℕ) (rs : List ℕ) → (write_refusal n rs ≡ 6) ↔ ((list_refusal n rs ≡ 0) × SomeNeverEnds (table_of n rs))

unfoldable pub SevenExactly : Type 0
SevenExactly = (t : Table) → Closed t → (table_refusal t ≡ 7) ↔ SomeAbove512 t

unfoldable pub ImageSeven : Type 0
ImageSeven = (bs : List ℕ) → (image_refusal bs ≡ 7) ↔ ((layout_refusal bs ≡ 0) × SomeAbove512 (table_in bs))

unfoldable pub WriterSeven : Type 0
WriterSeven =
    (n : ℕ) (rs : List ℕ) → (write_refusal n rs ≡ 7) ↔ ((list_refusal n rs ≡ 0) × SomeAbove512 (table_of n rs))

-- a plan is refused by 8 exactly if it names a job that is not there
unfoldable pub EightExactly : Type 0
EightExactly = (t : Table) (p : List ℕ) → (plan_refusal t p ≡ 8) ↔ (over t p ≡ false)

-- a plan whose shortest run is longer than 4,096 moves
abbrev pub Above4096 : Table → (plan : List ℕ) → Type 0
Above4096 t p = (v : ℕ) × Fewest t p v × (4096 < v)

-- and by 9 exactly if it names none, and its shortest run is longer than 4,096 moves
unfoldable pub NineExactly : Type 0
NineExactly = (t : Table) (p : List ℕ) → Accepted t → (plan_refusal t p ≡ 9) ↔ ((over t p ≡ true) × Above4096 t p)

-- two plans are refused by 8 exactly if either names such a job, and by 9 exactly if neither does and either is so long
unfoldable pub EightOfTwo : Type 0
EightOfTwo = (t : Table) (p q : List ℕ) → (plans_refusal t p q ≡ 8) ↔ ((over t p ≡ false) ⊎ (over t q ≡ false))

unfoldable pub NineOfTwo : Type 0
NineOfTwo =
    (t : Table) (p q : List ℕ) → Accepted t →
    (plans_refusal t p q ≡ 9) ↔ ((over t p ≡ true) × (over t q ≡ true) × (Above4096 t p ⊎ Above4096 t q))

-- NORMS

-- the norm is the fewest moves to the empty plan
unfoldable pub NormFewest : Type 0
NormFewest = (t : Table) (p : List ℕ) → Accepted t → over t p ≡ true → Fewest t p (norm t p)

-- MOVES
-- (a, q) is among the moves of x followed by β exactly if some rule of x has move a and q is its jobs followed by β
unfoldable pub MovesExactly : Type 0
MovesExactly =
    (t : Table) (x : ℕ) (β : List ℕ) (a : ℕ) (q : List ℕ) →
    Memᴰ {A = Move} (record { move = a; rest = q }) (moves t (x ∷ β)) ↔ ((w : List ℕ) × HasRule t x a w × (q ≡ w ++ β))

-- the moves shown are those of the list of moves
unfoldable pub ShownMembers : Type 0
ShownMembers = (t : Table) (p : List ℕ) (m : Move) → Memᴰ m (shown t p) ↔ Memᴰ m (moves t p)

-- no combination of move and remaining plan is shown twice
unfoldable pub ShownOnce : Type 0
ShownOnce = (t : Table) (p : List ℕ) (m : Move) (i k : ℕ) → At (shown t p) i m → At (shown t p) k m → i ≡ k

-- each is shown at its first place: what is shown earlier stands first at an earlier place of the list of moves
unfoldable pub ShownInOrder : Type 0
ShownInOrder = (t : Table) (p : List ℕ) → ByFirstPlaces (moves t p) (shown t p)

-- and no other list has the same members and that order
unfoldable pub ShownOnly : Type 0
ShownOnly =
    (t : Table) (p : List ℕ) (l : List Move) → ((m : Move) → Memᴰ m l ↔ Memᴰ m (moves t p)) → ByFirstPlaces (moves t p) l →
    l ≡ shown t p

-- two rules of a job give one combination exactly if their moves and rows are equal, whatever waits behind the job
unfoldable pub OneCombination : Type 0
OneCombination = (r s : Rule) (js : List ℕ) → (move_by r js ≡ move_by s js) ↔ ((r.move ≡ s.move) × (r.after ≡ s.after))

-- each step is the n-th move shown for some n below their number: its move in two bytes, then the remaining plan
unfoldable pub StepsListed : Type 0
StepsListed =
    (t : Table) (p q : List ℕ) (a : ℕ) → Step t p a q →
    (n : ℕ) × (n < length (shown t p)) × (move_bytes (shown t p) n ≡ low_first a ++ q)

-- there is no n-th move exactly if the plan is empty, or n is not below the number of moves shown
unfoldable pub NoSuchMove : Type 0
NoSuchMove = (t : Table) (p : List ℕ) (n : ℕ) → (move_bytes (shown t p) n ≡ []) ↔ ((p ≡ []) ⊎ (length (shown t p) ≤ n))

-- moves keep a plan over its table
unfoldable pub MovesOver : Type 0
MovesOver =
    (t : Table) (p q : List ℕ) (a : ℕ) → Accepted t → over t p ≡ true → Step t p a q → over t q ≡ true

-- SAMENESS
unfoldable pub SameExactly : Type 0
SameExactly =
    (t : Table) (p q : List ℕ) → Accepted t → over t p ≡ true → over t q ≡ true →
    (same t p q ≡ true) ↔ Bisimilar t p q

-- no bisimulation, computable or not, relates plans that are apart: the relations are all those valued in Type 0
unfoldable pub ApartFromAll : Type 1
ApartFromAll =
    (t : Table) (p q : List ℕ) → Accepted t → over t p ≡ true → over t q ≡ true →
    same t p q ≡ false → (R : List ℕ → List ℕ → Type 0) → AnyBisimulation t R → R p q → ⊥

-- plans that are the same match for every number of rounds; for plans that are apart some number tells them
unfoldable pub RoundsTell : Type 0
RoundsTell =
    (t : Table) (p q : List ℕ) → Accepted t → over t p ≡ true → over t q ≡ true →
    (same t p q ≡ true → (n : ℕ) → Approx t n p q)
    × (same t p q ≡ false → (n : ℕ) × (Approx t n p q → ⊥))

unfoldable pub SameNorm : Type 0
SameNorm = (t : Table) (p q : List ℕ) → Accepted t → Bisimilar t p q → norm t p ≡ norm t q

-- bisimilar plans may be put for one another, and equal parts may be taken away on either side (000's 2.1 and 2.2)
unfoldable pub Congruence : Type 0
Congruence =
    (t : Table) (p p' q q' : List ℕ) → Accepted t → Bisimilar t p p' → Bisimilar t q q' →
    Bisimilar t (p ++ q) (p' ++ q')

unfoldable pub Cancellation : Type 0
Cancellation =
    (t : Table) (p q r : List ℕ) → Accepted t →
    (Bisimilar t (r ++ p) (r ++ q) → Bisimilar t p q)
    × (Bisimilar t (p ++ r) (q ++ r) → Bisimilar t p q)

-- PRIME FORMS
-- each plan over the table has a prime form, the one that `prime-form` gives, and no other
unfoldable pub FormThere : Type 0
FormThere =
    (t : Table) (p : List ℕ) → Accepted t → over t p ≡ true → Form t p (prime_form t p)

unfoldable pub FormSingle : Type 0
FormSingle = (t : Table) (p f : List ℕ) → Accepted t → Form t p f → f ≡ prime_form t p

-- the prime form of a prime form is itself
unfoldable pub FormSettled : Type 0
FormSettled =
    (t : Table) (p : List ℕ) → Accepted t → over t p ≡ true →
    prime_form t (prime_form t p) ≡ prime_form t p

-- two forms are equal job for job exactly for bisimilar plans
unfoldable pub FormsTell : Type 0
FormsTell =
    (t : Table) (p q f g : List ℕ) → Accepted t → Form t p f → Form t q g → (f ≡ g) ↔ Bisimilar t p q

-- no bisimilar plan has more jobs
unfoldable pub FormLongest : Type 0
FormLongest =
    (t : Table) (p f q : List ℕ) → Accepted t → Form t p f → Bisimilar t q p → length q ≤ length f

-- a job stands in the prime form of some accepted plan exactly if nothing of two or more jobs and no lower job is bisimilar to it
unfoldable pub StandsExactly : Type 0
StandsExactly =
    (t : Table) (j : ℕ) → Accepted t → j < t.jobs →
    (Lowest t j →
    (p : List ℕ) × (over t p ≡ true) × (norm t p ≤ 4096) × (f : List ℕ) × Form t p f × Memᴰ j f)
    × ((p f : List ℕ) → Form t p f → Memᴰ j f → Lowest t j)
