-- What is promised of two tables that are joined, and of the call that compares a plan of one with a plan of the other: statements, each a field of
-- EveryPromise and proved by a term of its name in small letters. Assumes nothing.
use Rattle.std.specs.Prelude.{◌≡◌, true, false, List, ◌++◌, map, ◌↔◌, ◌⊎◌, ℕ, ◌+◌, ◌<◌, ℤ, pos, length}
use Rattle.bpa.specs.Plans.{Table, over, Step}
use Rattle.bpa.specs.Norms.{norms, norm}
use Rattle.bpa.specs.Bisimilar.{Bisimilar}
use Rattle.bpa.specs.Method.{same}
use Rattle.refusal.specs.Refusals.{Accepted}
use Rattle.image.specs.Image.{image_refusal, table_in}
use Rattle.alike.specs.Alike.{Pair, replaced}
use Rattle.alike_list.specs.AlikeTables.{alike_table}
use Rattle.joined.specs.Joined.{renumbered, joined, OwnRules, BisimilarBetween, AnyBisimulationBetween, Renames}
use Rattle.joining.specs.JoinedBytes.{tables_refusal}
use Rattle.sameness.specs.SamenessCalls.{ComparedAlike}
use Rattle.two_tables.specs.TableCalls.{joined_table, ComparedTables}
use Rattle.promises.specs.Promises.{AcceptedImage}

-- REFUSAL 15 is given exactly if the two tables have more than 24 jobs or more than 252 rules together
unfoldable pub FifteenExactly : Type 0
FifteenExactly =
    (t u : Table) → (tables_refusal t u ≡ 15) ↔ ((24 < t.jobs + u.jobs) ⊎ (252 < length t.rules + length u.rules))

-- THE JOINED TABLE. Each rule of an accepted image is of one of its own jobs, so that no rule of the first table becomes one of the second's jobs
unfoldable pub ImagesOwn : Type 0
ImagesOwn = (bs : List ℕ) → image_refusal bs ≡ 0 → OwnRules (table_in bs)

-- it is accepted if both are, and its norms are theirs
unfoldable pub JoinedAccepted : Type 0
JoinedAccepted = (t u : Table) → OwnRules t → Accepted t → Accepted u → Accepted (joined t u)

unfoldable pub JoinedNorms : Type 0
JoinedNorms = (t u : Table) → OwnRules t → Accepted t → Accepted u → norms (joined t u) ≡ norms t ++ norms u

-- plans of either are plans of it, with their own norms
unfoldable pub JoinedPlans : Type 0
JoinedPlans =
    (t u : Table) (p q : List ℕ) → OwnRules t → Accepted t → Accepted u →
    (over t p ≡ true → (over (joined t u) p ≡ true) × (norm (joined t u) p ≡ norm t p))
    × (over (joined t u) (renumbered t.jobs q) ≡ over u q) × (norm (joined t u) (renumbered t.jobs q) ≡ norm u q)

-- and step as in their own table
unfoldable pub LeftSteps : Type 0
LeftSteps = (t u : Table) (p : List ℕ) (a : ℕ) (q : List ℕ) → over t p ≡ true → Step (joined t u) p a q ↔ Step t p a q

unfoldable pub RightSteps : Type 0
RightSteps =
    (t u : Table) (p : List ℕ) (a : ℕ) (r : List ℕ) → OwnRules t →
    Step (joined t u) (renumbered t.jobs p) a r ↔ ((q : List ℕ) × Step u p a q × (r ≡ renumbered t.jobs q))

-- so plans of one table are the same in it exactly if they are in their own
unfoldable pub LeftSame : Type 0
LeftSame =
    (t u : Table) (p q : List ℕ) → OwnRules t → Accepted t → Accepted u → over t p ≡ true → over t q ≡ true →
    Bisimilar (joined t u) p q ↔ Bisimilar t p q

unfoldable pub RightSame : Type 0
RightSame =
    (t u : Table) (p q : List ℕ) → OwnRules t → Accepted t → Accepted u → over u p ≡ true → over u q ≡ true →
    Bisimilar (joined t u) (renumbered t.jobs p) (renumbered t.jobs q) ↔ Bisimilar u p q

-- PLANS OF TWO TABLES are the same in the joined one exactly if some bisimulation between the two tables, each with its own steps, relates them
unfoldable pub JoinedBetween : Type 0
JoinedBetween =
    (t u : Table) (p q : List ℕ) → OwnRules t → Accepted t → Accepted u → over t p ≡ true →
    Bisimilar (joined t u) p (renumbered t.jobs q) ↔ BisimilarBetween t u p q

-- and no relation at all, computable or not, relates plans that are told apart
unfoldable pub BetweenApartFromAll : Type 1
BetweenApartFromAll =
    (t u : Table) (p q : List ℕ) → OwnRules t → Accepted t → Accepted u → over t p ≡ true → over u q ≡ true →
    same (joined t u) p (renumbered t.jobs q) ≡ false →
    (R : List ℕ → List ℕ → Type 0) → AnyBisimulationBetween t u R → R p q → ⊥

-- an alike list acts on both tables
unfoldable pub JoinedReplaced : Type 0
JoinedReplaced = (ps : List Pair) (t u : Table) → replaced ps (joined t u) ≡ joined (replaced ps t) (replaced ps u)

-- TWO COPIES of one table: as over the one
unfoldable pub TwoCopies : Type 0
TwoCopies =
    (t : Table) (p q : List ℕ) → OwnRules t → Accepted t → over t p ≡ true → over t q ≡ true →
    same (joined t t) p (renumbered t.jobs q) ≡ same t p q

-- a table written with other jobs: as over that one, and so each plan is the same as the one with the new names of its jobs
unfoldable pub RenamedTable : Type 0
RenamedTable =
    (f : ℕ → ℕ) (t u : Table) (p q : List ℕ) → Renames f t u → OwnRules t → Accepted t → Accepted u → over t p ≡ true → over u q ≡ true →
    same (joined t u) p (renumbered t.jobs q) ≡ same u (map f p) q

unfoldable pub RenamedSame : Type 0
RenamedSame =
    (f : ℕ → ℕ) (t u : Table) (p : List ℕ) → Renames f t u → OwnRules t → Accepted t → Accepted u → over t p ≡ true →
    same (joined t u) p (renumbered t.jobs (map f p)) ≡ true

-- exchanged tables: the same answer
unfoldable pub TablesExchanged : Type 0
TablesExchanged =
    (t u : Table) (p q : List ℕ) → OwnRules t → OwnRules u → Accepted t → Accepted u → over t p ≡ true → over u q ≡ true →
    same (joined t u) p (renumbered t.jobs q) ≡ same (joined u t) q (renumbered u.jobs p)

-- OF THE CALL. 1 exactly if some bisimulation on the joined table, its moves replaced by the list, relates the left plan and the renumbered right one, and
-- 0 exactly if none does
unfoldable pub TablesCompareTells : Type 0
TablesCompareTells =
    (bs cs ls p q s s' : List ℕ) (n : ℕ) → ComparedTables bs cs ls p q s (pos n) s' →
    ((n ≡ 1) ↔ Bisimilar (joined_table bs cs ls) p (renumbered (table_in bs).jobs q))
    × ((n ≡ 0) ↔ (Bisimilar (joined_table bs cs ls) p (renumbered (table_in bs).jobs q) → ⊥))

-- the same without the joined table: by bisimulations between the two tables under the list
unfoldable pub TablesCompareBetween : Type 0
TablesCompareBetween =
    (bs cs ls p q s s' : List ℕ) (n : ℕ) → ComparedTables bs cs ls p q s (pos n) s' →
    ((n ≡ 1) ↔ BisimilarBetween (alike_table bs ls) (alike_table cs ls) p q)
    × ((n ≡ 0) ↔ (BisimilarBetween (alike_table bs ls) (alike_table cs ls) p q → ⊥))

-- two copies of an image that fit together: number and workspace of the ordinary comparison, whatever is refused
unfoldable pub CopiesCompared : Type 0
CopiesCompared =
    (bs ls p q s : List ℕ) (r : ℤ) (s' : List ℕ) → tables_refusal (table_in bs) (table_in bs) ≡ 0 →
    ComparedTables bs bs ls p q s r s' ↔ ComparedAlike bs ls p q s r s'

-- exchanged images and plans: an answer that is no refusal stays
unfoldable pub ExchangedCompared : Type 0
ExchangedCompared =
    (bs cs ls p q s s' : List ℕ) (n : ℕ) (r : ℤ) (s'' : List ℕ) → ComparedTables bs cs ls p q s (pos n) s' → ComparedTables cs bs ls q p s r s'' → r ≡ pos n

-- two accepted images that fit together: the joined table has an accepted image too
unfoldable pub JoinedImage : Type 0
JoinedImage =
    (bs cs : List ℕ) → AcceptedImage bs → AcceptedImage cs → tables_refusal (table_in bs) (table_in cs) ≡ 0 →
    (js : List ℕ) × AcceptedImage js × (table_in js ≡ joined (table_in bs) (table_in cs))

-- and the ordinary comparison over it answers the same
unfoldable pub JoinedImageCompared : Type 0
JoinedImageCompared =
    (bs cs js ls p q s s' v v' : List ℕ) (n m : ℕ) → table_in js ≡ joined (table_in bs) (table_in cs) →
    ComparedTables bs cs ls p q s (pos n) s' → ComparedAlike js ls p (renumbered (table_in bs).jobs q) v (pos m) v' → n ≡ m
