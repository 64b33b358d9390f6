-- What is promised of alike lists and of the calls that take one: statements, each a field of EveryPromise and proved by a term of its name in
-- small letters. Those about tables hold for every list of pairs, so for each that 12 and 13 let pass. Assumes nothing.
use Rattle.std.specs.Prelude.{◌≡◌, true, false, ◌↔◌, ◌⊎◌, ℕ, ◌/◌, ◌%◌, ◌≤◌, ◌<◌, ℤ, pos, length, take}
use mathlib.Core.List.{List, [], ◌∷◌, Memᴰ}
use Rattle.bpa.specs.Plans.{Table, over, Step}
use Rattle.bpa.specs.Norms.{norms, norm}
use Rattle.bpa.specs.Bisimilar.{Relation, Bisimulation, Bisimilar, AnyBisimulation, Lowest, Form}
use Rattle.bpa.specs.Method.{same, prime_form}
use Rattle.refusal.specs.Refusals.{plan_refusal, plans_refusal, Accepted}
use Rattle.alike.specs.Alike.{Pair, replace, replaced, FromTwice, FromAsTo, AlikeBisimulation, AnyAlikeBisimulation}
use Rattle.alike_list.specs.AlikeLists.{alike_pairs, alike_refusal}
use Rattle.alike_list.specs.AlikeTables.{alike_table, listed_refusal}
use Rattle.sameness.specs.SamenessCalls.{Compared, ComparedAlike}
use Rattle.prime_forms.specs.FormCalls.{Formed, FormedAlike}

-- REFUSALS 12 AND 13
-- 12 is given exactly if there are more than 32 pairs, or an unfinished one at the end
unfoldable pub TwelveExactly : Type 0
TwelveExactly = (ls : List ℕ) → (alike_refusal ls ≡ 12) ↔ ((32 < length ls / 4) ⊎ (0 < length ls % 4))

-- 13 is given exactly if 12 is not, and a from-move stands at two places or is the to-move of some pair
unfoldable pub ThirteenExactly : Type 0
ThirteenExactly =
    (ls : List ℕ) →
    (alike_refusal ls ≡ 13) ↔ ((alike_refusal ls ≡ 12 → ⊥) × (FromTwice (alike_pairs ls) ⊎ FromAsTo (alike_pairs ls)))

-- WHAT MOVES COUNT AS
-- by a list that passes, each from-move counts as its to-move, and each to-move as itself
unfoldable pub PairsReplace : Type 0
PairsReplace =
    (ls : List ℕ) → alike_refusal ls ≡ 0 → (p : Pair) → Memᴰ p (alike_pairs ls) →
    (replace (alike_pairs ls) p.from ≡ p.to) × (replace (alike_pairs ls) p.to ≡ p.to)

-- a move that is no from-move counts as itself
unfoldable pub OthersStay : Type 0
OthersStay = (ps : List Pair) (a : ℕ) → ((p : Pair) → Memᴰ p ps → p.from ≡ a → ⊥) → replace ps a ≡ a

-- what a move counts as counts as itself: one replacement is all there is
unfoldable pub ReplacedOnce : Type 0
ReplacedOnce =
    (ls : List ℕ) → alike_refusal ls ≡ 0 → (a : ℕ) →
    replace (alike_pairs ls) (replace (alike_pairs ls) a) ≡ replace (alike_pairs ls) a

-- THE REPLACED TABLE
-- without a list it is the table
unfoldable pub ReplacedNone : Type 0
ReplacedNone = (t : Table) → replaced [] t ≡ t

-- norms, plans over the table and goodness stay, and with them the refusals of plans
unfoldable pub ReplacedNorms : Type 0
ReplacedNorms = (ps : List Pair) (t : Table) → norms (replaced ps t) ≡ norms t

unfoldable pub ReplacedOver : Type 0
ReplacedOver = (ps : List Pair) (t : Table) (p : List ℕ) → over (replaced ps t) p ≡ over t p

unfoldable pub ReplacedAccepted : Type 0
ReplacedAccepted = (ps : List Pair) (t : Table) → Accepted (replaced ps t) ↔ Accepted t

unfoldable pub ReplacedRefusals : Type 0
ReplacedRefusals =
    (ps : List Pair) (t : Table) (p q : List ℕ) →
    (plan_refusal (replaced ps t) p ≡ plan_refusal t p) × (plans_refusal (replaced ps t) p q ≡ plans_refusal t p q)

-- its steps are those of the table, their moves replaced
unfoldable pub ReplacedSteps : Type 0
ReplacedSteps =
    (ps : List Pair) (t : Table) (p : List ℕ) (b : ℕ) (q : List ℕ) →
    Step (replaced ps t) p b q ↔ ((a : ℕ) × Step t p a q × (replace ps a ≡ b))

-- A BISIMULATION ON THE REPLACED TABLE is exactly one on the table in which moves match when they are equal after replacement, computable or not
unfoldable pub BisimulationsAlike : Type 0
BisimulationsAlike = (ps : List Pair) (t : Table) (rel : Relation) → Bisimulation (replaced ps t) rel ↔ AlikeBisimulation ps t rel

unfoldable pub AnyBisimulationsAlike : Type 1
AnyBisimulationsAlike =
    (ps : List Pair) (t : Table) (R : List ℕ → List ℕ → Type 0) → AnyBisimulation (replaced ps t) R ↔ AnyAlikeBisimulation ps t R

-- SAMENESS AND PRIME FORMS UNDER A LIST, each of one table with one list
-- plans that are the same without a list are the same under each
unfoldable pub SameStays : Type 0
SameStays = (ps : List Pair) (t : Table) (p q : List ℕ) → Bisimilar t p q → Bisimilar (replaced ps t) p q

unfoldable pub AlikeSameExactly : Type 0
AlikeSameExactly =
    (ps : List Pair) (t : Table) (p q : List ℕ) → Accepted t → over t p ≡ true → over t q ≡ true →
    (same (replaced ps t) p q ≡ true) ↔ Bisimilar (replaced ps t) p q

unfoldable pub AlikeApartFromAll : Type 1
AlikeApartFromAll =
    (ps : List Pair) (t : Table) (p q : List ℕ) → Accepted t → over t p ≡ true → over t q ≡ true →
    same (replaced ps t) p q ≡ false → (R : List ℕ → List ℕ → Type 0) → AnyBisimulation (replaced ps t) R → R p q → ⊥

unfoldable pub AlikeFormThere : Type 0
AlikeFormThere =
    (ps : List Pair) (t : Table) (p : List ℕ) → Accepted t → over t p ≡ true → Form (replaced ps t) p (prime_form (replaced ps t) p)

unfoldable pub AlikeFormSingle : Type 0
AlikeFormSingle =
    (ps : List Pair) (t : Table) (p f : List ℕ) → Accepted t → Form (replaced ps t) p f → f ≡ prime_form (replaced ps t) p

unfoldable pub AlikeFormsTell : Type 0
AlikeFormsTell =
    (ps : List Pair) (t : Table) (p q f g : List ℕ) → Accepted t → Form (replaced ps t) p f → Form (replaced ps t) q g →
    (f ≡ g) ↔ Bisimilar (replaced ps t) p q

unfoldable pub AlikeFormLongest : Type 0
AlikeFormLongest =
    (ps : List Pair) (t : Table) (p f q : List ℕ) → Accepted t → Form (replaced ps t) p f → Bisimilar (replaced ps t) q p →
    length q ≤ length f

unfoldable pub AlikeStandsExactly : Type 0
AlikeStandsExactly =
    (ps : List Pair) (t : Table) (j : ℕ) → Accepted t → j < t.jobs →
    (Lowest (replaced ps t) j →
    (p : List ℕ) × (over t p ≡ true) × (norm t p ≤ 4096) × (f : List ℕ) × Form (replaced ps t) p f × Memᴰ j f)
    × ((p f : List ℕ) → Form (replaced ps t) p f → Memᴰ j f → Lowest (replaced ps t) j)

-- OF THE CALLS. Without a list nothing differs
unfoldable pub NoListCompared : Type 0
NoListCompared = (bs p q s : List ℕ) (r : ℤ) (s' : List ℕ) → ComparedAlike bs [] p q s r s' ↔ Compared bs p q s r s'

unfoldable pub NoListFormed : Type 0
NoListFormed = (bs p o s : List ℕ) (r : ℤ) (o' s' : List ℕ) → FormedAlike bs [] p o s r o' s' ↔ Formed bs p o s r o' s'

-- 1 exactly for plans that are bisimilar under the list, and 0 exactly for others
unfoldable pub AlikeCompareTells : Type 0
AlikeCompareTells =
    (bs ls p q s s' : List ℕ) (n : ℕ) → ComparedAlike bs ls p q s (pos n) s' →
    ((n ≡ 1) ↔ Bisimilar (alike_table bs ls) p q) × ((n ≡ 0) ↔ (Bisimilar (alike_table bs ls) p q → ⊥))

-- the bytes written are the prime form of the plan under the list, and no plan that is bisimilar under it has more jobs
unfoldable pub AlikeFormWritten : Type 0
AlikeFormWritten =
    (bs ls p o o' s s' : List ℕ) (n : ℕ) → FormedAlike bs ls p o s (pos n) o' s' →
    Form (alike_table bs ls) p (take n o') × (length (take n o') ≡ n)
    × ((q : List ℕ) → Bisimilar (alike_table bs ls) q p → length q ≤ n)

-- which jobs stand in some form that is written under the list
unfoldable pub AlikeStandsWritten : Type 0
AlikeStandsWritten =
    (bs ls : List ℕ) (j : ℕ) → listed_refusal bs ls ≡ 0 → j < (alike_table bs ls).jobs →
    (Lowest (alike_table bs ls) j → (o o' s s' : List ℕ) (r : ℤ) → 1 ≤ length o → 65536 ≤ length s →
    FormedAlike bs ls (j ∷ []) o s r o' s' → (r ≡ pos 1) × (take 1 o' ≡ j ∷ []))
    × ((p o o' s s' : List ℕ) (n : ℕ) → FormedAlike bs ls p o s (pos n) o' s' → Memᴰ j (take n o') → Lowest (alike_table bs ls) j)

-- two prime forms written from one image under one list are equal exactly if the plans are bisimilar under it
unfoldable pub AlikeFormsWritten : Type 0
AlikeFormsWritten =
    (bs ls p q o o' s s' u u' v v' : List ℕ) (n m : ℕ) → FormedAlike bs ls p o s (pos n) o' s' → FormedAlike bs ls q u v (pos m) u' v' →
    (take n o' ≡ take m u') ↔ Bisimilar (alike_table bs ls) p q
