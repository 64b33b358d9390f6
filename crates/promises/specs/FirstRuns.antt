-- What is promised of the first shortest run: statements, each a field of EveryPromise and proved by a term of its name in small letters.
-- Assumes nothing.
use Rattle.std.specs.Prelude.{◌≡◌, true, List, ℕ, ◌*◌, ℤ, pos, length, take}
use Rattle.bpa.specs.Plans.{Table, over}
use Rattle.bpa.specs.Norms.{norm, Fewest}
use Rattle.area.specs.Numbers.{numbers_in}
use Rattle.refusal.specs.Refusals.{Accepted}
use Rattle.image.specs.Image.{image_refusal, table_in}
use Rattle.first_run.specs.FirstRun.{First, SameRules, first_run}
use Rattle.plans.specs.PlanCalls.{RanFirst}
use Rattle.promises.specs.Promises.{all_bytes}

-- `first_run` leads to the empty plan, no run that does is shorter, and each that is as short is equal to it or comes after it in dictionary
-- order of move numbers
unfoldable pub RunFirst : Type 0
RunFirst = (t : Table) (p : List ℕ) → Accepted t → over t p ≡ true → First t p (first_run t p)

-- it has as many moves as the norm
unfoldable pub RunCount : Type 0
RunCount = (t : Table) (p : List ℕ) → Accepted t → over t p ≡ true → length (first_run t p) ≡ norm t p

-- there is no other, in any table
unfoldable pub RunSingle : Type 0
RunSingle = (t : Table) (p u v : List ℕ) → First t p u → First t p v → u ≡ v

-- THE ORDER OF THE RULES does not matter, nor how often each is written: tables with the same rules have the same first runs
unfoldable pub RulesReordered : Type 0
RulesReordered =
    (t u : Table) (p : List ℕ) → Accepted t → Accepted u → t.jobs ≡ u.jobs → SameRules t u → over t p ≡ true →
    first_run t p ≡ first_run u p

-- OF THE CALL. The moves written, two bytes each, are the first shortest run, and no run to the empty plan has fewer
unfoldable pub RunWritten : Type 0
RunWritten =
    (bs p o o' : List ℕ) (n : ℕ) → all_bytes bs ≡ true → RanFirst bs p o (pos n) o' →
    First (table_in bs) p (numbers_in (take n o')) × (length (take n o') ≡ n)
    × ((v : ℕ) × (n ≡ 2 * v) × Fewest (table_in bs) p v)

-- for two accepted images with the same rules it gives the same number and leaves the same bytes, refused or not
unfoldable pub ReorderedWritten : Type 0
ReorderedWritten =
    (bs cs p o o' o'' : List ℕ) (r s : ℤ) → image_refusal bs ≡ 0 → image_refusal cs ≡ 0 → (table_in bs).jobs ≡ (table_in cs).jobs →
    SameRules (table_in bs) (table_in cs) → RanFirst bs p o r o' → RanFirst cs p o s o'' → (r ≡ s) × (o' ≡ o'')
