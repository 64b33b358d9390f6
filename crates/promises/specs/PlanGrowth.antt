-- What is promised of what a plan can become: statements, each a field of EveryPromise and proved by a term of its name in small letters. Assumes
-- nothing.
use Rattle.std.specs.Prelude.{◌≡◌, true, false, List, [], ◌↔◌, ◌⊎◌, ℕ, ◌+◌, ◌*◌, ◌/◌, ◌%◌, ◌≤◌, pos, length}
use Rattle.bpa.specs.Plans.{Table, over}
use Rattle.bpa.specs.Bisimilar.{Bisimilar}
use Rattle.refusal.specs.Refusals.{Accepted}
use Rattle.image.specs.Image.{table_in}
use Rattle.first_run.specs.FirstRun.{SameRules}
use Rattle.alike.specs.Alike.{Pair, replaced}
use Rattle.growth.specs.Growth.{Finite, Endless, ManyApart, ReachesJob, SomeComesRound, Bounded, Unbounded, JobCount, GrowthSays}
use Rattle.growth.specs.Reached.{has, members, reached, grows, growth}
use Rattle.plan_growth.specs.GrowthCalls.{Grown}

-- FINITE OR ENDLESS. Every plan is one of the two, and none is both
unfoldable pub FiniteOrEndless : Type 0
FiniteOrEndless = (t : Table) (p : List ℕ) → Accepted t → over t p ≡ true → Finite t p ⊎ Endless t p

unfoldable pub NeverFiniteEndless : Type 0
NeverFiniteEndless = (t : Table) (p : List ℕ) → Finite t p → Endless t p → ⊥

-- THE CUSTOMER'S TEST decides: a plan is endless exactly if some job that it can reach can come round to itself with further jobs behind it
unfoldable pub RoundDecides : Type 0
RoundDecides =
    (t : Table) (p : List ℕ) → Accepted t → over t p ≡ true →
    (Endless t p ↔ SomeComesRound t p) × (Finite t p ↔ (SomeComesRound t p → ⊥))

-- and so does what is computed
unfoldable pub GrowthDecides : Type 0
GrowthDecides =
    (t : Table) (p : List ℕ) → Accepted t → over t p ≡ true → ((grows t p ≡ true) ↔ Endless t p) × ((grows t p ≡ false) ↔ Finite t p)

-- an endless plan can become as long as one likes, and no other can
unfoldable pub EndlessLong : Type 0
EndlessLong = (t : Table) (p : List ℕ) → Accepted t → over t p ≡ true → Endless t p ↔ Unbounded t p

-- and as many plans as one likes of which no two are the same
unfoldable pub EndlessMany : Type 0
EndlessMany = (t : Table) (p : List ℕ) → Endless t p → (n : ℕ) → ManyApart t p n

-- plans that are the same are both endless or both finite
unfoldable pub SameGrowth : Type 0
SameGrowth =
    (t : Table) (p q : List ℕ) → Accepted t → Bisimilar t p q → (Endless t p ↔ Endless t q) × (Finite t p ↔ Finite t q)

-- THE JOBS. What is found are the jobs that stand in the plan or in a plan that it can become
unfoldable pub ReachedExactly : Type 0
ReachedExactly =
    (t : Table) (p : List ℕ) → Accepted t → over t p ≡ true → (j : ℕ) → (has (reached t p) j ≡ true) ↔ ReachesJob t p j

-- they are counted, and there is one such number
unfoldable pub JobsCounted : Type 0
JobsCounted = (t : Table) (p : List ℕ) → Accepted t → over t p ≡ true → JobCount t p (length (members (reached t p)))

unfoldable pub CountSingle : Type 0
CountSingle = (t : Table) (p : List ℕ) (n m : ℕ) → JobCount t p n → JobCount t p m → n ≡ m

-- nothing depends on the order of the rules, nor on how often each is written
unfoldable pub GrowthReordered : Type 0
GrowthReordered =
    (t u : Table) (p : List ℕ) → Accepted t → Accepted u → t.jobs ≡ u.jobs → SameRules t u → over t p ≡ true →
    growth t p ≡ growth u p

-- and no alike list would change it
unfoldable pub AlikeGrowth : Type 0
AlikeGrowth = (ps : List Pair) (t : Table) (p : List ℕ) → growth (replaced ps t) p ≡ growth t p

-- OF THE CALL. The number is odd exactly if the plan is endless and even exactly if it is finite, and half of it is the number of jobs that the plan can
-- reach
unfoldable pub GrowthTold : Type 0
GrowthTold = (bs p : List ℕ) (n : ℕ) → Grown bs p (pos n) → GrowthSays (table_in bs) p n

-- a plan that is finite never has more jobs than its own and three for each job that it can reach
unfoldable pub GrowthBounded : Type 0
GrowthBounded =
    (bs p : List ℕ) (n : ℕ) → Grown bs p (pos n) → n % 2 ≡ 0 → Bounded (table_in bs) p (3 * (n / 2) + length p)

-- the empty plan is finite with no job, and no number is above 49
unfoldable pub GrowthOfNone : Type 0
GrowthOfNone = (bs : List ℕ) (n : ℕ) → Grown bs [] (pos n) → n ≡ 0

unfoldable pub GrowthSmall : Type 0
GrowthSmall = (bs p : List ℕ) (n : ℕ) → Grown bs p (pos n) → n ≤ 49
