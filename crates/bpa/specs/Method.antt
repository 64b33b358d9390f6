-- The method of 000 on lists: candidates, the judge of two plans, the base by rounds, prime rows. Assumes nothing: these are definitions.
use Rattle.std.specs.Prelude.{Bool, true, false, ◌&&◌, ◌||◌, cond, List, [], ◌∷◌, ◌++◌, ℕ, zero, suc, ltb, eqb, length, get_or}
use Rattle.std.proofs.Math.Option.{Option, none, some}
use Rattle.bpa.specs.Plans.{Rule, Table, Move, moves}
use Rattle.bpa.specs.Norms.{sum_of, norms}

-- the order of jobs: by norm, then by number
unfoldable pub precedes : (norms : List ℕ) → (x y : ℕ) → Bool
precedes ns x y = ltb (get_or ns x 0) (get_or ns y 0) || (eqb (get_or ns x 0) (get_or ns y 0) && ltb x y)

-- CANDIDATES. The jobs after the first rule, in image order, that lowers the norm of a job by one.
unfoldable pub lowering : (norms : List ℕ) → List Rule → (job : ℕ) → List ℕ
lowering ns [] j = []
lowering ns (r ∷ rs) j = cond (eqb r.job j && eqb (get_or ns j 0) (suc (sum_of ns r.after))) r.after (lowering ns rs j)

-- the plan reached by so many such steps
unfoldable pub lower_by : (norms : List ℕ) → List Rule → (steps : ℕ) → (plan : List ℕ) → List ℕ
lower_by ns rs zero p = p
lower_by ns rs (suc v) [] = []
lower_by ns rs (suc v) (j ∷ js) = lower_by ns rs v (lowering ns rs j ++ js)

-- the pair of the greater job y with the lesser job x says: y is bisimilar to x followed by this plan
unfoldable pub candidate : Table → (norms : List ℕ) → (y x : ℕ) → List ℕ
candidate t ns y x = lower_by ns t.rules (get_or ns x 0) (y ∷ [])

-- EXPANSIONS. Each job stands for a row of jobs; at first for itself.
abbrev pub Rows : Type 0
Rows = ℕ → List ℕ

unfoldable pub itself : Rows
itself j = j ∷ []

unfoldable pub expand : Rows → (plan : List ℕ) → List ℕ
expand e [] = []
expand e (j ∷ js) = e j ++ expand e js

unfoldable pub replace : (job : ℕ) → (by : List ℕ) → (row : List ℕ) → List ℕ
replace h w [] = []
replace h w (j ∷ js) = cond (eqb j h) (w ++ replace h w js) (j ∷ replace h w js)

-- the greater job y replaced everywhere by its pair with the lesser job x
unfoldable pub grow : (cand : ℕ → ℕ → List ℕ) → Rows → (y x : ℕ) → Rows
grow c e y x j = replace y (x ∷ expand e (c y x)) (e j)

-- THE JUDGE. The leftmost place in which two plans differ.
pub data Difference : Type 0 where
  equal : Difference
  ends : Difference
  differ : (left right : ℕ) → Difference

unfoldable pub first_difference : (p q : List ℕ) → Difference
first_difference [] [] = equal
first_difference [] (y ∷ ys) = ends
first_difference (x ∷ xs) [] = ends
first_difference (x ∷ xs) (y ∷ ys) = cond (eqb x y) (first_difference xs ys) (differ x y)

-- a base holds pairs: greater job, then lesser job
abbrev pub Base : Type 0
Base = ℕ → ℕ → Bool

-- a plan that ends first is apart; else the greater of the two jobs is replaced, if its pair with the lesser is in the base
unfoldable pub turn : (norms : List ℕ) → (cand : ℕ → ℕ → List ℕ) → Base → (go_on : Rows → Bool) → Rows → Difference → Bool
turn ns c b k e equal = true
turn ns c b k e ends = false
turn ns c b k e (differ x y) = cond (precedes ns x y) (b y x && k (grow c e y x)) (b x y && k (grow c e x y))

unfoldable pub judge : (norms : List ℕ) → (cand : ℕ → ℕ → List ℕ) → Base → (fuel : ℕ) → Rows → (p q : List ℕ) → Bool
judge ns c b zero e p q = turn ns c b (λ e'. false) e (first_difference (expand e p) (expand e q))
judge ns c b (suc n) e p q = turn ns c b (λ e'. judge ns c b n e' p q) e (first_difference (expand e p) (expand e q))

-- with fuel for each job: a job that was replaced never comes back
unfoldable pub judged : Table → (norms : List ℕ) → Base → (p q : List ℕ) → Bool
judged t ns b p q = judge ns (candidate t ns) b t.jobs itself p q

-- THE BASE. The moves of two plans are matched both ways, the remainders judged.
unfoldable pub answered : (judge : List ℕ → List ℕ → Bool) → Move → List Move → Bool
answered f m [] = false
answered f m (n ∷ ns) = (eqb m.move n.move && f m.rest n.rest) || answered f m ns

unfoldable pub all_answered : (judge : List ℕ → List ℕ → Bool) → List Move → List Move → Bool
all_answered f [] ns = true
all_answered f (m ∷ ms) ns = answered f m ns && all_answered f ms ns

unfoldable pub matched : Table → (judge : List ℕ → List ℕ → Bool) → (p q : List ℕ) → Bool
matched t f p q = all_answered f (moves t p) (moves t q) && all_answered f (moves t q) (moves t p)

unfoldable pub fits : Table → (norms : List ℕ) → Base → (y x : ℕ) → Bool
fits t ns b y x = matched t (judged t ns b) (y ∷ []) (x ∷ candidate t ns y x)

pub record Pair : Type 0 where
  pub greater : ℕ
  pub lesser : ℕ

unfoldable pub holds : List Pair → Base
holds [] y x = false
holds (p ∷ ps) y x = (eqb p.greater y && eqb p.lesser x) || holds ps y x

unfoldable pub pairs_of : (norms : List ℕ) → (y : ℕ) → (below : ℕ) → List Pair
pairs_of ns y zero = []
pairs_of ns y (suc x) = cond (precedes ns x y) (record { greater = y; lesser = x } ∷ pairs_of ns y x) (pairs_of ns y x)

unfoldable pub pairs_below : (norms : List ℕ) → (jobs below : ℕ) → List Pair
pairs_below ns n zero = []
pairs_below ns n (suc y) = pairs_of ns y n ++ pairs_below ns n y

-- the first base: each job with each job that precedes it
unfoldable pub first_base : Table → (norms : List ℕ) → List Pair
first_base t ns = pairs_below ns t.jobs t.jobs

-- a round keeps the pairs that fit by the base as it was at its start
unfoldable pub keep_fitting : (fit : ℕ → ℕ → Bool) → List Pair → List Pair
keep_fitting f [] = []
keep_fitting f (p ∷ ps) = cond (f p.greater p.lesser) (p ∷ keep_fitting f ps) (keep_fitting f ps)

unfoldable pub round : Table → (norms : List ℕ) → List Pair → List Pair
round t ns ps = keep_fitting (fits t ns (holds ps)) ps

-- rounds until one drops nothing
unfoldable pub refine : (fuel : ℕ) → Table → (norms : List ℕ) → List Pair → List Pair
refine zero t ns ps = ps
refine (suc n) t ns ps =
    elim (eqb (length (round t ns ps)) (length ps)) [ true ↦ ps | false ↦ refine n t ns (round t ns ps) ]

unfoldable pub final_base : Table → (norms : List ℕ) → Base
final_base t ns = holds (refine (length (first_base t ns)) t ns (first_base t ns))

-- PRIME ROWS. The first job, in the order of jobs, that a job is paired with in the base.
unfoldable pub first_of : (norms : List ℕ) → ℕ → Option ℕ → Option ℕ
first_of ns x none = some x
first_of ns x (some z) = cond (precedes ns x z) (some x) (some z)

unfoldable pub least_pair : (norms : List ℕ) → Base → (y : ℕ) → (below : ℕ) → Option ℕ
least_pair ns b y zero = none
least_pair ns b y (suc x) = cond (precedes ns x y && b y x) (first_of ns x (least_pair ns b y x)) (least_pair ns b y x)

-- a job as a row of primes; the fuel is at least its norm, which falls
unfoldable pub prime_row : Table → (norms : List ℕ) → Base → (fuel : ℕ) → (job : ℕ) → List ℕ
prime_row t ns b zero j = j ∷ []
prime_row t ns b (suc n) j =
    elim (least_pair ns b j t.jobs) [ none ↦ j ∷ [] | some x ↦ x ∷ expand (prime_row t ns b n) (candidate t ns j x) ]

unfoldable pub prime_rows : Table → (norms : List ℕ) → Base → Rows
prime_rows t ns b j = prime_row t ns b (get_or ns j 0) j

-- THE ANSWERS: whether two plans are bisimilar, and the prime form of a plan
unfoldable pub same : Table → (p q : List ℕ) → Bool
same t p q = judged t (norms t) (final_base t (norms t)) p q

unfoldable pub prime_form : Table → (plan : List ℕ) → List ℕ
prime_form t p = expand (prime_rows t (norms t) (final_base t (norms t))) p
