-- Plans with the same complete runs (equal sets of finite traces in 002). Assumes nothing: these are definitions.
use Rattle.std.specs.Prelude.{◌≡◌, Bool, true, false, ◌&&◌, List, [], ◌∷◌, ◌++◌, map, ◌↔◌, ◌⊎◌, ℕ, zero, suc}
use Rattle.bpa.specs.Plans.{Table, Move, Runs, moves}
use Rattle.moves.specs.Shown.{equal_plans}
use Rattle.alike.specs.Alike.{Pair, replace}

-- THE SAME COMPLETE RUNS: what leads one plan to the empty plan leads the other there too
abbrev pub SameRuns : Table → (p q : List ℕ) → Type 0
SameRuns t p q = (run : List ℕ) → Runs t p run [] ↔ Runs t q run []

-- under an alike list: for each complete run of p there is one of q whose moves count as the same, and the other way round
abbrev pub RunsAnswered : List Pair → Table → (p q : List ℕ) → Type 0
RunsAnswered ps t p q =
    (run : List ℕ) → Runs t p run [] → (other : List ℕ) × Runs t q other [] × (map (replace ps) run ≡ map (replace ps) other)

abbrev pub SameRunsAlike : List Pair → Table → (p q : List ℕ) → Type 0
SameRunsAlike ps t p q = RunsAnswered ps t p q × RunsAnswered ps t q p

-- A RUN THAT TELLS two plans: a complete run of one of them, and not of the other
abbrev pub OnlyLeft : Table → (p q run : List ℕ) → Type 0
OnlyLeft t p q run = Runs t p run [] × (Runs t q run [] → ⊥)

abbrev pub TellingRun : Table → (p q : List ℕ) → Type 0
TellingRun t p q = (run : List ℕ) × (OnlyLeft t p q run ⊎ OnlyLeft t q p run)

-- under an alike list: a complete run of one of them, and no complete run of the other has moves that count as the same
abbrev pub OnlyLeftAlike : List Pair → Table → (p q run : List ℕ) → Type 0
OnlyLeftAlike ps t p q run =
    Runs t p run [] × ((other : List ℕ) → Runs t q other [] → map (replace ps) run ≡ map (replace ps) other → ⊥)

abbrev pub TellingRunAlike : List Pair → Table → (p q : List ℕ) → Type 0
TellingRunAlike ps t p q = (run : List ℕ) × (OnlyLeftAlike ps t p q run ⊎ OnlyLeftAlike ps t q p run)

-- THE COMPLETE RUNS OF A PLAN that ends soon, as a list: by each move of a list, and then as told of what is left
unfoldable pub by_each : (told : List ℕ → List (List ℕ)) → List Move → List (List ℕ)
by_each f [] = []
by_each f (m ∷ ms) = map (λ (run : List ℕ). m.move ∷ run) (f m.rest) ++ by_each f ms

-- those with at most so many moves
unfoldable pub runs_within : Table → (most : ℕ) → (plan : List ℕ) → List (List ℕ)
runs_within t zero [] = [] ∷ []
runs_within t zero (j ∷ js) = []
runs_within t (suc n) [] = [] ∷ []
runs_within t (suc n) (j ∷ js) = by_each (runs_within t n) (moves t (j ∷ js))

-- whether no run of the plan goes on after so many moves
unfoldable pub each_rest : (test : List ℕ → Bool) → List Move → Bool
each_rest f [] = true
each_rest f (m ∷ ms) = f m.rest && each_rest f ms

unfoldable pub ends_within : Table → (most : ℕ) → (plan : List ℕ) → Bool
ends_within t zero [] = true
ends_within t zero (j ∷ js) = false
ends_within t (suc n) [] = true
ends_within t (suc n) (j ∷ js) = each_rest (ends_within t n) (moves t (j ∷ js))

-- whether the runs of two plans end so soon and are the same
unfoldable pub equal_lists : (l m : List (List ℕ)) → Bool
equal_lists [] [] = true
equal_lists [] (v ∷ m) = false
equal_lists (u ∷ l) [] = false
equal_lists (u ∷ l) (v ∷ m) = equal_plans u v && equal_lists l m

unfoldable pub same_runs_within : Table → (most : ℕ) → (p q : List ℕ) → Bool
same_runs_within t n p q = (ends_within t n p && ends_within t n q) && equal_lists (runs_within t n p) (runs_within t n q)
