-- The pairs of jobs that bases are about, and bases that are full at a level. Assumes nothing: these are definitions.
use Rattle.std.specs.Prelude.{◌≡◌, true, List, [], ◌∷◌, ℕ, ◌<◌}
use Rattle.bpa.specs.Plans.{Table, over}
use Rattle.bpa.specs.Bisimilar.{Approx}
use Rattle.bpa.specs.Method.{precedes, Base}

-- what holds of every two jobs of a table in this order: the pairs of bases, and what the judge asks for
abbrev pub OrderedPairs : Table → (norms : List ℕ) → (ℕ → ℕ → Type 0) → Type 0
OrderedPairs t ns P = (y x : ℕ) → y < t.jobs → x < t.jobs → precedes ns x y ≡ true → P y x

-- a base is full at a level if it holds each pair whose sides match for that many rounds, the lesser job followed by any plan
abbrev pub Full : Table → (norms : List ℕ) → (level : ℕ) → Base → Type 0
Full t ns n b = OrderedPairs t ns
    (λ y x. (δ : List ℕ) → over t δ ≡ true → Approx t n (y ∷ []) (x ∷ δ) → b y x ≡ true)
