-- Where in a log a plan can be when it is through, and how far it can get, by the moves that are left then. Assumes nothing: these are
-- definitions.
use Rattle.std.specs.Prelude.{◌≡◌, List, [], ◌++◌, ℕ, ◌-◌, length, drop}
use Rattle.bpa.specs.Plans.{Table, Runs}

-- so many moves at the end of a log
unfoldable pub last : (count : ℕ) → (log : List ℕ) → List ℕ
last d l = drop (length l - d) l

-- a plan can be through with so many moves of a log left
abbrev pub Ends : Table → (plan log : List ℕ) → (left : ℕ) → Type 0
Ends t p l e = (run : List ℕ) × (rest : List ℕ) × (l ≡ run ++ rest) × (length rest ≡ e) × Runs t p run []

-- a plan can have made all moves of a log but so many
abbrev pub Gets : Table → (plan log : List ℕ) → (left : ℕ) → Type 0
Gets t p l e = (run : List ℕ) × (rest : List ℕ) × (l ≡ run ++ rest) × (length rest ≡ e) × (end : List ℕ) × Runs t p run end
