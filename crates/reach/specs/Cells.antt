-- Cells of 17 bytes: two words of 64 bits, low byte first, and a number below 256. Assumes nothing: these are definitions.
use Rattle.std.specs.Prelude.{List, [], ◌∷◌, ◌++◌, ℕ, ◌+◌, ◌*◌, get_or}
use Rattle.words.specs.Words.{word_at, word_bytes}
use Rattle.reach.specs.declared.Reach.{Reach}

-- A CELL: the reach in it, and the bytes of one
unfoldable pub reach_in : (cell : ℕ) → List ℕ → Reach
reach_in c bs = record { low = word_at (17 * c) bs; high = word_at (17 * c + 8) bs; least = get_or bs (17 * c + 16) 0 }

unfoldable pub cell_bytes : Reach → List ℕ
cell_bytes r = word_bytes r.low ++ (word_bytes r.high ++ (r.least ∷ []))
