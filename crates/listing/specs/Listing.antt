-- The bytes of an answer about a list of rows. Assumes nothing: these are definitions.
use Rattle.std.specs.Prelude.{cond, List, [], ◌∷◌, ◌++◌, ℕ, ltb, length, get_or, take, Option, Some, None}
use Rattle.words.specs.Words.{word_bytes}
use Rattle.nth_row.specs.declared.row.Row.{Row}

-- a byte 1 and the row at an index, or a byte 0 if there is none
unfoldable pub entry_bytes : (rows : List (List ℕ)) → (index : ℕ) → List ℕ
entry_bytes l k = cond (ltb k (length l)) (1 ∷ get_or l k []) (0 ∷ [])

-- THE ANSWER: the number of rows in eight bytes, low byte first, and then those
unfoldable pub listing : (rows : List (List ℕ)) → (index : ℕ) → List ℕ
listing l k = word_bytes (length l) ++ entry_bytes l k

-- the same by the row that was found, if any
abbrev pub row_bytes : Option Row → List ℕ
row_bytes (Some row) = 1 ∷ take row.len row.jobs
row_bytes None = 0 ∷ []
