-- Words: numbers of eight bytes, low byte first. Assumes nothing: these are definitions.
use Rattle.std.specs.Prelude.{List, ◌++◌, ℕ, ◌+◌, ◌*◌, ◌/◌, get_or}
use Rattle.area.specs.Numbers.{low_first}

-- the number of eight bytes at a place, and the bytes of a number
unfoldable pub word_at : (at : ℕ) → List ℕ → ℕ
word_at i bs =
    (get_or bs i 0 + 256 * get_or bs (i + 1) 0) + 65536 * (get_or bs (i + 2) 0 + 256 * get_or bs (i + 3) 0)
    + 4294967296 * (get_or bs (i + 4) 0 + 256 * get_or bs (i + 5) 0) + 281474976710656 * (get_or bs (i + 6) 0 + 256 * get_or bs (i + 7) 0)

unfoldable pub word_bytes : (number : ℕ) → List ℕ
word_bytes v = low_first v ++ (low_first (v / 65536) ++ (low_first (v / 4294967296) ++ low_first (v / 281474976710656)))
