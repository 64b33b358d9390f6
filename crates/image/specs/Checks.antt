-- A check over some blocks in a row. Assumes nothing: these are definitions.
use Rattle.std.specs.Prelude.{◌≡◌, true, List, [], ℕ, ◌<◌, length, get_or}
use Rattle.image.specs.Image.{head_of}

-- check 4 passes for each block
abbrev pub HeadsPass : (jobs : ℕ) → (blocks : List (List ℕ)) → Type 0
HeadsPass n xs = (k : ℕ) → k < length xs → head_of n (length xs) k (get_or xs k []) ≡ true
