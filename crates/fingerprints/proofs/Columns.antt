-- The columns of fingerprints, one job after the other. Assumes nothing.
use Rattle.std.proofs.Common.{◌≡◌, Bool, false, List, ℕ, ◌%◌, ◌^◌, ◌<◌, length, get_or}
use Rattle.bpa.specs.Method.{Rows}
use Rattle.fingerprints.specs.declared.Prints.{Prints}
use Rattle.fingerprints.specs.Fingerprints.{modulus, base, number}

-- the entries of the jobs before j are f's, and those of later jobs that have not moved
pub record Column (jobs : ℕ) (f : ℕ → ℕ) (moved : List Bool) (xs : List ℕ) (j : ℕ) : Type 0 where
  pub known : (k : ℕ) → k < jobs → get_or moved k false ≡ false → get_or xs k 0 ≡ f k
  pub done : (k : ℕ) → k < jobs → k < j → get_or xs k 0 ≡ f k

-- both columns
pub record Printing (jobs : ℕ) (d : Rows) (moved : List Bool) (prints : Prints) (j : ℕ) : Type 0 where
  pub values : Column jobs (λ k. number (d k) % modulus) moved prints.values j
  pub powers : Column jobs (λ k. base ^ length (d k) % modulus) moved prints.powers j
