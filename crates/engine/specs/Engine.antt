-- The prime rows of a table, and what they say of plans over it. Assumes nothing: these are definitions.
use Rattle.std.specs.Prelude.{◌≡◌, Bool, true, List, ℕ, ◌≤◌}
use Rattle.bpa.specs.Plans.{Table, over}
use Rattle.bpa.specs.Norms.{sum_of}
use Rattle.bpa.specs.Method.{expand, same, prime_form}
use Rattle.rows.specs.Region.{row, Within}
use Rattle.form.specs.Written.{Tells}

-- THE PRIME ROWS in a region: a plan's rows, one behind the other, are its prime form, no longer than its norm, and plans with equal
-- ones are the same
pub record PrimeRows (t : Table) (ns lens region : List ℕ) : Type 0 where
  pub within : Within t.jobs lens region
  pub form : (p : List ℕ) → over t p ≡ true → expand (row lens region) p ≡ prime_form t p
  pub short : (p : List ℕ) → over t p ≡ true → sum_of lens p ≤ sum_of ns p
  pub told : (a : Bool) (p q : List ℕ) → over t p ≡ true → over t q ≡ true →
      Tells a (expand (row lens region) p) (expand (row lens region) q) → a ≡ same t p q
