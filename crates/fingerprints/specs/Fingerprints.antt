-- Fingerprints of rows and plans: the number whose digits to some base are the jobs, counted from 1, by a modulus. Assumes
-- nothing: these are definitions.
use Rattle.std.specs.Prelude.{◌≡◌, false, Bool, List, [], ◌∷◌, ℕ, suc, ◌+◌, ◌*◌, ◌%◌, ◌^◌, ◌≤◌, ◌<◌, length, get_or}
use Rattle.bpa.specs.Method.{Rows}
use Rattle.rules.specs.Places.{rule_at, rule_count}
use Rattle.fingerprints.specs.declared.Print.{Print}
use Rattle.fingerprints.specs.declared.Prints.{Prints}

-- any base and any modulus would do; by a prime modulus few unequal rows have equal fingerprints, however they are made
unfoldable pub modulus : ℕ
modulus = 4294967291

unfoldable pub base : ℕ
base = 2654435769

-- the number whose digits are the jobs of a row
unfoldable pub number : (row : List ℕ) → ℕ
number [] = 0
number (j ∷ js) = suc j * base ^ length js + number js

-- the fingerprint of a row with another behind it, whose power is given
unfoldable pub join : (left power right : ℕ) → ℕ
join a p b = (a * p + b) % modulus

pub record IsJoined (left power right r : ℕ) : Type 0 where
  pub is : r ≡ join left power right
  pub small : r < modulus

-- a row, and another behind it
pub record Joins (front behind both : Print) : Type 0 where
  pub value : IsJoined front.value behind.power behind.value both.value
  pub power : IsJoined front.power behind.power 0 both.power

-- a fingerprint and its power
pub record IsPrint (row : List ℕ) (value power : ℕ) : Type 0 where
  pub value_is : value ≡ number row % modulus
  pub power_is : power ≡ base ^ length row % modulus

-- THE FINGERPRINTS of the rows of jobs, and their powers
pub record Printed (jobs : ℕ) (d : Rows) (prints : Prints) : Type 0 where
  pub value : (j : ℕ) → j < jobs → get_or prints.values j 0 ≡ number (d j) % modulus
  pub power : (j : ℕ) → j < jobs → get_or prints.powers j 0 ≡ base ^ length (d j) % modulus

-- the same of the jobs whose rows have not moved since they were made
pub record KnownPrints (jobs : ℕ) (d : Rows) (moved : List Bool) (prints : Prints) : Type 0 where
  pub value : (j : ℕ) → j < jobs → get_or moved j false ≡ false → get_or prints.values j 0 ≡ number (d j) % modulus
  pub power : (j : ℕ) → j < jobs → get_or moved j false ≡ false → get_or prints.powers j 0 ≡ base ^ length (d j) % modulus

-- by the fingerprints of jobs, that of a plan behind another whose fingerprint is given, and its power
unfoldable pub value_from : (prints : Prints) → (left : ℕ) → (plan : List ℕ) → ℕ
value_from ps a [] = a
value_from ps a (j ∷ js) = value_from ps (join a (get_or ps.powers j 0) (get_or ps.values j 0)) js

unfoldable pub power_from : (prints : Prints) → (left : ℕ) → (plan : List ℕ) → ℕ
power_from ps a [] = a
power_from ps a (j ∷ js) = power_from ps (join a (get_or ps.powers j 0) 0) js

pub record PlanPrint (prints : Prints) (plan : List ℕ) (value power : ℕ) : Type 0 where
  pub value_is : value ≡ value_from prints 0 plan
  pub power_is : power ≡ power_from prints 1 plan
  pub value_small : value < modulus
  pub power_small : power < modulus

-- a number for each rule, of what it leaves: its fingerprint and one more, or 0
pub record RulePrint (prints : Prints) (after : List ℕ) (r : ℕ) : Type 0 where
  pub is : 0 < r → r ≡ suc (value_from prints 0 after)
  pub small : r ≤ modulus

abbrev pub RulePrints : (rules : List ℕ) → Prints → Type 0
RulePrints rs ps = (i : ℕ) → i < rule_count rs → RulePrint ps (rule_at rs i).after (get_or ps.rules i 0)

-- both
pub record AllPrinted (rs : List ℕ) (jobs : ℕ) (d : Rows) (prints : Prints) : Type 0 where
  pub jobs_printed : Printed jobs d prints
  pub rules_printed : RulePrints rs prints
