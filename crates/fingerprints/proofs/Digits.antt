-- The fingerprint of a row, and that of a plan, job by job. Assumes nothing.
use mathlib.Core.Path.{◌≡◌, refl, sym, ap, ap₂, ◌∙◌, subst}
use mathlib.Core.List.{List, [], ◌∷◌, ◌++◌}
use Prim.Native.Nat.{ℕ, suc, ◌+◌, ◌*◌, ◌%◌, ◌^◌, ◌≤◌, ◌<◌}
use native.Mathlib.Nat.{mod-eq_of_lt, mul-one, pow-zero, pow-succ'}
use native.Mathlib.Numerals.{add-one}
use native.Mathlib.Omega.{arith}
use lib.ListN.{length, get_or, take, drop, drop_of_length-le}
use lib.Seq.{take-suc, drop-cons}
use Rattle.fingerprints.specs.declared.Print.{Print}
use Rattle.fingerprints.specs.declared.Prints.{Prints}
use Rattle.fingerprints.specs.Fingerprints.{
  modulus,
  base,
  number,
  join,
  Joins,
  IsPrint,
  value_from,
  power_from,
  PlanPrint,
}
use Rattle.fingerprints.proofs.PrintLaws.{modulus_large, joined_number, joined_power}

-- ROWS
pub modulus_is : modulus ≡ 4294967291
unfolding modulus
modulus_is = refl

base_small : base < modulus
unfolding base
base_small = omega (arith, modulus_is)

-- the row of one job
one_power : (x : ℕ) → base ^ length (x ∷ []) % modulus ≡ base
one_power x =
    let one : base ^ length (x ∷ []) ≡ base = pow-succ' base 0 ∙ ap (λ (n : ℕ). base * n) (pow-zero base) ∙ mul-one base in
    ap (λ (n : ℕ). n % modulus) one ∙ mod-eq_of_lt base_small

one_number : (x : ℕ) → x < 256 → number (x ∷ []) % modulus ≡ x + 1
unfolding number
one_number x h =
    let one : suc x * base ^ length {A = ℕ} [] + 0 ≡ x + 1 =
    omega (arith, ap (λ (n : ℕ). suc x * n) (pow-zero base), mul-one (suc x)) in
    ap (λ (n : ℕ). n % modulus) one ∙ mod-eq_of_lt (omega (arith, modulus_is))

-- a job more is read
pub reading_more : (row : List ℕ) (i x : ℕ) (front behind both : Print) → IsPrint (take i row) front.value front.power → i < length row →
    x ≡ get_or row i 0 → x < 256 → behind.value ≡ x + 1 → behind.power ≡ 2654435769 → Joins front behind both →
    IsPrint (take (i + 1) row) both.value both.power
unfolding base
reading_more row i x front behind both w h e s value_is power_is joins =
    let longer : take (i + 1) row ≡ take i row ++ (x ∷ []) = rw (e, add-one, take-suc row i 0 h) in
    subst (λ (l : List ℕ). IsPrint l both.value both.power) (sym longer)
    record {
      value_is = joins.value.is
          ∙ ap (λ (a : ℕ). join a behind.power behind.value) w.value_is
          ∙ ap₂ (join (number (take i row) % modulus)) (power_is ∙ sym (one_power x)) (value_is ∙ sym (one_number x s))
          ∙ sym (joined_number (take i row) (x ∷ []));
      power_is = joins.power.is
          ∙ ap₂ (λ (a b : ℕ). join a b 0) w.power_is (power_is ∙ sym (one_power x))
          ∙ sym (joined_power (take i row) (x ∷ []));
    }

-- PLANS
-- the jobs of a plan before i are read
pub record Joining (prints : Prints) (plan : List ℕ) (print : Print) (i : ℕ) : Type 0 where
  pub value_left : value_from prints print.value (drop i plan) ≡ value_from prints 0 plan
  pub power_left : power_from prints print.power (drop i plan) ≡ power_from prints 1 plan
  pub value_small : print.value < modulus
  pub power_small : print.power < modulus

pub joining_first : (prints : Prints) (plan : List ℕ) → Joining prints plan (record { value = 0; power = 1 }) 0
joining_first prints plan = record {
  value_left = refl;
  power_left = refl;
  value_small = omega (arith, modulus_large);
  power_small = modulus_large;
}

module _ (prints : Prints) (plan : List ℕ) (front : Print) (i : ℕ) (w : Joining prints plan front i) where
  -- the job x stands there
  pub joining_more : (x : ℕ) (behind both : Print) → i < length plan → x ≡ get_or plan i 0 → behind.value ≡ get_or prints.values x 0 →
      behind.power ≡ get_or prints.powers x 0 → Joins front behind both → Joining prints plan both (i + 1)
  unfolding value_from power_from
  joining_more x behind both h e value_is power_is joins = record {
    value_left = ap (λ (a : ℕ). value_from prints a (drop (i + 1) plan))
        (joins.value.is ∙ ap₂ (join front.value) (power_is ∙ ap (λ (k : ℕ). get_or prints.powers k 0) e) (value_is ∙ ap (λ (k : ℕ). get_or prints.values k 0) e))
        ∙ sym value_here ∙ w.value_left;
    power_left = ap (λ (a : ℕ). power_from prints a (drop (i + 1) plan))
        (joins.power.is ∙ ap (λ (p : ℕ). join front.power p 0) (power_is ∙ ap (λ (k : ℕ). get_or prints.powers k 0) e))
        ∙ sym power_here ∙ w.power_left;
    value_small = joins.value.small;
    power_small = joins.power.small;
  }
    where
      value_here : value_from prints front.value (drop i plan)
          ≡ value_from prints (join front.value (get_or prints.powers (get_or plan i 0) 0) (get_or prints.values (get_or plan i 0) 0)) (drop (i + 1) plan)
      value_here = rw (drop-cons plan i 0 h, add-one)

      power_here : power_from prints front.power (drop i plan)
          ≡ power_from prints (join front.power (get_or prints.powers (get_or plan i 0) 0) 0) (drop (i + 1) plan)
      power_here = rw (drop-cons plan i 0 h, add-one)

  pub joining_last : length plan ≤ i → PlanPrint prints plan front.value front.power
  unfolding value_from power_from
  joining_last h = record {
    value_is = sym (ap (value_from prints front.value) (drop_of_length-le plan h)) ∙ w.value_left;
    power_is = sym (ap (power_from prints front.power) (drop_of_length-le plan h)) ∙ w.power_left;
    value_small = w.value_small;
    power_small = w.power_small;
  }
