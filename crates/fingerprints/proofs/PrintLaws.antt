-- The fingerprint of a plan, by those of its jobs' rows, is that of its expansion. Assumes nothing.
use mathlib.Core.Path.{◌≡◌, sym, ap, ap₂, ◌∙◌}
use mathlib.Core.Bool.{true}
use mathlib.Core.List.{List, [], ◌∷◌, ◌++◌, append_assoc, append-nil}
use Prim.Native.Nat.{ℕ, suc, ◌+◌, ◌*◌, ◌/◌, ◌%◌, ◌^◌, ◌<◌}
use native.Mathlib.Nat.{mul_comm, mul_assoc, add-mul, pow-zero, zero-mod, mod-lt, mod-eq_of_lt, add-mod-mod, mod-add-div, add-mul-mod_self_left}
use native.Mathlib.Omega.{arith}
use lib.Dec.{ltb}
use lib.ListN.{length, get_or, length-append}
use lib.Pow.{pow-add}
use Rattle.bpa.specs.Plans.{all_below}
use Rattle.bpa.specs.Method.{Rows, expand}
use Rattle.bpa.proofs.Basics.Cases.{and_right}
use Rattle.bpa.proofs.Basics.JobsBelow.{below_at}
use Rattle.bpa.proofs.Judge.Rows.{expand_append}
use Rattle.fingerprints.specs.declared.Prints.{Prints}
use Rattle.fingerprints.specs.Fingerprints.{modulus, base, number, join, Printed, value_from, power_from}

-- JOINING
power_append : (b : ℕ) (p q : List ℕ) → b ^ length (p ++ q) ≡ b ^ length p * b ^ length q
power_append b p q = ap (λ (n : ℕ). b ^ n) (length-append p q) ∙ pow-add b (length p) (length q)

-- a digit j in front: its power is u, and w that of what stands behind
digit_front : (j u v w left right n : ℕ) → v ≡ u * w → left ≡ n * w + right → j * v + left ≡ (j * u + n) * w + right
digit_front j u v w left right n e f = omega (arith, ap (λ (x : ℕ). j * x) e, mul_assoc j u w, add-mul (j * u) n w)

pub number_append : (p q : List ℕ) → number (p ++ q) ≡ number p * base ^ length q + number q
unfolding number
number_append [] q = omega arith
number_append (j ∷ p) q =
    digit_front (suc j) (base ^ length p) (base ^ length (p ++ q)) (base ^ length q) (number (p ++ q)) (number q) (number p) (power_append base p q)
    (number_append p q)

factor_mod : (m x y z : ℕ) → (x % m * y + z) % m ≡ (x * y + z) % m
factor_mod m x y z =
    let all : x % m * y + z + m * (x / m * y) ≡ x * y + z =
    omega (arith, ap (λ (n : ℕ). n * y) (mod-add-div x m), add-mul (x % m) (m * (x / m)) y, mul_assoc m (x / m) y) in
    sym (add-mul-mod_self_left (x % m * y + z) m (x / m * y)) ∙ ap (λ (n : ℕ). n % m) all

turn : (m x y z : ℕ) → (x * y + z) % m ≡ (y * x + z) % m
turn m x y z = ap (λ (n : ℕ). (n + z) % m) (mul_comm x y)

parts_mod : (m a b c : ℕ) → (a % m * (b % m) + c % m) % m ≡ (a * b + c) % m
parts_mod m a b c =
    factor_mod m a (b % m) (c % m) ∙ turn m a (b % m) (c % m) ∙ factor_mod m b a (c % m) ∙ turn m b a (c % m) ∙ add-mod-mod (a * b) c m

pub mod_join : (a b c : ℕ) → join (a % modulus) (b % modulus) (c % modulus) ≡ (a * b + c) % modulus
unfolding join
mod_join a b c = parts_mod modulus a b c

pub joined_number : (p q : List ℕ) → number (p ++ q) % modulus ≡ join (number p % modulus) (base ^ length q % modulus) (number q % modulus)
joined_number p q = ap (λ (n : ℕ). n % modulus) (number_append p q) ∙ sym (mod_join (number p) (base ^ length q) (number q))

pub joined_power : (p q : List ℕ) → base ^ length (p ++ q) % modulus ≡ join (base ^ length p % modulus) (base ^ length q % modulus) 0
joined_power p q =
    let u = base ^ length p in
    let v = base ^ length q in
    let all : base ^ length (p ++ q) ≡ u * v + 0 = omega (arith, power_append base p q) in
    ap (λ (n : ℕ). n % modulus) all ∙ sym (mod_join u v 0) ∙ ap (join (u % modulus) (v % modulus)) (zero-mod modulus)

-- PLANS
pub modulus_large : 1 < modulus
unfolding modulus
modulus_large = omega arith

pub mod_small : (n : ℕ) → n % modulus < modulus
mod_small n = mod-lt n (omega (arith, modulus_large))

pub number_none : number [] % modulus ≡ 0
unfolding number
number_none = zero-mod modulus

pub power_none : base ^ length {A = ℕ} [] % modulus ≡ 1
power_none = ap (λ (n : ℕ). n % modulus) (pow-zero base) ∙ mod-eq_of_lt modulus_large

-- the jobs behind the first
rest_below : (n j : ℕ) (p : List ℕ) → all_below n (j ∷ p) ≡ true → all_below n p ≡ true
unfolding all_below
rest_below n j p = and_right (ltb j n) (all_below n p)

module _ (n : ℕ) (d : Rows) (prints : Prints) (w : Printed n d prints) where
  joined_value : (x : List ℕ) (j : ℕ) → j < n →
      join (number x % modulus) (get_or prints.powers j 0) (get_or prints.values j 0) ≡ number (x ++ d j) % modulus
  joined_value x j h = ap₂ (join (number x % modulus)) (w.power j h) (w.value j h) ∙ sym (joined_number x (d j))

  joined_length : (x : List ℕ) (j : ℕ) → j < n →
      join (base ^ length x % modulus) (get_or prints.powers j 0) 0 ≡ base ^ length (x ++ d j) % modulus
  joined_length x j h = ap (λ (p : ℕ). join (base ^ length x % modulus) p 0) (w.power j h) ∙ sym (joined_power x (d j))

  -- behind the row x
  value_behind : (x p : List ℕ) → all_below n p ≡ true → value_from prints (number x % modulus) p ≡ number (x ++ expand d p) % modulus
  unfolding value_from expand
  value_behind x [] o = ap (λ (l : List ℕ). number l % modulus) (sym (append-nil x))
  value_behind x (j ∷ p) o =
      ap (λ (a : ℕ). value_from prints a p) (joined_value x j (below_at n (j ∷ p) 0 o (omega arith)))
      ∙ value_behind (x ++ d j) p (rest_below n j p o)
      ∙ ap (λ (l : List ℕ). number l % modulus) (append_assoc x (d j) (expand d p))

  power_behind : (x p : List ℕ) → all_below n p ≡ true →
      power_from prints (base ^ length x % modulus) p ≡ base ^ length (x ++ expand d p) % modulus
  unfolding power_from expand
  power_behind x [] o = ap (λ (l : List ℕ). base ^ length l % modulus) (sym (append-nil x))
  power_behind x (j ∷ p) o =
      ap (λ (a : ℕ). power_from prints a p) (joined_length x j (below_at n (j ∷ p) 0 o (omega arith)))
      ∙ power_behind (x ++ d j) p (rest_below n j p o)
      ∙ ap (λ (l : List ℕ). base ^ length l % modulus) (append_assoc x (d j) (expand d p))

pub plan_value : (n : ℕ) (d : Rows) (prints : Prints) (p : List ℕ) → Printed n d prints → all_below n p ≡ true →
    value_from prints 0 p ≡ number (expand d p) % modulus
plan_value n d prints p w o = ap (λ (a : ℕ). value_from prints a p) (sym number_none) ∙ value_behind n d prints w [] p o

pub plan_power : (n : ℕ) (d : Rows) (prints : Prints) (p : List ℕ) → Printed n d prints → all_below n p ≡ true →
    power_from prints 1 p ≡ base ^ length (expand d p) % modulus
plan_power n d prints p w o = ap (λ (a : ℕ). power_from prints a p) (sym power_none) ∙ power_behind n d prints w [] p o

-- EQUAL ROWS have equal fingerprints
module _ (n : ℕ) (d : Rows) (prints : Prints) where
  -- a tail behind a row x
  tail_value : (x tail : List ℕ) → Printed n d prints → all_below n tail ≡ true →
      number (x ++ expand d tail) % modulus ≡ join (number x % modulus) (power_from prints 1 tail) (value_from prints 0 tail)
  tail_value x tail w o =
      joined_number x (expand d tail)
      ∙ ap₂ (join (number x % modulus)) (sym (plan_power n d prints tail w o)) (sym (plan_value n d prints tail w o))

pub equal_values : (n : ℕ) (d : Rows) (prints : Prints) (w v tail : List ℕ) → Printed n d prints → all_below n w ≡ true → all_below n v ≡ true →
    all_below n tail ≡ true → expand d w ≡ expand d (v ++ tail) →
    value_from prints 0 w ≡ join (value_from prints 0 v) (power_from prints 1 tail) (value_from prints 0 tail)
equal_values n d prints w v tail f ow ov o e =
    plan_value n d prints w f ow
    ∙ ap (λ (l : List ℕ). number l % modulus) (e ∙ expand_append d v tail)
    ∙ tail_value n d prints (expand d v) tail f o
    ∙ ap (λ (a : ℕ). join a (power_from prints 1 tail) (value_from prints 0 tail)) (sym (plan_value n d prints v f ov))

pub equal_rows_values : (n : ℕ) (d : Rows) (prints : Prints) (y x : ℕ) (tail : List ℕ) → Printed n d prints → y < n → x < n →
    all_below n tail ≡ true → d y ≡ expand d (x ∷ tail) →
    get_or prints.values y 0 ≡ join (get_or prints.values x 0) (power_from prints 1 tail) (value_from prints 0 tail)
unfolding expand
equal_rows_values n d prints y x tail f hy hx o e =
    f.value y hy
    ∙ ap (λ (l : List ℕ). number l % modulus) e
    ∙ tail_value n d prints (d x) tail f o
    ∙ ap (λ (a : ℕ). join a (power_from prints 1 tail) (value_from prints 0 tail)) (sym (f.value x hx))
