-- The first job, in the order of jobs, that a job is paired with in the base. Assumes nothing.
use mathlib.Core.Path.{◌≡◌, refl, subst}
use mathlib.Core.Bool.{Bool, true, false, ◌&&◌, cond}
use mathlib.Core.Logic.{◌⊎◌, inl, inr, ⊎_elim}
use mathlib.Core.List.{List}
use mathlib.Core.Option.{Option, none, some}
use Prim.Native.Nat.{ℕ, zero, suc, ◌<◌}
use native.Mathlib.Nat.{eq-or-lt_of_le}
use native.Mathlib.Omega.{arith}
use Rattle.bpa.specs.Method.{Base, precedes, first_of, least_pair}
use Rattle.bpa.proofs.Basics.Cases.{and_left, and_right, and_both, never_both}
use Rattle.bpa.proofs.Basics.Order.{precedes_total, precedes_trans}

-- the base pairs a job with one that precedes it
pub record Paired (ns : List ℕ) (b : Base) (y x : ℕ) : Type 0 where
  pub earlier : precedes ns x y ≡ true
  pub held : b y x ≡ true

abbrev pub Unpaired : (norms : List ℕ) → Base → (y n : ℕ) → Type 0
Unpaired ns b y n = (z : ℕ) → z < n → Paired ns b y z → ⊥

-- of the jobs below a bound that a job is paired with, this one is first
pub record Least (ns : List ℕ) (b : Base) (y n x : ℕ) : Type 0 where
  pub within : x < n
  pub paired : Paired ns b y x
  pub first : (z : ℕ) → z < n → Paired ns b y z → (z ≡ x) ⊎ (precedes ns x z ≡ true)

-- what an answer of `least-pair` says
abbrev Answer : (norms : List ℕ) → Base → (y n : ℕ) → Option ℕ → Type 0
Answer ns b y n none = Unpaired ns b y n
Answer ns b y n (some x) = Least ns b y n x

below_next : {C : Type 0} (n z : ℕ) → z < suc n → (z ≡ n → C) → (z < n → C) → C
below_next n z l e f = ⊎_elim e f (eq-or-lt_of_le (omega arith))

module _ (ns : List ℕ) (b : Base) (y : ℕ) where
  passed_over : (n : ℕ) (o : Option ℕ) → (Paired ns b y n → ⊥) → Answer ns b y n o → Answer ns b y (suc n) o
  passed_over n none d a = λ z l p. below_next n z l (λ e. d (subst (Paired ns b y) e p)) (λ m. a z m p)
  passed_over n (some x) d a =
      record {
        within = omega arith;
        paired = a.paired;
        first = λ z l p. below_next n z l (λ e. absurd (d (subst (Paired ns b y) e p))) (λ m. a.first z m p);
      }

  compared : (n x : ℕ) (c : Bool) → precedes ns n x ≡ c → Paired ns b y n → Least ns b y n x →
      Answer ns b y (suc n) (cond c (some n) (some x))
  compared n x true e p a =
      record {
        within = omega arith;
        paired = p;
        first = λ z l q. below_next n z l inl (λ m. inr (⊎_elim (λ (s : z ≡ x). rw s e) (precedes_trans ns n x z e) (a.first z m q)));
      }
  compared n x false e p a =
      record {
        within = omega arith;
        paired = a.paired;
        first = λ z l q.
            below_next n z l (λ s. inr (rw s (precedes_total ns n x (omega (arith, a.within)) e))) (λ m. a.first z m q);
      }

  taken : (n : ℕ) (o : Option ℕ) → Paired ns b y n → Answer ns b y n o → Answer ns b y (suc n) (first_of ns n o)
  unfolding first_of
  taken n none p a =
      record { within = omega arith; paired = p; first = λ z l q. below_next n z l inl (λ m. absurd (a z m q)) }
  taken n (some x) p a = compared n x (precedes ns n x) refl p a

  tested : (n : ℕ) (o : Option ℕ) (c : Bool) → precedes ns n y && b y n ≡ c → Answer ns b y n o →
      Answer ns b y (suc n) (cond c (first_of ns n o) o)
  tested n o true e a =
      taken n o (record { earlier = and_left (precedes ns n y) (b y n) e; held = and_right (precedes ns n y) (b y n) e }) a
  tested n o false e a =
      passed_over n o
      (λ p. never_both (precedes ns n y && b y n) (and_both (precedes ns n y) (b y n) p.earlier p.held) e) a

  answer : (n : ℕ) → Answer ns b y n (least_pair ns b y n)
  unfolding least_pair
  answer zero = λ z l p. omega arith
  answer (suc n) = tested n (least_pair ns b y n) (precedes ns n y && b y n) refl (answer n)

  pub least_none : (n : ℕ) → least_pair ns b y n ≡ none → Unpaired ns b y n
  least_none n e = subst (Answer ns b y n) e (answer n)

  pub least_some : (n x : ℕ) → least_pair ns b y n ≡ some x → Least ns b y n x
  least_some n x e = subst (Answer ns b y n) e (answer n)
