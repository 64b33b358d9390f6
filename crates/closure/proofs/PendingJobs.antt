-- Jobs taken from those that are pending, the lowest first: what is reached, and what is left to do. Assumes nothing.
use mathlib.Core.Path.{◌≡◌, sym, subst}
use mathlib.Core.List.{List}
use mathlib.Core.Logic.{◌↔◌, ◌⊎◌, inl, inr, ⊎_elim}
use Prim.Native.Nat.{ℕ, ◌+◌, ◌-◌, ◌^◌, ◌≤◌, ◌<◌}
use native.Mathlib.Decide.{ℕ_discrete}
use native.Mathlib.Nat.{lt_of_le_of_lt}
use native.Mathlib.Omega.{arith}
use lib.Bits.{bit_or, or_lt}
use lib.Count.{count_trailing_zeros}
use lib.ListN.{get_or}
use Rattle.bits.specs.Bits.{bit, JobBits}
use Rattle.bits.proofs.PlaceBits.{bit_small, bit_clear, zero_bit, one_set, or_bit, either_set}
use Rattle.bits.proofs.TrailingBits.{set_within, set_above}
use Rattle.bits.proofs.BitSums.{Disjoint, bit_plus, Contained, bit_minus, place_least, or_least}
use Rattle.closure.specs.Linked.{Linked, own, next}

-- a place of a word by itself
one_contained : (n j : ℕ) → bit n j ≡ 1 → Contained (2 ^ j) n
one_contained n j h k = go (ℕ_discrete k j)
  where
    go : Dec (k ≡ j) → bit (2 ^ j) k ≤ bit n k
    go (yes e) = omega (arith, bit_small (2 ^ j) k, subst (λ (i : ℕ). bit n i ≡ 1) (sym e) h)
    go (no f) = omega (arith, bit_clear (2 ^ j) k (λ e. f ((one_set j k).0 e)))

or_contained : (a b : ℕ) → Contained a (bit_or a b)
or_contained a b k = omega (arith, or_bit a b k)

-- THE WALK: what is pending is reached, and the rows of all else that is reached are reached
pub record Closing (rows : List ℕ) (from reached pending : ℕ) : Type 0 where
  pub small : reached < 16777216
  pub waiting : Contained pending reached
  pub least : pending ≤ reached
  pub started : Contained from reached
  pub passed : (i k : ℕ) → bit reached i ≡ 1 → bit pending i ≡ 0 → bit (get_or rows i 0) k ≡ 1 → bit reached k ≡ 1
  pub only : (k : ℕ) → bit reached k ≡ 1 → Linked rows from k

module _ (rows : List ℕ) (from : ℕ) where
  pub closing_begins : from < 16777216 → Closing rows from from from
  closing_begins h = record {
    small = h;
    waiting = λ k. omega arith;
    least = omega arith;
    started = λ k. omega arith;
    passed = λ i k h z b. absurd (omega (arith, h, z));
    only = λ k h. own k h;
  }

  module _ (reached pending : ℕ) (c : Closing rows from reached pending) where
    -- with none pending, what is linked is reached
    closing_has : pending ≡ 0 → {k : ℕ} → Linked rows from k → bit reached k ≡ 1
    closing_has z (own k h) = omega (arith, h, c.started k, bit_small reached k)
    closing_has z (next i k l h) =
        c.passed i k (closing_has z l) (subst (λ (n : ℕ). bit n i ≡ 0) (sym z) (zero_bit i)) h

    pub closing_ends : pending ≡ 0 → JobBits reached (Linked rows from)
    closing_ends z = record { small = c.small; holds = λ k. (c.only k, closing_has z) }

    -- the lowest that is pending
    pub lowest : 0 < pending → bit pending (count_trailing_zeros 32 pending) ≡ 1
    lowest some = let small = lt_of_le_of_lt c.least c.small in set_above 32 pending some (omega (arith, small))

    -- one pending job is taken
    module _ (job : ℕ) (here : bit pending job ≡ 1) where
      abbrev row : ℕ
      row = get_or rows job 0

      abbrev all : ℕ
      all = bit_or reached row

      abbrev rest : ℕ
      rest = pending - 2 ^ job

      abbrev added : ℕ
      added = all - reached

      pub job_least : 2 ^ job ≤ pending
      job_least = place_least pending job here

      -- it is a job
      pub job_small : job < 24
      job_small = set_within pending job 24 here (lt_of_le_of_lt c.least c.small)

      pub all_least : reached ≤ all
      all_least = or_least reached row

      is_reached : bit reached job ≡ 1
      is_reached = omega (arith, here, c.waiting job, bit_small reached job)

      rest_bit : (k : ℕ) → bit rest k + bit (2 ^ job) k ≡ bit pending k
      rest_bit k = bit_minus k (2 ^ job) pending job_least (one_contained pending job here)

      added_bit : (k : ℕ) → bit added k + bit reached k ≡ bit all k
      added_bit k = bit_minus k reached all all_least (or_contained reached row)

      apart : Disjoint rest added
      apart k = omega (arith, rest_bit k, added_bit k, c.waiting k, bit_small all k)

      pending_bit : (k : ℕ) → bit (rest + added) k ≡ bit rest k + bit added k
      pending_bit k = bit_plus k rest added apart

      -- what is reached then was so, or is in the row
      either : (k : ℕ) → (bit all k ≡ 1) ↔ ((bit reached k ≡ 1) ⊎ (bit row k ≡ 1))
      either k = either_set reached row k ((λ h. h), (λ h. h)) ((λ h. h), (λ h. h))

      kept : (k : ℕ) → bit reached k ≡ 1 → bit all k ≡ 1
      kept k h = (either k).1 (inl h)

      passed_on : (i k : ℕ) → bit all i ≡ 1 → bit (rest + added) i ≡ 0 → bit (get_or rows i 0) k ≡ 1 → bit all k ≡ 1
      passed_on i k h z b = go (ℕ_discrete i job)
        where
          before : bit reached i ≡ 1
          before = omega (arith, h, z, pending_bit i, added_bit i)

          go : Dec (i ≡ job) → bit all k ≡ 1
          go (yes e) = (either k).1 (inr (subst (λ (n : ℕ). bit (get_or rows n 0) k ≡ 1) e b))
          go (no f) =
              kept k
              (c.passed i k before (omega (arith, z, pending_bit i, rest_bit i, bit_clear (2 ^ job) i (λ e. f ((one_set job i).0 e)))) b)

      pub all_small : row < 16777216 → all < 16777216
      all_small h = or_lt 24 reached row c.small h

      pub closing_more : row < 16777216 → Closing rows from all (rest + added)
      closing_more h = record {
        small = all_small h;
        waiting = λ k. omega (arith, pending_bit k, rest_bit k, added_bit k, c.waiting k);
        least = omega (arith, c.least, job_least, all_least);
        started = λ k. omega (arith, c.started k, added_bit k);
        passed = passed_on;
        only = λ k h. ⊎_elim (c.only k) (λ b. next job k (c.only job is_reached) b) ((either k).0 h);
      }
