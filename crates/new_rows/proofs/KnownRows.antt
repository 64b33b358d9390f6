-- Fingerprints from round to round: those of rows that have not moved are still right. Assumes nothing.
use mathlib.Core.Path.{◌≡◌, sym, ap, ◌∙◌}
use mathlib.Core.Bool.{Bool, true, false, true≢false}
use mathlib.Core.List.{List}
use Prim.Native.Nat.{ℕ, ◌%◌, ◌^◌, ◌<◌, ◌≤◌}
use native.Mathlib.Omega.{arith}
use lib.ListN.{length, get_or, replicate, get_or-replicate}
use Rattle.bpa.specs.Method.{Rows}
use Rattle.fingerprints.specs.Fingerprints.{modulus, base, number, Printed, KnownPrints}
use Rattle.fingerprints.specs.declared.Prints.{Prints}

-- at first every row has moved
pub all_moved : (j : ℕ) → j < 24 → get_or (replicate 24 true) j false ≡ false → ⊥
all_moved j h e = true≢false (sym (get_or-replicate 24 j true false h) ∙ e)

pub known_none : (jobs : ℕ) (d : Rows) (prints : Prints) → jobs ≤ 24 → KnownPrints jobs d (replicate 24 true) prints
known_none jobs d prints few = record {
  value = λ j h z. absurd (all_moved j (omega arith) z);
  power = λ j h z. absurd (all_moved j (omega arith) z);
}

-- those of all rows, for rows that are the same for each job that has not moved
pub known_same : (jobs : ℕ) (d e : Rows) (moved : List Bool) (prints : Prints) → Printed jobs d prints →
    ((j : ℕ) → j < jobs → get_or moved j false ≡ false → e j ≡ d j) → KnownPrints jobs e moved prints
known_same jobs d e moved prints w same = record {
  value = λ j h z. w.value j h ∙ ap (λ (r : List ℕ). number r % modulus) (sym (same j h z));
  power = λ j h z. w.power j h ∙ ap (λ (r : List ℕ). base ^ length r % modulus) (sym (same j h z));
}

-- of rows that are equal for all jobs
pub known_agree : (jobs : ℕ) (d e : Rows) (moved : List Bool) (prints : Prints) → KnownPrints jobs d moved prints →
    ((j : ℕ) → j < jobs → e j ≡ d j) → KnownPrints jobs e moved prints
known_agree jobs d e moved prints w same = record {
  value = λ j h z. w.value j h z ∙ ap (λ (r : List ℕ). number r % modulus) (sym (same j h));
  power = λ j h z. w.power j h z ∙ ap (λ (r : List ℕ). base ^ length r % modulus) (sym (same j h));
}
