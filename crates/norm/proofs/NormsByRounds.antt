-- Rounds over an array until one changes nothing give the array of norms. Assumes nothing.
use mathlib.Core.Path.{◌≡◌, refl, sym, ap, ◌∙◌}
use mathlib.Core.List.{List, map}
use Prim.Native.Nat.{ℕ, zero, suc, ◌-◌, ◌≤◌, ◌<◌, min}
use native.Mathlib.Decide.{dec_lt}
use native.Mathlib.Omega.{arith}
use lib.ListN.{length, get_or, replicate, length-map, length-replicate, get_or-map, get_or-eq_default}
use lib.Seq.{ext_get_or}
use Rattle.bpa.specs.Plans.{Table}
use Rattle.bpa.specs.Norms.{norms, capped_round, capped_rounds}
use Rattle.bpa.proofs.Basics.Zeros.{zeros_at}
use Rattle.bpa.proofs.Norm.NormRounds.{next, next_length}
use Rattle.bpa.proofs.Norm.NormCap.{capped_sums, capped_one_more, capped_settled}
use Rattle.norm.specs.NormArrays.{Agree, IsRound, NormArray}
use Rattle.norm.proofs.Agreement.{capped_agree}

-- the norms after so many rounds
unfoldable pub after_rounds : Table → (k : ℕ) → List ℕ
after_rounds t k = capped_rounds 513 k t (replicate t.jobs 0)

-- an array that holds them
pub record Holds (t : Table) (k : ℕ) (a : List ℕ) : Type 0 where
  pub size : length a ≡ 24
  pub agree : Agree a (after_rounds t k)

one : 1 ≤ 513
one = omega arith

length_round : (m : ℕ) (t : Table) (ns : List ℕ) → length (capped_round m t ns) ≡ t.jobs
unfolding capped_round next
length_round m t ns = length-map (next t ns) (min m) ∙ next_length t ns

length_rounds : (m k : ℕ) (t : Table) (ns : List ℕ) → length ns ≡ t.jobs → length (capped_rounds m k t ns) ≡ t.jobs
unfolding capped_rounds
length_rounds m zero t ns e = e
length_rounds m (suc k) t ns e = length_rounds m k t (capped_round m t ns) (length_round m t ns)

module _ (t : Table) where
  capped_at : (a : List ℕ) → Agree a (map (min 513) (norms t)) → (j : ℕ) → get_or a j 0 ≡ min 513 (get_or (norms t) j 0)
  capped_at a h j = h j ∙ get_or-map (min 513) (norms t) j 0

  pub none_known : Holds t 0 (replicate 24 0)
  unfolding after_rounds capped_rounds
  none_known = record { size = refl; agree = λ j. zeros_at 24 j ∙ sym (zeros_at t.jobs j) }

  module _ (k : ℕ) (a b : List ℕ) (h : Holds t k a) (r : IsRound t a b) where
    next_agree : Agree b (capped_round 513 t (after_rounds t k))
    next_agree j = r.agree j ∙ ap (λ (l : List ℕ). get_or l j 0) (capped_agree a (after_rounds t k) h.agree 513 t)

    pub one_more : Holds t (suc k) b
    unfolding after_rounds
    one_more = record {
      size = r.size;
      agree = λ j. next_agree j ∙ ap (λ (l : List ℕ). get_or l j 0) (sym (capped_one_more 513 k t (replicate t.jobs 0)));
    }

    -- two arrays that are equal at their 24 places
    equal_at : ((j : ℕ) → j < 24 → get_or a j 0 ≡ get_or b j 0) → (j : ℕ) → Dec (j < 24) → get_or a j 0 ≡ get_or b j 0
    equal_at e j (yes l) = e j l
    equal_at e j (no d) =
        get_or-eq_default a 0 (omega (arith, h.size)) ∙ sym (get_or-eq_default b 0 (omega (arith, r.size)))

    unchanged : ((j : ℕ) → j < 24 → get_or a j 0 ≡ get_or b j 0) → capped_round 513 t (after_rounds t k) ≡ after_rounds t k
    unfolding after_rounds
    unchanged e =
        ext_get_or 0 (capped_round 513 t (after_rounds t k)) (after_rounds t k)
        (length_round 513 t (after_rounds t k) ∙ sym (length_rounds 513 k t (replicate t.jobs 0) (length-replicate t.jobs 0)))
        (λ j l. sym (next_agree j) ∙ sym (equal_at e j (dec_lt j 24)) ∙ h.agree j)

    -- THE ROUNDS MAY END at the first that changes nothing
    pub settled : k ≤ t.jobs → ((j : ℕ) → j < 24 → get_or a j 0 ≡ get_or b j 0) → NormArray t a
    unfolding after_rounds
    settled l e = record {
      size = h.size;
      at = capped_at a (λ j. h.agree j
          ∙ ap (λ (x : List ℕ). get_or x j 0) (sym (capped_settled 513 one t k (t.jobs - k) (omega arith) (unchanged e))));
    }

  -- or after as many as there are jobs
  pub ended : (a : List ℕ) → Holds t t.jobs a → NormArray t a
  unfolding after_rounds
  ended a h = record {
    size = h.size;
    at = capped_at a (λ j. h.agree j ∙ ap (λ (x : List ℕ). get_or x j 0) (sym (capped_sums 513 one t)));
  }
