-- The array of a table's norms: it gives refusals 6 and 7, the norms themselves once those are past, and norms of plans. Assumes nothing.
use mathlib.Core.Path.{◌≡◌, refl, sym, ap, ap₂, ◌∙◌}
use mathlib.Core.Bool.{Bool, ◌||◌, cond}
use mathlib.Core.List.{List, [], ◌∷◌, map}
use Prim.Native.Nat.{ℕ, zero, suc, ◌<◌, min}
use native.Mathlib.Decide.{dec_lt}
use native.Mathlib.Omega.{arith}
use lib.Dec.{ltb, eqb}
use lib.ListN.{length, take, length-take, length-map, get_or-map}
use lib.Seq.{ext_get_or, get_or-take}
use borrow.Author.Tests.{lt-ltb, le-ltb, ne_eqb}
use Rattle.bpa.specs.Plans.{Table}
use Rattle.bpa.specs.Norms.{norms, Good}
use Rattle.bpa.proofs.Norm.NormStable.{norms_length}
use Rattle.rules.specs.Places.{table_of}
use Rattle.rules.specs.Lists.{GoodList}
use Rattle.norm.specs.NormArrays.{NormArray, ExactNorms}
use Rattle.norm.proofs.Agreement.{sum_agree}
use Rattle.refusal.specs.Refusals.{any_zero, any_above, norms_refusal, table_refusal, Accepted}

-- capping at 513 keeps both tests
zero_cap : (v : ℕ) → eqb (min 513 v) 0 ≡ eqb v 0
zero_cap zero = refl
zero_cap (suc v) = ne_eqb (min 513 (suc v)) 0 (λ e. omega arith) ∙ sym (ne_eqb (suc v) 0 (λ e. omega arith))

above_cap : (v : ℕ) → Dec (512 < v) → ltb 512 (min 513 v) ≡ ltb 512 v
above_cap v (yes h) = lt-ltb 512 (min 513 v) (omega arith) ∙ sym (lt-ltb 512 v h)
above_cap v (no d) = le-ltb 512 (min 513 v) (omega arith) ∙ sym (le-ltb 512 v (omega arith))

any_zero_cap : (ns : List ℕ) → any_zero (map (min 513) ns) ≡ any_zero ns
unfolding any_zero
any_zero_cap [] = refl
any_zero_cap (v ∷ vs) = ap₂ ◌||◌ (zero_cap v) (any_zero_cap vs)

any_above_cap : (ns : List ℕ) → any_above 512 (map (min 513) ns) ≡ any_above 512 ns
unfolding any_above
any_above_cap [] = refl
any_above_cap (v ∷ vs) = ap₂ ◌||◌ (above_cap v (dec_lt 512 v)) (any_above_cap vs)

module _ (n : ℕ) (rs : List ℕ) (good : GoodList n rs) (a : List ℕ) (is : NormArray (table_of n rs) a) where
  length_norms : length (norms (table_of n rs)) ≡ n
  unfolding table_of
  length_norms = norms_length (table_of n rs)

  length_first : length (take n a) ≡ n
  length_first = length-take n a ∙ omega (arith, is.size, good.jobs)

  first_norms : take n a ≡ map (min 513) (norms (table_of n rs))
  first_norms =
      ext_get_or 0 (take n a) (map (min 513) (norms (table_of n rs)))
      (length_first ∙ sym (length-map (norms (table_of n rs)) (min 513) ∙ length_norms))
      (λ j h. get_or-take n a j 0 (omega (arith, length_first)) ∙ is.at j ∙ sym (get_or-map (min 513) (norms (table_of n rs)) j 0))

  -- REFUSALS 6 AND 7 by the array are those of the table
  pub array_refusal : norms_refusal (take n a) ≡ table_refusal (table_of n rs)
  unfolding norms_refusal table_refusal
  array_refusal =
      ap norms_refusal first_norms
      ∙ ap₂ (λ (x y : Bool). cond x 6 (cond y 7 0)) (any_zero_cap (norms (table_of n rs))) (any_above_cap (norms (table_of n rs)))

  -- the array of an accepted table holds its norms
  pub exact_norms : Accepted (table_of n rs) → ExactNorms (table_of n rs) a
  exact_norms t = record {
    size = is.size;
    at = λ j. is.at j ∙ omega (arith, t.small j);
    few = λ j. omega (arith, is.at j, t.small j);
  }

-- good norms, read from the array
pub array_good : (t : Table) (a : List ℕ) → Good t (norms t) → ExactNorms t a → Good t a
array_good t a g e =
    let same = sum_agree a (norms t) e.at in
    record {
      closed = g.closed;
      slow = λ j b w h. omega (arith, g.slow j b w h, e.at j, same w);
      falls = λ j h. let f = g.falls j h in (f.0, f.1, f.2, omega (arith, f.3, e.at j, same f.1));
    }
