-- The base that the rounds end with holds a pair exactly if its two sides match at every number of rounds. Assumes nothing.
use mathlib.Core.Path.{◌≡◌}
use mathlib.Core.Bool.{true}
use mathlib.Core.List.{List, [], ◌∷◌}
use Prim.Native.Nat.{ℕ, ◌<◌}
use Rattle.bpa.specs.Plans.{Table, over}
use Rattle.bpa.specs.Norms.{Good}
use Rattle.bpa.specs.Method.{Base, precedes, candidate, final_base}
use Rattle.bpa.specs.Bases.{Full}
use Rattle.bpa.proofs.Rounds.Equivalence.{Equivalent}
use Rattle.bpa.proofs.Base.Refinement.{Stable, final_level, final_stable, final_full}
use Rattle.bpa.proofs.Base.StableBase.{stable_sound}

pub record Exact (t : Table) (ns : List ℕ) (b : Base) : Type 0 where
  pub sound : (y x : ℕ) → y < t.jobs → x < t.jobs → precedes ns x y ≡ true → b y x ≡ true →
      Equivalent t (y ∷ []) (x ∷ candidate t ns y x)
  pub full : (y x : ℕ) (δ : List ℕ) → y < t.jobs → x < t.jobs → over t δ ≡ true → precedes ns x y ≡ true →
      Equivalent t (y ∷ []) (x ∷ δ) → b y x ≡ true

module _ (t : Table) (ns : List ℕ) (g : Good t ns) where
  -- so does every base that is stable and full at some level
  pub stable_exact : (b : Base) (n : ℕ) → Full t ns n b → Stable t ns b → Exact t ns b
  stable_exact b n f s = record {
    sound = λ y x hy hx o h n. stable_sound t ns g b s n y x hy hx o h;
    full = λ y x δ hy hx oδ o h. f y x hy hx o δ oδ (h n);
  }

  pub exact_base : Exact t ns (final_base t ns)
  exact_base = stable_exact (final_base t ns) (final_level t ns) (final_full t ns g) (final_stable t ns)
