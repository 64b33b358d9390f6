-- Flags of jobs, of which one more is raised. Assumes nothing.
use mathlib.Core.Path.{◌≡◌, sym, ap, ◌∙◌}
use mathlib.Core.Bool.{Bool, true, false, true≢false}
use mathlib.Core.List.{List}
use Prim.Native.Nat.{ℕ, ◌<◌}
use lib.ListN.{length, get_or, set}
use lib.Seq.{get_or-set_same, get_or-set_other}

module _ (flags : List Bool) (y : ℕ) (inside : y < length flags) (j : ℕ) (low : get_or (set flags y true) j false ≡ false) where
  -- a flag that is not raised is another one
  pub low_other : j ≡ y → ⊥
  low_other e =
      true≢false
      (sym (ap (λ (i : ℕ). get_or (set flags y true) i false) e ∙ get_or-set_same flags y true false inside) ∙ low)

  -- and was not raised before
  pub low_before : get_or flags j false ≡ false
  low_before = sym (get_or-set_other flags y j true false low_other) ∙ low
