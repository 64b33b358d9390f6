-- A table has no choice of outcome exactly if no plan has two steps by one move (002, proposition 8.3); under an alike list this is said of the
-- replaced table. Assumes nothing.
use mathlib.Core.Path.{◌≡◌, refl, sym, ap, ◌∙◌}
use mathlib.Core.List.{List, [], ◌∷◌, ◌++◌, append-nil}
use mathlib.Core.Logic.{◌↔◌}
use Prim.Native.Nat.{ℕ}
use Rattle.bpa.specs.Plans.{Table, Step}
use Rattle.alike.specs.Alike.{Pair, replace, replaced}
use Rattle.alike.proofs.ReplacedTables.{rule_replaced, rule_raw}
use Rattle.deterministic.specs.Deterministic.{Deterministic, DeterministicAlike}

pub single_step : (t : Table) → Deterministic t → (p : List ℕ) (a : ℕ) (q r : List ℕ) → Step t p a q → Step t p a r → q ≡ r
single_step t d [] a q r s k = absurd s
single_step t d (j ∷ js) a q r (v, m, e) (w, k, f) = e ∙ ap (λ (l : List ℕ). l ++ js) (d j a v w m k) ∙ sym f

pub single_steps : (t : Table) → Deterministic t ↔ ((p : List ℕ) (a : ℕ) (q r : List ℕ) → Step t p a q → Step t p a r → q ≡ r)
single_steps t = (
  single_step t,
  (λ one j a v w m k. sym (append-nil v) ∙ one (j ∷ []) a (v ++ []) (w ++ []) (v, m, refl) (w, k, refl) ∙ append-nil w),
)

pub deterministic_alike : (ps : List Pair) (t : Table) → Deterministic (replaced ps t) ↔ DeterministicAlike ps t
deterministic_alike ps t = (
  (λ d j a b v w m k e. d j (replace ps b) v w (rw e at (rule_replaced ps t j a v m)) (rule_replaced ps t j b w k)),
  (λ d j a v w m k.
      let (b, x, e) = rule_raw ps t j a v m in
      let (c, y, f) = rule_raw ps t j a w k in
      d j b c v w x y (e ∙ sym f)),
)
