-- The answer of a replay by where the plan can end and how far it can get. Assumes nothing.
use mathlib.Core.Path.{◌≡◌, refl, sym, ap, ◌∙◌, subst}
use mathlib.Core.List.{List, [], ◌∷◌, ◌++◌, append-nil}
use mathlib.Core.Logic.{inl, inr}
use Prim.Native.Nat.{ℕ, suc, ◌+◌, ◌-◌, ◌≤◌, ◌<◌}
use native.Mathlib.Omega.{arith}
use lib.ListN.{length, take, drop, take-append-drop, length-append, length-drop}
use lib.Seq.{take_at}
use Rattle.bpa.specs.Plans.{Table, Runs}
use Rattle.replay.specs.Replay.{Begins, Whole, Says}
use Rattle.replay.specs.Ends.{Ends, Gets}

-- with nothing left the run is all of the log
all_made : (run rest log : List ℕ) → log ≡ run ++ rest → length rest ≡ 0 → run ≡ log
all_made run [] log e z = sym (e ∙ append-nil run)
all_made run (a ∷ rest) log e z = absurd (omega arith)

module _ (t : Table) (p log : List ℕ) where
  whole_ends : Whole t p log → Ends t p log 0
  whole_ends r = (log, [], sym (append-nil log), refl, r)

  pub whole_said : Ends t p log 0 → Says t p log 1
  whole_said (run, rest, e, z, r) = inl (refl, subst (λ (l : List ℕ). Runs t p l []) (all_made run rest log e z) r)

  pub part_said : (Ends t p log 0 → ⊥) → Gets t p log 0 → Says t p log 0
  part_said n (run, rest, e, z, end, r) =
      inr (inl (refl, ((λ w. n (whole_ends w)), (end, subst (λ (l : List ℕ). Runs t p l end) (all_made run rest log e z) r))))

  -- a beginning of the log leaves the rest of it
  begins_gets : (k : ℕ) → Begins t p (take k log) → Gets t p log (length log - k)
  begins_gets k (end, r) = (take k log, drop k log, sym (take-append-drop k log), length-drop k log, end, r)

  pub place_said : (d : ℕ) → 0 < d → Gets t p log d → ((e : ℕ) → Gets t p log e → d ≤ e) → Says t p log (2 + (length log - d))
  place_said d s (run, rest, e, z, end, r) least =
      let n : length log ≡ length run + d = ap length e ∙ length-append run rest ∙ ap (λ (x : ℕ). length run + x) z in
      let front : take (length log - d) log ≡ run =
      ap (take (length log - d)) e ∙ take_at run rest (length log - d) (omega (arith, n)) in
      inr (inr (
        length log - d,
        refl,
        (
          (end, subst (λ (l : List ℕ). Runs t p l end) (sym front) r),
          (λ b. omega (arith, least (length log - suc (length log - d)) (begins_gets (suc (length log - d)) b), n)),
        ),
      ))
