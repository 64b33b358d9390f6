-- The rounds: they keep a base full, and end with one that is stable. Assumes nothing.
use mathlib.Core.Path.{◌≡◌, ap, sym, subst, ◌∙◌}
use mathlib.Core.Bool.{true, false, ◌&&◌}
use mathlib.Core.List.{List}
use Prim.Native.Nat.{ℕ, zero, suc, ◌≤◌, ◌<◌}
use native.Mathlib.Omega.{arith}
use lib.Dec.{eqb}
use lib.ListN.{length}
use borrow.Author.Tests.{eqb-true, eqb-false}
use Rattle.bpa.specs.Plans.{Table}
use Rattle.bpa.specs.Norms.{Good}
use Rattle.bpa.specs.Method.{Base, fits, Pair, holds, first_base, round, refine, final_base}
use Rattle.bpa.specs.Bases.{OrderedPairs, Full}
use Rattle.bpa.proofs.Basics.Cases.{by_test, and_right, and_both}
use Rattle.bpa.proofs.Base.FullBase.{full_higher, next_level, level_rises, full_fits}
use Rattle.bpa.proofs.Base.Pairs.{holds_keep, keep_shorter, keep_all, first_holds}

-- each held pair fits by the base itself
abbrev pub Stable : Table → (norms : List ℕ) → Base → Type 0
Stable t ns b = OrderedPairs t ns (λ y x. b y x ≡ true → fits t ns b y x ≡ true)

round_holds : (t : Table) (ns : List ℕ) (ps : List Pair) (y x : ℕ) →
    holds (round t ns ps) y x ≡ (holds ps y x && fits t ns (holds ps) y x)
unfolding round
round_holds t ns ps y x = holds_keep (fits t ns (holds ps)) ps y x

-- the level at which a base is full after so many rounds
unfoldable pub level_after : Table → (norms : List ℕ) → (rounds level : ℕ) → ℕ
level_after t ns zero n = n
level_after t ns (suc f) n = level_after t ns f (next_level t ns n)

level_grows : (t : Table) (ns : List ℕ) (f n : ℕ) → n ≤ level_after t ns f n
unfolding level_after
level_grows t ns zero n = omega arith
level_grows t ns (suc f) n = omega (arith, level_rises t ns n, level_grows t ns f (next_level t ns n))

module _ (t : Table) (ns : List ℕ) where
  refine_stops : (f : ℕ) (ps : List Pair) → eqb (length (round t ns ps)) (length ps) ≡ true → refine (suc f) t ns ps ≡ ps
  unfolding refine
  refine_stops f ps e = rw (e, refine)

  refine_goes_on : (f : ℕ) (ps : List Pair) → eqb (length (round t ns ps)) (length ps) ≡ false →
      refine (suc f) t ns ps ≡ refine f t ns (round t ns ps)
  unfolding refine
  refine_goes_on f ps e = rw (e, refine)

  round_length : (ps : List Pair) → length (round t ns ps) ≤ length ps
  unfolding round
  round_length ps = keep_shorter (fits t ns (holds ps)) ps

  -- induction over the rounds: P of the fuel, the pairs before and the pairs at the end
  refine_induction : (P : (fuel : ℕ) → (before end : List Pair) → Type 0) → ((ps : List Pair) → P zero ps ps) →
      ((f : ℕ) (ps : List Pair) → length (round t ns ps) ≡ length ps → P (suc f) ps ps) →
      ((f : ℕ) (ps rs : List Pair) → length (round t ns ps) < length ps → P f (round t ns ps) rs → P (suc f) ps rs) →
      (f : ℕ) (ps : List Pair) → P f ps (refine f t ns ps)
  unfolding refine
  refine_induction P none stop go zero ps = none ps
  refine_induction P none stop go (suc f) ps =
      by_test (eqb (length (round t ns ps)) (length ps))
      (λ e.
      subst (P (suc f) ps) (sym (refine_stops f ps e))
      (stop f ps (eqb-true (length (round t ns ps)) (length ps) e)))
      (λ e.
      subst (P (suc f) ps) (sym (refine_goes_on f ps e))
      (go f ps (refine f t ns (round t ns ps))
      (omega (arith, eqb-false (length (round t ns ps)) (length ps) e, round_length ps))
      (refine_induction P none stop go f (round t ns ps))))

  round_stable : (ps : List Pair) → length (round t ns ps) ≡ length ps → Stable t ns (holds ps)
  unfolding round
  round_stable ps e y x hy hx o h =
      and_right (holds ps y x) (fits t ns (holds ps) y x)
      (sym (round_holds t ns ps y x) ∙ ap (λ rs. holds rs y x) (keep_all (fits t ns (holds ps)) ps e) ∙ h)

  refine_stable : (f : ℕ) (ps : List Pair) → length ps ≤ f → Stable t ns (holds (refine f t ns ps))
  refine_stable =
      refine_induction (λ f ps rs. length ps ≤ f → Stable t ns (holds rs))
      (λ ps l. round_stable ps (omega (arith, round_length ps))) (λ f ps e l. round_stable ps e)
      (λ f ps rs lt i l. i (omega arith))

module _ (t : Table) (ns : List ℕ) (g : Good t ns) where
  round_full : (n : ℕ) (ps : List Pair) → Full t ns n (holds ps) → Full t ns (next_level t ns n) (holds (round t ns ps))
  round_full n ps full y x hy hx o δ oδ h =
      round_holds t ns ps y x ∙
      and_both (holds ps y x) (fits t ns (holds ps) y x)
      (full_higher t ns n (next_level t ns n) (holds ps) (level_rises t ns n) full y x hy hx o δ oδ h)
      (full_fits t ns g n (holds ps) full y x hy hx o δ oδ h)

  refine_full : (f : ℕ) (ps : List Pair) (n : ℕ) → Full t ns n (holds ps) →
      Full t ns (level_after t ns f n) (holds (refine f t ns ps))
  unfolding level_after
  refine_full =
      refine_induction t ns (λ f ps rs. (n : ℕ) → Full t ns n (holds ps) → Full t ns (level_after t ns f n) (holds rs))
      (λ ps n full. full)
      (λ f ps e n full. full_higher t ns n (level_after t ns (suc f) n) (holds ps) (level_grows t ns (suc f) n) full)
      (λ f ps rs lt i n full. i (next_level t ns n) (round_full n ps full))

-- THE FINAL BASE
unfoldable pub final_level : Table → (norms : List ℕ) → ℕ
final_level t ns = level_after t ns (length (first_base t ns)) 0

module _ (t : Table) (ns : List ℕ) where
  pub final_stable : Stable t ns (final_base t ns)
  unfolding final_base
  final_stable = refine_stable t ns (length (first_base t ns)) (first_base t ns) (omega arith)

  pub final_full : Good t ns → Full t ns (final_level t ns) (final_base t ns)
  unfolding final_base final_level
  final_full g =
      refine_full t ns g (length (first_base t ns)) (first_base t ns) 0
      (λ y x hy hx o δ oδ h. first_holds t ns y x hy hx o)
