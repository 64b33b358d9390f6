-- The promises about the norms that the rounds look up, each with its proved term. Assumes nothing.
use mathlib.Core.Path.{◌≡◌, sym, subst, ◌∙◌}
use mathlib.Core.Bool.{Bool, true, false}
use mathlib.Core.List.{List, [], ◌∷◌, ◌++◌}
use Prim.Native.Nat.{ℕ, ◌+◌, ◌<◌}
use native.Mathlib.Omega.{arith}
use lib.ListN.{get_or}
use Rattle.bpa.specs.Plans.{Table, over}
use Rattle.bpa.specs.Norms.{sum_of, norms, Fewest, Good}
use Rattle.bpa.specs.Bisimilar.{AnyBisimulation}
use Rattle.bpa.proofs.Basics.Cases.{by_test}
use Rattle.bpa.proofs.Rounds.Equivalence.{any_within, equivalent_norm}
use Rattle.bpa.proofs.Norm.NormFewest.{sum_fewest}
use Rattle.bpa.proofs.Norm.GoodTable.{finite_good}
use Rattle.rules.specs.Places.{rule_at, table_of}
use Rattle.refusal.specs.Refusals.{Closed}
use Rattle.refusal.proofs.TableRefusals.{finite}
use Rattle.facts.proofs.TableFacts.{tables}
use Rattle.fingerprints.specs.declared.Prints.{Prints}
use Rattle.rule_filter.specs.declared.Pair.{Pair}
use Rattle.rule_filter.specs.RuleFilter.{MayAgree}
use Rattle.remainders.proofs.RemainderNorms.{row_looks, row_norm, row_over, remainder_norm, remainder_over, remainder_sum}
use Rattle.promises.specs.Remainders as promised

pub rows_normed : promised.RowsNormed
unfolding promised.RowsNormed
rows_normed = (
  λ jobs rs norms sums i list good row_norms h. row_norm (row_looks list good row_norms) i h,
  λ facts i h. let t = tables facts in row_norm (row_looks t.list t.good t.row_norms) i h,
)

pub remainders_normed : promised.RemaindersNormed
unfolding promised.RemaindersNormed
remainders_normed jobs rs sums waiting behind r number l h k =
    subst (Fewest (table_of jobs rs) ((rule_at rs r).after ++ waiting)) (sym k.is) (remainder_norm l r h)

-- two counts of the fewest moves of a plan are equal
fewest_one : (t : Table) (p : List ℕ) (v w : ℕ) → Fewest t p v → Fewest t p w → v ≡ w
fewest_one t p v w ((a, f, e), g) ((b, h, k), l) = omega (arith, e, k, g b h, l a f)

-- a closed table whose jobs have norms is good
good : (t : Table) → Closed t → ((j : ℕ) → j < t.jobs → (u : ℕ) × Fewest t (j ∷ []) u) → Good t (norms t)
good t closed runs = finite_good t closed (λ j h. let (u, f) = runs j h in (finite t closed j u h f).0)

-- by numbers for which a table is good, related plans have equal sums
module _ (t : Table) (ns : List ℕ) (g : Good t ns) (p q : List ℕ) (o : over t p ≡ true) (o' : over t q ≡ true)
    (R : List ℕ → List ℕ → Type 0) (b : AnyBisimulation t R) (related : R p q) where
  sums_equal : sum_of ns p ≡ sum_of ns q
  sums_equal = equivalent_norm t ns g p q o o' (any_within t ns g R b p q o o' related)

pub unequal_norms : promised.UnequalNorms
unfolding promised.UnequalNorms
unequal_norms t p q v w c f o o' a b n R k r =
    let g = good t c f in
    n
    (fewest_one t p v (sum_of (norms t) p) a (sum_fewest t (norms t) g p o)
    ∙ sums_equal t (norms t) g p q o o' R k r
    ∙ fewest_one t q (sum_of (norms t) q) w (sum_fewest t (norms t) g q o') b)

pub unequal_remainders : promised.UnequalRemainders
unfolding promised.UnequalRemainders
unequal_remainders jobs rs sums waiting gap r s v w l h k a b n = (told, apart)
  where
    differ : get_or sums r 0 ≡ get_or sums s 0 + gap → ⊥
    differ e = n (omega (arith, a.is, b.is, e))

    told : (prints : Prints) (pair : Pair) (out : Bool) → pair.gap ≡ gap → MayAgree rs sums prints pair r s out → out ≡ false
    told prints pair out same m = by_test out (λ yes. absurd (differ (omega (arith, same, m.norm yes)))) (λ no. no)

    apart : (R : List ℕ → List ℕ → Type 0) → AnyBisimulation (table_of jobs rs) R → R (rule_at rs r).after ((rule_at rs s).after ++ waiting) → ⊥
    apart R c related =
        let same =
        sums_equal (table_of jobs rs) l.norms l.good (rule_at rs r).after ((rule_at rs s).after ++ waiting) (row_over l r h)
        (remainder_over l s k) R c related in
        differ ((l.row_norms.at r h).is ∙ same ∙ remainder_sum l s k)
