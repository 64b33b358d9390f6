-- The promises about alike lists and the calls that take one, each with its proved term. Assumes nothing.
use mathlib.Core.Path.{◌≡◌, refl, sym, ap, subst, ◌∙◌}
use mathlib.Core.Bool.{Bool, true, false, cond}
use mathlib.Core.List.{List}
use mathlib.Core.Logic.{inl, inr, ⊎_elim}
use Prim.Native.Nat.{ℕ, ◌/◌, ◌%◌, ◌≤◌, ◌<◌}
use native.Mathlib.Omega.{arith}
use lib.Dec.{ltb}
use lib.ListN.{length, get_or}
use borrow.Author.Tests.{ltb-true, lt-ltb}
use Rattle.bpa.specs.Plans.{Table, over, Step}
use Rattle.bpa.specs.Norms.{sum_of, norms, norm, Good}
use Rattle.bpa.specs.Bisimilar.{Bisimulation}
use Rattle.bpa.proofs.Basics.Cases.{by_test, or_cases, or_left, or_right, is_false}
use Rattle.answer.specs.Refusals.{or_else}
use Rattle.answer.proofs.RefusalChains.{neither}
use Rattle.refusal.specs.Refusals.{jobs_refusal, sum_refusal, plan_refusal, plans_refusal, Accepted}
use Rattle.image.specs.Image.{image_refusal, table_in}
use Rattle.table.proofs.ImageTables.{image_table}
use Rattle.alike.specs.Alike.{Pair, replaced, is_from, clashes, AlikeBisimulation}
use Rattle.alike.proofs.ReplacedMoves as moves
use Rattle.alike.proofs.ReplacedTables as tables
use Rattle.alike.proofs.ListClashes.{clashes_exact}
use Rattle.alike.proofs.AlikeBisimulations as bisimulations
use Rattle.alike_list.specs.AlikeLists.{alike_pairs, alike_refusal}
use Rattle.alike_list.specs.AlikeTables.{alike_table, listed_refusal}
use Rattle.alike_list.proofs.ListRefusals.{not_whole, twelve, by_clash}
use Rattle.sameness.proofs.NoListCalls.{compared_none}
use Rattle.prime_forms.proofs.NoListForms.{formed_none}
use Rattle.promises.specs.Promises as plain
use Rattle.promises.specs.AlikeLists as promised
use Rattle.promises.proofs.Promises as proved
use Rattle.promises.proofs.SourceCalls.{answer_tells, bytes_form, bytes_stand, bytes_tell}

-- REFUSALS 12 AND 13, by the two tests
either : (b : Bool) {n : ℕ} → n ≡ cond b 13 0 → n ≡ 12 → ⊥
either true e d = omega (arith, e, d)
either false e d = omega (arith, e, d)

no_clash : (ls : List ℕ) → alike_refusal ls ≡ 0 → clashes (alike_pairs ls) ≡ false
no_clash ls z =
    by_test (not_whole ls) (λ e. absurd (omega (arith, twelve ls e, z)))
    (λ e. is_false (clashes (alike_pairs ls)) (λ c. omega (arith, by_clash ls e ∙ ap (λ (b : Bool). cond b 13 0) c, z)))

pub twelve_exactly : promised.TwelveExactly
unfolding promised.TwelveExactly
twelve_exactly ls = (
  (λ z. by_test (not_whole ls)
      (λ e. ⊎_elim (λ (d : ltb 32 (length ls / 4) ≡ true). inl (ltb-true 32 (length ls / 4) d))
      (λ (d : ltb 0 (length ls % 4) ≡ true). inr (ltb-true 0 (length ls % 4) d)) (or_cases (ltb 32 (length ls / 4)) (ltb 0 (length ls % 4)) e))
      (λ e. absurd (either (clashes (alike_pairs ls)) (by_clash ls e) z))),
  (λ h. twelve ls (⊎_elim
      (λ (l : 32 < length ls / 4). or_left (ltb 32 (length ls / 4)) (ltb 0 (length ls % 4)) (lt-ltb 32 (length ls / 4) l))
      (λ (l : 0 < length ls % 4). or_right (ltb 32 (length ls / 4)) (ltb 0 (length ls % 4)) (lt-ltb 0 (length ls % 4) l)) h)),
)

pub thirteen_exactly : promised.ThirteenExactly
unfolding promised.ThirteenExactly
thirteen_exactly ls = (
  (λ z. (
    (λ y. omega (arith, z, y)),
    by_test (not_whole ls) (λ e. absurd (omega (arith, twelve ls e, z)))
        (λ e. (clashes_exact (alike_pairs ls)).0
        (by_test (clashes (alike_pairs ls)) (λ c. c) (λ c. absurd (omega (arith, by_clash ls e ∙ ap (λ (b : Bool). cond b 13 0) c, z))))),
  )),
  (λ (n, c). by_test (not_whole ls) (λ e. absurd (n (twelve ls e)))
      (λ e. by_clash ls e ∙ ap (λ (b : Bool). cond b 13 0) ((clashes_exact (alike_pairs ls)).1 c))),
)

-- WHAT MOVES COUNT AS
pub pairs_replace : promised.PairsReplace
unfolding promised.PairsReplace
pairs_replace ls z = moves.pair_replaces (alike_pairs ls) (no_clash ls z)

pub others_stay : promised.OthersStay
unfolding promised.OthersStay
others_stay ps a h = moves.not_from ps a (is_false (is_from ps a) (λ e. let (p, m, f, r) = moves.from_pair ps a e in h p m f))

pub replaced_once : promised.ReplacedOnce
unfolding promised.ReplacedOnce
replaced_once ls z = moves.replaced_once (alike_pairs ls) (no_clash ls z)

-- THE REPLACED TABLE
pub replaced_none : promised.ReplacedNone
unfolding promised.ReplacedNone
replaced_none = tables.replaced_none

pub replaced_norms : promised.ReplacedNorms
unfolding promised.ReplacedNorms
replaced_norms = tables.norms_replaced

pub replaced_over : promised.ReplacedOver
unfolding promised.ReplacedOver
replaced_over = tables.over_replaced

pub replaced_accepted : promised.ReplacedAccepted
unfolding promised.ReplacedAccepted
replaced_accepted ps t =
    let e = tables.norms_replaced ps t in (
      (λ a. record {
        good = subst (Good t) e (tables.good_raw ps t (norms (replaced ps t)) a.good);
        small = λ j. subst (λ (ns : List ℕ). get_or ns j 0 ≤ 512) e (a.small j);
      }),
      (λ a. record {
        good = subst (Good (replaced ps t)) (sym e) (tables.good_replaced ps t (norms t) a.good);
        small = λ j. subst (λ (ns : List ℕ). get_or ns j 0 ≤ 512) (sym e) (a.small j);
      }),
    )

pub replaced_refusals : promised.ReplacedRefusals
unfolding promised.ReplacedRefusals plan_refusal plans_refusal replaced
replaced_refusals ps t p q =
    let e = tables.norms_replaced ps t in
    let jobs = jobs_refusal t.jobs in (
      ap (λ (ns : List ℕ). or_else (jobs p) (sum_refusal ns p)) e,
      ap (λ (ns : List ℕ). or_else (jobs p) (or_else (jobs q) (or_else (sum_refusal ns p) (sum_refusal ns q)))) e,
    )

pub replaced_steps : promised.ReplacedSteps
unfolding promised.ReplacedSteps
replaced_steps ps t p b q = (
  tables.step_raw ps t p b q,
  λ (a, s, e). subst (λ (x : ℕ). Step (replaced ps t) p x q) e (tables.step_replaced ps t p a q s),
)

pub bisimulations_alike : promised.BisimulationsAlike
unfolding promised.BisimulationsAlike
bisimulations_alike = bisimulations.bisimulation_alike

pub any_bisimulations_alike : promised.AnyBisimulationsAlike
unfolding promised.AnyBisimulationsAlike
any_bisimulations_alike = bisimulations.any_bisimulation_alike

-- SAMENESS AND PRIME FORMS UNDER A LIST: those of the replaced table, which is accepted if the table is
pub same_stays : promised.SameStays
unfolding promised.SameStays over replaced Bisimulation AlikeBisimulation
same_stays ps t p q b = record {
  over_left = b.over_left;
  over_right = b.over_right;
  relation = b.relation;
  bisimulation = (bisimulations.bisimulation_alike ps t b.relation).1 matched;
  related = b.related;
}
  where
    matched : AlikeBisimulation ps t b.relation
    matched u v o l h =
        let (f, g) = b.bisimulation u v o l h in (
          λ a u' s. let (v', k, r) = f a u' s in (a, v', k, refl, r),
          λ a v' s. let (u', k, r) = g a v' s in (a, u', k, refl, r),
        )

pub accepted : (ps : List Pair) (t : Table) → Accepted t → Accepted (replaced ps t)
unfolding promised.ReplacedAccepted
accepted ps t k = (replaced_accepted ps t).1 k

pub alike_same_exactly : promised.AlikeSameExactly
unfolding promised.AlikeSameExactly plain.SameExactly over replaced
alike_same_exactly ps t p q k o u = proved.same_exactly (replaced ps t) p q (accepted ps t k) o u

pub alike_apart_from_all : promised.AlikeApartFromAll
unfolding promised.AlikeApartFromAll plain.ApartFromAll over replaced
alike_apart_from_all ps t p q k o u = proved.apart_from_all (replaced ps t) p q (accepted ps t k) o u

pub alike_form_there : promised.AlikeFormThere
unfolding promised.AlikeFormThere plain.FormThere over replaced
alike_form_there ps t p k o = proved.form_there (replaced ps t) p (accepted ps t k) o

pub alike_form_single : promised.AlikeFormSingle
unfolding promised.AlikeFormSingle plain.FormSingle
alike_form_single ps t p f k = proved.form_single (replaced ps t) p f (accepted ps t k)

pub alike_forms_tell : promised.AlikeFormsTell
unfolding promised.AlikeFormsTell plain.FormsTell
alike_forms_tell ps t p q f g k = proved.forms_tell (replaced ps t) p q f g (accepted ps t k)

pub alike_form_longest : promised.AlikeFormLongest
unfolding promised.AlikeFormLongest plain.FormLongest
alike_form_longest ps t p f q k = proved.form_longest (replaced ps t) p f q (accepted ps t k)

pub alike_stands_exactly : promised.AlikeStandsExactly
unfolding promised.AlikeStandsExactly plain.StandsExactly over replaced norm
alike_stands_exactly ps t j k h =
    let (stands, lowest) = proved.stands_exactly (replaced ps t) j (accepted ps t k) h in (
      (λ l.
          let (p, o, n, f, form, m) = stands l in
          (p, o, subst (λ (ns : List ℕ). sum_of ns p ≤ 4096) (tables.norms_replaced ps t) n, f, form, m)),
      lowest,
    )

-- OF THE CALLS
pub no_list_compared : promised.NoListCompared
unfolding promised.NoListCompared
no_list_compared = compared_none

pub no_list_formed : promised.NoListFormed
unfolding promised.NoListFormed
no_list_formed = formed_none

-- an image under a list is a source of tables
module _ (bs ls : List ℕ) where
  pub source : listed_refusal bs ls ≡ 0 → Accepted (alike_table bs ls)
  source z = accepted (alike_pairs ls) (table_in bs) (image_table bs (neither (image_refusal bs) (alike_refusal ls) z).0)

pub alike_compare_tells : promised.AlikeCompareTells
unfolding promised.AlikeCompareTells
alike_compare_tells bs ls = answer_tells (listed_refusal bs ls) (alike_table bs ls) (source bs ls)

pub alike_form_written : promised.AlikeFormWritten
unfolding promised.AlikeFormWritten
alike_form_written bs ls = bytes_form (listed_refusal bs ls) (alike_table bs ls) (source bs ls)

pub alike_stands_written : promised.AlikeStandsWritten
unfolding promised.AlikeStandsWritten
alike_stands_written bs ls = bytes_stand (listed_refusal bs ls) (alike_table bs ls) (source bs ls)

pub alike_forms_written : promised.AlikeFormsWritten
unfolding promised.AlikeFormsWritten
alike_forms_written bs ls = bytes_tell (listed_refusal bs ls) (alike_table bs ls) (source bs ls)
