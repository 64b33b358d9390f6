-- TWO IMAGES AND A LIST: what the checks of all come to, and their joined table once they are past. Assumes nothing.
use Rattle.std.proofs.Common.{◌≡◌, List, refl, sym, ap, ap₂, ◌∙◌, ℕ, Result, Ok, Err}
use Rattle.std.specs.Result.{result_and}
use Rattle.bpa.specs.Plans.{Table}
use Rattle.rules.specs.Places.{table_of}
use Rattle.answer.specs.declared.Refusal.{Refusal}
use Rattle.answer.specs.Refusals.{refusal_of, or_else}
use Rattle.answer.proofs.RefusalChains.{both_pass, passed_first}
use Rattle.answer.proofs.ResultChains.{err_stops, ok_passes, ok_goes_on}
use Rattle.image.specs.Image.{image_refusal, table_in}
use Rattle.table.specs.Sources.{Source, table_held}
use Rattle.table.specs.declared.held.HeldTable.{HeldTable}
use Rattle.alike.specs.Alike.{replaced}
use Rattle.alike_list.specs.AlikeLists.{alike_pairs, alike_refusal}
use Rattle.replacing.proofs.ListedTables.{handed_on, source_refused, listed_is}
use Rattle.joined.specs.Joined.{joined}
use Rattle.joining.specs.JoinedBytes.{tables_refusal}
use Rattle.joining.specs.JoinedResults.{Joins}
use Rattle.joining.proofs.JoinedResults.{joined_loads}
use Rattle.joined_plans.specs.PlansOfTwo.{plans_refusal_between}
use Rattle.two_tables.specs.TableCalls.{images_refusal, joined_refusal, joined_table, two_tables}

-- the number of jobs of a table that is held
pub jobs_of : (h : HeldTable) {t : Table} → table_held h ≡ t → h.jobs ≡ t.jobs
unfolding table_of
jobs_of h e = ap (λ (t : Table). t.jobs) e

-- one check and then another, both made
pub and_chain : {A B : Type 0} (x : Result A Refusal) (y : Result B Refusal) {f g : ℕ} → refusal_of x ≡ f → refusal_of y ≡ g → refusal_of (result_and x y) ≡ or_else f g
and_chain (Ok a) y e d = ok_goes_on (Ok a) a y refl e d
and_chain {B = B} (Err r) y {g = g} e d = err_stops (Err r) (Err r) r g refl refl e

pub and_passed : {A B : Type 0} (x : Result A Refusal) (y : Result B Refusal) (b : B) → result_and x y ≡ Ok b → ((a : A) × (x ≡ Ok a)) × (y ≡ Ok b)
and_passed (Ok a) y b e = ((a, refl), e)
and_passed {B = B} (Err r) y b e = let n : ◌≡◌ {A = Result B Refusal} (Err r) (Ok b) = e in cc

-- what each check of two images comes to, and their joined table once they are past: for a proof that goes check by check, without `Joins`
module _ (bs cs : List ℕ) {x x' : Result HeldTable Refusal} (s : Source (image_refusal bs) (table_in bs) x) (s' : Source (image_refusal cs) (table_in cs) x') where
  module _ (h : HeldTable) (e : x ≡ Ok h) where
    pub second_refused : {A : Type 0} (y : Result A Refusal) (r : Refusal) → x' ≡ Err r → y ≡ Err r → refusal_of y ≡ images_refusal bs cs
    second_refused y r p q = ok_goes_on x h y e s.refusal_is (err_stops x' y r _ p q s'.refusal_is)

    module _ (k : HeldTable) (d : x' ≡ Ok k) {B : Type 0} (u : Result B Refusal) (sizes : refusal_of u ≡ tables_refusal (table_held h) (table_held k)) where
      sizes_are : refusal_of u ≡ tables_refusal (table_in bs) (table_in cs)
      sizes_are = sizes ∙ ap₂ tables_refusal (s.holds h e) (s'.holds k d)

      pub sizes_refused : {A : Type 0} (y : Result A Refusal) (r : Refusal) → u ≡ Err r → y ≡ Err r → refusal_of y ≡ images_refusal bs cs
      sizes_refused y r p q = ok_goes_on x h y e s.refusal_is (ok_goes_on x' k y d s'.refusal_is (handed_on u y r p q sizes_are))

      pub images_passed : (b : B) → u ≡ Ok b → images_refusal bs cs ≡ 0
      images_passed b p = both_pass _ _ (ok_passes x h e s.refusal_is) (both_pass _ _ (ok_passes x' k d s'.refusal_is) (ok_passes u b p sizes_are))

      -- under a list
      pub joined_is : (l m : HeldTable) (ls : List ℕ) → table_held l ≡ joined (table_held h) (table_held k) →
          table_held m ≡ replaced (alike_pairs ls) (table_held l) → table_held m ≡ joined_table bs cs ls
      joined_is l m ls f g = g ∙ ap (replaced (alike_pairs ls)) (f ∙ ap₂ joined (s.holds h e) (s'.holds k d))

-- the number of jobs of a table under a list
pub same_jobs : (l m : HeldTable) (ls : List ℕ) → table_held m ≡ replaced (alike_pairs ls) (table_held l) → m.jobs ≡ l.jobs
unfolding table_of replaced
same_jobs l m ls g = jobs_of m g

-- the tables of both images, joined
module _ (bs cs ls : List ℕ) {x z : Result HeldTable Refusal} (s : Source (image_refusal bs) (table_in bs) x) (j : Joins (image_refusal cs) (table_in cs) x z) where
  both : Source (images_refusal bs cs) (joined (table_in bs) (table_in cs)) z
  both = joined_loads s j

  pub images_refused : {A : Type 0} (y : Result A Refusal) (r : Refusal) → z ≡ Err r → y ≡ Err r → refusal_of y ≡ joined_refusal bs cs ls
  images_refused y r p q = source_refused both ls y r p q

  -- under the list, and with the plans
  module _ (l : HeldTable) (p : z ≡ Ok l) {A : Type 0} (u : Result A Refusal) (listed : refusal_of u ≡ alike_refusal ls) where
    pub all_checks : {B : Type 0} (v : Result B Refusal) (left right : List ℕ) → refusal_of v ≡ plans_refusal_between (table_in bs) (table_in cs) left right →
        refusal_of (result_and u v) ≡ two_tables bs cs ls left right
    all_checks v left right plans =
        let none = ok_passes z l p both.refusal_is in
        and_chain u v listed plans
        ∙ sym (ap (λ (f : ℕ). or_else f (plans_refusal_between (table_in bs) (table_in cs) left right)) (passed_first (images_refusal bs cs) (alike_refusal ls) none))

    pub table_is : (m : HeldTable) → table_held m ≡ replaced (alike_pairs ls) (table_held l) → table_held m ≡ joined_table bs cs ls
    table_is m e = listed_is both ls l p u listed m e
