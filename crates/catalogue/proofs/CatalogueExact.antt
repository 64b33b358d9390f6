-- `catalogue` IS THE CATALOGUE of a norm, and no other list is. Assumes a good table.
use mathlib.Core.Path.{◌≡◌, refl, sym, ◌∙◌, subst}
use mathlib.Core.Bool.{true}
use mathlib.Core.List.{List, [], ◌∷◌}
use Prim.Native.Nat.{ℕ, ◌≤◌, ◌<◌}
use lib.ListN.{length, get_or}
use Rattle.bpa.specs.Plans.{Table, over}
use Rattle.bpa.specs.Norms.{norms, norm, Good}
use Rattle.bpa.specs.Bisimilar.{Bisimilar, Form}
use Rattle.bpa.specs.Method.{prime_form}
use Rattle.bpa.proofs.Answers.{form_exists, forms_exact, same_norm}
use Rattle.catalogue.specs.Catalogue.{FormOf, Entry, Catalogue, weights, rows_down, rows_of, catalogue}
use Rattle.catalogue.proofs.WeightedRows.{listed_weighs, weighs_listed, listed_rise}
use Rattle.catalogue.proofs.RowCounts.{most_rows, listed_few}
use Rattle.catalogue.proofs.LowestWeights.{weights_long, weighs_form, form_weighs, lowest_form}
use Rattle.catalogue.proofs.RisingRows.{rising_once, rising_only}

-- one list only
pub catalogue_single : (t : Table) (v : ℕ) (l m : List (List ℕ)) → Catalogue t v l → Catalogue t v m → l ≡ m
catalogue_single t v l m c d =
    rising_only l m c.rise d.rise
    (λ f (k, h, e). d.all f (subst (FormOf t v) e (c.forms k h)))
    (λ f (k, h, e). c.all f (subst (FormOf t v) e (d.forms k h)))

-- of norm 0 there is the empty plan
pub catalogue_none : (t : Table) → catalogue t 0 ≡ [] ∷ []
unfolding catalogue rows_of rows_down
catalogue_none t = refl

module _ (t : Table) (g : Good t (norms t)) (v : ℕ) where
  pub catalogue_says : Catalogue t v (catalogue t v)
  unfolding catalogue
  catalogue_says = record {
    forms = λ k h. weighs_form t g v (get_or (rows_of (weights t) v) k []) (listed_weighs (weights t) v k h);
    all = λ f d.
        let w = form_weighs t g v f d in
        subst (λ (n : ℕ). Entry (rows_of (weights t) n) f) w.sum (weighs_listed (weights t) f w.known);
    rise = listed_rise (weights t) v;
  }

  -- each entry is a prime form, its own, of that norm
  pub entry_form : (k : ℕ) → k < length (catalogue t v) → Form t (get_or (catalogue t v) k []) (get_or (catalogue t v) k []) × (norm t (get_or (catalogue t v) k []) ≡ v)
  entry_form k h =
      let d = catalogue_says.forms k h in
      (lowest_form t g (get_or (catalogue t v) k []) d.form.lowest, sym (same_norm t g d.plan (get_or (catalogue t v) k []) d.form.bisimilar) ∙ d.norm_is)

  -- EVERY PLAN of that norm is bisimilar to one entry, its prime form, and to no other
  module _ (p : List ℕ) (o : over t p ≡ true) (n : norm t p ≡ v) where
    pub plan_entry : Entry (catalogue t v) (prime_form t p)
    plan_entry = catalogue_says.all (prime_form t p) (record { plan = p; form = form_exists t g p o; norm_is = n })

    pub entry_of_plan : (i : ℕ) → i < length (catalogue t v) → Bisimilar t p (get_or (catalogue t v) i []) → get_or (catalogue t v) i [] ≡ prime_form t p
    entry_of_plan i h b = sym ((forms_exact t g p (get_or (catalogue t v) i []) (prime_form t p) (get_or (catalogue t v) i []) (form_exists t g p o) (entry_form i h).0).1 b)

    pub one_entry : (k : ℕ) × (k < length (catalogue t v)) × Bisimilar t p (get_or (catalogue t v) k [])
        × ((i : ℕ) → i < length (catalogue t v) → Bisimilar t p (get_or (catalogue t v) i []) → i ≡ k)
    one_entry =
        let (k, h, e) = plan_entry in (
          k,
          h,
          subst (Bisimilar t p) (sym e) (form_exists t g p o).bisimilar,
          λ i l b. rising_once (catalogue t v) catalogue_says.rise i k l h (entry_of_plan i l b ∙ sym e),
        )

-- how many entries there can be, with at most 24 jobs
pub catalogue_few : (t : Table) (v : ℕ) → t.jobs ≤ 24 → length (catalogue t v) ≤ most_rows v
unfolding catalogue
catalogue_few t v h = listed_few (weights t) (subst (λ (n : ℕ). n ≤ 24) (sym (weights_long t)) h) v
