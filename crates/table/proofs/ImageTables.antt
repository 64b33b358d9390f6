-- AN IMAGE IS A SOURCE OF TABLES: refused by its layout, or by its table as any other list of rules; its table, once it passes, is
-- accepted. Assumes nothing.
use mathlib.Core.Path.{◌≡◌, refl}
use mathlib.Core.List.{List}
use Prim.Native.Nat.{ℕ, ◌*◌}
use native.Mathlib.Omega.{arith}
use lib.ListN.{take}
use Rattle.rules.specs.Places.{table_of}
use Rattle.rules.proofs.ListLaws.{table_closed}
use Rattle.answer.proofs.RefusalChains.{passed_first, neither}
use Rattle.refusal.specs.Refusals.{table_refusal, Closed, Accepted}
use Rattle.refusal.proofs.TableRefusals.{accepted_table}
use Rattle.image.specs.Image.{layout_refusal, image_refusal, image_jobs, image_places, table_in}
use Rattle.image.specs.Reading.{HoldsTable}
use Rattle.image.proofs.ImageList.{image_good_list}
use Rattle.table.specs.Tables.{HoldsRules}

pub image_closed : (bs : List ℕ) → layout_refusal bs ≡ 0 → Closed (table_in bs)
unfolding table_in
image_closed bs h = table_closed (image_jobs bs) (image_places bs) (image_good_list bs h)

pub image_passes : (bs : List ℕ) → image_refusal bs ≡ 0 → (layout_refusal bs ≡ 0) × (table_refusal (table_in bs) ≡ 0)
unfolding image_refusal
image_passes bs h = neither (layout_refusal bs) (table_refusal (table_in bs)) h

pub layout_passed : (bs : List ℕ) → layout_refusal bs ≡ 0 → image_refusal bs ≡ table_refusal (table_in bs)
unfolding image_refusal
layout_passed bs h = passed_first (layout_refusal bs) (table_refusal (table_in bs)) h

-- THE TABLE OF AN ACCEPTED IMAGE IS ACCEPTED
pub image_table : (bs : List ℕ) → image_refusal bs ≡ 0 → Accepted (table_in bs)
image_table bs h = let (l, t) = image_passes bs h in accepted_table (table_in bs) (image_closed bs l) t

module _ (bs : List ℕ) (passed : layout_refusal bs ≡ 0) {jobs count : ℕ} {rules : List ℕ} (h : HoldsTable bs jobs count rules) where
  pub image_rules : HoldsRules jobs (8 * count) rules
  image_rules = record {
    inside = omega (arith, h.few_rules);
    size = h.size;
    list = rw (h.jobs_are, h.holds) (image_good_list bs passed);
  }

  pub same_table : table_of jobs (take (8 * count) rules) ≡ table_in bs
  unfolding table_in
  same_table = rw (h.jobs_are, h.holds) refl
