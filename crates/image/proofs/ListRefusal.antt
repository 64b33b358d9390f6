-- The list of rules that none of refusals 2, 4 and 5 meets. Assumes nothing.
use mathlib.Core.Path.{◌≡◌, refl}
use mathlib.Core.Bool.{Bool, ◌&&◌, not, cond}
use mathlib.Core.List.{List}
use Prim.Native.Nat.{ℕ, ◌*◌, ◌%◌}
use native.Mathlib.Omega.{arith}
use lib.Dec.{leb, eqb}
use lib.ListN.{length}
use borrow.Author.Tests.{leb-true, eqb-true, le-leb, eq-eqb}
use Rattle.rules.specs.Places.{places_good, rule_count}
use Rattle.rules.specs.Lists.{GoodList}
use Rattle.image.specs.Writing.{list_refusal}
use Rattle.image.proofs.Refusals.{passed, pass}
use Rattle.bpa.proofs.Basics.Cases.{and_left, and_right, and_both}

module _ (n : ℕ) (rs : List ℕ) where
  abbrev even : Bool
  even = eqb (length rs % 8) 0

  abbrev count : Bool
  count = leb 1 (rule_count rs) && leb (rule_count rs) 252

  abbrev jobs_fit : Bool
  jobs_fit = leb 1 n && leb n 24

  abbrev after_jobs : ℕ
  after_jobs = cond (not (places_good (rule_count rs) n rs)) 5 0

  abbrev after_count : ℕ
  after_count = cond (not jobs_fit) 4 after_jobs

  whole_list : length rs % 8 ≡ 0 → length rs ≡ 8 * rule_count rs
  unfolding rule_count
  whole_list h = omega arith

  rest_list : length rs ≡ 8 * rule_count rs → length rs % 8 ≡ 0
  unfolding rule_count
  rest_list h = omega arith

  -- THE ONE CONDITION for a job count and a list of rules, from an image or handed in
  pub good_list : list_refusal n rs ≡ 0 → GoodList n rs
  unfolding list_refusal
  good_list h =
      let sized = passed (even && count) 2 after_count (omega arith) h in
      let counted = passed jobs_fit 4 after_jobs (omega arith) sized.1 in
      let placed = passed (places_good (rule_count rs) n rs) 5 0 (omega arith) counted.1 in
      let some_few = and_right even count sized.0 in
      record {
        whole = whole_list (eqb-true (length rs % 8) 0 (and_left even count sized.0));
        some = leb-true 1 (rule_count rs) (and_left (leb 1 (rule_count rs)) (leb (rule_count rs) 252) some_few);
        few = leb-true (rule_count rs) 252 (and_right (leb 1 (rule_count rs)) (leb (rule_count rs) 252) some_few);
        job = leb-true 1 n (and_left (leb 1 n) (leb n 24) counted.0);
        jobs = leb-true n 24 (and_right (leb 1 n) (leb n 24) counted.0);
        places = placed.0;
      }

  pub list_passes : GoodList n rs → list_refusal n rs ≡ 0
  unfolding list_refusal
  list_passes g =
      pass (even && count) 2 after_count
      (and_both even count (eq-eqb (length rs % 8) 0 (rest_list g.whole))
      (and_both (leb 1 (rule_count rs)) (leb (rule_count rs) 252) (le-leb 1 (rule_count rs) g.some) (le-leb (rule_count rs) 252 g.few)))
      (pass jobs_fit 4 after_jobs (and_both (leb 1 n) (leb n 24) (le-leb 1 n g.job) (le-leb n 24 g.jobs))
      (pass (places_good (rule_count rs) n rs) 5 0 g.places refl))
