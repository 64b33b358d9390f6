-- The promises about what a plan can become, each with its proved term. Assumes nothing.
use mathlib.Core.Path.{◌≡◌, refl, sym, ap, subst}
use mathlib.Core.Bool.{Bool, true, false, cond}
use mathlib.Core.List.Memᴰ
use mathlib.Core.List.{List, [], ◌∷◌, Memᴰ}
use mathlib.Core.Logic.{inl, inr}
use Prim.Native.Nat.{ℕ, ◌+◌, ◌*◌, ◌≤◌}
use native.Mathlib.Omega.{arith}
use lib.IntN.{pos}
use lib.ListN.{length}
use Rattle.bpa.specs.Plans.{Rule, Table, over, HasRule}
use Rattle.bpa.specs.Norms.{norms}
use Rattle.bpa.proofs.Basics.Cases.{by_test}
use Rattle.bpa.proofs.Basics.Counting.{count_le}
use Rattle.rules.specs.Places.{table_of}
use Rattle.rules.specs.Lists.{GoodList}
use Rattle.rules.proofs.ListLaws.{good_rule, place_of_rule}
use Rattle.answer.proofs.Results.{result_is}
use Rattle.answer.proofs.RefusalChains.{neither}
use Rattle.refusal.specs.Refusals.{plan_refusal}
use Rattle.image.specs.Image.{image_refusal, image_jobs, image_places, table_in}
use Rattle.image.proofs.ImageList.{image_good_list}
use Rattle.table.specs.CallRefusals.{one_plan}
use Rattle.table.proofs.ImageTables.{image_passes}
use Rattle.growth.specs.Growth.{Bounded, GrowthSays}
use Rattle.growth.specs.Reached.{has, members, reached, grows_at, one_of, grows, growth}
use Rattle.growth.proofs.JobSets.{member_exactly, members_counted}
use Rattle.growth.proofs.ReachedExact.{reached_length, reached_led}
use Rattle.growth.proofs.JobsReached.{reached_meaning}
use Rattle.growth.proofs.BoundedPlans.{bounded}
use Rattle.growth.proofs.GrowthExact as exact
use Rattle.growth.proofs.ManyPlans.{many_apart}
use Rattle.growth.proofs.JobCounts as counts
use Rattle.growth.proofs.SameGrowth as same
use Rattle.growth.proofs.RulesReordered as reordered
use Rattle.growth.proofs.AlikeGrowth.{growth_alike}
use Rattle.plan_growth.specs.GrowthCalls.{Grown}
use Rattle.promises.specs.PlanGrowth as promised
use Rattle.promises.proofs.AcceptedCalls.{AcceptedBoth, accepted_both}

-- FINITE OR ENDLESS
pub finite_or_endless : promised.FiniteOrEndless
unfolding promised.FiniteOrEndless
finite_or_endless t p k o =
    by_test (grows t p) (λ e. inr ((exact.endless_exactly t (norms t) k.good p o).0 e)) (λ e. inl ((exact.finite_exactly t (norms t) k.good p o).0 e))

pub never_finite_endless : promised.NeverFiniteEndless
unfolding promised.NeverFiniteEndless
never_finite_endless = exact.not_both

pub growth_decides : promised.GrowthDecides
unfolding promised.GrowthDecides
growth_decides t p k o = (exact.endless_exactly t (norms t) k.good p o, exact.finite_exactly t (norms t) k.good p o)

pub round_decides : promised.RoundDecides
unfolding promised.RoundDecides
round_decides t p k o =
    let round = exact.round_exactly t (norms t) k.good p o in
    let endless = exact.endless_exactly t (norms t) k.good p o in
    let finite = exact.finite_exactly t (norms t) k.good p o in (
      (round.1, round.0),
      (
        (λ f c. exact.not_both t p f (round.0 c)),
        (λ none. by_test (grows t p) (λ e. absurd (none (round.1 (endless.0 e)))) (λ e. finite.0 e)),
      ),
    )

pub endless_long : promised.EndlessLong
unfolding promised.EndlessLong
endless_long t p k o = let long = exact.unbounded_exactly t (norms t) k.good p o in (long.1, long.0)

pub endless_many : promised.EndlessMany
unfolding promised.EndlessMany
endless_many = many_apart

pub same_growth : promised.SameGrowth
unfolding promised.SameGrowth
same_growth t p q k b = (same.same_endless t (norms t) k.good p q b, same.same_finite t (norms t) k.good p q b)

-- THE JOBS
pub reached_exactly : promised.ReachedExactly
unfolding promised.ReachedExactly
reached_exactly t p k o = reached_meaning t (norms t) k.good p o

pub jobs_counted : promised.JobsCounted
unfolding promised.JobsCounted
jobs_counted t p k o = exact.jobs_counted t (norms t) k.good p o

pub count_single : promised.CountSingle
unfolding promised.CountSingle
count_single = counts.count_single

pub growth_reordered : promised.GrowthReordered
unfolding promised.GrowthReordered over
growth_reordered t u p k m e s o =
    reordered.growth_same t u (norms t) (norms u) k.good m.good s p o (subst (λ (n : ℕ). over (record { jobs = n; rules = u.rules }) p ≡ true) e o)

pub alike_growth : promised.AlikeGrowth
unfolding promised.AlikeGrowth
alike_growth = growth_alike

-- OF THE CALL
module _ (bs p : List ℕ) (n : ℕ) (w : Grown bs p (pos n)) where
  abbrev t : Table
  t = table_in bs

  abbrev number : ℕ
  number = length (members (reached t p))

  passed : one_plan bs p ≡ 0
  passed = (result_is (one_plan bs p) (growth t p) n w).0

  given : AcceptedBoth bs p
  given = accepted_both bs p passed

  is : n ≡ growth t p
  is = (result_is (one_plan bs p) (growth t p) n w).1

  by_parts : n ≡ 2 * number + cond (grows t p) 1 0
  unfolding growth
  by_parts = is

pub growth_told : promised.GrowthTold
unfolding promised.GrowthTold
growth_told bs p n w =
    let a = given bs p n w in
    subst (GrowthSays (table_in bs) p) (sym (is bs p n w)) (exact.growth_says (table_in bs) (norms (table_in bs)) a.table.good p a.plan.over_table)

-- an accepted image has rows of at most four jobs, and at most 24 jobs
module _ (bs p : List ℕ) (passed : one_plan bs p ≡ 0) where
  list : GoodList (image_jobs bs) (image_places bs)
  list = image_good_list bs (image_passes bs (neither (image_refusal bs) (plan_refusal (table_in bs) p) passed).0).0

  short_rows : (j a : ℕ) (w : List ℕ) → HasRule (table_in bs) j a w → length w ≤ 4
  unfolding table_in
  short_rows j a w r =
      let (i, l, e) = place_of_rule (image_jobs bs) (image_places bs) j a w r in
      omega (arith, ap (λ (x : Rule). length x.after) e, (good_rule (image_jobs bs) (image_places bs) list i l).few)

  few_jobs : (table_in bs).jobs ≤ 24
  unfolding table_in table_of
  few_jobs = list.jobs

pub growth_bounded : promised.GrowthBounded
unfolding promised.GrowthBounded
growth_bounded bs p n w even =
    let (odd, none, half) = exact.by_digit (grows (table_in bs) p) (number bs p n w) n (by_parts bs p n w) in
    let a = given bs p n w in
    subst (λ (m : ℕ). Bounded (table_in bs) p (3 * m + length p)) (sym half)
    (bounded (table_in bs) (norms (table_in bs)) a.table.good 3 (short_rows bs p (passed bs p n w)) p a.plan.over_table (none.0 even))

pub growth_of_none : promised.GrowthOfNone
unfolding promised.GrowthOfNone grows one_of
growth_of_none bs n w =
    let t = table_in bs in
    subst (λ (l : List ℕ). n ≡ 2 * length l + cond (one_of (grows_at t) l) 1 0)
    (no_members (members (reached t [])) (λ j m. Memᴰ.not-nil (reached_led t [] j ((member_exactly j (reached t [])).0 m)).1)) (by_parts bs [] n w)
  where
    no_members : (l : List ℕ) → ((j : ℕ) → Memᴰ j l → ⊥) → l ≡ []
    no_members [] f = refl
    no_members (j ∷ l) f = absurd (f j (Memᴰ.head refl))

pub growth_small : promised.GrowthSmall
unfolding promised.GrowthSmall
growth_small bs p n w =
    let t = table_in bs in
    let s = reached t p in
    let few : length (members s) ≤ 24 =
    omega (arith, members_counted 0 s, count_le (has s) (length s), reached_length t p, few_jobs bs p (passed bs p n w)) in
    at_most (grows t p) (length (members s)) few (by_parts bs p n w)
  where
    at_most : (b : Bool) (m : ℕ) → m ≤ 24 → n ≡ 2 * m + cond b 1 0 → n ≤ 49
    at_most true m h e = omega (arith, h, e)
    at_most false m h e = omega (arith, h, e)
