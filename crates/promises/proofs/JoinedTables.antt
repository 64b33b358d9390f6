-- The promises about two tables that are joined, each with its proved term. Assumes nothing.
use mathlib.Core.Path.{◌≡◌, refl, sym, ap, ap₂, subst, ◌∙◌}
use mathlib.Core.Bool.{Bool, true, false, ◌||◌, cond}
use mathlib.Core.List.{List, ◌++◌, map}
use mathlib.Core.Logic.{◌↔◌, inl, inr, ⊎_elim}
use Prim.Native.Nat.{ℕ, zero, suc, ◌+◌, ◌-◌, ◌≤◌, ◌<◌}
use native.Mathlib.Decide.{dec_lt}
use native.Mathlib.Omega.{arith}
use lib.Dec.{ltb}
use lib.IntN.{pos}
use lib.ListN.{length, get_or, get_or-append}
use borrow.Author.Tests.{ltb-true, lt-ltb}
use Rattle.bpa.specs.Plans.{Table, over, Step}
use Rattle.bpa.specs.Norms.{norms}
use Rattle.bpa.specs.Bisimilar.{Bisimilar}
use Rattle.bpa.specs.Method.{same}
use Rattle.bpa.proofs.Basics.Cases.{or_cases, or_left, or_right, never_both}
use Rattle.bpa.proofs.Norm.NormStable.{norms_length}
use Rattle.bpa.proofs.Answers.{equivalent_same, same_exact}
use Rattle.answer.specs.Refusals.{or_else, space_refusal}
use Rattle.answer.specs.Answer.{signed, one_if, with_space}
use Rattle.answer.proofs.RefusalChains.{neither, both_pass, then_none, passed_first, refused_first}
use Rattle.answer.proofs.Results.{result_is}
use Rattle.refusal.specs.Refusals.{jobs_refusal, sum_refusal, plan_refusal, plans_refusal, Accepted, AcceptedPlan}
use Rattle.refusal.proofs.PlanRefusals.{accepted_plan}
use Rattle.image.specs.Image.{image_refusal, image_jobs, image_places, table_in}
use Rattle.image.proofs.ImageList.{image_good_list}
use Rattle.table.proofs.ImageTables.{image_passes, image_table}
use Rattle.alike.specs.Alike.{replaced}
use Rattle.alike_list.specs.AlikeLists.{alike_pairs, alike_refusal}
use Rattle.alike_list.specs.AlikeTables.{alike_table, two_plans_alike}
use Rattle.joined.specs.Joined.{renumbered, joined, OwnRules, BisimilarBetween}
use Rattle.joined.proofs.RenumberedPlans as plans
use Rattle.joined.proofs.JoinedNorms as sums
use Rattle.joined.proofs.JoinedSteps as steps
use Rattle.joined.proofs.BetweenTables as between
use Rattle.joined.proofs.RenamedTables.{over_renamed, renamed_equivalent}
use Rattle.joined.proofs.ReplacedBoth.{replaced_joined, own_replaced}
use Rattle.joined.proofs.JoinedAnswers as answers
use Rattle.joining.specs.JoinedBytes.{tables_refusal}
use Rattle.joining.proofs.JoinedLists.{own_rules}
use Rattle.joined_plans.specs.PlansOfTwo.{plans_refusal_between}
use Rattle.two_tables.specs.TableCalls.{images_refusal, joined_refusal, joined_table, two_tables, ComparedTables}
use Rattle.promises.specs.JoinedTables as promised
use Rattle.promises.specs.AlikeLists as alikelists
use Rattle.promises.proofs.AlikeLists.{replaced_refusals, accepted}
use Rattle.promises.proofs.SourceCalls.{told_exactly}
use Rattle.promises.proofs.JoinedImages.{has_image}

-- REFUSAL 15
pub fifteen_exactly : promised.FifteenExactly
unfolding promised.FifteenExactly tables_refusal
fifteen_exactly t u =
    let n = t.jobs + u.jobs in
    let k = length t.rules + length u.rules in (
      (λ e. ⊎_elim (λ (d : ltb 24 n ≡ true). inl (ltb-true 24 n d)) (λ (d : ltb 252 k ≡ true). inr (ltb-true 252 k d))
          (or_cases (ltb 24 n) (ltb 252 k) (refused (ltb 24 n || ltb 252 k) e))),
      (λ h. ap (λ (b : Bool). cond {A = ℕ} b 15 0)
          (⊎_elim (λ (l : 24 < n). or_left (ltb 24 n) (ltb 252 k) (lt-ltb 24 n l)) (λ (l : 252 < k). or_right (ltb 24 n) (ltb 252 k) (lt-ltb 252 k l)) h)),
    )
  where
    refused : (b : Bool) → cond {A = ℕ} b 15 0 ≡ 15 → b ≡ true
    refused true e = refl
    refused false e = absurd (omega (arith, e))

-- THE JOINED TABLE
pub images_own : promised.ImagesOwn
unfolding promised.ImagesOwn table_in
images_own bs z = own_rules (image_jobs bs) (image_places bs) (image_good_list bs (image_passes bs z).0)

pub joined_norms : promised.JoinedNorms
unfolding promised.JoinedNorms
joined_norms t u own g h = sums.norms_joined t u own g.good h.good

pub joined_accepted : promised.JoinedAccepted
unfolding promised.JoinedAccepted
joined_accepted t u own g h = record {
  good = sums.joined_good t u own g.good h.good;
  small = λ j. subst (λ (ns : List ℕ). get_or ns j 0 ≤ 512) (sym (sums.norms_joined t u own g.good h.good)) (either j (dec_lt j t.jobs));
}
  where
    either : (j : ℕ) → Dec (j < t.jobs) → get_or (norms t ++ norms u) j 0 ≤ 512
    either j (yes l) = omega (arith, get_or-append (norms t) (norms u) 0 j (omega (arith, norms_length t)), g.small j)
    either j (no l) =
        let e : t.jobs + (j - t.jobs) ≡ j = omega (arith, l) in
        omega (arith, ap (λ (k : ℕ). get_or (norms t ++ norms u) k 0) e, sums.number_right (norms t) (norms u) t (norms_length t) (j - t.jobs), h.small (j - t.jobs))

pub joined_plans : promised.JoinedPlans
unfolding promised.JoinedPlans
joined_plans t u p q own g h = (
  (λ o. (plans.over_left t u p o, sums.norm_left t u own g.good h.good p o)),
  plans.over_right t u q,
  sums.norm_right t u own g.good h.good q,
)

pub left_steps : promised.LeftSteps
unfolding promised.LeftSteps
left_steps t u p a q o = (steps.step_left t u p a q o, steps.left_step t u p a q)

pub right_steps : promised.RightSteps
unfolding promised.RightSteps
right_steps t u p a r own = (
  steps.step_right t u own p a r,
  λ (q, s, e). subst (Step (joined t u) (renumbered t.jobs p) a) (sym e) (steps.right_step t u p a q s),
)

pub left_same : promised.LeftSame
unfolding promised.LeftSame
left_same t u p q own g h o l = let (f, b) = between.left_same t u own g.good h.good p q o l in (b, f)

pub right_same : promised.RightSame
unfolding promised.RightSame
right_same t u p q own g h o l = let (f, b) = between.right_same t u own g.good h.good p q o l in (b, f)

-- PLANS OF TWO TABLES
pub joined_between : promised.JoinedBetween
unfolding promised.JoinedBetween
joined_between t u p q own g h o =
    (between.joined_between t u own g.good h.good p q o, between.between_joined t u own g.good h.good p q)

pub between_apart_from_all : promised.BetweenApartFromAll
unfolding promised.BetweenApartFromAll
between_apart_from_all t u p q own g h o l e R b r =
    never_both (same (joined t u) p (renumbered t.jobs q))
    (equivalent_same (joined t u) (sums.joined_good t u own g.good h.good) p (renumbered t.jobs q) (plans.over_left t u p o) (plans.over_right t u q ∙ l)
    (between.between_approx t u own g.good h.good R b p q o l r)) e

pub joined_replaced : promised.JoinedReplaced
unfolding promised.JoinedReplaced
joined_replaced = replaced_joined

pub two_copies : promised.TwoCopies
unfolding promised.TwoCopies
two_copies t p q own g = answers.same_copies t own g.good p q

pub renamed_table : promised.RenamedTable
unfolding promised.RenamedTable
renamed_table f t u p q k own g h o l = answers.same_renamed t u own g.good h.good p q o l f k

pub renamed_same : promised.RenamedSame
unfolding promised.RenamedSame
renamed_same f t u p k own g h o =
    equivalent_same (joined t u) (sums.joined_good t u own g.good h.good) p (renumbered t.jobs (map f p)) (plans.over_left t u p o)
    (plans.over_right t u (map f p) ∙ over_renamed f t u k p o) (renamed_equivalent f t u k own g.good h.good p o)

pub tables_exchanged : promised.TablesExchanged
unfolding promised.TablesExchanged
tables_exchanged t u p q own other g h = answers.same_exchanged t u own other g.good h.good p q

-- OF THE CALL
-- two plans of two tables that were not refused
plans_pass : (t u : Table) (p q : List ℕ) → plans_refusal_between t u p q ≡ 0 → AcceptedPlan t p × AcceptedPlan u q
unfolding plans_refusal_between plan_refusal
plans_pass t u p q z =
    let (a, rest) = neither (jobs_refusal t.jobs p) _ z in
    let (b, sums) = neither (jobs_refusal u.jobs q) _ rest in
    let (c, d) = neither (sum_refusal (norms t) p) (sum_refusal (norms u) q) sums in
    (accepted_plan t p (both_pass (jobs_refusal t.jobs p) (sum_refusal (norms t) p) a c), accepted_plan u q (both_pass (jobs_refusal u.jobs q) (sum_refusal (norms u) q) b d))

-- an image under a list
module _ (bs ls : List ℕ) (z : image_refusal bs ≡ 0) where
  own_under : OwnRules (alike_table bs ls)
  unfolding promised.ImagesOwn
  own_under = own_replaced (alike_pairs ls) (table_in bs) (images_own bs z)

  accepted_under : Accepted (alike_table bs ls)
  accepted_under = accepted (alike_pairs ls) (table_in bs) (image_table bs z)

  over_under : (p : List ℕ) → AcceptedPlan (table_in bs) p → over (alike_table bs ls) p ≡ true
  unfolding over replaced
  over_under p a = a.over_table

module _ (bs cs ls p q : List ℕ) where
  abbrev t : Table
  t = alike_table bs ls

  abbrev u : Table
  u = alike_table cs ls

  abbrev right : List ℕ
  right = renumbered (table_in bs).jobs q

  abbrev pub answer : Bool
  answer = same (joined_table bs cs ls) p right

  -- the joined table under a list is the two tables under it, joined
  by_sides : joined_table bs cs ls ≡ joined t u
  by_sides = replaced_joined (alike_pairs ls) (table_in bs) (table_in cs)

  pub answer_is : answer ≡ same (joined t u) p (renumbered t.jobs q)
  unfolding replaced
  answer_is = ap (λ (v : Table). same v p right) by_sides

  module _ (z : two_tables bs cs ls p q ≡ 0) where
    parts : (image_refusal bs ≡ 0) × (image_refusal cs ≡ 0) × (tables_refusal (table_in bs) (table_in cs) ≡ 0) × (alike_refusal ls ≡ 0)
        × AcceptedPlan (table_in bs) p × AcceptedPlan (table_in cs) q
    parts =
        let (x, y) = neither (joined_refusal bs cs ls) (plans_refusal_between (table_in bs) (table_in cs) p q) z in
        let (i, l) = neither (images_refusal bs cs) (alike_refusal ls) x in
        let (a, rest) = neither (image_refusal bs) _ i in
        let (b, c) = neither (image_refusal cs) (tables_refusal (table_in bs) (table_in cs)) rest in
        let (d, e) = plans_pass (table_in bs) (table_in cs) p q y in
        (a, b, c, l, d, e)

    over_t : over t p ≡ true
    over_t = over_under bs ls parts.0 p parts.4

    over_u : over u q ≡ true
    over_u = over_under cs ls parts.1 q parts.5

    own_t : OwnRules t
    own_t = own_under bs ls parts.0

    pub answer_between : (answer ≡ true) ↔ BisimilarBetween t u p q
    answer_between =
        let b = answers.same_between t u own_t (accepted_under bs ls parts.0).good (accepted_under cs ls parts.1).good p q over_t over_u in
        ((λ e. b.0 (sym answer_is ∙ e)), (λ e. answer_is ∙ b.1 e))

    pub answer_exact : (answer ≡ true) ↔ Bisimilar (joined_table bs cs ls) p right
    unfolding replaced
    answer_exact =
        let g = sums.joined_good t u own_t (accepted_under bs ls parts.0).good (accepted_under cs ls parts.1).good in
        let e = same_exact (joined t u) g p right (plans.over_left t u p over_t) (plans.over_right t u q ∙ over_u) in (
          (λ x. subst (λ (v : Table). Bisimilar v p right) (sym by_sides) (e.0 (sym answer_is ∙ x))),
          (λ x. answer_is ∙ e.1 (subst (λ (v : Table). Bisimilar v p right) by_sides x)),
        )

    pub answer_exchanged : answer ≡ same (joined u t) q (renumbered u.jobs p)
    answer_exchanged =
        answer_is
        ∙ answers.same_exchanged t u own_t (own_under cs ls parts.1) (accepted_under bs ls parts.0).good (accepted_under cs ls parts.1).good p q over_t over_u

  -- a call that gives back a number was not refused
  given : (s s' : List ℕ) (n : ℕ) → ComparedTables bs cs ls p q s (pos n) s' → (space_refusal s ≡ 0) × (two_tables bs cs ls p q ≡ 0) × (n ≡ one_if answer)
  given s s' n w =
      let (z, v) = result_is (with_space s (two_tables bs cs ls p q)) (one_if answer) n w.answer in
      let (x, y) = neither (space_refusal s) (two_tables bs cs ls p q) z in
      (x, y, v)

pub tables_compare_tells : promised.TablesCompareTells
unfolding promised.TablesCompareTells
tables_compare_tells bs cs ls p q s s' n w =
    let (x, z, v) = given bs cs ls p q s s' n w in told_exactly (answer bs cs ls p q) n v (answer_exact bs cs ls p q z)

pub tables_compare_between : promised.TablesCompareBetween
unfolding promised.TablesCompareBetween
tables_compare_between bs cs ls p q s s' n w =
    let (x, z, v) = given bs cs ls p q s s' n w in told_exactly (answer bs cs ls p q) n v (answer_between bs cs ls p q z)

-- a result of the same value, once there is no refusal
agree : (f v w : ℕ) → (f ≡ 0 → v ≡ w) → signed f v ≡ signed f w
unfolding signed
agree zero v w h = ap pos (h refl)
agree (suc f) v w h = refl

again : (f : ℕ) → or_else f (or_else f 0) ≡ f
again f = ap (or_else f) (then_none f) ∙ twice f
  where
    twice : (g : ℕ) → or_else g g ≡ g
    twice zero = passed_first 0 0 refl
    twice (suc g) = refused_first (suc g) (suc g) (λ z. omega (arith, z))

module _ (bs ls p q : List ℕ) (fits : tables_refusal (table_in bs) (table_in bs) ≡ 0) where
  copies_refused : two_tables bs bs ls p q ≡ two_plans_alike bs ls p q
  unfolding plans_refusal_between plans_refusal alikelists.ReplacedRefusals
  copies_refused =
      ap₂ (λ (i r : ℕ). or_else (or_else i (alike_refusal ls)) r)
      (ap (λ (x : ℕ). or_else (image_refusal bs) (or_else (image_refusal bs) x)) fits ∙ again (image_refusal bs))
      (sym (replaced_refusals (alike_pairs ls) (table_in bs) p q).1)

  copies_answer : two_tables bs bs ls p q ≡ 0 → answer bs bs ls p q ≡ same (alike_table bs ls) p q
  copies_answer z =
      let t = alike_table bs ls in
      let image = (parts bs bs ls p q z).0 in
      answer_is bs bs ls p q ∙ answers.same_copies t (own_under bs ls image) (accepted_under bs ls image).good p q (over_t bs bs ls p q z) (over_u bs bs ls p q z)

  copies_number : (s : List ℕ) → signed (with_space s (two_tables bs bs ls p q)) (one_if (answer bs bs ls p q))
      ≡ signed (with_space s (two_plans_alike bs ls p q)) (one_if (same (alike_table bs ls) p q))
  copies_number s =
      agree (with_space s (two_tables bs bs ls p q)) (one_if (answer bs bs ls p q)) (one_if (same (alike_table bs ls) p q))
      (λ z. ap one_if (copies_answer (neither (space_refusal s) (two_tables bs bs ls p q) z).1))
      ∙ ap (λ (f : ℕ). signed (with_space s f) (one_if (same (alike_table bs ls) p q))) copies_refused

pub copies_compared : promised.CopiesCompared
unfolding promised.CopiesCompared
copies_compared bs ls p q s r s' fits = (
  (λ w. record { answer = w.answer ∙ copies_number bs ls p q fits s; cleared = w.cleared }),
  (λ w. record { answer = w.answer ∙ sym (copies_number bs ls p q fits s); cleared = w.cleared }),
)

-- exchanged, none is refused either
plans_exchanged : (t u : Table) (p q : List ℕ) → plans_refusal_between t u p q ≡ 0 → plans_refusal_between u t q p ≡ 0
unfolding plans_refusal_between
plans_exchanged t u p q z =
    let (a, rest) = neither (jobs_refusal t.jobs p) _ z in
    let (b, sums) = neither (jobs_refusal u.jobs q) _ rest in
    let (c, d) = neither (sum_refusal (norms t) p) (sum_refusal (norms u) q) sums in
    both_pass (jobs_refusal u.jobs q) _ b (both_pass (jobs_refusal t.jobs p) _ a (both_pass (sum_refusal (norms u) q) (sum_refusal (norms t) p) d c))

sizes_exchanged : (t u : Table) → tables_refusal t u ≡ tables_refusal u t
unfolding tables_refusal
sizes_exchanged t u =
    let jobs : t.jobs + u.jobs ≡ u.jobs + t.jobs = omega arith in
    let rules : length t.rules + length u.rules ≡ length u.rules + length t.rules = omega arith in
    λ i. cond (ltb 24 (jobs i) || ltb 252 (rules i)) 15 0

pub exchanged_compared : promised.ExchangedCompared
unfolding promised.ExchangedCompared signed
exchanged_compared bs cs ls p q s s' n r s'' w x =
    let (space, z, v) = given bs cs ls p q s s' n w in
    let (a, b, c, l, d, e) = parts bs cs ls p q z in
    let y = (neither (joined_refusal bs cs ls) (plans_refusal_between (table_in bs) (table_in cs) p q) z).1 in
    let images : images_refusal cs bs ≡ 0 =
    both_pass (image_refusal cs) _ b (both_pass (image_refusal bs) _ a (sizes_exchanged (table_in cs) (table_in bs) ∙ c)) in
    let passes : with_space s (two_tables cs bs ls q p) ≡ 0 =
    both_pass (space_refusal s) _ space
    (both_pass (joined_refusal cs bs ls) _ (both_pass (images_refusal cs bs) (alike_refusal ls) images l) (plans_exchanged (table_in bs) (table_in cs) p q y)) in
    x.answer ∙ ap (λ (f : ℕ). signed f (one_if (answer cs bs ls q p))) passes
    ∙ ap (λ (b : Bool). pos (one_if b)) (answer_is cs bs ls q p ∙ sym (answer_exchanged bs cs ls p q z)) ∙ ap pos (sym v)

pub joined_image : promised.JoinedImage
unfolding promised.JoinedImage
joined_image = has_image

pub joined_image_compared : promised.JoinedImageCompared
unfolding promised.JoinedImageCompared
joined_image_compared bs cs js ls p q s s' v v' n m e w x =
    let right = renumbered (table_in bs).jobs q in
    (given bs cs ls p q s s' n w).2
    ∙ ap (λ (t : Table). one_if (same (replaced (alike_pairs ls) t) p right)) (sym e)
    ∙ sym (result_is (with_space v (two_plans_alike js ls p right)) (one_if (same (alike_table js ls) p right)) m x.answer).1
