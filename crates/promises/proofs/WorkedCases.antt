-- EVERY WORKED CASE IS TRUE: one computed proof of the test, and one lemma that turns the test into what the cases mean: what is
-- computed on the rules of a table is so of the table in the image that is written from them. Assumes nothing.
use mathlib.Core.Path.{◌≡◌, refl, sym, ap, ap₂, ◌∙◌, subst}
use mathlib.Core.Bool.{true, not, ◌&&◌}
use mathlib.Core.List.Memᴰ
use mathlib.Core.List.{List, [], ◌∷◌, Memᴰ}
use mathlib.Core.Logic.{◌↔◌, ⊎_elim}
use Prim.Native.Nat.{ℕ, ◌+◌, ◌*◌, ◌/◌}
use native.Mathlib.Omega.{arith}
use lib.Dec.{eqb}
use lib.ListN.{get_or}
use borrow.Author.Tests.{eqb-true, not-true}
use Rattle.area.specs.Numbers.{number_at, low_first, all_low_first, numbers_in}
use Rattle.bpa.specs.Plans.{Table, all_below, job_moves, moves, over}
use Rattle.bpa.specs.Norms.{sum_of, all_known, lesser, best, one_round, rounds, norms, Good}
use Rattle.bpa.specs.Bisimilar.{Bisimilar, Prime, AllLowest, one_more, Form}
use Rattle.bpa.specs.Method.{precedes, lowering, lower_by, candidate, itself, expand, replace, grow, first_difference, turn}
use Rattle.bpa.specs.Method.{judge, judged, answered, all_answered, matched, fits, holds, pairs_of, pairs_below, first_base}
use Rattle.bpa.specs.Method.{keep_fitting, round, refine, final_base, first_of, least_pair, prime_row, prime_rows, same, prime_form}
use Rattle.bpa.proofs.Basics.Cases.{and_left, and_right, never_both}
use Rattle.bpa.proofs.Norm.NormExact.{job_norm, job_without}
use Rattle.bpa.proofs.Answers.{same_exact, form_exists}
use Rattle.rules.specs.Places.{all_zero, move_in, rule_in, place_good, each_place, places_good, rules_in, rule_count, table_of}
use Rattle.answer.specs.Refusals.{or_else}
use Rattle.answer.specs.Answer.{one_if}
use Rattle.answer.proofs.RefusalChains.{neither, both_pass}
use Rattle.refusal.specs.Refusals.{any_zero, any_above, norms_refusal, table_refusal, jobs_refusal, sum_refusal, plan_refusal, plans_refusal}
use Rattle.refusal.proofs.PlanRefusals.{accepted_plan, accepted_plans}
use Rattle.image.specs.Image.{byte_sum, checksum, block, blocks_in, rules_in_block, block_places, each_block, length_good, sum_good}
use Rattle.image.specs.Image.{rules_fit, head_of, head_good, places_of_block, block_good, layout_refusal, places_from, image_jobs}
use Rattle.image.specs.Image.{image_places, table_in, image_refusal}
use Rattle.image.specs.Writing.{blocks_for, rules_for, body, written_block, written_from, written, list_refusal, write_refusal}
use Rattle.image.proofs.ListRefusal.{good_list}
use Rattle.image.proofs.TableBack.{table_held, table_back}
use Rattle.moves.specs.Shown.{equal_plans, same_move, without, once, shown}
use Rattle.moves.specs.Moves.{move_bytes}
use Rattle.moves.proofs.ShownMoves.{plans_equal}
use Rattle.first_run.specs.FirstRun.{First, earlier, earliest, runs_by, job_run, run_of, first_run}
use Rattle.first_run.proofs.FirstRuns.{first_run_first}
use Rattle.table.specs.CallRefusals.{one_plan, two_plans}
use Rattle.table.proofs.ImageTables.{image_table}
use Rattle.alike.specs.Alike as alike
use Rattle.alike.specs.Alike.{replaced_rule, replaced, stands_in, from_twice, from_as_to, clashes}
use Rattle.alike.proofs.ReplacedTables.{norms_replaced, good_replaced}
use Rattle.alike_list.specs.AlikeLists.{pairs_in, pair_count, alike_pairs, pairs_refusal, clash_refusal, alike_refusal}
use Rattle.alike_list.specs.AlikeTables.{alike_table, listed_refusal, two_plans_alike}
use Rattle.table.proofs.ListTables.{list_closed}
use Rattle.replay.specs.Replay.{by_move, after_move, none_left, one_empty, replay_from, replay}
use Rattle.log_moves.specs.Logs.{log_moves, counted_log, log_refusal}
use Rattle.logs.specs.LogCalls.{plan_and_log, replayed}
use Rattle.deterministic.specs.Deterministic.{is_choice, choice_with, choice_among, no_choice}
use Rattle.deterministic.specs.CompleteRuns.{SameRuns, by_each, runs_within, each_rest, ends_within, equal_lists, same_runs_within}
use Rattle.deterministic.proofs.RunsListed.{same_runs_listed}
use Rattle.joined.specs.Joined.{renumbered, renumbered_rule, joined, BisimilarBetween}
use Rattle.joining.specs.JoinedBytes.{tables_refusal}
use Rattle.joined_plans.specs.PlansOfTwo.{plans_refusal_between}
use Rattle.two_tables.specs.TableCalls.{images_refusal, joined_refusal, two_tables}
use Rattle.growth.specs.Growth.{JobCount, GrowthSays}
use Rattle.growth.specs.Reached.{members_from, set_from, comes_in, widened, widened_by, reached, all_but_last, fronts, grows_at, one_of, grows, growth}
use Rattle.growth.proofs.GrowthExact.{growth_says}
use Rattle.promises.specs.WorkedCases.{Worked, image_of, read_back, listed, HasNorms, Means, plan_passes, pair_passes, has_form}
use Rattle.promises.specs.WorkedCases.{listed_under, under_passes, passes, all_pass, cases, CasesHold}
use Rattle.promises.specs.WorkedCases.{Case, refusal_is, byte_is, norms_are, pair_refusal_is, are_same, are_apart, form_is, is_prime, move_is, run_is}
use Rattle.promises.specs.WorkedCases.{alike_refusal_is, same_under, apart_under, log_refusal_is, replay_is, outcome_is, same_runs_apart, is_finite, is_endless, log_passes, list_passes}
use Rattle.promises.specs.WorkedCases.{between_refusal_is, same_between, apart_between, between_passes, listed_both}
use Rattle.promises.proofs.JoinedTables.{answer, answer_between}

-- THE COMPUTED PROOF
cases_pass : all_pass cases ≡ true
unfolding all_pass passes has_form plan_passes pair_passes equal_plans same_move without once shown move_bytes all_below job_moves moves sum_of all_known lesser best one_round rounds
    norms precedes lowering lower_by candidate itself expand replace grow first_difference turn judge judged answered all_answered matched
    fits holds pairs_of pairs_below first_base keep_fitting round refine final_base first_of least_pair prime_row prime_rows same
    prime_form all_zero move_in rule_in place_good each_place places_good rules_in rule_count table_of any_zero any_above norms_refusal table_refusal or_else
    jobs_refusal sum_refusal plan_refusal plans_refusal number_at byte_sum checksum block blocks_in rules_in_block block_places each_block
    length_good sum_good rules_fit head_of head_good places_of_block block_good layout_refusal places_from image_jobs image_places table_in
    image_refusal low_first blocks_for rules_for body written_block written_from written list_refusal write_refusal
    earlier earliest runs_by job_run run_of first_run under_passes pairs_in pair_count alike_pairs pairs_refusal clash_refusal alike_refusal
    alike.replace replaced_rule replaced stands_in from_twice from_as_to clashes
    list_passes one_if is_choice choice_with choice_among no_choice by_each runs_within each_rest ends_within equal_lists same_runs_within
    log_passes log_refusal counted_log log_moves all_low_first numbers_in by_move after_move none_left one_empty replay_from replay
    members_from set_from comes_in widened widened_by reached all_but_last fronts grows_at one_of grows growth
    between_passes renumbered renumbered_rule joined tables_refusal plans_refusal_between
cases_pass = refl

module _ (w : Worked) where
  abbrev writer : ℕ
  writer = write_refusal w.jobs w.rules

  -- a list past 2, 4 and 5: the table in its image is the list's
  held : list_refusal w.jobs w.rules ≡ 0 → read_back w ≡ listed w
  held h = table_held w.jobs w.rules (good_list w.jobs w.rules h)

  norms_hold : (ns : List ℕ) → list_refusal w.jobs w.rules ≡ 0 → norms (listed w) ≡ ns → HasNorms (read_back w) w.jobs ns
  unfolding table_of
  norms_hold ns h e =
      let closed = list_closed w.jobs w.rules h in
      subst (λ (t : Table). HasNorms t w.jobs ns) (sym (held h))
      (subst (HasNorms (listed w) w.jobs) e
      (λ j l. ((job_without (listed w) closed j l).0, job_norm (listed w) closed j l)))

  -- a list that the writer accepts, and a check of its table: both are past in its image too
  module _ (check : Table → ℕ) (e : eqb (or_else writer (check (listed w))) 0 ≡ true) where
    parts : (writer ≡ 0) × (check (listed w) ≡ 0)
    parts = neither writer (check (listed w)) (eqb-true (or_else writer (check (listed w))) 0 e)

    image_passed : image_refusal (image_of w) ≡ 0
    image_passed = table_back w.jobs w.rules parts.0

    good : Good (read_back w) (norms (read_back w))
    good = (image_table (image_of w) image_passed).good

    back : read_back w ≡ listed w
    unfolding write_refusal
    back = held (neither (list_refusal w.jobs w.rules) (table_refusal (listed w)) parts.0).0

    check_passed : check (read_back w) ≡ 0
    check_passed = ap check back ∙ parts.1

    both_passed : or_else (image_refusal (image_of w)) (check (read_back w)) ≡ 0
    both_passed = both_pass (image_refusal (image_of w)) (check (read_back w)) image_passed check_passed

  module _ (p q : List ℕ) (e : pair_passes w p q ≡ true) where
    abbrev check_pair : Table → ℕ
    check_pair t = plans_refusal t p q

    pair_accepted : two_plans (image_of w) p q ≡ 0
    unfolding pair_passes
    pair_accepted = both_passed check_pair e

    pair_runs : (n : ℕ) → same_runs_within (listed w) n p q ≡ true → SameRuns (read_back w) p q
    unfolding pair_passes
    pair_runs n h = subst (λ (t : Table). SameRuns t p q) (sym (back check_pair e)) (same_runs_listed (listed w) n p q h)

    pair_told : (same (listed w) p q ≡ true) ↔ Bisimilar (read_back w) p q
    unfolding pair_passes
    pair_told =
        let (a, b) = accepted_plans (read_back w) p q (check_passed check_pair e) in
        let same_back = ap (λ (t : Table). same t p q) (back check_pair e) in
        let exact = same_exact (read_back w) (good check_pair e) p q a.over_table b.over_table in
        (λ s. exact.0 (same_back ∙ s), λ s. sym same_back ∙ exact.1 s)

  apart_holds : (p q : List ℕ) → (pair_passes w p q && not (same (listed w) p q)) ≡ true →
      (two_plans (image_of w) p q ≡ 0) × (Bisimilar (read_back w) p q → ⊥)
  apart_holds p q e =
      let k = and_left (pair_passes w p q) (not (same (listed w) p q)) e in
      let no = not-true (same (listed w) p q) (and_right (pair_passes w p q) (not (same (listed w) p q)) e) in
      (pair_accepted p q k, λ b. never_both (same (listed w) p q) ((pair_told p q k).1 b) no)

  -- two plans under an alike list
  module _ (ls p q : List ℕ) (e : under_passes ls w p q ≡ true) where
    abbrev under : Table → Table
    under t = replaced (alike_pairs ls) t

    abbrev check_under : Table → ℕ
    check_under t = or_else (alike_refusal ls) (plans_refusal (under t) p q)

    under_parts : (alike_refusal ls ≡ 0) × (plans_refusal (under (read_back w)) p q ≡ 0)
    unfolding under_passes
    under_parts = neither (alike_refusal ls) (plans_refusal (under (read_back w)) p q) (check_passed check_under e)

    under_accepted : two_plans_alike (image_of w) ls p q ≡ 0
    unfolding under_passes
    under_accepted =
        both_pass (or_else (image_refusal (image_of w)) (alike_refusal ls)) (plans_refusal (under (read_back w)) p q)
        (both_pass (image_refusal (image_of w)) (alike_refusal ls) (image_passed check_under e) under_parts.0) under_parts.1

    under_told : (same (under (listed w)) p q ≡ true) ↔ Bisimilar (under (read_back w)) p q
    unfolding under_passes
    under_told =
        let u = under (read_back w) in
        let (a, b) = accepted_plans u p q under_parts.1 in
        let same_back = ap (λ (t : Table). same (under t) p q) (back check_under e) in
        let g = subst (Good u) (sym (norms_replaced (alike_pairs ls) (read_back w)))
        (good_replaced (alike_pairs ls) (read_back w) (norms (read_back w)) (good check_under e)) in
        let exact = same_exact u g p q a.over_table b.over_table in
        (λ s. exact.0 (same_back ∙ s), λ s. sym same_back ∙ exact.1 s)

  -- the table under an alike list
  module _ (ls : List ℕ) (n : ℕ) (e : (list_passes ls w && eqb (one_if (no_choice (listed_under ls w))) n) ≡ true) where
    abbrev check_list : Table → ℕ
    check_list t = alike_refusal ls

    list_passed : eqb (or_else writer (alike_refusal ls)) 0 ≡ true
    unfolding list_passes
    list_passed = and_left (list_passes ls w) (eqb (one_if (no_choice (listed_under ls w))) n) e

    outcome_told : (listed_refusal (image_of w) ls ≡ 0) × (one_if (no_choice (alike_table (image_of w) ls)) ≡ n)
    outcome_told = (
      both_passed check_list list_passed,
      ap (λ (t : Table). one_if (no_choice (replaced (alike_pairs ls) t))) (back check_list list_passed)
          ∙ eqb-true (one_if (no_choice (listed_under ls w))) n (and_right (list_passes ls w) (eqb (one_if (no_choice (listed_under ls w))) n) e),
    )

  -- a log under an alike list
  module _ (ls p g : List ℕ) (e : log_passes ls w p g ≡ true) where
    abbrev check_log : Table → ℕ
    check_log t = or_else (alike_refusal ls) (or_else (plan_refusal (replaced (alike_pairs ls) t) p) (log_refusal g))

    log_accepted : plan_and_log (image_of w) ls p g ≡ 0
    unfolding log_passes
    log_accepted =
        let plan = plan_refusal (replaced (alike_pairs ls) (read_back w)) p in
        let (a, b) = neither (alike_refusal ls) (or_else plan (log_refusal g)) (check_passed check_log e) in
        let (c, d) = neither plan (log_refusal g) b in
        let f = image_refusal (image_of w) in
        both_pass (or_else (or_else f (alike_refusal ls)) plan) (log_refusal g)
        (both_pass (or_else f (alike_refusal ls)) plan (both_pass f (alike_refusal ls) (image_passed check_log e) a) c) d

    log_told : (n : ℕ) → replay (replaced (alike_pairs ls) (listed w)) p (counted_log ls g) ≡ n → replayed (image_of w) ls p g ≡ n
    unfolding log_passes
    log_told n h = ap (λ (t : Table). replay (replaced (alike_pairs ls) t) p (counted_log ls g)) (back check_log e) ∙ h

  -- a row of numbers that is computed from the table is one of the table in the image
  module _ (p : List ℕ) (row : Table → List ℕ) (is : List ℕ) (e : (plan_passes w p && equal_plans (row (listed w)) is) ≡ true) where
    abbrev check_plan : Table → ℕ
    check_plan t = plan_refusal t p

    plan_passed : eqb (or_else writer (check_plan (listed w))) 0 ≡ true
    unfolding plan_passes
    plan_passed = and_left (plan_passes w p) (equal_plans (row (listed w)) is) e

    row_back : row (read_back w) ≡ is
    row_back =
        ap row (back check_plan plan_passed) ∙ plans_equal (row (listed w)) is (and_right (plan_passes w p) (equal_plans (row (listed w)) is) e)

    -- and so is what holds of that row in every good table
    row_holds : (Holds : Table → List ℕ → Type 0) → ((t : Table) → Good t (norms t) → over t p ≡ true → Holds t (row t)) →
        (one_plan (image_of w) p ≡ 0) × Holds (read_back w) is
    row_holds Holds h =
        let over_table = (accepted_plan (read_back w) p (check_passed check_plan plan_passed)).over_table in
        (both_passed check_plan plan_passed, subst (Holds (read_back w)) row_back (h (read_back w) (good check_plan plan_passed) over_table))

  form_holds : (p f : List ℕ) → has_form w p f ≡ true → (one_plan (image_of w) p ≡ 0) × Form (read_back w) p f
  unfolding has_form
  form_holds p f e = row_holds p (λ t. prime_form t p) f e (λ t. Form t p) (λ t g. form_exists t g p)

  -- what a plan can become, by its number
  growth_holds : (p : List ℕ) (n : ℕ) → (plan_passes w p && equal_plans (growth (listed w) p ∷ []) (n ∷ [])) ≡ true →
      (one_plan (image_of w) p ≡ 0) × GrowthSays (read_back w) p n
  growth_holds p n e = row_holds p (λ t. growth t p ∷ []) (n ∷ []) e (λ t l. GrowthSays t p (get_or l 0 0)) (λ t g o. growth_says t (norms t) g p o)

-- a plan of one table and a plan of another, under an alike list
module _ (ls : List ℕ) (w v : Worked) (p q : List ℕ) (e : between_passes ls w v p q ≡ true) where
  between_parts : (writer w ≡ 0) × (writer v ≡ 0) × (tables_refusal (listed w) (listed v) ≡ 0) × (alike_refusal ls ≡ 0)
      × (plans_refusal_between (listed w) (listed v) p q ≡ 0)
  unfolding between_passes
  between_parts =
      let (a, rest) = neither (writer w) _ (eqb-true _ 0 e) in
      let (b, more) = neither (writer v) _ rest in
      let (c, last) = neither (tables_refusal (listed w) (listed v)) _ more in
      let (d, f) = neither (alike_refusal ls) (plans_refusal_between (listed w) (listed v) p q) last in
      (a, b, c, d, f)

  left_back : read_back w ≡ listed w
  unfolding write_refusal
  left_back = held w (neither (list_refusal w.jobs w.rules) (table_refusal (listed w)) between_parts.0).0

  right_back : read_back v ≡ listed v
  unfolding write_refusal
  right_back = held v (neither (list_refusal v.jobs v.rules) (table_refusal (listed v)) between_parts.1).0

  between_accepted : two_tables (image_of w) (image_of v) ls p q ≡ 0
  between_accepted =
      let (a, b, c, d, f) = between_parts in
      both_pass (joined_refusal (image_of w) (image_of v) ls) _
      (both_pass (images_refusal (image_of w) (image_of v)) (alike_refusal ls)
      (both_pass (image_refusal (image_of w)) _ (table_back w.jobs w.rules a)
      (both_pass (image_refusal (image_of v)) _ (table_back v.jobs v.rules b) (ap₂ tables_refusal left_back right_back ∙ c))) d)
      (ap₂ (λ (t u : Table). plans_refusal_between t u p q) left_back right_back ∙ f)

  between_told : (same (listed_both ls w v) p (renumbered w.jobs q) ≡ true) ↔ BisimilarBetween (alike_table (image_of w) ls) (alike_table (image_of v) ls) p q
  unfolding table_of
  between_told =
      let same_back : answer (image_of w) (image_of v) ls p q ≡ same (listed_both ls w v) p (renumbered w.jobs q) =
      ap₂ (λ (t u : Table). same (replaced (alike_pairs ls) (joined t u)) p (renumbered t.jobs q)) left_back right_back in
      let exact = answer_between (image_of w) (image_of v) ls p q between_accepted in
      (λ s. exact.0 (same_back ∙ s), λ s. sym same_back ∙ exact.1 s)

form_prime : (t : Table) (j : ℕ) → Form t (j ∷ []) (j ∷ []) → Prime t j
form_prime t j f = go f.lowest
  where
    go : {js : List ℕ} → AllLowest t (j ∷ js) → Prime t j
    go (one_more i is l a) = l.prime

-- A CASE THAT PASSES IS TRUE
case_true : (c : Case) → passes c ≡ true → Means c
unfolding passes
case_true (refusal_is w f) e =
    let a = eqb (write_refusal w.jobs w.rules) f in
    let b = eqb (image_refusal (image_of w)) f in
    (eqb-true (write_refusal w.jobs w.rules) f (and_left a b e), eqb-true (image_refusal (image_of w)) f (and_right a b e))
case_true (byte_is w i v) e = eqb-true (get_or (image_of w) i 0) v e
case_true (norms_are w ns) e =
    let a = eqb (list_refusal w.jobs w.rules) 0 in
    let b = equal_plans (norms (listed w)) ns in
    norms_hold w ns (eqb-true (list_refusal w.jobs w.rules) 0 (and_left a b e)) (plans_equal (norms (listed w)) ns (and_right a b e))
case_true (pair_refusal_is w p q f) e = eqb-true (two_plans (image_of w) p q) f e
case_true (are_same w p q) e =
    let k = and_left (pair_passes w p q) (same (listed w) p q) e in
    (pair_accepted w p q k, (pair_told w p q k).0 (and_right (pair_passes w p q) (same (listed w) p q) e))
case_true (are_apart w p q) e = apart_holds w p q e
case_true (form_is w p f) e = form_holds w p f e
case_true (is_prime w j) e = form_prime (read_back w) j (form_holds w (j ∷ []) (j ∷ []) e).1
case_true (run_is w p run) e = row_holds w p (λ t. first_run t p) run e (λ t. First t p) (λ t g. first_run_first t g p)
case_true (alike_refusal_is ls f) e = eqb-true (alike_refusal ls) f e
case_true (same_under ls w p q) e =
    let t = listed_under ls w in
    let k = and_left (under_passes ls w p q) (same t p q) e in
    (under_accepted w ls p q k, (under_told w ls p q k).0 (and_right (under_passes ls w p q) (same t p q) e))
case_true (apart_under ls w p q) e =
    let t = listed_under ls w in
    let k = and_left (under_passes ls w p q) (not (same t p q)) e in
    let no = not-true (same t p q) (and_right (under_passes ls w p q) (not (same t p q)) e) in
    (under_accepted w ls p q k, λ b. never_both (same t p q) ((under_told w ls p q k).1 b) no)
case_true (log_refusal_is g f) e = eqb-true (log_refusal g) f e
case_true (replay_is ls w p g n) e =
    let r = replay (listed_under ls w) p (counted_log ls g) in
    let k = and_left (log_passes ls w p g) (eqb r n) e in
    (log_accepted w ls p g k, log_told w ls p g k n (eqb-true r n (and_right (log_passes ls w p g) (eqb r n) e)))
case_true (outcome_is ls w n) e = outcome_told w ls n e
case_true (same_runs_apart w n p q) e =
    let apart = pair_passes w p q && not (same (listed w) p q) in
    let k = and_left apart (same_runs_within (listed w) n p q) e in
    let (a, b) = apart_holds w p q k in
    (a, pair_runs w p q (and_left (pair_passes w p q) (not (same (listed w) p q)) k) n (and_right apart (same_runs_within (listed w) n p q) e), b)
case_true (is_finite w p n) e =
    let (z, (odd, even, count)) = growth_holds w p (2 * n) e in
    let half : 2 * n / 2 ≡ n = omega arith in
    (z, subst (JobCount (read_back w) p) half count, even.0 (omega arith))
case_true (is_endless w p n) e =
    let (z, (odd, even, count)) = growth_holds w p (2 * n + 1) e in
    let half : (2 * n + 1) / 2 ≡ n = omega arith in
    (z, subst (JobCount (read_back w) p) half count, odd.0 (omega arith))
case_true (between_refusal_is ls w v p q f) e = eqb-true (two_tables (image_of w) (image_of v) ls p q) f e
case_true (same_between ls w v p q) e =
    let b = same (listed_both ls w v) p (renumbered w.jobs q) in
    let k = and_left (between_passes ls w v p q) b e in
    (between_accepted ls w v p q k, (between_told ls w v p q k).0 (and_right (between_passes ls w v p q) b e))
case_true (apart_between ls w v p q) e =
    let b = same (listed_both ls w v) p (renumbered w.jobs q) in
    let k = and_left (between_passes ls w v p q) (not b) e in
    let no = not-true b (and_right (between_passes ls w v p q) (not b) e) in
    (between_accepted ls w v p q k, λ x. never_both b ((between_told ls w v p q k).1 x) no)
case_true (move_is w p n bs) e =
    let row : Table → List ℕ = λ t. move_bytes (shown t p) n in
    (both_passed w (check_plan w p row bs e) (plan_passed w p row bs e), row_back w p row bs e)

-- and so are all of a list
all_true : (cs : List Case) → all_pass cs ≡ true → (c : Case) → Memᴰ c cs → Means c
unfolding all_pass
all_true [] e c m = absurd (Memᴰ.not-nil m)
all_true (d ∷ cs) e c m =
    ⊎_elim (λ p. case_true c (ap passes p ∙ and_left (passes d) (all_pass cs) e))
    (all_true cs (and_right (passes d) (all_pass cs) e) c) (Memᴰ.cases_cons m)

-- EVERY CASE IS TRUE
pub cases_hold : CasesHold
unfolding CasesHold
cases_hold = all_true cases cases_pass
