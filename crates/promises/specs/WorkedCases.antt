-- The worked tables of document 01 marked P, two of them from 000, one whose moves need two bytes, one with a choice written again and again, and
-- one with several shortest runs, in two orders; alike lists, logs, choices of outcome, growth, and plans of two tables: one list of cases, what
-- each means, and one test over them.
-- The test computes on the rules of a table; the meaning is of the image that is written from them. Assumes nothing: these are
-- definitions.
use Rattle.std.specs.Prelude.{◌≡◌, Bool, true, not, ◌&&◌, ℕ, ◌+◌, ◌*◌, ◌<◌, eqb, get_or}
use mathlib.Core.List.{List, [], ◌∷◌, ◌++◌, Memᴰ}
use Rattle.area.specs.Numbers.{all_low_first}
use Rattle.bpa.specs.Plans.{Table}
use Rattle.bpa.specs.Norms.{norms, Fewest, NeverEnds}
use Rattle.bpa.specs.Bisimilar.{Bisimilar, Prime, Form}
use Rattle.bpa.specs.Method.{same, prime_form}
use Rattle.rules.specs.Places.{table_of}
use Rattle.answer.specs.Refusals.{or_else}
use Rattle.answer.specs.Answer.{one_if}
use Rattle.refusal.specs.Refusals.{plan_refusal, plans_refusal}
use Rattle.image.specs.Image.{table_in, image_refusal}
use Rattle.image.specs.Writing.{written, list_refusal, write_refusal}
use Rattle.moves.specs.Shown.{equal_plans, shown}
use Rattle.moves.specs.Moves.{move_bytes}
use Rattle.first_run.specs.FirstRun.{First, first_run}
use Rattle.table.specs.CallRefusals.{one_plan, two_plans}
use Rattle.alike.specs.Alike.{replaced}
use Rattle.alike_list.specs.AlikeLists.{alike_pairs, alike_refusal}
use Rattle.alike_list.specs.AlikeTables.{alike_table, listed_refusal, two_plans_alike}
use Rattle.replay.specs.Replay.{replay}
use Rattle.log_moves.specs.Logs.{counted_log, log_refusal}
use Rattle.logs.specs.LogCalls.{plan_and_log, replayed}
use Rattle.deterministic.specs.Deterministic.{no_choice}
use Rattle.deterministic.specs.CompleteRuns.{SameRuns, same_runs_within}
use Rattle.joined.specs.Joined.{renumbered, joined, BisimilarBetween}
use Rattle.joining.specs.JoinedBytes.{tables_refusal}
use Rattle.joined_plans.specs.PlansOfTwo.{plans_refusal_between}
use Rattle.two_tables.specs.TableCalls.{two_tables}
use Rattle.growth.specs.Growth.{Finite, Endless, JobCount}
use Rattle.growth.specs.Reached.{growth}

-- A WORKED TABLE: a job count, and the rules as 8-byte places in a row
pub record Worked : Type 0 where
  pub jobs : ℕ
  pub rules : List ℕ

-- its image, the table that a call reads from that image, and the table by its rules
abbrev pub image_of : Worked → List ℕ
image_of w = written w.jobs w.rules

abbrev pub read_back : Worked → Table
read_back w = table_in (image_of w)

abbrev pub listed : Worked → Table
listed w = table_of w.jobs w.rules

-- THE CASES
pub data Case : Type 0 where
  -- the writer refuses the list by this, and the image is refused by it too; 0 is accepted
  refusal_is : (w : Worked) (refusal : ℕ) → Case
  byte_is : (w : Worked) (at value : ℕ) → Case
  norms_are : (w : Worked) (by_job : List ℕ) → Case
  pair_refusal_is : (w : Worked) (left right : List ℕ) (refusal : ℕ) → Case
  are_same : (w : Worked) (left right : List ℕ) → Case
  are_apart : (w : Worked) (left right : List ℕ) → Case
  form_is : (w : Worked) (plan form : List ℕ) → Case
  is_prime : (w : Worked) (job : ℕ) → Case
  -- the n-th move shown as bytes; none is no such move
  move_is : (w : Worked) (plan : List ℕ) (n : ℕ) (bytes : List ℕ) → Case
  -- the first shortest run
  run_is : (w : Worked) (plan run : List ℕ) → Case
  -- what an alike list is refused by, and two plans under one
  alike_refusal_is : (list : List ℕ) (refusal : ℕ) → Case
  same_under : (list : List ℕ) (w : Worked) (left right : List ℕ) → Case
  apart_under : (list : List ℕ) (w : Worked) (left right : List ℕ) → Case
  -- what a log is refused by, and what one comes to on a plan under an alike list
  log_refusal_is : (log : List ℕ) (refusal : ℕ) → Case
  replay_is : (list : List ℕ) (w : Worked) (plan log : List ℕ) (answer : ℕ) → Case
  -- 1 if a table under an alike list has no choice of outcome, else 0
  outcome_is : (list : List ℕ) (w : Worked) (answer : ℕ) → Case
  -- two plans that are apart and allow the same complete runs, none of which has more moves than so many
  same_runs_apart : (w : Worked) (most : ℕ) (left right : List ℕ) → Case
  -- a plan that is finite or endless, and how many jobs it can reach
  is_finite : (w : Worked) (plan : List ℕ) (jobs : ℕ) → Case
  is_endless : (w : Worked) (plan : List ℕ) (jobs : ℕ) → Case
  -- what a plan of one table and a plan of another are refused by, and two that are the same or apart under an alike list
  between_refusal_is : (list : List ℕ) (w v : Worked) (left right : List ℕ) (refusal : ℕ) → Case
  same_between : (list : List ℕ) (w v : Worked) (left right : List ℕ) → Case
  apart_between : (list : List ℕ) (w v : Worked) (left right : List ℕ) → Case

-- a job of norm 0 has no run to its end
abbrev pub HasNorms : Table → (jobs : ℕ) → (by_job : List ℕ) → Type 0
HasNorms t n ns =
    (j : ℕ) → j < n → (get_or ns j 0 ≡ 0 → NeverEnds t (j ∷ [])) × (0 < get_or ns j 0 → Fewest t (j ∷ []) (get_or ns j 0))

-- WHAT A CASE MEANS, of the written image and of the table that is read from it
abbrev pub Means : Case → Type 0
Means (refusal_is w f) = (write_refusal w.jobs w.rules ≡ f) × (image_refusal (image_of w) ≡ f)
Means (byte_is w i v) = get_or (image_of w) i 0 ≡ v
Means (norms_are w ns) = HasNorms (read_back w) w.jobs ns
Means (pair_refusal_is w p q f) = two_plans (image_of w) p q ≡ f
Means (are_same w p q) = (two_plans (image_of w) p q ≡ 0) × Bisimilar (read_back w) p q
Means (are_apart w p q) = (two_plans (image_of w) p q ≡ 0) × (Bisimilar (read_back w) p q → ⊥)
Means (form_is w p f) = (one_plan (image_of w) p ≡ 0) × Form (read_back w) p f
Means (is_prime w j) = Prime (read_back w) j
Means (move_is w p n bs) = (one_plan (image_of w) p ≡ 0) × (move_bytes (shown (read_back w) p) n ≡ bs)
Means (run_is w p run) = (one_plan (image_of w) p ≡ 0) × First (read_back w) p run
Means (alike_refusal_is ls f) = alike_refusal ls ≡ f
Means (same_under ls w p q) = (two_plans_alike (image_of w) ls p q ≡ 0) × Bisimilar (alike_table (image_of w) ls) p q
Means (apart_under ls w p q) = (two_plans_alike (image_of w) ls p q ≡ 0) × (Bisimilar (alike_table (image_of w) ls) p q → ⊥)
Means (log_refusal_is g f) = log_refusal g ≡ f
Means (replay_is ls w p g n) = (plan_and_log (image_of w) ls p g ≡ 0) × (replayed (image_of w) ls p g ≡ n)
Means (outcome_is ls w n) = (listed_refusal (image_of w) ls ≡ 0) × (one_if (no_choice (alike_table (image_of w) ls)) ≡ n)
Means (same_runs_apart w n p q) =
    (two_plans (image_of w) p q ≡ 0) × SameRuns (read_back w) p q × (Bisimilar (read_back w) p q → ⊥)
Means (is_finite w p n) = (one_plan (image_of w) p ≡ 0) × JobCount (read_back w) p n × Finite (read_back w) p
Means (is_endless w p n) = (one_plan (image_of w) p ≡ 0) × JobCount (read_back w) p n × Endless (read_back w) p
Means (between_refusal_is ls w v p q f) = two_tables (image_of w) (image_of v) ls p q ≡ f
Means (same_between ls w v p q) =
    (two_tables (image_of w) (image_of v) ls p q ≡ 0) × BisimilarBetween (alike_table (image_of w) ls) (alike_table (image_of v) ls) p q
Means (apart_between ls w v p q) =
    (two_tables (image_of w) (image_of v) ls p q ≡ 0)
    × (BisimilarBetween (alike_table (image_of w) ls) (alike_table (image_of v) ls) p q → ⊥)

-- THE TEST
-- no refusal meets the list and the plans
unfoldable pub pair_passes : (w : Worked) → (p q : List ℕ) → Bool
pair_passes w p q = eqb (or_else (write_refusal w.jobs w.rules) (plans_refusal (listed w) p q)) 0

unfoldable pub plan_passes : (w : Worked) → (p : List ℕ) → Bool
plan_passes w p = eqb (or_else (write_refusal w.jobs w.rules) (plan_refusal (listed w) p)) 0

-- nor the alike list
abbrev pub listed_under : (list : List ℕ) → Worked → Table
listed_under ls w = replaced (alike_pairs ls) (listed w)

unfoldable pub under_passes : (list : List ℕ) → (w : Worked) → (p q : List ℕ) → Bool
under_passes ls w p q =
    eqb (or_else (write_refusal w.jobs w.rules) (or_else (alike_refusal ls) (plans_refusal (listed_under ls w) p q))) 0

unfoldable pub log_passes : (list : List ℕ) → (w : Worked) → (p g : List ℕ) → Bool
log_passes ls w p g =
    eqb (or_else (write_refusal w.jobs w.rules) (or_else (alike_refusal ls) (or_else (plan_refusal (listed_under ls w) p) (log_refusal g)))) 0

unfoldable pub list_passes : (list : List ℕ) → (w : Worked) → Bool
list_passes ls w = eqb (or_else (write_refusal w.jobs w.rules) (alike_refusal ls)) 0

-- no refusal meets the two lists of rules, the tables together, the alike list and the plans
unfoldable pub between_passes : (list : List ℕ) → (w v : Worked) → (p q : List ℕ) → Bool
between_passes ls w v p q =
    eqb (or_else (write_refusal w.jobs w.rules) (or_else (write_refusal v.jobs v.rules) (or_else (tables_refusal (listed w) (listed v))
    (or_else (alike_refusal ls) (plans_refusal_between (listed w) (listed v) p q))))) 0

abbrev pub listed_both : (list : List ℕ) → (w v : Worked) → Table
listed_both ls w v = replaced (alike_pairs ls) (joined (listed w) (listed v))

unfoldable pub has_form : (w : Worked) → (p f : List ℕ) → Bool
has_form w p f = plan_passes w p && equal_plans (prime_form (listed w) p) f

unfoldable pub passes : Case → Bool
passes (refusal_is w f) = eqb (write_refusal w.jobs w.rules) f && eqb (image_refusal (image_of w)) f
passes (byte_is w i v) = eqb (get_or (image_of w) i 0) v
passes (norms_are w ns) = eqb (list_refusal w.jobs w.rules) 0 && equal_plans (norms (listed w)) ns
passes (pair_refusal_is w p q f) = eqb (two_plans (image_of w) p q) f
passes (are_same w p q) = pair_passes w p q && same (listed w) p q
passes (are_apart w p q) = pair_passes w p q && not (same (listed w) p q)
passes (form_is w p f) = has_form w p f
passes (is_prime w j) = has_form w (j ∷ []) (j ∷ [])
passes (move_is w p n bs) = plan_passes w p && equal_plans (move_bytes (shown (listed w) p) n) bs
passes (run_is w p run) = plan_passes w p && equal_plans (first_run (listed w) p) run
passes (alike_refusal_is ls f) = eqb (alike_refusal ls) f
passes (same_under ls w p q) = under_passes ls w p q && same (listed_under ls w) p q
passes (apart_under ls w p q) = under_passes ls w p q && not (same (listed_under ls w) p q)
passes (log_refusal_is g f) = eqb (log_refusal g) f
passes (replay_is ls w p g n) = log_passes ls w p g && eqb (replay (listed_under ls w) p (counted_log ls g)) n
passes (outcome_is ls w n) = list_passes ls w && eqb (one_if (no_choice (listed_under ls w))) n
passes (same_runs_apart w n p q) = (pair_passes w p q && not (same (listed w) p q)) && same_runs_within (listed w) n p q
passes (is_finite w p n) = plan_passes w p && equal_plans (growth (listed w) p ∷ []) ((2 * n) ∷ [])
passes (is_endless w p n) = plan_passes w p && equal_plans (growth (listed w) p ∷ []) ((2 * n + 1) ∷ [])
passes (between_refusal_is ls w v p q f) = eqb (two_tables (image_of w) (image_of v) ls p q) f
passes (same_between ls w v p q) = between_passes ls w v p q && same (listed_both ls w v) p (renumbered w.jobs q)
passes (apart_between ls w v p q) = between_passes ls w v p q && not (same (listed_both ls w v) p (renumbered w.jobs q))

unfoldable pub all_pass : List Case → Bool
all_pass [] = true
all_pass (c ∷ cs) = passes c && all_pass cs

-- THE TABLES; moves a, b, c are 97, 98, 99. A rule as a place: no job, one job and two jobs after its move
abbrev pub to_none : (job move : ℕ) → List ℕ
to_none j a = j ∷ a ∷ 0 ∷ 0 ∷ 0 ∷ 0 ∷ 0 ∷ 0 ∷ []

abbrev pub to_one : (job move after : ℕ) → List ℕ
to_one j a k = j ∷ a ∷ 1 ∷ k ∷ 0 ∷ 0 ∷ 0 ∷ 0 ∷ []

abbrev pub to_two : (job move first second : ℕ) → List ℕ
to_two j a k l = j ∷ a ∷ 2 ∷ k ∷ l ∷ 0 ∷ 0 ∷ 0 ∷ []

-- document 01's table T
abbrev pub table_t : Worked
table_t = record { jobs = 4; rules = to_none 0 97 ++ to_one 1 97 0 ++ to_one 2 97 1 ++ to_one 3 98 0 }

-- 000's S1 = 0, X = 1, S2 = 2, B = 3, C = 4
abbrev pub late_choice : Worked
late_choice =
    record {
      jobs = 5;
      rules =
          to_one 0 97 1 ++ to_none 1 98 ++ to_none 1 99 ++ to_one 2 97 3 ++ to_one 2 97 4 ++ to_none 3 98 ++ to_none 4 99;
    }

-- 000's X = 0, Y = 1, Z = 2
abbrev pub growing : Worked
growing = record { jobs = 3; rules = to_one 0 97 1 ++ to_two 1 97 1 2 ++ to_none 1 98 ++ to_none 2 98 }

-- a rule written twice
abbrev pub twice_at_one : Worked
twice_at_one = record { jobs = 2; rules = to_none 0 97 ++ to_none 1 97 ++ to_none 1 97 }

abbrev pub twice_at_zero : Worked
twice_at_zero = record { jobs = 2; rules = to_none 0 97 ++ to_none 0 97 ++ to_none 1 97 }

-- a rule back to its own job, alone and with a second rule to nothing
abbrev pub back_to_itself : Worked
back_to_itself = record { jobs = 1; rules = to_one 0 97 0 }

abbrev pub back_or_done : Worked
back_or_done = record { jobs = 1; rules = to_one 0 97 0 ++ to_none 0 97 }

-- moves of two bytes: 1,000 is 232 + 256 * 3, and 232 has the same low byte
abbrev pub larger_moves : Worked
larger_moves =
    record {
      jobs = 3;
      rules = (0 ∷ 232 ∷ 0 ∷ 0 ∷ 0 ∷ 0 ∷ 0 ∷ 3 ∷ []) ++ to_none 1 232 ++ (2 ∷ 232 ∷ 0 ∷ 0 ∷ 0 ∷ 0 ∷ 0 ∷ 3 ∷ []);
    }

-- a choice written three times, with another one between them, and the same move and row under another job
abbrev pub choice_repeated : Worked
choice_repeated =
    record {
      jobs = 2;
      rules = to_one 0 97 1 ++ to_one 1 97 1 ++ to_one 0 97 1 ++ to_none 0 98 ++ to_none 1 97 ++ to_one 0 97 1 ++ to_none 0 97;
    }

-- job 2 may begin with a and go on with b or with c, each as short; a move that comes before a leads to a longer run. Job 3 may make move 255
-- or 256, whose low bytes are the other way round
abbrev pub ties : Worked
ties =
    record {
      jobs = 4;
      rules =
          to_none 0 99 ++ to_none 1 98 ++ to_one 2 97 0 ++ to_one 2 97 1 ++ to_two 2 96 1 1 ++ (3 ∷ 0 ∷ 0 ∷ 0 ∷ 0 ∷ 0 ∷ 0 ∷ 1 ∷ []) ++
          to_none 3 255;
    }

-- the same rules in another order
abbrev pub ties_reordered : Worked
ties_reordered =
    record {
      jobs = 4;
      rules =
          to_none 3 255 ++ to_one 2 97 1 ++ to_two 2 96 1 1 ++ (3 ∷ 0 ∷ 0 ∷ 0 ∷ 0 ∷ 0 ∷ 0 ∷ 1 ∷ []) ++ to_none 1 98 ++ to_one 2 97 0 ++
          to_none 0 99;
    }

-- a job that comes back at the last place of a row only, so that none waits behind it; and one that comes round by way of another, with a third behind it
abbrev pub back_at_last : Worked
back_at_last = record { jobs = 2; rules = to_two 0 97 1 0 ++ to_none 0 98 ++ to_none 1 98 }

abbrev pub round_by_two : Worked
round_by_two = record { jobs = 4; rules = to_one 0 97 1 ++ to_none 0 98 ++ to_two 1 97 0 2 ++ to_none 2 98 ++ to_two 3 97 2 2 }

-- T with its jobs numbered from the other end; and S1 and S2 in tables of their own
abbrev pub table_t_renumbered : Worked
table_t_renumbered = record { jobs = 4; rules = to_one 0 98 3 ++ to_one 1 97 2 ++ to_one 2 97 3 ++ to_none 3 97 }

abbrev pub choice_after : Worked
choice_after = record { jobs = 2; rules = to_one 0 97 1 ++ to_none 1 98 ++ to_none 1 99 }

abbrev pub choice_before : Worked
choice_before = record { jobs = 3; rules = to_one 0 97 1 ++ to_one 0 97 2 ++ to_none 1 98 ++ to_none 2 99 }

-- a pair of an alike list, of moves below 256
abbrev pub pair : (from to : ℕ) → List ℕ
pair a b = a ∷ 0 ∷ b ∷ 0 ∷ []

-- a log by its moves
abbrev pub log : (moves : List ℕ) → List ℕ
log l = all_low_first l

abbrev pub cases : List Case
cases =
    refusal_is table_t 0 ∷ byte_is table_t 510 152 ∷ byte_is table_t 511 1 ∷ norms_are table_t (1 ∷ 2 ∷ 3 ∷ 2 ∷ []) ∷
    are_same table_t (2 ∷ 3 ∷ []) (0 ∷ 1 ∷ 3 ∷ []) ∷ are_apart table_t (3 ∷ 0 ∷ []) (0 ∷ 3 ∷ []) ∷ are_same table_t [] [] ∷
    pair_refusal_is table_t (0 ∷ []) (4 ∷ []) 8 ∷ form_is table_t (2 ∷ 3 ∷ []) (0 ∷ 0 ∷ 0 ∷ 3 ∷ []) ∷
    form_is table_t (0 ∷ []) (0 ∷ []) ∷ form_is table_t (1 ∷ []) (0 ∷ 0 ∷ []) ∷ form_is table_t (2 ∷ []) (0 ∷ 0 ∷ 0 ∷ []) ∷
    form_is table_t (3 ∷ []) (3 ∷ []) ∷
    norms_are late_choice (2 ∷ 1 ∷ 2 ∷ 1 ∷ 1 ∷ []) ∷ are_apart late_choice (0 ∷ []) (2 ∷ []) ∷
    are_apart late_choice (2 ∷ []) (0 ∷ []) ∷
    norms_are growing (2 ∷ 1 ∷ 1 ∷ []) ∷ are_apart growing (0 ∷ []) (1 ∷ 2 ∷ []) ∷ is_prime growing 0 ∷ is_prime growing 1 ∷
    is_prime growing 2 ∷
    are_same twice_at_one (0 ∷ []) (1 ∷ []) ∷ form_is twice_at_one (1 ∷ []) (0 ∷ []) ∷
    are_same twice_at_zero (0 ∷ []) (1 ∷ []) ∷ form_is twice_at_zero (1 ∷ []) (0 ∷ []) ∷
    refusal_is back_to_itself 6 ∷ norms_are back_to_itself (0 ∷ []) ∷
    refusal_is back_or_done 0 ∷ norms_are back_or_done (1 ∷ []) ∷
    refusal_is larger_moves 0 ∷ byte_is larger_moves 9 3 ∷ are_apart larger_moves (0 ∷ []) (1 ∷ []) ∷
    are_same larger_moves (0 ∷ []) (2 ∷ []) ∷ form_is larger_moves (2 ∷ []) (0 ∷ []) ∷
    move_is larger_moves (0 ∷ 1 ∷ []) 0 (232 ∷ 3 ∷ 1 ∷ []) ∷
    move_is choice_repeated (0 ∷ 1 ∷ []) 0 (97 ∷ 0 ∷ 1 ∷ 1 ∷ []) ∷ move_is choice_repeated (0 ∷ 1 ∷ []) 1 (98 ∷ 0 ∷ 1 ∷ []) ∷
    move_is choice_repeated (0 ∷ 1 ∷ []) 2 (97 ∷ 0 ∷ 1 ∷ []) ∷ move_is choice_repeated (0 ∷ 1 ∷ []) 3 [] ∷
    move_is choice_repeated (1 ∷ []) 1 (97 ∷ 0 ∷ []) ∷ move_is choice_repeated (1 ∷ []) 2 [] ∷ move_is choice_repeated [] 0 [] ∷
    run_is ties (2 ∷ []) (97 ∷ 98 ∷ []) ∷ run_is ties (3 ∷ 2 ∷ 0 ∷ []) (255 ∷ 97 ∷ 98 ∷ 99 ∷ []) ∷
    run_is ties_reordered (3 ∷ 2 ∷ 0 ∷ []) (255 ∷ 97 ∷ 98 ∷ 99 ∷ []) ∷ run_is ties [] [] ∷
    run_is table_t (2 ∷ 3 ∷ []) (97 ∷ 97 ∷ 97 ∷ 98 ∷ 97 ∷ []) ∷
    alike_refusal_is [] 0 ∷ alike_refusal_is (pair 97 99 ++ pair 98 99) 0 ∷ alike_refusal_is (97 ∷ 0 ∷ 98 ∷ []) 12 ∷
    alike_refusal_is (pair 97 98 ++ pair 98 99) 13 ∷ alike_refusal_is (pair 98 99 ++ pair 97 98) 13 ∷ alike_refusal_is (pair 97 97) 13 ∷
    alike_refusal_is (pair 97 98 ++ pair 97 99) 13 ∷
    same_under (pair 98 97) table_t (3 ∷ []) (1 ∷ []) ∷ apart_under (pair 99 97) table_t (3 ∷ []) (1 ∷ []) ∷
    same_under (pair 99 98) late_choice (0 ∷ []) (2 ∷ []) ∷ apart_under (pair 98 97) late_choice (0 ∷ []) (2 ∷ []) ∷
    same_under (232 ∷ 3 ∷ 232 ∷ 0 ∷ []) larger_moves (0 ∷ []) (1 ∷ []) ∷ apart_under (pair 232 97) larger_moves (0 ∷ []) (1 ∷ []) ∷
    log_refusal_is [] 0 ∷ log_refusal_is (97 ∷ []) 11 ∷ log_refusal_is (97 ∷ 0 ∷ 97 ∷ []) 11 ∷
    replay_is [] table_t (2 ∷ 3 ∷ []) (log (97 ∷ 97 ∷ 97 ∷ 98 ∷ 97 ∷ [])) 1 ∷ replay_is [] table_t (2 ∷ 3 ∷ []) (log (97 ∷ 97 ∷ [])) 0 ∷
    replay_is [] table_t (2 ∷ 3 ∷ []) (log (97 ∷ 97 ∷ 98 ∷ [])) 4 ∷
    replay_is [] table_t [] [] 1 ∷ replay_is [] table_t (0 ∷ []) [] 0 ∷ replay_is [] table_t [] (log (97 ∷ [])) 2 ∷
    replay_is [] late_choice (2 ∷ []) (log (97 ∷ 98 ∷ [])) 1 ∷ replay_is [] late_choice (2 ∷ []) (log (97 ∷ 99 ∷ [])) 1 ∷
    replay_is [] late_choice (2 ∷ []) (log (97 ∷ 97 ∷ [])) 3 ∷ replay_is [] growing (0 ∷ []) (log (97 ∷ 97 ∷ 97 ∷ 98 ∷ 98 ∷ 98 ∷ [])) 1 ∷
    replay_is [] larger_moves (0 ∷ []) (log (1000 ∷ [])) 1 ∷ replay_is [] larger_moves (0 ∷ []) (log (232 ∷ [])) 2 ∷
    replay_is [] table_t (3 ∷ []) (log (97 ∷ 97 ∷ [])) 2 ∷ replay_is (pair 98 97) table_t (3 ∷ []) (log (97 ∷ 97 ∷ [])) 1 ∷
    replay_is (pair 98 97) table_t (1 ∷ []) (log (98 ∷ 97 ∷ [])) 1 ∷
    outcome_is [] table_t 1 ∷ outcome_is [] late_choice 0 ∷ outcome_is [] growing 1 ∷ outcome_is (pair 98 97) growing 0 ∷
    outcome_is [] twice_at_one 1 ∷ outcome_is [] back_or_done 0 ∷ outcome_is [] larger_moves 1 ∷
    outcome_is (232 ∷ 3 ∷ 232 ∷ 0 ∷ []) larger_moves 1 ∷ outcome_is [] choice_repeated 0 ∷ outcome_is (pair 99 98) late_choice 0 ∷
    same_runs_apart late_choice 2 (0 ∷ []) (2 ∷ []) ∷
    is_finite table_t [] 0 ∷ is_finite table_t (2 ∷ 3 ∷ []) 4 ∷ is_finite table_t (1 ∷ 1 ∷ []) 2 ∷ is_finite back_or_done (0 ∷ []) 1 ∷
    is_endless growing (0 ∷ []) 3 ∷ is_endless growing (2 ∷ 1 ∷ []) 2 ∷ is_finite growing (2 ∷ 2 ∷ []) 1 ∷
    is_finite back_at_last (0 ∷ 1 ∷ []) 2 ∷ is_endless round_by_two (0 ∷ []) 3 ∷ is_endless round_by_two (3 ∷ 1 ∷ []) 4 ∷
    is_finite round_by_two (3 ∷ []) 2 ∷
    same_between [] table_t table_t (2 ∷ 3 ∷ []) (0 ∷ 1 ∷ 3 ∷ []) ∷ apart_between [] table_t table_t (3 ∷ 0 ∷ []) (0 ∷ 3 ∷ []) ∷
    same_between [] table_t table_t_renumbered (2 ∷ 3 ∷ []) (1 ∷ 0 ∷ []) ∷ apart_between [] table_t table_t_renumbered (2 ∷ []) (2 ∷ []) ∷
    apart_between [] choice_after choice_before (0 ∷ []) (0 ∷ []) ∷ same_between (pair 99 98) choice_after choice_before (0 ∷ []) (0 ∷ []) ∷
    apart_between [] choice_before larger_moves (1 ∷ []) (1 ∷ []) ∷ same_between (pair 98 232) choice_before larger_moves (1 ∷ []) (1 ∷ []) ∷
    same_between [] growing choice_after [] [] ∷ between_refusal_is [] table_t choice_after (3 ∷ []) (2 ∷ []) 8 ∷
    between_refusal_is [] choice_after table_t (2 ∷ []) (3 ∷ []) 8 ∷ between_refusal_is [] table_t back_to_itself (4 ∷ []) [] 6 ∷ []

-- EVERY CASE IS TRUE
unfoldable pub CasesHold : Type 0
CasesHold = (c : Case) → Memᴰ c cases → Means c
