-- The promises about logs replayed on plans, each with its proved term. Assumes nothing.
use mathlib.Core.Path.{◌≡◌, refl, sym, ap, ◌∙◌, subst}
use mathlib.Core.List.{List, [], ◌∷◌, ◌++◌, map, map-append, map-id}
use mathlib.Core.Logic.{◌↔◌, inl, inr, ⊎_elim}
use Prim.Native.Nat.{ℕ, zero, suc, ◌+◌, ◌-◌, ◌/◌, ◌%◌, ◌<◌}
use native.Mathlib.Omega.{arith}
use lib.Dec.{ltb}
use lib.IntN.{pos}
use lib.ListN.{length, take, drop}
use lib.Seq.{drop_at}
use borrow.Author.Tests.{ltb-true, ltb-false, lt-ltb}
use Rattle.bpa.specs.Plans.{Table, Runs, moves}
use Rattle.bpa.proofs.Basics.Cases.{by_test}
use Rattle.answer.specs.Refusals.{or_else, space_refusal}
use Rattle.answer.specs.Answer.{with_space, GivesWithSpace}
use Rattle.answer.proofs.RefusalChains.{neither}
use Rattle.answer.proofs.Results.{result_is}
use Rattle.refusal.specs.Refusals.{plan_refusal, Accepted, AcceptedPlan}
use Rattle.refusal.proofs.PlanRefusals.{accepted_plan}
use Rattle.image.specs.Image.{table_in}
use Rattle.table.specs.CallRefusals.{one_plan}
use Rattle.first_run.specs.FirstRun.{first_run}
use Rattle.first_run.proofs.FirstRuns.{first_run_first}
use Rattle.alike.specs.Alike.{replace, replaced}
use Rattle.alike.proofs.ReplacedRuns.{runs_replaced, runs_raw}
use Rattle.alike_list.specs.AlikeLists.{pairs_in, pair_count, alike_pairs}
use Rattle.alike_list.specs.AlikeTables.{alike_table, listed_refusal, one_plan_alike}
use Rattle.replacing.proofs.NoList.{no_replacement, one_plan_none}
use Rattle.replay.specs.Replay.{Begins, after_move, by_move, none_left, one_empty, replay_from, replay}
use Rattle.replay.proofs.ReplayMeaning as meaning
use Rattle.log_moves.specs.Logs.{log_moves, counted_log, log_refusal}
use Rattle.log_moves.proofs.LogMoves.{too_many, half_a_move, whole_log, log_short, length_counted}
use Rattle.logs.specs.LogCalls.{plan_and_log, replayed, Replayed}
use Rattle.promises.specs.LogReplays as promised
use Rattle.promises.proofs.AlikeLists.{source}

-- REFUSAL 11
pub eleven_exactly : promised.ElevenExactly
unfolding promised.ElevenExactly
eleven_exactly g = (
  (λ z.
      by_test (ltb 128 (length g / 2)) (λ e. inl (ltb-true 128 (length g / 2) e))
      (λ e.
      by_test (ltb 0 (length g % 2)) (λ f. inr (ltb-true 0 (length g % 2) f))
      (λ f. absurd (omega (arith, z, whole_log g (ltb-false 128 (length g / 2) e) f))))),
  (λ h. ⊎_elim (λ (l : 128 < length g / 2). too_many g l) (λ (l : 0 < length g % 2). half_a_move g (lt-ltb 0 (length g % 2) l)) h),
)

-- THE ANSWER
pub whole_exactly : promised.WholeExactly
unfolding promised.WholeExactly
whole_exactly = meaning.whole_exactly

pub part_exactly : promised.PartExactly
unfolding promised.PartExactly
part_exactly t p log a o = meaning.part_exactly t _ a.good p log o

pub place_exactly : promised.PlaceExactly
unfolding promised.PlaceExactly
place_exactly = meaning.place_exactly

pub place_inside : promised.PlaceInside
unfolding promised.PlaceInside
place_inside t p log k e = meaning.leaves_inside t p log k ((meaning.place_exactly t p log k).0 e)

pub runs_complete : promised.RunsComplete
unfolding promised.RunsComplete
runs_complete t p log a o b = (meaning.begins_completes t _ a.good p log o).0 b

pub nothing_replayed : promised.NothingReplayed
unfolding promised.NothingReplayed replay replay_from after_move by_move none_left one_empty moves
nothing_replayed t j a p log = (refl, refl, refl)

pub replays_reordered : promised.ReplaysReordered
unfolding promised.ReplaysReordered
replays_reordered t u p log s = meaning.replay_same t u s p log

pub first_run_whole : promised.FirstRunWhole
unfolding promised.FirstRunWhole
first_run_whole t p a o = (meaning.whole_exactly t p (first_run t p)).1 (first_run_first t a.good p o).runs

-- THE REPLACED TABLE
pub replaced_runs : promised.ReplacedRuns
unfolding promised.ReplacedRuns
replaced_runs ps t p run q = (
  (λ r. runs_raw ps t r),
  (λ w. let (raw, r, e) = w in subst (λ (l : List ℕ). Runs (replaced ps t) p l q) e (runs_replaced ps t r)),
)

-- rows mapped, in parts
module _ (f : ℕ → ℕ) where
  map_take : (k : ℕ) (l : List ℕ) → take k (map f l) ≡ map f (take k l)
  map_take zero l = refl
  map_take (suc k) [] = refl
  map_take (suc k) (x ∷ l) = ap (λ (r : List ℕ). f x ∷ r) (map_take k l)

  map_drop : (k : ℕ) (l : List ℕ) → drop k (map f l) ≡ map f (drop k l)
  map_drop zero l = refl
  map_drop (suc k) [] = refl
  map_drop (suc k) (x ∷ l) = map_drop k l

-- OF THE CALL
module _ (bs ls p g : List ℕ) where
  abbrev f : ℕ → ℕ
  f = replace (alike_pairs ls)

  abbrev t : Table
  t = alike_table bs ls

  -- runs of the replaced table by a row that is replaced
  alike : (row end : List ℕ) → Runs t p (map f row) end ↔ promised.RunsAlike ls (table_in bs) p row end
  unfolding promised.ReplacedRuns
  alike row end = replaced_runs (alike_pairs ls) (table_in bs) p (map f row) end

  counted : (k : ℕ) → take k (counted_log ls g) ≡ map f (take k (log_moves g))
  unfolding counted_log
  counted k = map_take f k (log_moves g)

  begins : (k : ℕ) → Begins t p (take k (counted_log ls g)) ↔ ((end : List ℕ) × promised.RunsAlike ls (table_in bs) p (take k (log_moves g)) end)
  begins k = (
    (λ w. let (end, r) = w in (end, (alike (take k (log_moves g)) end).0 (subst (λ (l : List ℕ). Runs t p l end) (counted k) r))),
    (λ w. let (end, r) = w in (end, subst (λ (l : List ℕ). Runs t p l end) (sym (counted k)) ((alike (take k (log_moves g)) end).1 r))),
  )

  whole : Runs t p (counted_log ls g) [] ↔ promised.RunsAlike ls (table_in bs) p (log_moves g) []
  unfolding counted_log
  whole = alike (log_moves g) []

  -- a complete run that begins with the log
  completes : ((more : List ℕ) × Runs t p (counted_log ls g ++ more) []) ↔ ((more : List ℕ) × promised.RunsAlike ls (table_in bs) p (log_moves g ++ more) [])
  unfolding counted_log
  completes = (
    (λ w.
        let (more, r) = w in
        let (raw, q, e) = runs_raw (alike_pairs ls) (table_in bs) r in
        let n = length (map f (log_moves g)) in
        let rest : map f (drop n raw) ≡ more = sym (map_drop f n raw) ∙ ap (drop n) e ∙ drop_at (map f (log_moves g)) more n refl in
        (drop n raw, (raw, q, e ∙ ap (λ (l : List ℕ). map f (log_moves g) ++ l) (sym rest) ∙ sym (map-append f (log_moves g) (drop n raw))))),
    (λ w.
        let (more, (raw, q, e)) = w in
        (map f more, subst (λ (l : List ℕ). Runs t p l []) (e ∙ map-append f (log_moves g) more) (runs_replaced (alike_pairs ls) (table_in bs) q))),
  )

  module _ (s s' : List ℕ) (n : ℕ) (w : Replayed bs ls p g s (pos n) s') where
    told : (with_space s (plan_and_log bs ls p g) ≡ 0) × (n ≡ replayed bs ls p g)
    told = result_is (with_space s (plan_and_log bs ls p g)) (replayed bs ls p g) n w.answer

    passed : (one_plan_alike bs ls p ≡ 0) × (log_refusal g ≡ 0)
    passed = neither (one_plan_alike bs ls p) (log_refusal g) (neither (space_refusal s) (plan_and_log bs ls p g) told.0).1

    accepted : Accepted t × AcceptedPlan t p
    accepted =
        let (i, k) = neither (listed_refusal bs ls) (plan_refusal t p) passed.0 in
        (source bs ls i, accepted_plan t p k)

pub replay_whole : promised.ReplayWhole
unfolding promised.ReplayWhole
replay_whole bs ls p g s s' n w =
    let (z, e) = told bs ls p g s s' n w in
    let m = meaning.whole_exactly (alike_table bs ls) p (counted_log ls g) in (
      (λ h. (whole bs ls p g).0 (m.0 (sym e ∙ h))),
      (λ r. e ∙ m.1 ((whole bs ls p g).1 r)),
    )

pub replay_part : promised.ReplayPart
unfolding promised.ReplayPart
replay_part bs ls p g s s' n w =
    let (z, e) = told bs ls p g s s' n w in
    let (a, o) = accepted bs ls p g s s' n w in
    let m = meaning.part_exactly (alike_table bs ls) _ a.good p (counted_log ls g) o.over_table in
    let v = whole bs ls p g in
    let c = completes bs ls p g in (
      (λ h. let (x, y) = m.0 (sym e ∙ h) in ((λ r. x (v.1 r)), c.0 y)),
      (λ r. e ∙ m.1 ((λ q. r.0 (v.0 q)), c.1 r.1)),
    )

pub replay_place : promised.ReplayPlace
unfolding promised.ReplayPlace
replay_place bs ls p g s s' n k w =
    let (z, e) = told bs ls p g s s' n w in
    let m = meaning.place_exactly (alike_table bs ls) p (counted_log ls g) k in
    let here = begins bs ls p g k in
    let next = begins bs ls p g (suc k) in (
      (λ h. let (x, y) = m.0 (sym e ∙ h) in (here.0 x, (λ r. y (next.1 r)))),
      (λ r. e ∙ m.1 (here.1 r.0, (λ q. r.1 (next.0 q)))),
    )

pub replay_small : promised.ReplaySmall
unfolding promised.ReplaySmall
replay_small bs ls p g s s' n w =
    let (z, e) = told bs ls p g s s' n w in
    let long = log_short g (passed bs ls p g s s' n w).1 in
    by_test (ltb 129 n)
    (λ h.
    let k = n - 2 in
    let is : n ≡ 2 + k = omega (arith, ltb-true 129 n h) in
    let inside = meaning.leaves_inside (alike_table bs ls) p (counted_log ls g) k ((meaning.place_exactly (alike_table bs ls) p (counted_log ls g) k).0 (sym e ∙ is)) in
    absurd (omega (arith, inside, length_counted ls g, ltb-true 129 n h, long)))
    (λ h. ltb-false 129 n h)

-- without a list
no_counts : (g : List ℕ) → counted_log [] g ≡ log_moves g
unfolding counted_log alike_pairs pair_count pairs_in replace
no_counts g = map-id (log_moves g)

pub no_list_replayed : promised.NoListReplayed
unfolding promised.NoListReplayed
no_list_replayed bs p g s r s' =
    let e : plan_and_log bs [] p g ≡ or_else (one_plan bs p) (log_refusal g) = ap (λ (n : ℕ). or_else n (log_refusal g)) (one_plan_none bs p) in
    let v : replayed bs [] p g ≡ replay (table_in bs) p (log_moves g) = λ i. replay (no_replacement (table_in bs) i) p (no_counts g i) in
    let same : Replayed bs [] p g s r s' ≡ GivesWithSpace (or_else (one_plan bs p) (log_refusal g)) (replay (table_in bs) p (log_moves g)) s r s' =
    λ i. GivesWithSpace (e i) (v i) s r s' in
    ((λ w. subst (λ (X : Type 0). X) same w), (λ w. subst (λ (X : Type 0). X) (sym same) w))
