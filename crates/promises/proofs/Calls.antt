-- The promises about the numbers that the calls give back and the bytes that they write, each with its proved term. Assumes nothing.
use mathlib.Core.Path.{◌≡◌, refl, sym, ap, subst, ◌∙◌}
use mathlib.Core.List.{List, [], ◌∷◌, ◌++◌, cons≢nil}
use mathlib.Core.Logic.{◌↔◌}
use Prim.Native.Nat.{ℕ, suc, ◌-◌, ◌<◌}
use native.Mathlib.Omega.{arith}
use lib.IntN.{pos}
use lib.ListN.{length, get_or, take, drop}
use Rattle.area.specs.Numbers.{number_at, low_first}
use Rattle.area.proofs.Numbers.{number_there}
use Rattle.bpa.specs.Plans.{Step, moves}
use Rattle.bpa.specs.Norms.{norm, Fewest}
use Rattle.bpa.proofs.Norm.NormFewest.{norm_fewest}
use Rattle.rules.specs.Places.{table_bytes}
use Rattle.answer.specs.Answer.{Writes}
use Rattle.answer.proofs.Results.{result_is, written_result, result_written}
use Rattle.image.specs.Image.{image_refusal, image_jobs, image_places, table_in}
use Rattle.image.specs.Writing.{write_refusal, written}
use Rattle.image.proofs.TableBytes.{bytes_of_list, bytes_of_image}
use Rattle.image.proofs.ImageBack as images
use Rattle.image.proofs.TableBack as tables
use Rattle.moves.specs.Shown.{shown, At}
use Rattle.moves.specs.Moves.{move_bytes}
use Rattle.moves.proofs.ShownMoves.{once_apart}
use Rattle.moves.proofs.NoSuchMove.{no_such_move}
use Rattle.table.specs.CallRefusals.{one_plan}
use Rattle.table.proofs.ImageTables.{image_passes, image_table}
use Rattle.promises.specs.Promises.{all_bytes}
use Rattle.promises.specs.Calls as promised
use Rattle.promises.proofs.ListedMoves.{listed_step, step_listed}
use Rattle.promises.proofs.SmallMoves.{step_small}
use Rattle.promises.proofs.AcceptedCalls.{accepted_both}
use Rattle.promises.proofs.SourceCalls.{answer_tells, bytes_form, bytes_stand, bytes_tell}

-- a job count and the rest of what was read
parts : (n j : ℕ) (o ps : List ℕ) → n ≡ suc (length ps) → take n o ≡ j ∷ ps → (get_or o 0 0 ≡ j) × (take (n - 1) (drop 1 o) ≡ ps)
parts n j o ps e h = go o (ap (λ (m : ℕ). take m o) (sym e) ∙ h)
  where
    go : (x : List ℕ) → take (suc (length ps)) x ≡ j ∷ ps → (get_or x 0 0 ≡ j) × (take (n - 1) (drop 1 x) ≡ ps)
    go [] k = absurd (let z : ◌≡◌ {A = ℕ} 0 1 = cc in omega arith)
    go (x ∷ xs) k = (cc, ap (λ (m : ℕ). take m xs) (let f : n - 1 ≡ length ps = omega arith in f) ∙ cc)

pub image_survives : promised.ImageSurvives
unfolding promised.ImageSurvives all_bytes
image_survives bs o o' u u' n r b w v l =
    let s = written_result (image_refusal bs) (table_bytes (table_in bs)) o o' n w in
    let j = image_jobs bs in
    let ps = image_places bs in
    let e : table_bytes (table_in bs) ≡ j ∷ ps = bytes_of_image bs b (image_passes bs s.passed).0 in
    let (f, g) = parts n j o' ps (s.count ∙ ap length e) (s.bytes ∙ e) in
    let back : written j ps ≡ bs = images.image_back bs s.passed b in
    let k : Writes (write_refusal j ps) (written j ps) u r u' = rw (f, g) at v in
    let m = result_written (write_refusal j ps) (written j ps) u r u' (images.image_writes bs s.passed) (rw back l) k in
    rw back at m

pub table_survives : promised.TableSurvives
unfolding promised.TableSurvives all_bytes
table_survives jobs rs o o' u u' n r b w v l =
    let s = written_result (write_refusal jobs rs) (written jobs rs) o o' n w in
    let z = tables.table_back jobs rs s.passed in
    let g = tables.good jobs rs s.passed in
    let e : table_bytes (table_in (written jobs rs)) ≡ jobs ∷ rs = ap table_bytes (tables.table_held jobs rs g) ∙ bytes_of_list jobs rs g b in
    let k : Writes (image_refusal (written jobs rs)) (table_bytes (table_in (written jobs rs))) u r u' = rw s.bytes at v in
    let m = result_written (image_refusal (written jobs rs)) (table_bytes (table_in (written jobs rs))) u r u' z (rw e l) k in
    rw e at m

pub norm_given : promised.NormGiven
unfolding promised.NormGiven
norm_given bs p n w =
    let t = table_in bs in
    let (f, v) = result_is (one_plan bs p) (norm t p) n w in
    let a = accepted_both bs p f in
    subst (Fewest t p) (sym v) (norm_fewest t a.table.good p a.plan.over_table)

-- a move of two bytes and what stands behind it
module _ (a : ℕ) (q xs : List ℕ) (e : xs ≡ low_first a ++ q) (small : a < 65536) where
  move_first : number_at 0 xs ≡ a
  move_first = ap (number_at 0) e ∙ number_there [] a q 0 refl small

  rest_behind : drop 2 xs ≡ q
  unfolding low_first
  rest_behind = ap (drop 2) e

-- a list has no length exactly if it is empty
no_length : (xs : List ℕ) → (length xs ≡ 0) ↔ (xs ≡ [])
no_length [] = (λ e. refl, λ e. refl)
no_length (x ∷ xs) = (λ e. absurd (omega arith), λ e. absurd (cons≢nil e))

pub move_written : promised.MoveWritten
unfolding promised.MoveWritten all_bytes
move_written bs p o o' i n w =
    let t = table_in bs in
    let bytes = move_bytes (shown t p) i in
    let s = written_result (one_plan bs p) bytes o o' n w in
    let none = no_such_move t p i in (
      s.bytes,
      (
        (λ e. none.0 ((no_length bytes).0 (sym s.count ∙ e))),
        (λ h. s.count ∙ (no_length bytes).1 (none.1 h)),
      ),
      λ b l.
          let (a, q, e, k, step) = listed_step t p i (subst (λ (m : ℕ). 0 < m) s.count l) in
          let small = step_small bs b p q a step in
          subst (λ (x : ℕ). Step t p x (drop 2 (take n o'))) (sym (move_first a q (take n o') (s.bytes ∙ e) small))
          (subst (Step t p a) (sym (rest_behind a q (take n o') (s.bytes ∙ e) small)) step),
    )

pub steps_written : promised.StepsWritten
unfolding promised.StepsWritten all_bytes low_first
steps_written bs p q a b f step =
    let t = table_in bs in
    let small = step_small bs b p q a step in
    let (i, l, e) = step_listed t p q a step in (
      i,
      λ o o' r n is room w.
          let k : Writes (one_plan bs p) (low_first a ++ q) o r o' = subst (λ (x : List ℕ). Writes (one_plan bs p) x o r o') e w in
          let whole : n ≡ length (low_first a ++ q) = omega (arith, is) in
          let (answer, bytes) = result_written (one_plan bs p) (low_first a ++ q) o r o' f (omega arith) k in
          let stands : take n o' ≡ low_first a ++ q = ap (λ (m : ℕ). take m o') whole ∙ bytes in
          (answer ∙ ap pos (sym whole), move_first a q (take n o') stands small, rest_behind a q (take n o') stands small),
    )

pub moves_written_once : promised.MovesWrittenOnce
unfolding promised.MovesWrittenOnce all_bytes shown
moves_written_once bs p o o' u u' i k n b w v l same =
    let t = table_in bs in
    let s = written_result (one_plan bs p) (move_bytes (shown t p) i) o o' n w in
    let z = written_result (one_plan bs p) (move_bytes (shown t p) k) u u' n v in
    let (a, q, e, x, step) = listed_step t p i (subst (λ (m : ℕ). 0 < m) s.count l) in
    let (a', q', e', y, step') = listed_step t p k (subst (λ (m : ℕ). 0 < m) z.count l) in
    let small = step_small bs b p q a step in
    let small' = step_small bs b p q' a' step' in
    let one : take n o' ≡ low_first a ++ q = s.bytes ∙ e in
    let other : take n o' ≡ low_first a' ++ q' = same ∙ z.bytes ∙ e' in
    let move : a' ≡ a = sym (move_first a' q' (take n o') other small') ∙ move_first a q (take n o') one small in
    let rest : q' ≡ q = sym (rest_behind a' q' (take n o') other small') ∙ rest_behind a q (take n o') one small in
    once_apart (moves t p) (record { move = a; rest = q }) i k x (subst (At (shown t p) k) (λ d. record { move = move d; rest = rest d }) y)

-- THE CALLS ABOUT SAMENESS, of an image as a source of tables
pub compare_tells : promised.CompareTells
unfolding promised.CompareTells
compare_tells bs = answer_tells (image_refusal bs) (table_in bs) (image_table bs)

pub form_written : promised.FormWritten
unfolding promised.FormWritten
form_written bs = bytes_form (image_refusal bs) (table_in bs) (image_table bs)

pub stands_written : promised.StandsWritten
unfolding promised.StandsWritten
stands_written bs = bytes_stand (image_refusal bs) (table_in bs) (image_table bs)

pub forms_written : promised.FormsWritten
unfolding promised.FormsWritten
forms_written bs = bytes_tell (image_refusal bs) (table_in bs) (image_table bs)
