-- The earlier jobs tried from the last to the first: none of them decomposes the job, and the cut of the lowered row serves the jobs to come. What is written
-- in the end is the new row. Assumes nothing.
use mathlib.Core.Path.{◌≡◌, sym, ap, subst, ◌∙◌}
use mathlib.Core.Bool.{true}
use mathlib.Core.List.{List, [], ◌∷◌}
use mathlib.Core.Logic.{⊎_elim}
use Prim.Native.Nat.{ℕ, suc, ◌+◌, ◌-◌, ◌≤◌, ◌<◌}
use native.Mathlib.Nat.{eq-or-lt_of_le}
use native.Mathlib.Omega.{arith}
use lib.ListN.{length, get_or, take, drop, set, length-set}
use lib.Seq.{slice, slice-cons, drop-drop, get_or-set_same, set-get_or, set-set, take-set-lt, drop-set-lt, take-suc-set}
use Rattle.bpa.specs.Plans.{Table}
use Rattle.bpa.specs.Norms.{sum_of}
use Rattle.bpa.specs.Method.{Rows, precedes}
use Rattle.bpa.proofs.Basics.Order.{precedes_le}
use Rattle.decompositions.specs.Decompositions.{Decomposes, NewRow, whole}
use Rattle.tails.specs.Cuts.{CutBehind, Reached}
use Rattle.tails.proofs.Tails.{cut_last, reached_later}
use Rattle.facts.specs.Columns.{norms_in, order_in, jobs_in, table_by}
use Rattle.facts.specs.declared.Facts.{Facts}
use Rattle.facts.proofs.TableFacts.{place_rises, place_of_earlier}
use Rattle.decomposing.specs.Decomposing.{RowWritten}
use Rattle.candidates.proofs.JobsOfTable.{job_below}

-- the norm that the cut for the job at a place is to have before it
abbrev pub goal_at : Facts → (place : ℕ) → ℕ
goal_at facts j = get_or (norms_in facts) (get_or (order_in facts) j 0) 0 - 1

-- the jobs from place k on are tried
pub record Tried (facts : Facts) (d e : Rows) (place y : ℕ) (row : List ℕ) (k at norm : ℕ) : Type 0 where
  pub inside : k ≤ place
  pub cut : (j : ℕ) → j < k → CutBehind (norms_in facts) row (goal_at facts j) at norm
  pub none : (j : ℕ) → k ≤ j → j < place → (tail : List ℕ) →
      Decomposes (table_by facts) (norms_in facts) d e y (get_or (order_in facts) j 0) tail → ⊥

module _ (facts : Facts) (d e : Rows) (place y : ℕ) (row : List ℕ) where
  abbrev t : Table
  t = table_by facts

  abbrev ns : List ℕ
  ns = norms_in facts

  abbrev Never : (place : ℕ) → Type 0
  Never j = (tail : List ℕ) → Decomposes t ns d e y (get_or (order_in facts) j 0) tail → ⊥

  pub tried_none : (at norm : ℕ) → at ≡ length row → norm ≡ sum_of ns row → Tried facts d e place y row place at norm
  tried_none at norm end all = record {
    inside = omega arith;
    cut = λ j a. cut_last ns row (goal_at facts j) at norm end all;
    none = λ j a b. absurd (omega arith);
  }

  -- the place that is next is the last of those left
  pub tried_next : (k at norm : ℕ) → Tried facts d e place y row k at norm → 0 < k → Tried facts d e place y row (k - 1 + 1) at norm
  tried_next k at norm w some =
      let same : k ≡ k - 1 + 1 = omega arith in
      subst (λ (n : ℕ). Tried facts d e place y row n at norm) same w

  module _ (k at norm : ℕ) (w : Tried facts d e place y row (k + 1) at norm) where
    none_more : Never k → (j : ℕ) → k ≤ j → j < place → Never j
    none_more never j a b =
        ⊎_elim (λ (s : k ≡ j). subst Never s never) (λ (s : k < j). w.none j (omega arith) b) (eq-or-lt_of_le a)

    -- one job more, by the same cut or by an earlier one
    pub tried_passed : Never k → Tried facts d e place y row k at norm
    tried_passed never = record { inside = omega arith; cut = λ j a. w.cut j (omega arith); none = none_more never }

    module _ (h : place < jobs_in facts) where
      falls : (j : ℕ) → j < k → goal_at facts j ≤ goal_at facts k
      falls j a =
          omega (
            arith,
            precedes_le ns (get_or (order_in facts) j 0) (get_or (order_in facts) k 0)
                (place_rises facts j k a (omega (arith, w.inside))),
          )

      pub tried_cut : (goal at' norm' : ℕ) → goal ≡ goal_at facts k → Reached ns row goal at' norm' → Never k →
          Tried facts d e place y row k at' norm'
      tried_cut goal at' norm' is r never = record {
        inside = omega arith;
        cut = λ j a. reached_later ns row goal at' norm' r (goal_at facts j) (omega (arith, falls j a));
        none = none_more never;
      }

  -- all of them
  pub tried_all : (k at norm : ℕ) → Tried facts d e place y row k at norm → place < jobs_in facts → y ≡ get_or (order_in facts) place 0 → k ≤ 0 → NewRow t ns d e y (y ∷ [])
  tried_all k at norm w h y_is l =
      whole (λ x tail c.
      let before : precedes ns x (get_or (order_in facts) place 0) ≡ true = subst (λ (z : ℕ). precedes ns x z ≡ true) y_is c.earlier in
      let (j, b, is) = place_of_earlier facts place x h (job_below facts x c.is_job) before in
      w.none j (omega arith) b tail (subst (λ (z : ℕ). Decomposes t ns d e y z tail) (sym is) c))

-- WHAT IS WRITTEN: a job alone, or a job in the place before its tail
pub record PartsWritten (x : ℕ) (tail out : List ℕ) (from to : ℕ) : Type 0 where
  pub size : length out ≡ 512
  pub some : from < to
  pub short : to ≤ 512
  pub is : slice from to out ≡ x ∷ tail

pub job_written : (out : List ℕ) → length out ≡ 512 → (x : ℕ) → PartsWritten x [] (set out 0 x) 0 1
job_written out size x = record {
  size = length-set out 0 x ∙ size;
  some = omega arith;
  short = omega arith;
  is = take-suc-set out 0 x (omega arith);
}

pub parts_written : (out : List ℕ) → length out ≡ 512 → (x at end : ℕ) → at < end → end ≤ 512 →
    PartsWritten x (drop at (slice 1 end out)) (set out at x) at end
parts_written out size x at end some short =
    let long = length-set out at x in
    let next : suc at ≡ 1 + at = omega arith in
    record {
      size = long ∙ size;
      some = some;
      short = short;
      is =
          slice-cons at end (set out at x) 0 some (omega (arith, long))
          ∙ ap (λ (j : ℕ). j ∷ slice (suc at) end (set out at x)) (get_or-set_same out at x 0 (omega arith))
          ∙ ap (λ (l : List ℕ). x ∷ drop (suc at) l) (take-set-lt end out at x some)
          ∙ ap (λ (l : List ℕ). x ∷ l)
          (drop-set-lt (suc at) (take end out) at x (omega arith) ∙ ap (λ (n : ℕ). drop n (take end out)) next
          ∙ sym (drop-drop at 1 (take end out)));
    }

-- the byte that stood there is put back
pub put_back : (out : List ℕ) (at x : ℕ) → set (set out at x) at (get_or out at 0) ≡ out
put_back out at x = set-set out at x (get_or out at 0) ∙ set-get_or out at 0

pub row_written : (facts : Facts) (d e : Rows) (y x : ℕ) (tail out : List ℕ) (from to : ℕ) → PartsWritten x tail out from to →
    NewRow (table_by facts) (norms_in facts) d e y (x ∷ tail) → RowWritten facts d e y out from to
row_written facts d e y x tail out from to w h = record {
  size = w.size;
  some = w.some;
  short = w.short;
  is = subst (NewRow (table_by facts) (norms_in facts) d e y) (sym w.is) h;
}
