-- What reaching for the tail of an earlier job asks, the tail that is found, and what is known once the job is passed over. Assumes nothing.
use mathlib.Core.Path.{◌≡◌, sym, ap, subst, ◌∙◌}
use mathlib.Core.Bool.{true}
use mathlib.Core.List.{List, ◌∷◌}
use Prim.Native.Nat.{ℕ, ◌-◌, ◌≤◌, ◌<◌}
use native.Mathlib.Omega.{arith}
use lib.ListN.{length, get_or, take, drop, set}
use lib.Seq.{slice, length-slice}
use Rattle.area.proofs.Parts.{middle_part}
use Rattle.bpa.specs.Plans.{Table, all_below}
use Rattle.bpa.specs.Method as method
use Rattle.bpa.proofs.Basics.JobsBelow.{below_more}
use Rattle.decompositions.specs.Decompositions.{Decomposes}
use Rattle.rows.specs.Rows.{rows_of}
use Rattle.rows.specs.declared.Rows.{Rows}
use Rattle.tails.specs.Cuts.{CutBehind, Reached}
use Rattle.facts.specs.Columns.{norms_in, order_in, jobs_in, table_by}
use Rattle.facts.specs.declared.Facts.{Facts}
use Rattle.fingerprints.specs.declared.Prints.{Prints}
use Rattle.candidates.specs.Candidates.{Likely}
use Rattle.candidates.proofs.JobsOfTable.{over_below}
use Rattle.candidates.proofs.LikelyJobs.{decomposes_likely}
use Rattle.decomposing.proofs.FoundTails.{FoundTail, no_tail, tail_found}
use Rattle.decomposing.proofs.JobsTried.{goal_at, Tried, tried_passed, tried_cut, PartsWritten, parts_written}
use Rattle.decomposing.proofs.Turns.{Turn, few, y_job, x_job}

module _ {facts : Facts} {prints : Prints} {old new : Rows} {place y : ℕ} {out : List ℕ} {end k at norm x : ℕ}
    (u : Turn facts prints old new place y out end k at norm x) where
  abbrev t : Table
  t = table_by facts

  abbrev ns : List ℕ
  ns = norms_in facts

  abbrev d : method.Rows
  d = rows_of old

  abbrev e : method.Rows
  e = rows_of new

  -- the lowered row, as it stands and as it is lent
  abbrev low : List ℕ
  low = slice 1 end out

  abbrev lent : List ℕ
  lent = take (end - 1) (drop 1 out)

  lent_is : lent ≡ low
  lent_is = middle_part out 1 end u.written.some

  pub row_inside : end ≤ length out
  row_inside = omega (arith, u.written.short, u.written.size)

  -- no tail will do
  abbrev Never : Type 0
  Never = (tail : List ℕ) → Decomposes t ns d e y x tail → ⊥

  never_here : Never → (tail : List ℕ) → Decomposes t ns d e y (get_or (order_in facts) k 0) tail → ⊥
  never_here never tail c = never tail (subst (λ (z : ℕ). Decomposes t ns d e y z tail) (sym u.other) c)

  pub passed_unlikely : (Likely facts old e y x → ⊥) → Tried facts d e place y low k at norm
  passed_unlikely un =
      tried_passed facts d e place y low k at norm u.tried
      (never_here (λ tail c. un (decomposes_likely facts old e y x tail u.asked.old_within (y_job u) c)))

  pub lent_below : all_below 24 lent ≡ true
  lent_below = rw lent_is (below_more (jobs_in facts) 24 low (few u) (over_below facts low u.written.low.inside))

  module _ {goal : ℕ} (goal_is : goal ≡ get_or ns x 0 - 1) where
    goal_here : goal ≡ goal_at facts k
    goal_here = goal_is ∙ ap (λ (j : ℕ). get_or ns j 0 - 1) u.other

    pub lent_cut : CutBehind ns lent goal at norm
    lent_cut =
        subst (λ (l : List ℕ). CutBehind ns l goal at norm) (sym lent_is)
        (subst (λ (g : ℕ). CutBehind ns low g at norm) (sym goal_here) (u.tried.cut k (omega arith)))

    module _ {at' norm' : ℕ} (r : Reached ns lent goal at' norm') where
      reached : Reached ns low goal at' norm'
      reached = subst (λ (l : List ℕ). Reached ns l goal at' norm') lent_is r

      -- the job has a place before its tail
      pub cut_inside : at' < end
      cut_inside = omega (arith, reached.place.inside, length-slice 1 end out row_inside, u.written.some)

      pub passed_cut : Never → Tried facts d e place y low k at' norm'
      passed_cut never =
          tried_cut facts d e place y low k at norm u.tried u.asked.inside goal at' norm' goal_here reached (never_here never)

      pub passed_missed : (norm' ≡ goal → ⊥) → Tried facts d e place y low k at' norm'
      passed_missed missed =
          passed_cut (λ tail c. no_tail facts e y x (y_job u) (x_job u) low u.written.low goal goal_is at' norm' reached missed tail c.ends)

      pub tail_here : norm' ≡ goal → FoundTail facts e y x (drop at' low)
      tail_here is = tail_found facts e y x (y_job u) (x_job u) low u.written.low goal goal_is at' norm' reached is

      -- the job is written before its tail
      abbrev with_job : List ℕ
      with_job = set out at' (get_or (order_in facts) k 0)

      pub job_and_tail : PartsWritten x (drop at' low) with_job at' end
      job_and_tail =
          subst (λ (j : ℕ). PartsWritten x (drop at' low) (set out at' j) at' end) u.other
          (parts_written out u.written.size x at' end cut_inside u.written.short)

      pub parts_lent : take (end - at') (drop at' with_job) ≡ x ∷ drop at' low
      parts_lent = middle_part with_job at' end (omega (arith, cut_inside)) ∙ job_and_tail.is
