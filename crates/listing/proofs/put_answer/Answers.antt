-- Too little room, and written.
use mathlib.Core.Path.{◌≡◌, sym, ap, ◌∙◌, subst}
use mathlib.Core.List.{List, ◌∷◌, ◌++◌}
use Prim.Native.Nat.{ℕ}
use native.Mathlib.Omega.{arith}
use lib.IntN.{pos}
use lib.ListN.{length, set}
use mir.Val.{bool_byte}
use Rattle.area.specs.Areas.{put}
use Rattle.answer.specs.Answer.{Writes, answered, signed}
use Rattle.answer.specs.Refusals.{number}
use Rattle.answer.proofs.Answers.{too_short, written}
use Rattle.words.specs.Words.{word_bytes}
use Rattle.listing.proofs.Listed.{answer_long, answer_put, jobs_of, entry_is, bytes_long}
use Rattle.listing.proofs.put_answer.Goals.{in-Some, in-None}
use Rattle.listing.proofs.put_answer.Goals as goal

pub returns-then-out-jobs : goal.returns-then-out-jobs
unfolding answered signed number
returns-then-out-jobs c =
    let is : c.match-row.jobs.now ≡ jobs_of c.args.row =
    elim c.match-row.branch [
      | in-Some w ↦ rw (w.jobs-is, w.in-Some.is) w.as_slice-jobs.ensures
      | in-None w ↦ rw (w.jobs-is, w.in-None.is)
    ] in
    too_short _ c.args.out.now (omega (arith, c.if-out-jobs.true, bytes_long c.args.count c.args.row, ap length is))

pub returns : goal.returns
unfolding answered
returns c =
    let is : c.match-row.jobs.now ≡ jobs_of c.args.row =
    elim c.match-row.branch [
      | in-Some w ↦ rw (w.jobs-is, w.in-Some.is) w.as_slice-jobs.ensures
      | in-None w ↦ rw (w.jobs-is, w.in-None.is)
    ] in
    let n = c.args.count in
    let found = c.from.result in
    let jobs = c.match-row.jobs.now in
    let out = c.args.out.now in
    let long = answer_long n found jobs in
    subst (λ (entry : List ℕ). Writes 0 (word_bytes n ++ entry) out (pos c.put.result) c.put.new.area)
    (entry_is c.args.row jobs found is (c.from.ensures ∙ ap bool_byte c.is_some.ensures))
    (written (word_bytes n ++ (found ∷ jobs)) out (omega (arith, c.if-out-jobs.false, long)) (ap pos (c.put.ensures.next ∙ sym long))
    (c.put.ensures.output ∙ ap (λ (o : List ℕ). put 9 jobs (set o 8 found)) c.put_word.ensures ∙ answer_put n found jobs out c.if-out-jobs.false))
