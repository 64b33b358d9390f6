use Rattle.std.proofs.Math.Seq.{slice}
use Rattle.rows.specs.Rows.{rows_of}
use Rattle.candidates.specs.Candidates.{LoweredRow}
use Rattle.decomposing.proofs.JobsTried.{Tried}
use Rattle.decomposing.proofs.new_row.Given as goal

-- the lowered row stands in the area, no earlier job from the place on decomposes the job, and the cut of the lowered row serves the jobs before it
abbrev pub invariant-loop-earlier : goal.invariant-loop-earlier
invariant-loop-earlier l = record {
  written : LoweredRow l.facts (rows_of l.new) l.y l.out l.end;
  tried : Tried l.facts (rows_of l.old) (rows_of l.new) l.place l.y (slice 1 l.end l.out) l.earlier l.cut.at l.cut.norm;
}
