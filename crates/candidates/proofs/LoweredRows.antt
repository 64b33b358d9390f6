-- The lowered row: its jobs can be written out, there is room for it, and what is written is it. Assumes nothing.
use Rattle.std.proofs.Common.{◌≡◌, true, List, ℕ, ◌+◌, ◌≤◌, ◌<◌, length, get_or, take, drop, sym, ap, subst, ◌∙◌, arith}
use lib.Seq.{slice, length-take-le, drop_at}
use Rattle.area.specs.Areas.{put, IsPut}
use Rattle.area.proofs.Puts.{put_length, put_up_to}
use Rattle.bpa.specs.Plans.{Table, over, all_below}
use Rattle.bpa.specs.Norms.{sum_of}
use Rattle.bpa.specs.Method as method
use Rattle.bpa.proofs.Basics.EachJob.{Each}
use Rattle.bpa.proofs.Basics.Plans.{length_norm}
use Rattle.bpa.proofs.Judge.Candidates.{lowering_rule, lowering_norm}
use Rattle.decompositions.specs.Decompositions.{Decomposed}
use Rattle.decompositions.proofs.NewRows.{expanded_norm, expanded_over, lowering_earlier}
use Rattle.rules.specs.Places.{rule_at}
use Rattle.rows.specs.Region.{Readable}
use Rattle.rows.specs.Rows.{rows_of}
use Rattle.rows.specs.declared.Rows.{Rows}
use Rattle.rows.proofs.WrittenPlans.{within_readable}
use Rattle.facts.specs.Columns.{norms_in, jobs_in, bytes_in, table_by, Tables}
use Rattle.facts.specs.declared.Facts.{Facts}
use Rattle.facts.proofs.TableFacts.{tables, jobs_few, lowering_row}
use Rattle.candidates.specs.Candidates.{CanLower, LoweredRow}
use Rattle.candidates.proofs.JobsOfTable.{job_by, job_below, over_below}

module _ (facts : Facts) (new : Rows) (y : ℕ) (h : CanLower facts new y) where
  abbrev t : Table
  t = table_by facts

  abbrev ns : List ℕ
  ns = norms_in facts

  abbrev e : method.Rows
  e = rows_of new

  abbrev jobs : List ℕ
  jobs = method.lowering ns t.rules y

  k : Tables facts
  k = tables facts

  pub job_small : y < 24
  job_small = omega (arith, h.is_job, jobs_few facts)

  is_job : y < t.jobs
  is_job = job_by facts y h.is_job

  jobs_over : over t jobs ≡ true
  jobs_over =
      let (a, r, _) = lowering_rule t ns k.good y is_job in
      k.good.closed y a jobs r

  jobs_decomposed : Each (Decomposed t ns e) jobs
  jobs_decomposed = lowering_earlier t ns k.good (Decomposed t ns e) y is_job (λ j l p. h.earlier j (job_below facts j l) p)

  -- the expansion
  inside : over t (method.expand e jobs) ≡ true
  inside = expanded_over t ns e jobs jobs_decomposed

  norm : sum_of ns (method.expand e jobs) + 1 ≡ get_or ns y 0
  norm = omega (arith, expanded_norm t ns e jobs jobs_decomposed, lowering_norm t ns k.good y is_job)

  short : length (method.expand e jobs) < 512
  short = omega (arith, length_norm t ns k.good (method.expand e jobs) inside, norm, k.small y h.is_job)

  -- the jobs as they are lent
  module _ (rs w : List ℕ) (i : ℕ) (rules : rs ≡ bytes_in facts) (rule : i ≡ get_or facts.low y 0) (is : w ≡ (rule_at rs i).after) where
    jobs_are : w ≡ jobs
    jobs_are =
        is ∙ ap (λ (l : List ℕ). (rule_at l i).after) rules ∙ ap (λ (k : ℕ). (rule_at (bytes_in facts) k).after) rule
        ∙ lowering_row facts y h.is_job

    pub lowered_readable : Readable new.lens.now new.bytes.now w
    lowered_readable =
        within_readable (jobs_in facts) new.lens.now new.bytes.now w h.within
        (subst (λ (l : List ℕ). all_below (jobs_in facts) l ≡ true) (sym jobs_are) (over_below facts jobs jobs_over))

    expansion_is : method.expand e w ≡ method.expand e jobs
    expansion_is = ap (method.expand e) jobs_are

    pub lowered_room : (out : List ℕ) → length out ≡ 512 → 1 + length (method.expand e w) ≤ length out
    lowered_room out size = omega (arith, ap length expansion_is, short)

    module _ (out out' : List ℕ) (r : ℕ) (size : length out ≡ 512) (p : IsPut 1 (method.expand e w) out r out') where
      written : slice 1 r out' ≡ method.expand e jobs
      written =
          let x : List ℕ = method.expand e w in
          let one : length (take 1 out) ≡ 1 = length-take-le 1 out (omega arith) in
          ap (slice 1 r) p.output ∙ ap (λ (n : ℕ). slice 1 n (put 1 x out)) p.next
          ∙ ap (drop 1) (put_up_to 1 x out (omega arith)) ∙ drop_at (take 1 out) x 1 one ∙ expansion_is

      pub lowered_row : LoweredRow facts e y out' r
      lowered_row = record {
        size = ap length p.output ∙ put_length 1 (method.expand e w) out (lowered_room out size) ∙ size;
        some = omega (arith, p.next);
        short = omega (arith, p.next, lowered_room out size);
        low = record {
          is = written;
          inside = subst (λ (l : List ℕ). over t l ≡ true) (sym written) inside;
          norm = omega (arith, ap (sum_of ns) written, norm);
        };
      }
