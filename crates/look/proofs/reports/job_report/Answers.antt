-- What is shown of a job is its norm and its prime form. Assumes nothing.
use Rattle.std.proofs.Common.{ap, ap₂, ◌∙◌, [], ◌∷◌, take, replicate, ℕ, arith, rules}
use native.Mathlib.Nat.{sub-zero}
use lib.ListN.{length-replicate}
use Rattle.bpa.specs.Method.{prime_form}
use Rattle.image.specs.Image.{table_in}
use Rattle.answer.specs.Answer.{answered, Writes}
use Rattle.table.specs.CallRefusals.{one_plan}
use Rattle.look_lines.specs.Numbers.{result_in}
use Rattle.look_lines.specs.Lines.{job_line}
use Rattle.look_lines.proofs.Puts.{put_as}
use Rattle.look_lines.proofs.Verdicts.{result_or_none}
use Rattle.look.proofs.JobAnswers.{written, result_within, norm_shown, form_shown}
use Rattle.look.proofs.reports.job_report.Goals as goal

pub slice_bounds-job_line-end : goal.slice_bounds-job_line-end
slice_bounds-job_line-end c =
    let form = written _ (search rules) _ c.write_form-answer.ensures in
    omega (
      arith,
      c.from-size.ensures,
      c.unwrap_or.ensures,
      result_or_none c.write_form-answer.result,
      result_within _ _ _ _ _ form,
      length-replicate {A = ℕ} 512 0,
      c.write_form-answer.auto.out,
    )

pub returns : goal.returns
returns c =
    let f = c.write_form-answer in
    let form : Writes (one_plan c.args.image.now (c.args.job ∷ [])) (prime_form (table_in c.args.image.now) (c.args.job ∷ [])) (replicate 512 0) (answered f.result) f.new.out =
    written _ (search rules) _ f.ensures in
    let size = c.from-size.ensures ∙ c.unwrap_or.ensures ∙ result_or_none f.result in
    let norm_is = c.from.ensures ∙ c.unwrap_or-norm.ensures ∙ result_or_none c.plan_norm.result ∙ ap result_in c.plan_norm.ensures in
    record {
      within = c.job_line.ensures.within;
      put = λ a h.
          put_as
          (ap₂ (job_line c.args.job) (norm_is ∙ norm_shown c.args.image.now c.args.job a h)
          (ap (λ (k : ℕ). take k f.new.out) (sub-zero c.from-size.result ∙ size)
          ∙ form_shown c.args.image.now c.args.job a h (replicate 512 0) _ _ (length-replicate {A = ℕ} 512 0) form))
          c.job_line.ensures.put;
    }
