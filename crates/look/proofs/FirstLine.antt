-- The first line, of a table that is held or of its refusal. Assumes nothing.
use Rattle.std.proofs.Common.{◌≡◌, refl, sym, ap, ap₂, ◌∙◌, List, ℕ, zero, suc, length, take, Result, Ok, Err, arith}
use Rattle.bpa.specs.Plans.{Table}
use Rattle.rules.specs.Places.{table_of, rule_count}
use Rattle.rules.proofs.ListLaws.{length_rules_in}
use Rattle.image.specs.Image.{image_refusal, table_in}
use Rattle.answer.specs.declared.Refusal.{Refusal}
use Rattle.answer.specs.Refusals.{number, refusal_of}
use Rattle.answer.proofs.ResultChains.{number_positive, ok_passes}
use Rattle.table.specs.declared.held.HeldTable.{HeldTable}
use Rattle.table.specs.Sources.{Source}
use Rattle.look_lines.specs.Lines.{IsLine, refused_line, table_line}
use Rattle.look_lines.proofs.Puts.{line_as}
use Rattle.look.specs.Reports.{first_line, jobs_shown, TableReport}

refused : (n : ℕ) (t : Table) → (n ≡ 0 → ⊥) → (refused_line n ≡ first_line n t) × (0 ≡ jobs_shown n t)
unfolding first_line jobs_shown
refused zero t h = absurd (h refl)
refused (suc n) t h = (refl, refl)

accepted : (n : ℕ) (t : Table) → n ≡ 0 → (table_line t.jobs (length t.rules) ≡ first_line n t) × (t.jobs ≡ jobs_shown n t)
unfolding first_line jobs_shown
accepted zero t h = (refl, refl)
accepted (suc n) t h = absurd (omega arith)

counted : (jobs : ℕ) (rs : List ℕ) → (jobs ≡ (table_of jobs rs).jobs) × (rule_count rs ≡ length (table_of jobs rs).rules)
unfolding table_of
counted jobs rs = (refl, sym (length_rules_in (rule_count rs) rs))

module _ (bs : List ℕ) {x : Result HeldTable Refusal} (s : Source (image_refusal bs) (table_in bs) x) {o o' : List ℕ} {r : ℕ} where
  pub refused_first : (e : Refusal) → x ≡ Err e → IsLine (refused_line (number e)) o r o' → TableReport bs o 0 r o'
  unfolding refusal_of
  refused_first e is k =
      let f : number e ≡ image_refusal bs = ap refusal_of (sym is) ∙ s.refusal_is in
      let (a, b) = refused (image_refusal bs) (table_in bs) (λ z. number_positive e (f ∙ z)) in
      record { jobs_are = b; is_line = line_as (ap refused_line f ∙ a) k }

  pub table_first : (h : HeldTable) (jobs rules : ℕ) → x ≡ Ok h → jobs ≡ h.jobs → rules ≡ rule_count (take h.end h.rules) →
      IsLine (table_line jobs rules) o r o' → TableReport bs o jobs r o'
  table_first h jobs rules is jobs_are rules_are k =
      let (m, n) = counted h.jobs (take h.end h.rules) in
      let same = s.holds h is in
      let j = jobs_are ∙ m ∙ ap (λ (t : Table). t.jobs) same in
      let l = rules_are ∙ n ∙ ap (λ (t : Table). length t.rules) same in
      let (a, b) = accepted (image_refusal bs) (table_in bs) (ok_passes x h is s.refusal_is) in
      record { jobs_are = j ∙ b; is_line = line_as (ap₂ table_line j l ∙ a) k }
