-- `outcomes::is_deterministic` meets its contract. Assumes nothing.
use Rattle.std.proofs.Common.{◌≡◌, ap, ap₂, ◌∙◌, Ok, rules}
use Rattle.rules.specs.Places.{table_of}
use Rattle.answer.specs.Answer.{one_if}
use Rattle.answer.proofs.Answered.{gives_err, gives_ok}
use Rattle.alike_list.specs.AlikeTables.{alike_table}
use Rattle.deterministic.specs.Deterministic.{no_choice}
use Rattle.replacing.proofs.ListedTables.{byte_is, source_refused, list_refused, listed_passed, listed_is}
use Rattle.outcomes.proofs.is_deterministic.Goals as goal

pub returns-in_err-held : goal.returns-in_err-held
returns-in_err-held c =
    let r = c.in_err-held.field-0.0 in
    let y = c.from_residual.result in
    gives_err y (source_refused c.read.ensures c.args.alike.now y r c.in_err-held.was (search rules)) r _ (search rules)

pub returns-in_err-replace : goal.returns-in_err-replace
returns-in_err-replace c =
    let r = c.in_err-replace.field-0.0 in
    let y = c.from_residual-in_err-replace.result in
    gives_err y (list_refused c.read.ensures c.args.alike.now c.in_ok-held.held c.in_ok-held.was c.replace.result c.replace.ensures.refusal y r c.in_err-replace.was (search rules)) r _ (search rules)

pub returns : goal.returns
returns c =
    let ls = c.args.alike.now in
    let h = c.in_ok-held.held in
    let n = c.list.result in
    let is : table_of n.jobs n.bytes.now ≡ alike_table c.args.image.now ls =
    ap₂ table_of (c.list.ensures.0 ∙ c.normed-table.ensures.jobs) (c.list.ensures.1 ∙ c.normed-table.ensures.rules)
    ∙ listed_is c.read.ensures ls h c.in_ok-held.was c.replace.result c.replace.ensures.refusal c.replace.new.table c.in_ok-replace.ensures.replaced in
    gives_ok _ (one_if (no_choice (alike_table c.args.image.now ls)))
    (listed_passed c.read.ensures ls h c.in_ok-held.was c.replace.result c.replace.ensures.refusal _ c.in_ok-replace.was)
    (ap Ok (c.from.ensures ∙ byte_is c.is_free_of_choice-none.result ∙ ap one_if (c.is_free_of_choice-none.ensures ∙ ap no_choice is)))
