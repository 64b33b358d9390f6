-- `joining::check_sizes` meets its contract. Assumes nothing.
use Rattle.std.proofs.Common.{◌≡◌, ℕ, ◌+◌, ◌∙◌, arith}
use Rattle.std.proofs.lemmas.Bool.Decides.{nat_tests}
use Rattle.answer.specs.Refusals.{refusal_of, number}
use Rattle.joining.specs.JoinedBytes.{sizes_refusal}
use Rattle.joining.proofs.JoinedSources.{sizes_of}
use Rattle.joining.proofs.check_sizes.Goals as goal

pub returns-then-first-second-gt-JOBS-clause-refusal : goal.returns-then-first-second-gt-JOBS-clause-refusal
unfolding refusal_of number sizes_refusal
returns-then-first-second-gt-JOBS-clause-refusal c =
    let h = c.args.first.now in
    let k = c.args.second.now in
    let e : ◌≡◌ {A = ℕ} 15 (sizes_refusal (h.jobs + k.jobs) (h.end + k.end)) = grind (arith, nat_tests) in
    e ∙ sizes_of h k (omega arith) (omega arith)

pub returns-clause-refusal : goal.returns-clause-refusal
unfolding refusal_of number sizes_refusal
returns-clause-refusal c =
    let h = c.args.first.now in
    let k = c.args.second.now in
    let e : ◌≡◌ {A = ℕ} 0 (sizes_refusal (h.jobs + k.jobs) (h.end + k.end)) = grind (arith, nat_tests) in
    e ∙ sizes_of h k (omega arith) (omega arith)
