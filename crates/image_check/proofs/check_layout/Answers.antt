-- What check_layout answers. Assumes nothing.
use Rattle.std.proofs.Common.{rules, arith}
use Rattle.std.proofs.lemmas.Grind.{common_steps}
use Rattle.answer.specs.Refusals.{refusal_of, number}
use Rattle.image_check.proofs.Chunks.{Cut, few_rules, bad_sum, bad_head, bad_place, no_refusal}
use Rattle.image_check.proofs.check_layout.Goals as goal

pub returns-then-not-sums_good : goal.returns-then-not-sums_good
unfolding refusal_of number
returns-then-not-sums_good c =
    let cut : Cut c.args.image.now c.as_chunks.result.0.now = grind (arith, common_steps) in
    bad_sum cut (search rules)

pub returns-then-not-heads_good : goal.returns-then-not-heads_good
unfolding refusal_of number
returns-then-not-heads_good c =
    let cut : Cut c.args.image.now c.as_chunks.result.0.now = grind (arith, common_steps) in
    bad_head cut (search rules) (search rules)

pub places_good-requires : goal.places_good-requires
places_good-requires c =
    let cut : Cut c.args.image.now c.as_chunks.result.0.now = grind (arith, common_steps) in
    few_rules cut (search rules)

pub returns-then-not-places_good : goal.returns-then-not-places_good
unfolding refusal_of number
returns-then-not-places_good c =
    let cut : Cut c.args.image.now c.as_chunks.result.0.now = grind (arith, common_steps) in
    bad_place cut (search rules) (search rules) (search rules)

pub returns : goal.returns
unfolding refusal_of number
returns c =
    let cut : Cut c.args.image.now c.as_chunks.result.0.now = grind (arith, common_steps) in
    no_refusal cut (search rules) (search rules) (search rules)
