-- `repeated::repeats` meets its contract. Assumes nothing.
use Rattle.std.proofs.Common.{◌∙◌, ap, length, arith}
use Rattle.rules.proofs.PlaceLaws.{place_length}
use Rattle.repeated.proofs.MarkedRules.{no_mark}
use Rattle.repeated.proofs.repeats.Goals as goal

pub loop-at-init : goal.loop-at-init
loop-at-init c = no_mark c.args.rules.now c.requires

pub bucket-b-requires : goal.bucket-b-requires
bucket-b-requires c = ap length c.place.ensures ∙ place_length c.args.rules.now c.loop-at.at (omega (arith, c.rule_total-at-end.ensures))
