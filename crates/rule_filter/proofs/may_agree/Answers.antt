-- `may_agree`: behind rule r no job waits.
use Rattle.std.proofs.Common.{[], rules}
use Rattle.remainders.proofs.RemainderNorms.{nothing_waits}
use Rattle.rule_filter.proofs.may_agree.Goals as goal

pub remainder_norm-requires : goal.remainder_norm-requires
remainder_norm-requires c =
    let l = c.requires.looks_up in
    (l.0, (c.args.rules.now, ([], (nothing_waits l.1.1, search rules))))
