-- `joined`: the remainder is the join, and below the modulus.
use Rattle.std.proofs.Common.{arith}
use Rattle.fingerprints.specs.Fingerprints.{modulus, join}
use Rattle.fingerprints.proofs.joined.Goals as goal

pub returns : goal.returns
unfolding join modulus
returns c = record { is = cc; small = omega arith }
