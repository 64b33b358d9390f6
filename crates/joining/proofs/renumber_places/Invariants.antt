-- The places passed are renumbered, and the others are as they were. Assumes nothing.
use Rattle.std.proofs.Common.{◌≡◌, true}
use Rattle.rules.proofs.ChangedPlaces.{passed}
use Rattle.joining.specs.JoinedBytes.{renumbered_place}
use Rattle.joining.proofs.RenumberedPlaces.{place_size}
use Rattle.joining.proofs.renumber_places.Given as goal

abbrev pub invariant-loop-i : goal.invariant-loop-i
invariant-loop-i l =
    l.places ≡ passed (renumbered_place l.jobs) (λ y. true) (λ y e h. place_size l.jobs y) l.i l.fn.places
