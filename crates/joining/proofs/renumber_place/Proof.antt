-- `joining::renumber_place` meets its contract. Assumes nothing.
use Prim.Native.Nat.{ℕ, ◌+◌, ◌<◌}
use native.Mathlib.Omega.{arith}
use borrow.Author.Rules.{rules}
use lib.ListN.{get_or, length-set}
use Rattle.rules.proofs.ChangedPlaces.{place_of_eight}
use Rattle.joining.proofs.RenumberedPlaces.{job_fits, byte_fits, five_bytes}
use Rattle.joining.proofs.renumber_place.Statement.{statement}
use Rattle.joining.proofs.renumber_place.Tie as tie

-- what the contract asks says that each byte can be numbered on
module _ (c : tie.Start) where
  abbrev fits : (k : ℕ) → k < 4 → c.args.jobs + get_or c.args.place.now (3 + k) 0 < 256
  fits k l = byte_fits c.requires.bound c.args.place.now c.requires.good c.args.jobs c.requires.few k l c.requires.size

pub renumber_place_spec : {M : Type 1} → statement M
renumber_place_spec =
    tie.close
    (tie.spec
    (λ c. search rules)
    (λ c. search rules)
    (λ c. let s = c.before.before.before in record { fits = job_fits s.requires.bound s.args.place.now s.requires.good s.args.jobs s.requires.few })
    (λ c. search rules)
    (λ c κs. fits c.before.before.before.before 0 (omega arith))
    (λ c. search rules)
    (λ c κs. fits c.before.before.before.before.before.before 1 (omega arith))
    (λ c. search rules)
    (λ c κs. fits c.before.before.before.before.before.before.before.before 2 (omega arith))
    (λ c. search rules)
    (λ c κs. fits c.before.before.before.before.before.before.before.before.before.before 3 (omega arith))
    (λ c. search rules)
    (λ c. search rules)
    (λ c. search rules)
    (λ c. search rules)
    (λ c. let s = c.before.before.before.before.before.before.before.before.before.before.before in simp length-set (omega (arith, s.requires.size)))
    (λ c. search rules)
    (λ c.
    let s = c.before.before.before.before.before.before.before.before.before.before.before in
    five_bytes s.args.jobs s.args.place.now (place_of_eight s.args.place.now s.requires.size)
    c.before.before.before.before.before.before.numbered_on-first.ensures c.before.before.before.before.numbered_on-second.ensures
    c.before.before.numbered_on-third.ensures c.numbered_on-fourth.ensures))  -- returns
