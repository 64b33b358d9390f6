-- A job that is reached is below 24, so the search finds it.
use Rattle.std.proofs.Common.{◌≡◌, ℕ, refl, rules, tests, get_or}
use Rattle.std.proofs.lemmas.Iterator.{cases_from_any, YieldsList-from_range}
use Rattle.bits.specs.Bits.{bit}
use Rattle.bits.proofs.TrailingBits.{set_within}
use Rattle.closure.specs.Linked.{Linked}
use Rattle.growing.proofs.AnyJob.{any_below}
use Rattle.growing.proofs.grows.Goals as goal

pub returns : goal.returns
unfolding bit
returns c =
    let sets = c.args.sets.now in
    let Reached : ℕ → Type 0 = λ job. bit c.args.reached job ≡ 1 in
    let Back : ℕ → Type 0 = λ job. Linked sets.rows (get_or sets.fronts job 0) job in
    any_below c.any.result Reached Back (λ j e. set_within c.args.reached j 24 e c.requires.small)
    (cases_from_any _ _ _ (λ job. Reached job × Back job) (λ job. Reached job × Back job → ⊥) c.any.ensures.ran
    (YieldsList-from_range 0 24 24 refl refl) (λ x q k. search (rules, tests)) (λ x q k. search (rules, tests)))
