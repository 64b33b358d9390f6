-- The answer of a replay by what the plan reaches in the log. Assumes nothing.
use mathlib.Core.Path.{◌≡◌, sym, ◌∙◌, subst}
use mathlib.Core.List.{List, [], ◌∷◌}
use Prim.Native.Nat.{ℕ, ◌+◌, ◌-◌, ◌%◌, ◌≤◌, ◌<◌}
use native.Mathlib.Omega.{arith}
use lib.Dec.{eqb, ltb}
use lib.ListN.{length}
use borrow.Author.Tests.{eqb-true, eqb-false, ltb-true, ltb-false}
use Rattle.bpa.specs.Plans.{Table}
use Rattle.bpa.proofs.Basics.Cases.{by_test}
use Rattle.replay.specs.Replay.{Says}
use Rattle.replay.specs.Ends.{Ends, Gets}
use Rattle.replay.proofs.EndsLaws.{last_all, gets_few, gets_all, none_ends, none_gets}
use Rattle.replay.proofs.EndsSay.{whole_said, part_said, place_said}
use Rattle.replay.proofs.ReplayMeaning.{said}
use Rattle.reach.specs.Reaches.{Reaches}
use Rattle.reach.specs.declared.Reach.{Reach}
use Rattle.following.specs.Followed.{PlanReaches}
use Rattle.bits.proofs.TrailingBits.{bit_first}
use Rattle.replaying.specs.Outcomes.{IsOutcome, IsReplay}

module _ (t : Table) (p log : List ℕ) where
  -- from the front of the log on
  from_front : (reach : Reach) → PlanReaches t log p (length log) reach → Reaches (Ends t p log) (Gets t p log) reach
  from_front reach r = subst (λ (l : List ℕ). Reaches (Ends t p l) (Gets t p l) reach) (last_all log) r

  -- no move is left over, or all are
  pub least_inside : (reach : Reach) → PlanReaches t log p (length log) reach → reach.least ≤ length log
  least_inside reach r = gets_few t p log reach.least (from_front reach r).got

  module _ (reach : Reach) (reached : PlanReaches t log p (length log) reach) where
    abbrev low : ℕ
    low = reach.low

    abbrev least : ℕ
    least = reach.least

    r : Reaches (Ends t p log) (Gets t p log) reach
    r = from_front reach reached

    through : low % 2 ≡ 1 → Ends t p log 0
    through e = (r.low_holds 0 (omega arith)).0 (bit_first low ∙ e)

    not_through : (low % 2 ≡ 1 → ⊥) → Ends t p log 0 → ⊥
    not_through n e = n (sym (bit_first low) ∙ (r.low_holds 0 (omega arith)).1 e)

    says : (n : ℕ) → IsOutcome (length log) reach n → Says t p log n
    says n o =
        by_test (eqb (low % 2) 1)
        (λ e. let x = eqb-true (low % 2) 1 e in subst (Says t p log) (sym (o.whole x)) (whole_said t p log (through x)))
        (λ e.
        let x = eqb-false (low % 2) 1 e in
        by_test (ltb 0 least)
        (λ f.
        let y = ltb-true 0 least f in
        subst (Says t p log) (sym (o.place x y)) (place_said t p log least y r.got r.fewest))
        (λ f.
        let y : least ≡ 0 = omega (arith, ltb-false 0 least f) in
        subst (Says t p log) (sym (o.part x y)) (part_said t p log (not_through x) (subst (Gets t p log) y r.got))))

    pub outcome_replays : (n : ℕ) → IsOutcome (length log) reach n → IsReplay t p log n
    outcome_replays n o = record {
      is = said t p log n (says n o);
      small = o.small;
    }

-- THE EMPTY PLAN: whole for the empty log, and no move for any other
module _ (t : Table) where
  pub empty_whole : (p log : List ℕ) → length p ≡ 0 → length log ≡ 0 → IsReplay t p log 1
  empty_whole (j ∷ p) log z e = absurd (omega arith)
  empty_whole [] log z e = record {
    is = said t [] log 1 (whole_said t [] log (subst (Ends t [] log) e (none_ends t log)));
    small = omega arith;
  }

  pub empty_stops : (p log : List ℕ) → length p ≡ 0 → 0 < length log → IsReplay t p log 2
  empty_stops (j ∷ p) log z h = absurd (omega arith)
  empty_stops [] log z h =
      let two : 2 + (length log - length log) ≡ 2 = omega arith in
      record {
        is = said t [] log 2 (subst (Says t [] log) two
            (place_said t [] log (length log) h (gets_all t [] log) (λ e g. let k = none_gets t log e g in omega (arith, k))));
        small = omega arith;
      }
