-- Whether a rule is written twice is decided by looking at the rules before it, so that what says so of a rule loses nothing where it is kept as a
-- bare fact. Assumes nothing.
use Rattle.std.proofs.Common.{◌≡◌, Bool, false, ◌&&◌, ◌||◌, List, ℕ, zero, suc, eqb, refl, ap}
use Rattle.std.proofs.Math.Logic.{∥∥₁_elim, ∥∥₁_map}
use Rattle.std.proofs.Props.{props}
use Rattle.std.specs.Bool.{Decides}
use Rattle.std.specs.Str.{bytes_eq}
use Rattle.std.proofs.lemmas.Bool.Decides.{Decides-below_or, Decides-eqb}
use Rattle.std.proofs.lemmas.Slice.Eq.{bytes_eq-Decides}
use Rattle.bpa.specs.Plans.{Rule}
use Rattle.bpa.proofs.Basics.Cases.{by_test, and_left, and_right, never_both}
use Rattle.rules.specs.Places.{rule_at}
use Rattle.repeated.specs.Repeated.{Repeated}
use Rattle.prepare.specs.Prepared.{NextOf, Chained}

abbrev same_rule : Rule → Rule → Bool
same_rule a b = eqb a.job b.job && (eqb a.move b.move && bytes_eq a.after b.after)

same_rule-Decides : (a b : Rule) → Decides (same_rule a b) (a ≡ b)
same_rule-Decides a b =
    let job = Decides-eqb a.job b.job in
    let move = Decides-eqb a.move b.move in
    let after = bytes_eq-Decides a.after b.after in (
      λ yes.
          let rest = and_right (eqb a.job b.job) (eqb a.move b.move && bytes_eq a.after b.after) yes in
          let one = job.0 (and_left (eqb a.job b.job) (eqb a.move b.move && bytes_eq a.after b.after) yes) in
          let two = move.0 (and_left (eqb a.move b.move) (bytes_eq a.after b.after) rest) in
          let three = after.0 (and_right (eqb a.move b.move) (bytes_eq a.after b.after) rest) in
          rw (one, two, three),
      λ e. rw (job.1 (ap (λ (r : Rule). r.job) e), move.1 (ap (λ (r : Rule). r.move) e), after.1 (ap (λ (r : Rule). r.after) e)),
    )

-- whether a rule before place n is rule i
abbrev stands : (rules : List ℕ) → (i n : ℕ) → Bool
stands rs i zero = false
stands rs i (suc n) = same_rule (rule_at rs n) (rule_at rs i) || stands rs i n

module _ (rs : List ℕ) where
  repeated : (i : ℕ) → ∥ Repeated rs i ∥₁ → Repeated rs i
  repeated i r =
      let d = Decides-below_or (λ n. same_rule (rule_at rs n) (rule_at rs i)) (λ n. rule_at rs n ≡ rule_at rs i) (stands rs i)
      (λ n. same_rule-Decides (rule_at rs n) (rule_at rs i)) refl (λ n. refl) i in
      by_test (stands rs i i) (λ yes. let (e, h, same) = d.0 yes in record { earlier = e; before = h; same = same }) (λ no. absurd (∥∥₁_elim r (λ x. absurd x) (λ x. never_both (stands rs i i) (d.1 (x.earlier, x.before, x.same)) no)))

  next_of : (j from to : ℕ) → ∥ NextOf rs j from to ∥₁ → NextOf rs j from to
  next_of j from to n = record {
    rises = ∥∥₁_elim n (Prim.hlevel props) (λ x. x.rises);
    within = ∥∥₁_elim n (Prim.hlevel props) (λ x. x.within);
    own = λ h. ∥∥₁_elim n (Prim.hlevel props) (λ x. x.own h);
    between = λ i h k own. repeated i (∥∥₁_map n (λ x. x.between i h k own));
  }

  pub chained : (first next : List ℕ) → ∥ Chained rs first next ∥₁ → Chained rs first next
  chained first next c = record {
    starts = λ j h. next_of j 0 _ (∥∥₁_map c (λ x. x.starts j h));
    goes_on = λ i h. next_of (rule_at rs i).job (suc i) _ (∥∥₁_map c (λ x. x.goes_on i h));
  }
