-- A plan followed job by job. Assumes nothing.
use mathlib.Core.Path.{◌≡◌, sym, ap, ◌∙◌, subst}
use mathlib.Core.Bool.{true}
use mathlib.Core.List.{List, [], ◌∷◌, ◌++◌}
use mathlib.Core.Logic.{◌⊎◌, inl, inr, ⊎_elim}
use Prim.Native.Nat.{ℕ, ◌+◌, ◌-◌, ◌*◌, ◌≤◌, ◌<◌}
use native.Mathlib.Omega.{arith}
use native.Mathlib.Numerals.{add-one}
use lib.Bits.{bit_or}
use lib.Dec.{ltb}
use lib.ListN.{length, get_or, take, drop, take-append-drop, length-take}
use lib.Seq.{take-suc, take_all, get_or-take, get_or-drop}
use borrow.Author.Tests.{ltb-true, ltb-false}
use Rattle.bpa.specs.Plans.{Table, over}
use Rattle.bpa.proofs.Basics.Cases.{by_test}
use Rattle.bpa.proofs.Basics.JobsBelow.{below_at}
use Rattle.replay.specs.Ends.{last, Ends}
use Rattle.replay.proofs.EndsLaws.{ends_split, gets_split, gets_front, length_last, none_ends, none_gets, ends_gets}
use Rattle.reach.specs.Cells.{reach_in}
use Rattle.reach.specs.declared.Reach.{Reach}
use Rattle.bits.specs.Bits.{bit}
use Rattle.reach.specs.Reaches.{Reaches, Alone}
use Rattle.reach.proofs.WordBits.{holds_none, holds_either}
use Rattle.reach.proofs.ReachLaws.{reaches_as}
use Rattle.following.specs.Followed.{cell_of, KnownCells, PlanReaches, JobMore, Follows}

-- a job behind the first
pub rest_inside : (plan : List ℕ) (k : ℕ) → k < length (take (length plan - 1) (drop 1 plan)) → k + 1 < length plan
rest_inside plan k h = omega (arith, length-take (length plan - 1) (drop 1 plan))

pub rest_at : (plan : List ℕ) (k : ℕ) → k < length (take (length plan - 1) (drop 1 plan)) →
    get_or (take (length plan - 1) (drop 1 plan)) k 0 ≡ get_or plan (k + 1) 0
rest_at plan k h =
    let next : 1 + k ≡ k + 1 = omega arith in
    get_or-take (length plan - 1) (drop 1 plan) k 0 (omega (arith, rest_inside plan k h)) ∙ get_or-drop 1 plan k 0
    ∙ ap (λ (n : ℕ). get_or plan n 0) next

-- THE WALK: what the front of the plan reaches
pub record Following (cells plan : List ℕ) (left : ℕ) (reach : Reach) (i : ℕ) : Type 0 where
  pub begun : 1 ≤ i
  pub inside : i ≤ length plan
  pub reached : (t : Table) (log : List ℕ) → KnownCells t log left cells → over t plan ≡ true →
      PlanReaches t log (take i plan) left reach

-- a job of the plan is one of the table
job_at : (t : Table) (plan : List ℕ) (i : ℕ) → over t plan ≡ true → i < length plan → get_or plan i 0 < t.jobs
unfolding over
job_at t plan i o h = below_at t.jobs plan i o h

-- two words without a bit hold no number
none : (E G : ℕ → Type 0) (a : Reach) → Reaches E G a → bit_or a.low a.high ≡ 0 → (e : ℕ) → E e → ⊥
none E G a r z e k =
    by_test (ltb e 64)
    (λ l. clear e (ltb-true e 64 l) (inl k))
    (λ l.
    let n : e ≡ 64 + (e - 64) = omega (arith, ltb-false e 64 l) in
    clear (e - 64) (omega (arith, r.small e k, ltb-false e 64 l)) (inr (subst E n k)))
  where
    clear : (n : ℕ) → n < 64 → E n ⊎ E (64 + n) → ⊥
    clear n h s =
        (holds_none n h).0
        (ap (λ (w : ℕ). bit w n) (sym z) ∙ (holds_either a.low a.high E (λ i. E (64 + i)) r.low_holds r.high_holds n h).1 s)

module _ (cells plan : List ℕ) (left : ℕ) where
  pub follow_begins : (reach : Reach) (x : ℕ) → x ≡ get_or plan 0 0 → 0 < length plan → reach ≡ reach_in (129 * x + left) cells →
      Following cells plan left reach 1
  unfolding cell_of
  follow_begins reach x e h i = record {
    begun = omega arith;
    inside = omega arith;
    reached = λ t log known o.
        let one : take 1 plan ≡ x ∷ [] = take-suc plan 0 0 h ∙ ap (λ (y : ℕ). y ∷ []) (sym e) in
        rw (one, i) (known.known x left (subst (λ (y : ℕ). y < t.jobs) (sym e) (job_at t plan 0 o h)) (omega arith));
  }

  module _ (reach : Reach) (i : ℕ) (f : Following cells plan left reach i) where
    -- one job more
    pub follow_more : (next : Reach) (x : ℕ) → x ≡ get_or plan i 0 → i < length plan → JobMore cells x reach next →
        Following cells plan left next (i + 1)
    follow_more next x e h m = record {
      begun = omega arith;
      inside = omega arith;
      reached = λ t log known o.
          let next : take (i + 1) plan ≡ take i plan ++ (x ∷ []) =
          ap (λ (n : ℕ). take n plan) (add-one i) ∙ take-suc plan i 0 h ∙ ap (λ (y : ℕ). take i plan ++ (y ∷ [])) (sym e) in
          rw next
          (m.more t log (take i plan) left known (omega (arith, length-take i plan, f.begun, f.inside))
          (subst (λ (y : ℕ). y < t.jobs) (sym e) (job_at t plan i o h)) (f.reached t log known o));
    }

    -- all of it
    pub follow_ends : length plan ≤ i → Follows cells plan left reach
    follow_ends h = record {
      reached = λ t log known o. subst (λ (p : List ℕ). PlanReaches t log p left reach) (take_all i plan h) (f.reached t log known o);
    }

    -- nowhere to go on
    pub follow_stops : bit_or reach.low reach.high ≡ 0 → Follows cells plan left reach
    follow_stops z = record {
      reached = λ t log known o.
          let l = last left log in
          let r = f.reached t log known o in
          let whole : take i plan ++ drop i plan ≡ plan = take-append-drop i plan in
          subst (λ (p : List ℕ). PlanReaches t log p left reach) whole
          (reaches_as
          (λ e. (
            (λ k. absurd (none _ _ reach r z e k)),
            (λ k. let (s, m, n) = ends_split t (take i plan) (drop i plan) l e k in absurd (none _ _ reach r z s m)),
          ))
          (λ e. (
            (λ k. gets_front t (take i plan) (drop i plan) l e k),
            (λ k.
                ⊎_elim (λ g. g) (λ w. let (s, m, n) = w in absurd (none _ _ reach r z s m)) (gets_split t (take i plan) (drop i plan) l e k)),
          ))
          r);
    }

-- A ROW WITHOUT A JOB is through at once
pub follow_none : (cells row : List ℕ) (left : ℕ) (reach : Reach) → length row ≡ 0 → Alone left reach → Follows cells row left reach
follow_none cells (j ∷ row) left reach z r = absurd (omega arith)
follow_none cells [] left reach z r = record {
  reached = λ t log known o.
      let l = last left log in
      let n : length l ≡ left = length_last left log known.inside in
      reaches_as
      (λ e. ((λ k. subst (Ends t [] l) (n ∙ sym k) (none_ends t l)), (λ k. none_gets t l e (ends_gets t [] l e k) ∙ n)))
      (λ e. ((λ k. ends_gets t [] l e (subst (Ends t [] l) (n ∙ sym k) (none_ends t l))), (λ k. none_gets t l e k ∙ n)))
      r;
}
