-- The n-th move shown by a pass over the rules of a job: those that repeat an earlier one are passed over. Assumes nothing.
use mathlib.Core.Path.{◌≡◌, sym, ap, ◌∙◌, subst}
use mathlib.Core.Bool.{Bool, true, false, cond, false≢true}
use mathlib.Core.List.{List, [], ◌∷◌, ◌++◌}
use mathlib.Core.Logic.{⊎_elim}
use Prim.Native.Nat.{ℕ, zero, suc, ◌-◌, ◌≤◌, ◌<◌}
use native.Mathlib.Omega.{arith}
use lib.Dec.{eqb, ltb}
use borrow.Author.Tests.{eqb-true, eq-eqb, ne_eqb, lt-ltb, le-ltb, ltb-true, ltb-false}
use Rattle.bpa.specs.Plans.{Rule, Move, job_moves}
use Rattle.bpa.proofs.Basics.Cases.{by_test, or_left, or_right, or_cases}
use Rattle.rules.specs.Places.{rules_in, rule_at, rule_count, table_of}
use Rattle.rules.proofs.ListLaws.{rules_from, rules_from_start, rules_from_cons, rules_from_end}
use Rattle.moves.specs.Shown.{same_move, without, once, move_by}
use Rattle.moves.specs.Moves.{move_bytes, bytes_by, IsNth}
use Rattle.moves.proofs.ShownMoves.{one_move, same_self}
use Rattle.moves.proofs.PassedMoves.{apart_from, was_passed, front, one_more, passed_last, nothing_apart}

module _ (rs : List ℕ) (j : ℕ) where
  -- the move by the rule at a place
  abbrev pub made : (waiting : List ℕ) → (i : ℕ) → Move
  made w i = move_by (rule_at rs i) w

  -- the moves by the job's rules before i, and those from i on, each once
  unfoldable pub passed : (waiting : List ℕ) → (i : ℕ) → List Move
  passed w zero = []
  passed w (suc i) = cond (eqb (rule_at rs i).job j) (passed w i ++ (made w i ∷ [])) (passed w i)

  abbrev ahead_of : (waiting : List ℕ) → (i : ℕ) → List Move
  ahead_of w i = once (job_moves j w (rules_from rs i))

  module _ (w : List ℕ) (i : ℕ) where
    -- what a rule adds to those passed and takes from those ahead, by whether it is of the job
    passed_by : (b : Bool) → eqb (rule_at rs i).job j ≡ b → passed w (suc i) ≡ cond b (passed w i ++ (made w i ∷ [])) (passed w i)
    unfolding passed
    passed_by b e = ap (λ (x : Bool). cond x (passed w i ++ (made w i ∷ [])) (passed w i)) e

    ahead_by : i < rule_count rs → (b : Bool) → eqb (rule_at rs i).job j ≡ b →
        ahead_of w i ≡ once (cond b (made w i ∷ job_moves j w (rules_from rs (suc i))) (job_moves j w (rules_from rs (suc i))))
    unfolding job_moves
    ahead_by h b e =
        ap (λ (l : List Rule). once (job_moves j w l)) (rules_from_cons rs i h)
        ∙ ap (λ (x : Bool). once (cond x (made w i ∷ job_moves j w (rules_from rs (suc i))) (job_moves j w (rules_from rs (suc i))))) e

  -- a move was passed exactly if an earlier rule of the job makes it
  pub was_made : (w : List ℕ) (m : Move) (i e : ℕ) → e < i → (rule_at rs e).job ≡ j → made w e ≡ m →
      was_passed (passed w i) m ≡ true
  was_made w m zero e h is same = absurd (omega arith)
  was_made w m (suc i) e h is same =
      by_test (ltb e i)
      (λ t.
      let met = was_made w m i e (ltb-true e i t) is same in
      by_test (eqb (rule_at rs i).job j)
      (λ o. ap (λ (l : List Move). was_passed l m) (passed_by w i true o)
      ∙ passed_last (passed w i) (made w i) m ∙ or_left (was_passed (passed w i) m) (same_move (made w i) m) met)
      (λ o. ap (λ (l : List Move). was_passed l m) (passed_by w i false o) ∙ met))
      (λ f.
      let here : e ≡ i = let l = ltb-false e i f in omega arith in
      ap (λ (l : List Move). was_passed l m) (passed_by w i true (eq-eqb (rule_at rs i).job j (ap (λ (x : ℕ). (rule_at rs x).job) (sym here) ∙ is)))
      ∙ passed_last (passed w i) (made w i) m
      ∙ or_right (was_passed (passed w i) m) (same_move (made w i) m)
      (same_self (made w i) m (ap (made w) (sym here) ∙ same)))

  pub made_by : (w : List ℕ) (m : Move) (i : ℕ) → was_passed (passed w i) m ≡ true →
      (e : ℕ) × (e < i) × ((rule_at rs e).job ≡ j) × (made w e ≡ m)
  unfolding passed was_passed
  made_by w m zero t = absurd (false≢true t)
  made_by w m (suc i) t =
      by_test (eqb (rule_at rs i).job j)
      (λ o.
      ⊎_elim (λ (s : was_passed (passed w i) m ≡ true). earlier (made_by w m i s))
      (λ (s : same_move (made w i) m ≡ true). (i, omega arith, eqb-true (rule_at rs i).job j o, one_move (made w i) m s))
      (or_cases (was_passed (passed w i) m) (same_move (made w i) m)
      (sym (passed_last (passed w i) (made w i) m) ∙ ap (λ (l : List Move). was_passed l m) (sym (passed_by w i true o)) ∙ t)))
      (λ o. earlier (made_by w m i (ap (λ (l : List Move). was_passed l m) (sym (passed_by w i false o)) ∙ t)))
    where
      earlier : ((e : ℕ) × (e < i) × ((rule_at rs e).job ≡ j) × (made w e ≡ m)) →
          (e : ℕ) × (e < suc i) × ((rule_at rs e).job ≡ j) × (made w e ≡ m)
      earlier (e, l, is, same) = (e, omega (arith, l), is, same)

  module _ (n : ℕ) where
    -- the move is still to be found among those ahead, so many of them further
    pub Ahead : (left i : ℕ) → Type 0
    Ahead left i = (w : List ℕ) →
        move_bytes (apart_from (passed w i) (ahead_of w i)) left ≡ move_bytes (once (job_moves j w (rules_in (rule_count rs) rs))) n

    pub ahead_start : Ahead n 0
    unfolding Ahead passed apart_from table_of
    ahead_start w = ap (λ (l : List Rule). move_bytes (once (job_moves j w l)) n) (rules_from_start 0 rs)

    module _ (left i : ℕ) (h : i < rule_count rs) (a : Ahead left i) where
      pub ahead_past : ((rule_at rs i).job ≡ j → ⊥) → Ahead left (suc i)
      unfolding Ahead
      ahead_past d w =
          let e = ne_eqb (rule_at rs i).job j d in
          ap (λ (l : List Move). move_bytes (apart_from l (ahead_of w (suc i))) left) (passed_by w i false e)
          ∙ ap (λ (l : List Move). move_bytes (apart_from (passed w i) l) left) (sym (ahead_by w i h false e)) ∙ a w

      module _ (is : (rule_at rs i).job ≡ j) where
        -- those left once the rule is passed
        abbrev later : (waiting : List ℕ) → List Move
        later w = apart_from (passed w (suc i)) (ahead_of w (suc i))

        -- they are what was left before, but for a first one that is new
        by_first : (w : List ℕ) → apart_from (passed w i) (ahead_of w i) ≡ cond (was_passed (passed w i) (made w i)) (later w) (made w i ∷ later w)
        unfolding once
        by_first w =
            let e = eq-eqb (rule_at rs i).job j is in
            let rest : apart_from (passed w i) (without (made w i) (ahead_of w (suc i))) ≡ later w =
            sym (one_more (passed w i) (made w i) (ahead_of w (suc i))) ∙ ap (λ (l : List Move). apart_from l (ahead_of w (suc i))) (sym (passed_by w i true e)) in
            ap (apart_from (passed w i)) (ahead_by w i h true e) ∙ front (made w i) (without (made w i) (ahead_of w (suc i))) (passed w i)
            ∙ ap (λ (l : List Move). cond (was_passed (passed w i) (made w i)) l (made w i ∷ l)) rest

        still_ahead : (w : List ℕ) (b : Bool) → was_passed (passed w i) (made w i) ≡ b →
            move_bytes (cond b (later w) (made w i ∷ later w)) left ≡ move_bytes (once (job_moves j w (rules_in (rule_count rs) rs))) n
        unfolding Ahead
        still_ahead w b e =
            ap (λ (l : List Move). move_bytes l left) (ap (λ (x : Bool). cond x (later w) (made w i ∷ later w)) (sym e) ∙ sym (by_first w)) ∙ a w

        pub ahead_again : ((w : List ℕ) → was_passed (passed w i) (made w i) ≡ true) → Ahead left (suc i)
        unfolding Ahead
        ahead_again met w = still_ahead w true (met w)

        module _ (new : (w : List ℕ) → was_passed (passed w i) (made w i) ≡ false) where
          pub ahead_later : 0 < left → Ahead (left - 1) (suc i)
          unfolding Ahead move_bytes
          ahead_later l w =
              let s : left ≡ suc (left - 1) = omega arith in
              subst (λ (x : ℕ). move_bytes (made w i ∷ later w) x
              ≡ move_bytes (once (job_moves j w (rules_in (rule_count rs) rs))) n) s (still_ahead w false (new w))

          pub found_here : left ≡ 0 → IsNth rs j n i
          unfolding move_bytes bytes_by
          found_here z = record {
            place = omega arith;
            move = λ w.
                sym (subst (λ (x : ℕ). move_bytes (made w i ∷ later w) x
                ≡ move_bytes (once (job_moves j w (rules_in (rule_count rs) rs))) n) z (still_ahead w false (new w)))
                ∙ ap (λ (b : Bool). cond b (bytes_by rs i w) []) (sym (lt-ltb i (rule_count rs) h));
          }

    -- past the last rule nothing is ahead
    pub found_none : (left i k : ℕ) → k ≡ rule_count rs → rule_count rs ≤ i → Ahead left i → IsNth rs j n k
    unfolding Ahead job_moves once move_bytes
    found_none left i k e h a = record {
      place = omega arith;
      move = λ w.
          sym (a w)
          ∙ ap (λ (l : List Rule). move_bytes (apart_from (passed w i) (once (job_moves j w l))) left) (rules_from_end rs i h)
          ∙ ap (λ (l : List Move). move_bytes l left) (nothing_apart (passed w i))
          ∙ ap (λ (b : Bool). cond b (bytes_by rs k w) []) (sym (le-ltb k (rule_count rs) (omega arith)));
    }
