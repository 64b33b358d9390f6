-- Rules by their places in the list, and rules of the table: the rules of two jobs answer each other by the one exactly if they do by the
-- other. Assumes nothing.
use mathlib.Core.Path.{◌≡◌, refl, sym, ap, subst, ◌∙◌}
use mathlib.Core.Bool.{Bool, true, false, true≢false}
use mathlib.Core.List.{List, ◌∷◌, ◌++◌}
use Prim.Native.Nat.{ℕ, ◌≤◌, ◌<◌}
use native.Mathlib.Omega.{arith}
use lib.Dec.{ltb}
use lib.ListN.{get_or}
use borrow.Author.Tests.{ltb-true, ltb-false, lt-ltb, le-ltb}
use Rattle.bpa.specs.Plans.{Rule, Table, HasRule}
use Rattle.bpa.specs.Norms.{sum_of}
use Rattle.bpa.specs.Method.{Rows, expand}
use Rattle.bpa.proofs.Basics.Cases.{by_test}
use Rattle.bpa.proofs.Judge.Rows.{expand_append}
use Rattle.decompositions.specs.Decompositions.{Answers, Fits}
use Rattle.rules.specs.Places.{rule_at}
use Rattle.rules.proofs.ListLaws.{rule_of, place_of_rule}
use Rattle.facts.specs.Columns.{norms_in, jobs_in, bytes_in, table_by}
use Rattle.facts.specs.declared.Facts.{Facts}
use Rattle.equal_remainders.specs.EqualRemainders.{rows_for, rest_for}
use Rattle.answering.specs.Agreeing.{Agree, MineRule, RulesMatch}

-- THE ROWS by which a rule is answered, and what stands behind X by them
module _ (d e : Rows) (behind tail : List ℕ) (P : Rows → List ℕ → Type 0) where
  abbrev By : (falls : Bool) → Type 0
  By b = P (rows_for b d e) (rest_for b behind tail)

  from_new : (falls : Bool) → falls ≡ true → By falls → P e tail
  unfolding rows_for rest_for
  from_new true h k = k
  from_new false h k = absurd (true≢false (sym h))

  from_old : (falls : Bool) → falls ≡ false → By falls → P d behind
  unfolding rows_for rest_for
  from_old true h k = absurd (true≢false h)
  from_old false h k = k

  to_new : (falls : Bool) → falls ≡ true → P e tail → By falls
  unfolding rows_for rest_for
  to_new true h k = k
  to_new false h k = absurd (true≢false (sym h))

  to_old : (falls : Bool) → falls ≡ false → P d behind → By falls
  unfolding rows_for rest_for
  to_old true h k = absurd (true≢false h)
  to_old false h k = k

  -- what holds by the new rows if the norm falls, and else by the old ones
  pub by_rows : (sum norm : ℕ) → (sum < norm → P e tail) → (norm ≤ sum → P d behind) → By (ltb sum norm)
  by_rows sum norm f g =
      by_test (ltb sum norm) (λ h. to_new (ltb sum norm) h (f (ltb-true sum norm h))) (λ h. to_old (ltb sum norm) h (g (ltb-false sum norm h)))

-- A RULE AT A PLACE is one of the table's, and each of the table's stands at a place
module _ (facts : Facts) (j : ℕ) where
  rule_here : (i : ℕ) → MineRule (bytes_in facts) j i → HasRule (table_by facts) j (rule_at (bytes_in facts) i).move (rule_at (bytes_in facts) i).after
  rule_here i m =
      rw (← m.own) (rule_of (jobs_in facts) (bytes_in facts) i m.inside)

  at_place : (P : (move : ℕ) → (after : List ℕ) → Type 0) →
      ((i : ℕ) → MineRule (bytes_in facts) j i → P (rule_at (bytes_in facts) i).move (rule_at (bytes_in facts) i).after) →
      (a : ℕ) (w : List ℕ) → HasRule (table_by facts) j a w → P a w
  at_place P h a w m =
      let (i, l, e) = place_of_rule (jobs_in facts) (bytes_in facts) j a w m in
      subst (λ (r : Rule). P r.move r.after) e (h i (record { inside = l; own = ap (λ (r : Rule). r.job) e }))

-- a plan with the row of a tail behind it
with_rest : (f : Rows) (v tail rest : List ℕ) → rest ≡ expand f tail → expand f v ++ rest ≡ expand f (v ++ tail)
with_rest f v tail rest is = ap (λ (l : List ℕ). expand f v ++ l) is ∙ sym (expand_append f v tail)

-- the tail's jobs are prime in the new rows, and what stands behind X by the old rows is the tail's old row
module _ (facts : Facts) (d e : Rows) (y x norm gap : ℕ) (behind tail : List ℕ)
    (norm_is : norm ≡ get_or (norms_in facts) y 0) (gap_is : gap ≡ sum_of (norms_in facts) tail) (primes : expand e tail ≡ tail)
    (behind_is : d y ≡ expand d (x ∷ tail) → behind ≡ expand d tail) where
  abbrev t : Table
  t = table_by facts

  abbrev ns : List ℕ
  ns = norms_in facts

  abbrev Agrees : (r s : ℕ) → Type 0
  Agrees r s = Agree (rows_for (ltb (get_or facts.sums r 0) norm) d e) (bytes_in facts) facts.sums gap (rest_for (ltb (get_or facts.sums r 0) norm) behind tail) r s

  module _ (equal : d y ≡ expand d (x ∷ tail)) (r s : ℕ) (mine : MineRule (bytes_in facts) y r) (other : MineRule (bytes_in facts) x s) where
    abbrev w : List ℕ
    w = (rule_at (bytes_in facts) r).after

    abbrev v : List ℕ
    v = (rule_at (bytes_in facts) s).after

    abbrev EqualBy : (f : Rows) → (rest : List ℕ) → Type 0
    EqualBy f rest = expand f w ≡ expand f v ++ rest

    new_rest : expand e v ++ tail ≡ expand e (v ++ tail)
    new_rest = with_rest e v tail tail (sym primes)

    old_rest : expand d v ++ behind ≡ expand d (v ++ tail)
    old_rest = with_rest d v tail behind (behind_is equal)

    agree_answers : Agrees r s → Answers ns d e y tail w v
    agree_answers h =
        let left = (facts.row_norms.at r mine.inside).is in
        let right = (facts.row_norms.at s other.inside).is in
        let test = ltb (get_or facts.sums r 0) norm in
        record {
          norm = omega (arith, h.norm);
          by_new = λ l. from_new d e behind tail EqualBy test (lt-ltb (get_or facts.sums r 0) norm (omega arith)) h.equal ∙ new_rest;
          by_old = λ l. from_old d e behind tail EqualBy test (le-ltb (get_or facts.sums r 0) norm (omega arith)) h.equal ∙ old_rest;
        }

    answers_agree : (rule_at (bytes_in facts) r).move ≡ (rule_at (bytes_in facts) s).move → Answers ns d e y tail w v → Agrees r s
    answers_agree m h =
        let left = (facts.row_norms.at r mine.inside).is in
        let right = (facts.row_norms.at s other.inside).is in
        record {
          move = m;
          norm = omega (arith, h.norm);
          equal =
              by_rows d e behind tail EqualBy (get_or facts.sums r 0) norm (λ l. h.by_new (omega arith) ∙ sym new_rest)
              (λ l. h.by_old (omega arith) ∙ sym old_rest);
        }

  -- BOTH WAYS
  pub match_fits : RulesMatch d e (bytes_in facts) facts.sums norm gap behind tail (x ∷ tail) y x → Fits t ns d e y x tail
  match_fits h = record {
    equal = h.equal;
    forth =
        at_place facts y (λ a w. (v : List ℕ) × HasRule t x a v × Answers ns d e y tail w v)
        (λ r m.
        let (s, o, k) = h.forth r m in (
          (rule_at (bytes_in facts) s).after,
          subst (λ (a : ℕ). HasRule t x a (rule_at (bytes_in facts) s).after) (sym k.move) (rule_here facts x s o),
          agree_answers h.equal r s m o k,
        ));
    back =
        at_place facts x (λ a v. (w : List ℕ) × HasRule t y a w × Answers ns d e y tail w v)
        (λ s o.
        let (r, m, k) = h.back s o in (
          (rule_at (bytes_in facts) r).after,
          subst (λ (a : ℕ). HasRule t y a (rule_at (bytes_in facts) r).after) k.move (rule_here facts y r m),
          agree_answers h.equal r s m o k,
        ));
  }

  pub fits_match : Fits t ns d e y x tail → RulesMatch d e (bytes_in facts) facts.sums norm gap behind tail (x ∷ tail) y x
  fits_match h = record {
    equal = h.equal;
    forth = λ r m.
        let (v, o, k) = h.forth (rule_at (bytes_in facts) r).move (rule_at (bytes_in facts) r).after (rule_here facts y r m) in
        at_place facts x
        (λ a w. a ≡ (rule_at (bytes_in facts) r).move → Answers ns d e y tail (rule_at (bytes_in facts) r).after w → (s : ℕ) × MineRule (bytes_in facts) x s × Agrees r s)
        (λ s l q b. (s, l, answers_agree h.equal r s m l (sym q) b)) (rule_at (bytes_in facts) r).move v o refl k;
    back = λ s m.
        let (w, o, k) = h.back (rule_at (bytes_in facts) s).move (rule_at (bytes_in facts) s).after (rule_here facts x s m) in
        at_place facts y
        (λ a u. a ≡ (rule_at (bytes_in facts) s).move → Answers ns d e y tail u (rule_at (bytes_in facts) s).after → (r : ℕ) × MineRule (bytes_in facts) y r × Agrees r s)
        (λ r l q b. (r, l, answers_agree h.equal r s l m q b)) (rule_at (bytes_in facts) s).move w o refl k;
  }
