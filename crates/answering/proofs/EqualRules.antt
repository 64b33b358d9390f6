-- Rules that are equal agree with the same rules, and are answered by the same. Assumes nothing.
use Rattle.std.proofs.Common.{◌≡◌, Bool, true, false, List, ◌++◌, ℕ, ◌+◌, get_or, refl, sym, ap, ◌∙◌, subst}
use lib.Dec.{ltb}
use Rattle.bpa.specs.Plans.{Rule}
use Rattle.bpa.specs.Method.{Rows, expand}
use Rattle.rules.specs.Places.{rule_at}
use Rattle.facts.specs.Columns.{bytes_in}
use Rattle.prepare.proofs.PassedRules.{Alike}
use Rattle.remainders.proofs.RemainderNorms.{alike}
use Rattle.rows.specs.Rows.{rows_of}
use Rattle.std.proofs.Math.Seq.{slice}
use lib.ListN.{drop}
use Rattle.equal_remainders.specs.EqualRemainders.{rows_for, rest_for}
use Rattle.answering.specs.declared.question.Question.{Question}
use Rattle.answering.specs.Agreeing.{Agree, AgreeFrom, lead}
use Rattle.answering.specs.Questions.{Agrees, Answered}
use Rattle.answering.proofs.TurnedPair.{pair_looks}

-- two places of one rule, whose rows have one norm
record Same (rs sums : List ℕ) (i k : ℕ) : Type 0 where
  pub rule : rule_at rs i ≡ rule_at rs k
  pub sum : get_or sums i 0 ≡ get_or sums k 0

same_self : (rs sums : List ℕ) (i : ℕ) → Same rs sums i i
same_self rs sums i = record { rule = refl; sum = refl }

same_back : {rs sums : List ℕ} {i k : ℕ} → Same rs sums i k → Same rs sums k i
same_back s = record { rule = sym s.rule; sum = sym s.sum }

same_led : (f : Bool) {rs sums : List ℕ} {i k r s : ℕ} → Same rs sums i k → Same rs sums r s → Same rs sums (lead f i r) (lead f k s)
same_led true a b = a
same_led false a b = b

module _ (e : Rows) (rs sums : List ℕ) (gap : ℕ) (rest : List ℕ) where
  agree_same : (i k r s : ℕ) → Same rs sums i k → Same rs sums r s → Agree e rs sums gap rest i r → Agree e rs sums gap rest k s
  agree_same i k r s a b h = record {
    move = sym (ap (λ (u : Rule). u.move) a.rule) ∙ h.move ∙ ap (λ (u : Rule). u.move) b.rule;
    norm = sym a.sum ∙ h.norm ∙ ap (λ (n : ℕ). n + gap) b.sum;
    equal = sym (ap (λ (u : Rule). expand e u.after) a.rule) ∙ h.equal ∙ ap (λ (u : Rule). expand e u.after ++ rest) b.rule;
  }

  from_same : (f : Bool) (i k r s : ℕ) → Same rs sums i k → Same rs sums r s → AgreeFrom f e rs sums gap rest i r → AgreeFrom f e rs sums gap rest k s
  from_same f i k r s a b = agree_same (lead f i r) (lead f k s) (lead f r i) (lead f s k) (same_led f a b) (same_led f b a)

module _ (q : Question) where
  -- a rule of the other job that does not agree with the one that asks
  abbrev pub Apart : (r s : ℕ) → Type 0
  Apart r s = Agrees q r s → ⊥

  pub apart_alike : (r : ℕ) → Alike (bytes_in q.facts.now) (Apart r)
  apart_alike r i k l b same off a =
      off (from_same _ (bytes_in q.facts.now) q.facts.now.sums q.pair.gap _ q.pair.forward r r k i (same_self _ _ r)
      (record { rule = sym same; sum = sym (alike (pair_looks q.pairing) i k l b same) }) a)

  pub answered_alike : Alike (bytes_in q.facts.now) (Answered q)
  answered_alike i k l b same a =
      let sum = alike (pair_looks q.pairing) i k l b same in
      record {
        by = a.by;
        rule = a.rule;
        agrees =
            subst
            (λ (n : ℕ). AgreeFrom q.pair.forward (rows_for (ltb n q.pair.norm) (rows_of q.old) (rows_of q.new)) (bytes_in q.facts.now)
            q.facts.now.sums q.pair.gap
            (rest_for (ltb n q.pair.norm) (slice q.pair.from q.pair.to q.old.bytes.now) (drop 1 q.parts.now)) k a.by)
            sum
            (from_same _ (bytes_in q.facts.now) q.facts.now.sums q.pair.gap _ q.pair.forward i k a.by a.by (record { rule = same; sum = sum })
            (same_self _ _ a.by) a.agrees);
      }
