-- The rules of two jobs answer each other: what the two passes tell of it, the second by the question turned round. Assumes nothing.
use Rattle.std.proofs.Common.{◌≡◌, Bool, true, List, ℕ, ◌↔◌, IsTrue, refl, sym, ap, subst}
use Rattle.bpa.specs.Method.{Rows, expand}
use Rattle.rows.specs.Rows.{rows_of}
use Rattle.facts.specs.Columns.{bytes_in}
use Rattle.rule_filter.specs.RuleFilter.{turned}
use Rattle.answering.specs.declared.question.Question.{Question}
use Rattle.answering.specs.Agreeing.{Agree, AgreeFrom, AgreeBy, MineRule, PairMatches, lead, rows_by, rest_by}
use Rattle.answering.specs.Questions.{Asks, Answers, Agrees, Answered, AllAnswered, IsTurned}
use Rattle.answering.proofs.TurnedPair.{turned_agree, agree_turned}

mine_same : {rs rs' : List ℕ} {j j' i : ℕ} → rs ≡ rs' → j ≡ j' → MineRule rs j i → MineRule rs' j' i
mine_same {rs} {rs'} {j} {j'} {i} e f m = subst (λ (l : List ℕ). MineRule l j' i) e (subst (λ (k : ℕ). MineRule rs k i) f m)

-- forward, the rule that asks is Y's
plain : (f : Bool) → f ≡ true → (e : Rows) (rs sums : List ℕ) (gap : ℕ) (rest : List ℕ) (r s : ℕ) → AgreeFrom f e rs sums gap rest r s →
    Agree e rs sums gap rest r s
plain f h e rs sums gap rest r s a = subst (λ (b : Bool). Agree e rs sums gap rest (lead b r s) (lead b s r)) h a

led : (f : Bool) → f ≡ true → (e : Rows) (rs sums : List ℕ) (gap : ℕ) (rest : List ℕ) (r s : ℕ) → Agree e rs sums gap rest r s →
    AgreeFrom f e rs sums gap rest r s
led f h e rs sums gap rest r s a = subst (λ (b : Bool). Agree e rs sums gap rest (lead b r s) (lead b s r)) (sym h) a

module _ (q : Question) (forward : q.pair.forward ≡ true) where
  abbrev Match : Type 0
  Match = PairMatches q.facts.now q.old q.new q.parts.now q.pair

  agrees_plain : (r s : ℕ) → Agrees q r s →
      Agree (rows_by q.facts.now q.old q.new q.pair r) (bytes_in q.facts.now) q.facts.now.sums q.pair.gap (rest_by q.facts.now q.old q.parts.now q.pair r) r s
  agrees_plain r s = plain q.pair.forward forward _ (bytes_in q.facts.now) q.facts.now.sums q.pair.gap _ r s

  plain_agrees : (r s : ℕ) →
      Agree (rows_by q.facts.now q.old q.new q.pair r) (bytes_in q.facts.now) q.facts.now.sums q.pair.gap (rest_by q.facts.now q.old q.parts.now q.pair r) r s →
      Agrees q r s
  plain_agrees r s = led q.pair.forward forward _ (bytes_in q.facts.now) q.facts.now.sums q.pair.gap _ r s

  equal : rows_of q.old q.pair.mine ≡ expand (rows_of q.old) q.parts.now
  equal = subst (λ (b : Bool). rows_of q.old (lead b q.pair.mine q.pair.other) ≡ expand (rows_of q.old) q.parts.now) forward q.equal_old.is

  left_answered : Match → (r : ℕ) → Asks q r → Answered q r
  left_answered match r m = let s = match.forth r m in record { by = s.0; rule = s.1; agrees = plain_agrees r s.0 s.2 }

  -- the question turned round
  module _ (b : Question) (t : IsTurned q b) where
    same_agree : (s r : ℕ) → Agrees b s r ≡ AgreeBy q.facts.now q.old q.new q.parts.now (turned q.pair) s r
    same_agree s r = rw (t.facts, t.old, t.new, t.parts, t.pair) refl

    agrees_back : (r s : ℕ) → Agrees b s r → Agrees q r s
    agrees_back r s a = turned_agree q.facts.now q.old q.new q.parts.now q.pair forward r s (subst (λ (T : Type 0). T) (same_agree s r) a)

    back_agrees : (r s : ℕ) → Agrees q r s → Agrees b s r
    back_agrees r s a = subst (λ (T : Type 0). T) (sym (same_agree s r)) (agree_turned q.facts.now q.old q.new q.parts.now q.pair forward r s a)

    answers_asks : (s : ℕ) → Answers q s → Asks b s
    answers_asks s = mine_same (ap bytes_in (sym t.facts)) (sym (ap (λ p. p.mine) t.pair))

    asks_answers : (r : ℕ) → Asks q r → Answers b r
    asks_answers r = mine_same (ap bytes_in (sym t.facts)) (sym (ap (λ p. p.other) t.pair))

    back_asks : (s : ℕ) → Asks b s → Answers q s
    back_asks s = mine_same (ap bytes_in t.facts) (ap (λ p. p.mine) t.pair)

    back_answers : (r : ℕ) → Answers b r → Asks q r
    back_answers r = mine_same (ap bytes_in t.facts) (ap (λ p. p.other) t.pair)

    right_answered : Match → (s : ℕ) → Asks b s → Answered b s
    right_answered match s m =
        let r = match.back s (back_asks s m) in
        record { by = r.0; rule = asks_answers r.0 r.1; agrees = back_agrees r.0 s (plain_agrees r.0 s r.2) }

    -- THE RULES ANSWER EACH OTHER
    pub forth_and_back : (known known' : List Bool) (out out' : Bool) → AllAnswered q known out → out ≡ true → AllAnswered b known' out' →
        IsTrue out' ↔ Match
    forth_and_back known known' out out' left o right = (
      λ h. record {
        equal = equal;
        forth = λ r m. let a = left.yes o r m in (a.by, a.rule, agrees_plain r a.by a.agrees);
        back = λ s m.
            let a = right.yes h s (answers_asks s m) in
            (a.by, back_answers a.by a.rule, agrees_plain a.by s (agrees_back a.by s a.agrees));
      },
      λ match. right.no (right_answered match),
    )
