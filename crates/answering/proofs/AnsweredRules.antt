-- A rule that answers is itself answered: the marks of such rules, and what is told of all rules of a job. Assumes nothing.
use Rattle.std.proofs.Common.{◌≡◌, Bool, true, false, List, ℕ, ◌<◌, get_or, sym, ap, ◌∙◌, subst, arith}
use mathlib.Core.Bool.{true≢false}
use lib.Dec.{eqb}
use lib.ListN.{set, replicate, get_or-replicate}
use lib.Seq.{get_or-set_other}
use borrow.Author.Tests.{eqb-true, eqb-false}
use Rattle.bpa.proofs.Basics.Cases.{by_test}
use Rattle.rules.specs.Places.{rule_at, rule_count}
use Rattle.facts.specs.declared.Facts.{Facts}
use Rattle.facts.specs.Columns.{bytes_in}
use Rattle.facts.proofs.TableFacts.{tables}
use Rattle.prepare.specs.Prepared.{OnChain}
use Rattle.prepare.proofs.Chains.{chain_next, chain_rises}
use Rattle.prepare.proofs.PassedRules.{Passed, inside, passed_next}
use Rattle.answering.specs.declared.question.Question.{Question}
use Rattle.answering.proofs.EqualRules.{answered_alike}
use Rattle.answering.specs.Questions.{Asks, Answers, Agrees, Answered, Known}

module _ (q : Question) where
  -- the rules before a position of the chain are answered, and so are those that are marked; the hint is on the other chain
  pub record Answering (total : ℕ) (known : List Bool) (hint r : ℕ) : Type 0 where
    pub passed : Passed (bytes_in q.facts.now) q.pair.mine total (Answered q) r
    pub marks : Known q known
    pub on : OnChain (bytes_in q.facts.now) q.pair.other hint

  pub known_none : Known q (replicate 252 false)
  known_none = record {
    own = λ i m l. absurd (true≢false (sym l ∙ get_or-replicate {A = Bool} 252 i false false (small i m.inside)));
    theirs = λ i m l. absurd (true≢false (sym l ∙ get_or-replicate {A = Bool} 252 i false false (small i m.inside)));
  }
    where
      small : (i : ℕ) → i < rule_count (bytes_in q.facts.now) → i < 252
      small i h = omega (arith, (tables q.facts.now).list.few)

  -- the rule that answers is marked
  pub known_more : (known : List Bool) (r s : ℕ) → Asks q r → Answers q s → Agrees q r s → Known q known → Known q (set known s true)
  known_more known r s asks answers a h = record {
    own = λ i m l. by_test (eqb i s)
        (λ b. absurd (q.pairing.distinct (sym m.own ∙ ap (λ (u : ℕ). (rule_at (bytes_in q.facts.now) u).job) (eqb-true i s b) ∙ answers.own)))
        (λ b. h.own i m (kept i b l));
    theirs = λ i m l. by_test (eqb i s) (λ b. (r, asks, subst (Agrees q r) (sym (eqb-true i s b)) a)) (λ b. h.theirs i m (kept i b l));
  }
    where
      kept : (i : ℕ) → eqb i s ≡ false → get_or (set known s true) i false ≡ true → get_or known i false ≡ true
      kept i b l = sym (get_or-set_other known s i true false (eqb-false i s b)) ∙ l

  -- A TURN: the rule at r is answered, and the walk goes on behind it
  module _ (total r : ℕ) (known : List Bool) (hint : ℕ) (w : Answering total known hint r) (h : r < total) where
    abbrev f : Facts
    f = q.facts.now

    pub asks_here : Asks q r
    asks_here =
        let here = inside (bytes_in f) f.first f.next (tables f).chained q.pair.mine total (Answered q) r w.passed h in
        record { inside = here; own = w.passed.on.own here }

    pub next_rises : r < get_or f.next r 0
    next_rises = chain_rises (bytes_in f) f.first f.next (tables f).chained q.pair.mine r asks_here.inside w.passed.on

    goes_on : Answered q r → (n : ℕ) → n ≡ get_or f.next r 0 → Passed (bytes_in f) q.pair.mine total (Answered q) n
    goes_on = passed_next (bytes_in f) f.first f.next (tables f).chained q.pair.mine total (Answered q) r w.passed h (answered_alike q)

    pub answering_past : get_or known r false ≡ true → (known' : List Bool) (hint' n : ℕ) → known' ≡ known → hint' ≡ hint →
        n ≡ get_or f.next r 0 → Answering total known' hint' n
    answering_past marked known' hint' n a b e = rw (a, b) (record { passed = goes_on (w.marks.own r asks_here marked) n e; marks = w.marks; on = w.on })

    pub answering_more : (s : ℕ) → Answers q s → Agrees q r s → (known' : List Bool) (hint' n : ℕ) → known' ≡ set known s true →
        hint' ≡ get_or f.next s 0 → n ≡ get_or f.next r 0 → Answering total known' hint' n
    answering_more s answers agrees known' hint' n a b e =
        rw (a, b)
        (record {
          passed = goes_on (record { by = s; rule = answers; agrees = agrees }) n e;
          marks = known_more known r s asks_here answers agrees w.marks;
          on = chain_next (bytes_in f) f.first f.next (tables f).chained q.pair.other s answers.inside
              (record { within = omega (arith, answers.inside); own = λ l. answers.own });
        })
