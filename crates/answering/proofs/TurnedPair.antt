-- A pair of jobs turned round: X asks and Y answers. Rules that agree ask for the same rows from either side. Assumes nothing.
use Rattle.std.proofs.Common.{◌≡◌, Bool, true, false, List, ℕ, ◌+◌, ◌-◌, ◌<◌, get_or, drop, refl, sym, ap, ◌∙◌, subst, arith}
use lib.Dec.{ltb}
use borrow.Author.Tests.{ltb-true, lt-ltb}
use Rattle.bpa.proofs.Basics.Cases.{same_test}
use Rattle.std.proofs.Math.Seq.{slice}
use Rattle.rows.specs.declared.Rows.{Rows}
use Rattle.rows.specs.Rows.{rows_of}
use Rattle.equal_remainders.specs.EqualRemainders.{rows_for, rest_for}
use Rattle.facts.specs.declared.Facts.{Facts}
use Rattle.facts.specs.Columns.{jobs_in, bytes_in, norms_in}
use Rattle.facts.proofs.TableFacts.{tables}
use Rattle.fingerprints.specs.declared.Prints.{Prints}
use Rattle.remainders.specs.Remainders.{LooksUp}
use Rattle.rule_filter.specs.declared.Pair.{Pair}
use Rattle.rule_filter.specs.RuleFilter.{turned}
use Rattle.answering.specs.Agreeing.{Agree, lead, AgreeBy, Pairing}

-- the norms of what the rules leave are looked up, the tail waiting behind those of X
pub pair_looks : {facts : Facts} {prints : Prints} {old new : Rows} {parts : List ℕ} {pair : Pair} → Pairing facts prints old new parts pair →
    LooksUp (jobs_in facts) (bytes_in facts) facts.sums (drop 1 parts) pair.gap
pair_looks {facts = facts} p = record {
  norms = norms_in facts;
  list = (tables facts).list;
  good = (tables facts).good;
  row_norms = (tables facts).row_norms;
  inside = p.tail_inside;
  behind_is = p.gap_is;
  small = p.gap_small;
}

falls_both : (s norm gap : ℕ) → ltb s (norm - gap) ≡ ltb (s + gap) norm
falls_both s norm gap =
    same_test (ltb s (norm - gap)) (ltb (s + gap) norm)
    (λ h. lt-ltb (s + gap) norm (omega (arith, ltb-true s (norm - gap) h)))
    (λ h. lt-ltb s (norm - gap) (omega (arith, ltb-true (s + gap) norm h)))

-- a pair that is forward
abbrev forth : Pair → Pair
forth p = record {
  forward = true;
  mine = p.mine;
  other = p.other;
  norm = p.norm;
  gap = p.gap;
  tail = p.tail;
  from = p.from;
  to = p.to;
}

is_forth : (p : Pair) → p.forward ≡ true → p ≡ forth p
is_forth p f =
    ap (λ (b : Bool). record {
      forward = b;
      mine = p.mine;
      other = p.other;
      norm = p.norm;
      gap = p.gap;
      tail = p.tail;
      from = p.from;
      to = p.to;
    }) f

pub led_below : (forward : Bool) (r s n : ℕ) → r < n → s < n → lead forward r s < n
led_below true r s n h k = h
led_below false r s n h k = k

module _ (facts : Facts) (old new : Rows) (parts : List ℕ) (pair : Pair) (r s : ℕ) where
  -- whether the norm falls, from either side
  same_falls : get_or facts.sums r 0 ≡ get_or facts.sums s 0 + pair.gap →
      ltb (get_or facts.sums s 0) (pair.norm - pair.gap) ≡ ltb (get_or facts.sums r 0) pair.norm
  same_falls h = falls_both (get_or facts.sums s 0) pair.norm pair.gap ∙ ap (λ (n : ℕ). ltb n pair.norm) (sym h)

  abbrev By : Bool → Type 0
  By falls =
      Agree (rows_for falls (rows_of old) (rows_of new)) (bytes_in facts) facts.sums pair.gap
      (rest_for falls (slice pair.from pair.to old.bytes.now) (drop 1 parts)) r s

  agree_forth : By (ltb (get_or facts.sums s 0) (pair.norm - pair.gap)) → By (ltb (get_or facts.sums r 0) pair.norm)
  agree_forth a = subst By (same_falls a.norm) a

  agree_back : By (ltb (get_or facts.sums r 0) pair.norm) → By (ltb (get_or facts.sums s 0) (pair.norm - pair.gap))
  agree_back a = subst By (sym (same_falls a.norm)) a

module _ (facts : Facts) (old new : Rows) (parts : List ℕ) (pair : Pair) (forward : pair.forward ≡ true) where
  abbrev Both : Pair → Type 0
  Both p = (r s : ℕ) → (AgreeBy facts old new parts (turned p) s r → AgreeBy facts old new parts p r s)
      × (AgreeBy facts old new parts p r s → AgreeBy facts old new parts (turned p) s r)

  -- RULES THAT AGREE do so from either side
  both_sides : Both pair
  both_sides =
      subst Both (sym (is_forth pair forward))
      (λ r s. (agree_forth facts old new parts (forth pair) r s, agree_back facts old new parts (forth pair) r s))

  pub turned_agree : (r s : ℕ) → AgreeBy facts old new parts (turned pair) s r → AgreeBy facts old new parts pair r s
  turned_agree r s = (both_sides r s).0

  pub agree_turned : (r s : ℕ) → AgreeBy facts old new parts pair r s → AgreeBy facts old new parts (turned pair) s r
  agree_turned r s = (both_sides r s).1

  module _ (prints : Prints) where
    turned_forth : Pairing facts prints old new parts (forth pair) → Pairing facts prints old new parts (turned (forth pair))
    turned_forth p = record {
      tail_inside = p.tail_inside;
      gap_is = p.gap_is;
      gap_small = p.gap_small;
      old_within = p.old_within;
      new_within = p.new_within;
      rule_prints = p.rule_prints;
      some = p.some;
      starts = p.starts;
      inside = p.inside;
      mine_job = p.other_job;
      other_job = p.mine_job;
      distinct = λ h. p.distinct (sym h);
      tells = λ q s r ms mr a. p.tells q r s mr ms (agree_forth facts old new parts (forth pair) r s a);
    }

    -- THE PAIR TURNED ROUND
    pub pairing_turned : Pairing facts prints old new parts pair → Pairing facts prints old new parts (turned pair)
    pairing_turned p =
        subst (λ (u : Pair). Pairing facts prints old new parts (turned u)) (sym (is_forth pair forward))
        (turned_forth (subst (Pairing facts prints old new parts) (is_forth pair forward) p))

  pub lead_turned : lead (turned pair).forward (turned pair).mine (turned pair).other ≡ lead pair.forward pair.mine pair.other
  lead_turned = subst (λ (u : Pair). lead (turned u).forward (turned u).mine (turned u).other ≡ lead u.forward u.mine u.other)
      (sym (is_forth pair forward)) refl
