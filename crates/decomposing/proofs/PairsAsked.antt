-- A job and an earlier one with its tail behind it: what the question whether they fit asks, and what its answer says. Assumes nothing.
use mathlib.Core.Path.{◌≡◌, sym, subst, ◌∙◌}
use mathlib.Core.Bool.{true}
use mathlib.Core.List.{List, ◌∷◌}
use Prim.Native.Nat.{ℕ, ◌≤◌}
use native.Mathlib.Omega.{arith}
use lib.ListN.{length, drop}
use lib.Seq.{slice}
use Rattle.bpa.specs.Plans.{Table, all_below}
use Rattle.bpa.specs.Norms.{sum_of}
use Rattle.bpa.specs.Method as method
use Rattle.bpa.specs.Method.{expand}
use Rattle.bpa.proofs.Basics.JobsBelow.{below_more}
use Rattle.bpa.proofs.Basics.Order.{precedes_distinct}
use Rattle.bpa.proofs.Basics.Plans.{over_cons}
use Rattle.decompositions.specs.Decompositions.{Decomposes}
use Rattle.decompositions.proofs.NewRows.{alone_expand, tail_primes}
use Rattle.rows.specs.Rows.{rows_of}
use Rattle.rows.specs.declared.Rows.{Rows}
use Rattle.facts.specs.Columns.{norms_in, jobs_in, bytes_in, table_by}
use Rattle.facts.specs.declared.Facts.{Facts}
use Rattle.facts.proofs.TableFacts.{tables}
use Rattle.fingerprints.specs.declared.Prints.{Prints}
use Rattle.rule_filter.specs.declared.Pair.{Pair}
use Rattle.answering.specs.Agreeing.{Pairing, OldPair, PairMatches, RulesMatch}
use Rattle.candidates.specs.Candidates.{Likely, CanPair, PairOf}
use Rattle.candidates.proofs.JobsOfTable.{job_by, job_below, over_below}
use Rattle.candidates.proofs.RowEnds.{no_longer, behind_is}
use Rattle.decomposing.proofs.RulePlaces.{match_fits, fits_match}
use Rattle.decomposing.proofs.EqualPrints.{rules_same_print, jobs_same_print}
use Rattle.decomposing.proofs.FoundTails.{FoundTail}
use Rattle.decomposing.proofs.Turns.{Turn, few, y_job, x_job, y_small, x_small, x_before, x_least, y_earlier}

module _ {facts : Facts} {prints : Prints} {old new : Rows} {place y : ℕ} {out : List ℕ} {end k at norm x : ℕ}
    (u : Turn facts prints old new place y out end k at norm x) {tail : List ℕ}
    (found : FoundTail facts (rows_of new) y x tail) {parts : List ℕ} (parts_are : parts ≡ x ∷ tail) where
  abbrev t : Table
  t = table_by facts

  abbrev ns : List ℕ
  ns = norms_in facts

  abbrev d : method.Rows
  d = rows_of old

  abbrev e : method.Rows
  e = rows_of new

  below : all_below (jobs_in facts) tail ≡ true
  below = over_below facts tail found.inside

  -- the tail's jobs are prime in the new rows
  primes : expand e tail ≡ tail
  primes =
      alone_expand e tail
      (tail_primes t ns (tables facts).good e y (job_by facts y (y_job u)) x tail found.ends
      (λ j b l. (y_earlier u j (job_below facts j b) l).1.primes))

  -- THE PAIR
  pub can_pair : CanPair facts parts y x
  can_pair =
      subst (λ (l : List ℕ). CanPair facts l y x) (sym parts_are)
      (record {
        y_job = y_small u;
        x_job = x_small u;
        norms = x_least u;
        some = omega arith;
        below = below_more (jobs_in facts) 24 tail (few u) below;
      })

  module _ {pair : Pair} (given : PairOf facts prints old parts y x pair) where
    p : PairOf facts prints old (x ∷ tail) y x pair
    p = subst (λ (l : List ℕ). PairOf facts prints old l y x pair) parts_are given

    gap_is : pair.gap ≡ sum_of ns tail
    gap_is = omega (arith, p.gap_is, p.norm_is, found.ends.norm)

    -- the tail's old row stands behind x
    behind : d y ≡ expand d (x ∷ tail) → slice pair.from pair.to old.bytes.now ≡ expand d tail
    behind h =
        let w = u.asked.old_within in
        behind_is (jobs_in facts) old.lens.now old.bytes.now w y x (y_job u) (x_job u) tail h pair.from pair.to
        (p.from_is (no_longer (jobs_in facts) old.lens.now old.bytes.now w y x (y_job u) (x_job u) tail h)) p.to_is

    pairing : Pairing facts prints old new (x ∷ tail) pair
    pairing = record {
      tail_inside = found.inside;
      gap_is = gap_is;
      gap_small = omega (arith, p.gap_is, p.norm_is, (tables facts).small y (y_job u));
      old_within = u.asked.old_within;
      new_within = u.asked.new_within;
      rule_prints = u.asked.rule_printed;
      some = omega arith;
      starts = p.ordered;
      inside = omega (arith, p.to_is, y_small u, u.asked.old_within.short y (y_job u));
      mine_job = omega (arith, p.mine_is, y_small u);
      other_job = omega (arith, p.other_is, x_small u);
      distinct = λ same. precedes_distinct ns x y (x_before u) (sym p.other_is ∙ sym same ∙ p.mine_is);
      tells = rw (p.direction, p.mine_is, p.other_is)
          (λ equal r s m o.
          rules_same_print facts prints old new place u.asked y (y_earlier u) tail found.inside pair.tail p.tail_is.value_is p.tail_is.power_is r s
          m.inside o.inside pair.norm pair.gap (slice pair.from pair.to old.bytes.now) p.norm_is (behind equal.is));
    }

    pub can_ask : Pairing facts prints old new parts pair
    can_ask = subst (λ (l : List ℕ). Pairing facts prints old new l pair) (sym parts_are) pairing

    old_pair : OldPair prints old (x ∷ tail) pair
    old_pair = record {
      jobs = jobs_in facts;
      within = u.asked.old_within;
      y_job = omega (arith, p.mine_is, y_job u);
      x_job = omega (arith, p.other_is, x_job u);
      parts_below = over_below facts (x ∷ tail) (over_cons t x tail (job_by facts x (x_job u)) found.inside);
      tells = rw (p.mine_is, p.other_is)
          (λ equal.
          jobs_same_print facts prints old new place u.asked y (y_earlier u) tail found.inside pair.tail p.tail_is.value_is p.tail_is.power_is x
          (y_job u) (x_job u) equal.is);
    }

    pub can_compare : OldPair prints old parts pair
    can_compare = subst (λ (l : List ℕ). OldPair prints old l pair) (sym parts_are) old_pair

    pub gap_low : pair.gap ≤ pair.norm
    gap_low = omega (arith, p.gap_is)

    -- THE ANSWER
    abbrev Matching : (parts : List ℕ) → (mine other : ℕ) → Type 0
    Matching l m o =
        RulesMatch d e (bytes_in facts) facts.sums pair.norm pair.gap (slice pair.from pair.to old.bytes.now) (drop 1 l) l m o

    pub answer_yes : Likely facts old e y x → PairMatches facts old new parts pair → Decomposes t ns d e y x tail
    answer_yes likely h =
        let matched : Matching (x ∷ tail) y x =
        subst (λ (l : List ℕ). Matching l y x) parts_are
        (subst (λ (m : ℕ). Matching parts m x) p.mine_is (subst (λ (o : ℕ). Matching parts pair.mine o) p.other_is h)) in
        record {
          is_job = job_by facts x (x_job u);
          earlier = x_before u;
          prime = likely.prime;
          ends = found.ends;
          fits =
              match_fits facts d e y x pair.norm pair.gap (slice pair.from pair.to old.bytes.now) tail p.norm_is gap_is primes behind matched;
        }

    pub answer_no : (PairMatches facts old new parts pair → ⊥) → (rest : List ℕ) → Decomposes t ns d e y x rest → ⊥
    answer_no never rest c =
        let same : Decomposes t ns d e y x tail = subst (λ (l : List ℕ). Decomposes t ns d e y x l) (found.only rest c.ends) c in
        never
        (subst (λ (l : List ℕ). Matching l pair.mine pair.other) (sym parts_are)
        (subst (λ (m : ℕ). Matching (x ∷ tail) m pair.other) (sym p.mine_is)
        (subst (λ (o : ℕ). Matching (x ∷ tail) y o) (sym p.other_is)
        (fits_match facts d e y x pair.norm pair.gap (slice pair.from pair.to old.bytes.now) tail p.norm_is gap_is primes behind same.fits))))
