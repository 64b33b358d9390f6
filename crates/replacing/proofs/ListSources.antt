-- A TABLE THAT IS HELD, UNDER A LIST: its bytes are those of the table with their moves replaced, and its norms are the table's. Assumes nothing.
use mathlib.Core.Path.{◌≡◌, sym, ap, subst, ◌∙◌}
use mathlib.Core.List.{List, [], ◌++◌, map}
use Prim.Native.Nat.{ℕ, ◌*◌, ◌/◌, ◌≤◌}
use native.Mathlib.Omega.{arith}
use lib.ListN.{length, get_or, take, drop, length-append, length-drop, drop_of_length-le}
use lib.Seq.{length-take-le, take_at}
use Rattle.bpa.specs.Plans.{Rule, Table}
use Rattle.rules.specs.Places.{places_good, rules_in, rule_count, table_of}
use Rattle.rules.specs.Lists.{GoodList}
use Rattle.norm.specs.NormArrays.{ExactNorms}
use Rattle.table.specs.Sources.{table_held}
use Rattle.table.specs.declared.held.HeldTable.{HeldTable}
use Rattle.alike.specs.Alike.{Pair, replace, replaced_rule, replaced}
use Rattle.alike.proofs.ReplacedTables.{norms_replaced}
use Rattle.alike_list.specs.AlikeLists.{alike_pairs}
use Rattle.alike_list.specs.PairArrays.{counts_as, HoldsPairs}
use Rattle.replacing.specs.ReplacedMoves.{with_moves}
use Rattle.replacing.proofs.NoList.{no_replacement}
use Rattle.replacing.proofs.ReplacedPlaces.{moves_length, moves_front, moves_good, moves_rules}

-- A LIST OF RULES WITH ITS MOVES REPLACED
module _ (ps : List Pair) (f : ℕ → ℕ) (same : (a : ℕ) → f a ≡ replace ps a) (jobs : ℕ) (rs : List ℕ) (g : GoodList jobs rs) where
  abbrev new : List ℕ
  new = with_moves f (rule_count rs) rs

  room : 8 * rule_count rs ≤ length rs
  room = omega (arith, g.whole)

  count_same : rule_count new ≡ rule_count rs
  unfolding rule_count
  count_same = omega (arith, moves_length f (rule_count rs) rs room)

  new_list : GoodList jobs new
  new_list = record {
    whole = moves_length f (rule_count rs) rs room ∙ ap (λ (n : ℕ). 8 * n) (sym count_same);
    some = omega (arith, count_same, g.some);
    few = omega (arith, count_same, g.few);
    job = g.job;
    jobs = g.jobs;
    places = ap (λ (n : ℕ). places_good n jobs new) count_same ∙ moves_good f jobs (rule_count rs) rs room g.places;
  }

  rule_moved : (r : Rule) → replaced_rule ps r ≡ record { job = r.job; move = f r.move; after = r.after }
  unfolding replaced_rule
  rule_moved r = λ i. record { job = r.job; move = (sym (same r.move)) i; after = r.after }

  new_table : table_of jobs new ≡ replaced ps (table_of jobs rs)
  unfolding table_of replaced
  new_table =
      let rules : rules_in (rule_count new) new ≡ map (replaced_rule ps) (rules_in (rule_count rs) rs) =
      ap (λ (n : ℕ). rules_in n new) count_same ∙ moves_rules f jobs (replaced_rule ps) rule_moved (rule_count rs) rs room g.places in
      λ i. record { jobs = jobs; rules = rules i }

-- NO LIST: the table is the same
pub without_list : (ls : List ℕ) → length ls ≡ 0 → (t : Table) → t ≡ replaced (alike_pairs ls) t
without_list ls e t =
    let none : ls ≡ [] = drop_of_length-le ls {i = 0} (omega (arith, e)) in
    sym (no_replacement t) ∙ ap (λ (x : List ℕ). replaced (alike_pairs x) t) (sym none)

-- A TABLE THAT IS HELD, with the moves of so many places replaced by what a list's arrays give
module _ (h : HeldTable) {ps : List Pair} {fs ts : List ℕ} {n : ℕ} (p : HoldsPairs ps fs ts n) {rules' : List ℕ}
    (e : rules' ≡ with_moves (counts_as fs ts n) (h.end / 8) h.rules ++ drop (8 * (h.end / 8)) h.rules) (size : length h.rules ≡ 2016) where
  abbrev c : ℕ → ℕ
  c = counts_as fs ts n

  abbrev rs : List ℕ
  rs = take h.end h.rules

  whole : length rs ≡ h.end
  whole = length-take-le h.end h.rules (omega (arith, h.inside, size))

  count : rule_count rs ≡ h.end / 8
  unfolding rule_count
  count = ap (λ (n : ℕ). n / 8) whole

  eights : 8 * (h.end / 8) ≡ h.end
  eights = omega (arith, h.list.whole, count, whole)

  fits : 8 * (h.end / 8) ≤ length h.rules
  fits = omega (arith, eights, h.inside, size)

  front : take h.end rules' ≡ with_moves c (rule_count rs) rs
  front =
      ap (take h.end) e
      ∙ take_at (with_moves c (h.end / 8) h.rules) (drop (8 * (h.end / 8)) h.rules) h.end (moves_length c (h.end / 8) h.rules fits ∙ eights)
      ∙ sym (moves_front c (h.end / 8) h.end h.rules (omega (arith, eights))) ∙ ap (λ (n : ℕ). with_moves c n rs) (sym count)

  pub table_is : table_of h.jobs (take h.end rules') ≡ replaced ps (table_held h)
  table_is = ap (table_of h.jobs) front ∙ new_table ps c p.counts h.jobs rs h.list

  pub list_stays : GoodList h.jobs (take h.end rules')
  list_stays = subst (GoodList h.jobs) (sym front) (new_list ps c p.counts h.jobs rs h.list)

  pub norms_stay : ExactNorms (table_of h.jobs (take h.end rules')) h.norms
  norms_stay =
      subst (λ (u : Table). ExactNorms u h.norms) (sym table_is)
      (record {
        size = h.exact.size;
        at = λ j. h.exact.at j ∙ ap (λ (l : List ℕ). get_or l j 0) (sym (norms_replaced ps (table_held h)));
        few = h.exact.few;
      })
