-- TWO TABLES THAT ARE HELD, JOINED: refusal 15 by the numbers that they hold, and, once it is past, bytes and norms of the joined table. Assumes
-- nothing.
use mathlib.Core.Path.{◌≡◌, refl, sym, ap, ap₂, subst, ◌∙◌}
use mathlib.Core.List.{List, ◌++◌}
use Prim.Native.Nat.{ℕ, ◌+◌, ◌*◌, ◌≤◌, ◌<◌}
use native.Mathlib.Omega.{arith}
use lib.ListN.{length, get_or, take}
use lib.Seq.{length-take-le}
use Rattle.area.specs.Areas.{put}
use Rattle.area.proofs.Puts.{put_up_to}
use Rattle.rules.specs.Places.{rule_count, rules_in, table_of}
use Rattle.rules.specs.Lists.{GoodList}
use Rattle.rules.proofs.ListLaws.{length_rules_in}
use Rattle.norm.specs.NormArrays.{ExactNorms, GoodNorms}
use Rattle.norm.proofs.NormedTables.{good_norms}
use Rattle.table.specs.Sources.{table_held}
use Rattle.table.specs.declared.held.HeldTable.{HeldTable}
use Rattle.joined.specs.Joined.{joined}
use Rattle.joining.specs.JoinedBytes.{tables_refusal, sizes_refusal, renumbered_places, GoodPlaces, JoinsNorms}
use Rattle.joining.proofs.JoinedSizes.{sizes_tables}
use Rattle.joining.proofs.JoinedLists.{new_length, joined_list, joined_table, joined_norms, joined_finite}

-- the bytes of a table that is held
module _ (h : HeldTable) (size : length h.rules ≡ 2016) where
  pub held_length : length (take h.end h.rules) ≡ h.end
  held_length = length-take-le h.end h.rules (omega (arith, h.inside, size))

  pub held_good : GoodNorms h.jobs (take h.end h.rules) h.norms
  held_good = good_norms h.jobs (take h.end h.rules) h.norms h.list h.exact h.finite

  whole : h.end ≡ 8 * length (table_held h).rules
  unfolding table_of rule_count
  whole =
      let rs = take h.end h.rules in
      let all : length (rules_in (rule_count rs) rs) ≡ rule_count rs = length_rules_in (rule_count rs) rs in
      sym held_length ∙ h.list.whole ∙ ap (λ (n : ℕ). 8 * n) (sym all)

  own_jobs : h.jobs ≡ (table_held h).jobs
  unfolding table_of
  own_jobs = refl

module _ (h k : HeldTable) (size : length h.rules ≡ 2016) (size' : length k.rules ≡ 2016) where
  pub sizes_of : sizes_refusal (h.jobs + k.jobs) (h.end + k.end) ≡ tables_refusal (table_held h) (table_held k)
  sizes_of = sizes_tables (table_held h) (table_held k) h.jobs k.jobs h.end k.end (own_jobs h size) (own_jobs k size') (whole h size) (whole k size')

  -- THE BYTES THAT ARE JOINED, and what becomes of them
  module _ (jobs : h.jobs + k.jobs ≤ 24) (few : h.end + k.end ≤ 2016) where
    abbrev rs : List ℕ
    rs = take h.end h.rules

    abbrev os : List ℕ
    os = take k.end k.rules

    both_few : length rs + length os ≤ 2016
    both_few = omega (arith, held_length h size, held_length k size')

    pub places_fit : GoodPlaces h.jobs os
    places_fit = record { whole = k.list.whole; bound = k.jobs; few = omega (arith, jobs); good = k.list.places }

    module _ {rules' all : List ℕ} (e : rules' ≡ put h.end (renumbered_places h.jobs os) h.rules) (j : JoinsNorms h.norms h.jobs k.norms all) where
      front : take (h.end + k.end) rules' ≡ rs ++ renumbered_places h.jobs os
      front =
          let added = renumbered_places h.jobs os in
          let as_many : length added ≡ length os = new_length h.jobs k.jobs rs os h.list k.list jobs both_few ∙ sym k.list.whole in
          let at : h.end + k.end ≡ h.end + length added = omega (arith, as_many, held_length k size') in
          ap₂ (λ (i : ℕ) (x : List ℕ). take i x) at e ∙ put_up_to h.end added h.rules (omega (arith, h.inside, size))

      pub joined_is : table_of (h.jobs + k.jobs) (take (h.end + k.end) rules') ≡ joined (table_held h) (table_held k)
      joined_is = ap (table_of (h.jobs + k.jobs)) front ∙ joined_table h.jobs k.jobs rs os h.list k.list jobs both_few

      pub joined_stays : GoodList (h.jobs + k.jobs) (take (h.end + k.end) rules')
      joined_stays = subst (GoodList (h.jobs + k.jobs)) (sym front) (joined_list h.jobs k.jobs rs os h.list k.list jobs both_few)

      pub joined_exact : ExactNorms (table_of (h.jobs + k.jobs) (take (h.end + k.end) rules')) all
      joined_exact =
          subst (λ (x : List ℕ). ExactNorms (table_of (h.jobs + k.jobs) x) all) (sym front)
          (joined_norms h.jobs k.jobs rs os h.norms k.norms (held_good h size) (held_good k size') jobs both_few all j).exact

      pub joined_falls : (i : ℕ) → i < h.jobs + k.jobs → 0 < get_or all i 0
      joined_falls = joined_finite h.jobs h.norms k.norms all j k.jobs jobs h.finite k.finite
