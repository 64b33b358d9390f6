-- The pairs of a list as they are read, one by one: the two rows that are filled, and what is known not to clash. Assumes nothing.
use mathlib.Core.Path.{◌≡◌, refl, sym, ap, ap₂, ◌∙◌}
use mathlib.Core.Bool.{Bool, true, false, ◌||◌, or-false}
use mathlib.Core.List.{List, [], ◌∷◌, ◌++◌, map}
use Prim.Native.Nat.{ℕ, zero, suc, ◌+◌, ◌*◌, ◌-◌, ◌≤◌, ◌<◌}
use native.Mathlib.Decide.{dec_lt}
use native.Mathlib.Omega.{arith}
use lib.Dec.{eqb}
use lib.ListN.{length, get_or, take, drop, set, replicate, length-map, length-take, get_or-append, drop_of_length-le}
use lib.Seq.{take_all, get_or-take, get_or-set_same, get_or-set_other}
use Rattle.std.proofs.lemmas.List.{get_or-map as list_map}
use borrow.Author.Tests.{eqb-true, eqb-false, eq-eqb}
use Rattle.bpa.proofs.Basics.Cases.{by_test, or_left}
use Rattle.bpa.proofs.Basics.Zeros.{zeros_at}
use Rattle.area.specs.Numbers.{number_at}
use Rattle.alike.specs.Alike.{Pair, froms, tos, stands_in, is_from, from_twice, from_as_to, clashes}
use Rattle.alike_list.specs.AlikeLists.{alike_pairs}
use Rattle.alike_list.specs.PairArrays.{WholePairs, filled_froms, filled_tos, HoldsPairs}
use Rattle.alike_list.proofs.PairLists.{pair_at, whole_length, pair_there, pair_next, pair_more}
use Rattle.alike_list.proofs.FilledRows.{filled_up, filled_length, filled_more, stands_filled}
use Rattle.alike_list.proofs.CountedMoves.{stands_whole, rows_hold}

abbrev from_part : Pair → ℕ
from_part p = p.from

abbrev to_part : Pair → ℕ
to_part p = p.to

module _ {ls : List ℕ} {count : ℕ} (w : WholePairs ls count) where
  abbrev ps : List Pair
  ps = alike_pairs ls

  abbrev first : ℕ
  first = number_at 0 ls

  begins : ps ≡ pair_at ls 0 ∷ drop 1 ps
  begins = pair_next w 0 w.some

  first_is : first ≡ get_or (froms ps) 0 0
  first_is = ap (λ (l : List Pair). get_or (froms l) 0 0) (sym begins)

  whole : take count ps ≡ ps
  whole = take_all count ps (omega (arith, whole_length w))

  none_left : drop count ps ≡ []
  none_left = drop_of_length-le ps {i = count} (omega (arith, whole_length w))

  -- the first from-move is one of each front
  first_known : (k : ℕ) → 1 ≤ k → is_from (take k ps) first ≡ true
  unfolding stands_in
  first_known zero h = absurd (omega arith)
  first_known (suc k) h =
      ap (λ (l : List Pair). is_from (take (suc k) l) first) begins ∙ or_left (eqb first first) (is_from (take k (drop 1 ps)) first) (eq-eqb first first refl)

  -- THE PAIRS: k are read, and no from-move stood twice
  pub record Read (k : ℕ) (row others : List ℕ) : Type 0 where
    pub within : k ≤ count
    pub froms : row ≡ filled_up from_part first k ps
    pub tos : others ≡ filled_up to_part 0 k ps
    pub twice : from_twice (take k ps) (drop k ps) ≡ from_twice [] ps
    pub small : (i : ℕ) → get_or others i 0 < 65536

  pub read_begin : Read 0 (replicate 32 first) (replicate 32 0)
  unfolding filled_up
  read_begin = record { within = omega arith; froms = refl; tos = refl; twice = refl; small = λ i. omega (arith, zeros_at 32 i) }

  module _ {k : ℕ} {row others : List ℕ} (s : Read k row others) where
    pub froms_size : length row ≡ 32
    froms_size = ap length s.froms ∙ filled_length from_part first k ps (omega (arith, whole_length w, s.within)) (omega (arith, w.few, s.within))

    pub tos_size : length others ≡ 32
    tos_size = ap length s.tos ∙ filled_length to_part 0 k ps (omega (arith, whole_length w, s.within)) (omega (arith, w.few, s.within))

    module _ (h : k < count) (a : ℕ) (is : a ≡ number_at (4 * k) ls) where
      turn : from_twice [] ps ≡ (is_from (take k ps) (pair_at ls k).from || from_twice (take (k + 1) ps) (drop (k + 1) ps))
      unfolding from_twice
      turn =
          sym s.twice ∙ ap (from_twice (take k ps)) (pair_next w k h)
          ∙ ap (λ (l : List Pair). is_from (take k ps) (pair_at ls k).from || from_twice l (drop (k + 1) ps)) (sym (pair_more w k h))

      -- whether the next from-move is an earlier one
      pub found_is : 1 ≤ k → stands_in row a ≡ is_from (take k ps) (pair_at ls k).from
      found_is some = ap (λ (l : List ℕ). stands_in l a) s.froms ∙ stands_filled k ps first a (first_known k some) ∙ ap (is_from (take k ps)) is

      pub stands_twice : 1 ≤ k → stands_in row a ≡ true → from_twice [] ps ≡ true
      stands_twice some e = turn ∙ or_left (is_from (take k ps) (pair_at ls k).from) (from_twice (take (k + 1) ps) (drop (k + 1) ps)) (sym (found_is some) ∙ e)

      none_earlier : k ≡ 0 → is_from (take k ps) (pair_at ls k).from ≡ false
      unfolding stands_in
      none_earlier e = ap (λ (n : ℕ). is_from (take n ps) (pair_at ls k).from) e

      pub is_new : (1 ≤ k → stands_in row a ≡ false) → is_from (take k ps) (pair_at ls k).from ≡ false
      is_new other = by_side (dec_lt 0 k)
        where
          by_side : Dec (0 < k) → is_from (take k ps) (pair_at ls k).from ≡ false
          by_side (yes l) = sym (found_is (omega arith)) ∙ other (omega arith)
          by_side (no l) = none_earlier (omega arith)

      pub read_next : is_from (take k ps) (pair_at ls k).from ≡ false → (b : ℕ) → b ≡ number_at (4 * k + 2) ls → b < 65536 → Read (k + 1) (set row k a) (set others k b)
      read_next new b to few = record {
        within = omega arith;
        froms =
            ap₂ (λ (l : List ℕ) (v : ℕ). set l k v) s.froms is
            ∙ filled_more from_part first k ps (omega (arith, whole_length w)) (omega (arith, w.few)) (pair_at ls k) (pair_more w k h);
        tos =
            ap₂ (λ (l : List ℕ) (v : ℕ). set l k v) s.tos to
            ∙ filled_more to_part 0 k ps (omega (arith, whole_length w)) (omega (arith, w.few)) (pair_at ls k) (pair_more w k h);
        twice = sym (turn ∙ ap (λ (x : Bool). x || from_twice (take (k + 1) ps) (drop (k + 1) ps)) new);
        small = λ i.
            by_test (eqb i k)
            (λ e. let d = eqb-true i k e in omega (arith, ap (λ (j : ℕ). get_or (set others k b) j 0) d, get_or-set_same others k b 0 (omega (arith, tos_size, w.few)), few))
            (λ e. omega (arith, get_or-set_other others k i b 0 (eqb-false i k e), s.small i));
      }

    -- ALL OF THEM
    module _ (h : count ≤ k) where
      all_read : k ≡ count
      all_read = omega (arith, s.within)

      pub froms_filled : row ≡ filled_froms ps
      unfolding filled_up filled_froms
      froms_filled =
          s.froms ∙ ap (λ (n : ℕ). filled_up from_part first n ps) all_read
          ∙ (λ i. froms (whole i) ++ replicate (32 - (sym (whole_length w)) i) (first_is i))

      pub tos_filled : others ≡ filled_tos ps
      unfolding filled_up filled_tos
      tos_filled =
          s.tos ∙ ap (λ (n : ℕ). filled_up to_part 0 n ps) all_read ∙ (λ i. tos (whole i) ++ replicate (32 - (sym (whole_length w)) i) 0)

      never_twice : from_twice [] ps ≡ false
      unfolding from_twice
      never_twice = sym s.twice ∙ ap (λ (n : ℕ). from_twice (take n ps) (drop n ps)) all_read ∙ ap (from_twice (take count ps)) none_left

      -- A FROM-MOVE AS A TO-MOVE: k pairs are looked at
      module _ (i : ℕ) (l : i < length (take count others)) {b : Bool} (test : b ≡ stands_in row (get_or (take count others) i 0)) where
        inside : i < count
        inside = omega (arith, simp length-take at l)

        to_is : get_or (take count others) i 0 ≡ (pair_at ls i).to
        unfolding filled_tos
        to_is =
            let p = pair_at ls i in
            get_or-take count others i 0 inside ∙ ap (λ (x : List ℕ). get_or x i 0) tos_filled
            ∙ get_or-append (tos ps) (replicate (32 - length ps) 0) 0 i (omega (arith, length-map ps to_part, whole_length w, inside))
            ∙ list_map to_part ps i p 0 (omega (arith, whole_length w, inside)) ∙ ap to_part (pair_there w i inside p)

        as_to : b ≡ is_from ps (pair_at ls i).to
        as_to =
            test ∙ ap (λ (x : List ℕ). stands_in x (get_or (take count others) i 0)) froms_filled
            ∙ stands_whole ps (omega (arith, whole_length w, w.some)) (get_or (take count others) i 0) ∙ ap (is_from ps) to_is

        pub to_turn : from_as_to ps (drop i ps) ≡ (b || from_as_to ps (drop (i + 1) ps))
        unfolding from_as_to
        to_turn = ap (from_as_to ps) (pair_next w i inside) ∙ ap (λ (x : Bool). x || from_as_to ps (drop (i + 1) ps)) (sym as_to)

      to_end : (i : ℕ) → length (take count others) ≤ i → from_as_to ps (drop i ps) ≡ false
      unfolding from_as_to
      to_end i l = ap (from_as_to ps) (drop_of_length-le ps {i = i} (omega (arith, whole_length w, simp length-take at l, tos_size, w.few)))

      pub clean : (i : ℕ) → length (take count others) ≤ i → from_as_to ps (drop i ps) ≡ from_as_to ps ps → clashes ps ≡ false
      unfolding clashes
      clean i l e = ap₂ ◌||◌ never_twice (sym e ∙ to_end i l)

      -- the rows hold the pairs, if none of them clash
      pub held : clashes ps ≡ false → (n : ℕ) → count ≤ n → n ≤ 32 → HoldsPairs ps row others n
      held clean n l f =
          rw (froms_filled, tos_filled)
          (rows_hold ps (omega (arith, whole_length w, w.some)) clean n (omega (arith, whole_length w)) f (rw (sym tos_filled) s.small))
