-- THE BYTES AND NORMS OF A JOINED TABLE: the places of the second, renumbered, behind those of the first are a good list of rules, whose table is the
-- joined one; norms behind norms are its norms. Assumes nothing.
use mathlib.Core.Path.{◌≡◌, refl, sym, ap, ap₂, subst, ◌∙◌}
use mathlib.Core.Bool.{true}
use mathlib.Core.List.{List, [], ◌∷◌, ◌++◌, map}
use Prim.Native.Nat.{ℕ, zero, suc, ◌+◌, ◌*◌, ◌-◌, ◌≤◌, ◌<◌}
use native.Mathlib.Decide.{dec_lt}
use native.Mathlib.Omega.{arith}
use lib.Dec.{ltb}
use lib.ListN.{length, get_or, take, drop, length-append, length-drop, drop_of_length-le, get_or-append, get_or-eq_default}
use lib.Seq.{take_at, drop_at, take_all, take-append-le, drop-append-le}
use borrow.Author.Tests.{ltb-true}
use Rattle.bpa.specs.Plans.{Rule, Table, all_below}
use Rattle.bpa.specs.Norms.{sum_of, norms, Good}
use Rattle.bpa.proofs.Basics.Cases.{and_left, and_right, and_both}
use Rattle.bpa.proofs.Norm.NormStable.{norms_length}
use Rattle.rules.specs.Places.{rule_in, place_good, each_place, places_good, rules_in, rule_count, table_of}
use Rattle.rules.specs.Lists.{GoodList}
use Rattle.rules.proofs.ListLaws.{good_rule, place_of_rule}
use Rattle.image.proofs.PlaceRows.{places_local, places_split}
use Rattle.norm.specs.NormArrays.{ExactNorms, GoodNorms}
use Rattle.joined.specs.Joined.{renumbered, renumbered_rule, joined, OwnRules}
use Rattle.joined.proofs.JoinedNorms.{norms_joined, joined_good, number_right}
use Rattle.joining.specs.JoinedBytes.{renumbered_places, JoinsNorms}
use Rattle.joining.proofs.JoinedSizes.{first_norm, second_norm}
use Rattle.joining.proofs.RenumberedPlaces.{place_more, places_length, places_stay, places_rules}

-- the rules of a good list are of its own jobs
pub own_rules : (n : ℕ) (rs : List ℕ) → GoodList n rs → OwnRules (table_of n rs)
unfolding table_of
own_rules n rs g j a w m =
    let (i, l, e) = place_of_rule n rs j a w m in
    subst (λ (k : ℕ). k < n) (ap (λ (r : Rule). r.job) e) (good_rule n rs g i l).job

-- good places are good among more jobs
places_more : (n m k : ℕ) (xs : List ℕ) → places_good k n xs ≡ true → places_good k (n + m) xs ≡ true
unfolding places_good each_place
places_more n m zero xs g = refl
places_more n m (suc k) xs g =
    and_both (place_good (n + m) (take 8 xs)) (each_place (place_good (n + m)) k (drop 8 xs))
    (place_more n (take 8 xs) (and_left (place_good n (take 8 xs)) (each_place (place_good n) k (drop 8 xs)) g) m)
    (places_more n m k (drop 8 xs) (and_right (place_good n (take 8 xs)) (each_place (place_good n) k (drop 8 xs)) g))

-- places of one row and then those of another
module _ (k m : ℕ) (xs ys : List ℕ) (e : length xs ≡ 8 * k) where
  places_append : (n : ℕ) → places_good k n xs ≡ true → places_good m n ys ≡ true → places_good (k + m) n (xs ++ ys) ≡ true
  places_append n f g =
      let front : take (8 * k) (xs ++ ys) ≡ take (8 * k) xs = take_at xs ys (8 * k) e ∙ sym (take_all (8 * k) xs (omega (arith, e))) in
      places_split k m n (xs ++ ys)
      ∙ and_both (places_good k n (xs ++ ys)) (places_good m n (drop (8 * k) (xs ++ ys)))
      (places_local k n (xs ++ ys) xs front ∙ f) (ap (places_good m n) (drop_at xs ys (8 * k) e) ∙ g)

rules_append : (k m : ℕ) (xs ys : List ℕ) → length xs ≡ 8 * k → rules_in (k + m) (xs ++ ys) ≡ rules_in k xs ++ rules_in m ys
unfolding rules_in
rules_append zero m xs ys e =
    let none : xs ≡ [] = drop_of_length-le xs {i = 0} (omega (arith, e)) in
    let same : 0 + m ≡ m = omega arith in
    ap₂ (λ (i : ℕ) (l : List ℕ). rules_in i (l ++ ys)) same none
rules_append (suc k) m xs ys e =
    let same : suc k + m ≡ suc (k + m) = omega arith in
    let first : take 8 (xs ++ ys) ≡ take 8 xs = take-append-le 8 xs ys (omega (arith, e)) in
    let rest : drop 8 (xs ++ ys) ≡ drop 8 xs ++ ys = drop-append-le 8 xs ys (omega (arith, e)) in
    ap (λ (i : ℕ). rules_in i (xs ++ ys)) same
    ∙ ap₂ (λ (a b : List ℕ). rule_in a ∷ rules_in (k + m) b) first rest
    ∙ ap (λ (l : List Rule). rule_in (take 8 xs) ∷ l) (rules_append k m (drop 8 xs) ys (omega (arith, length-drop 8 xs, e)))

-- THE BYTES OF A JOINED TABLE
module _ (n m : ℕ) (rs os : List ℕ) (g : GoodList n rs) (h : GoodList m os) (jobs : n + m ≤ 24) (few : length rs + length os ≤ 2016) where
  abbrev k : ℕ
  k = rule_count rs

  abbrev l : ℕ
  l = rule_count os

  abbrev new : List ℕ
  new = renumbered_places n os

  abbrev both : List ℕ
  both = rs ++ new

  pub new_length : length new ≡ 8 * l
  new_length = places_length n m l os (omega (arith, h.whole))

  both_length : length both ≡ 8 * (k + l)
  both_length = length-append rs new ∙ omega (arith, g.whole, new_length)

  both_count : rule_count both ≡ k + l
  unfolding rule_count
  both_count = omega (arith, both_length)

  pub joined_list : GoodList (n + m) both
  joined_list = record {
    whole = both_length ∙ ap (λ (i : ℕ). 8 * i) (sym both_count);
    some = omega (arith, both_count, g.some);
    few = omega (arith, both_count, g.whole, h.whole, few);
    job = omega (arith, g.job);
    jobs = jobs;
    places = ap (λ (i : ℕ). places_good i (n + m) both) both_count
        ∙ places_append k l rs new g.whole (n + m) (places_more n m k rs g.places) (places_stay n m l os (omega (arith, h.whole)) h.places);
  }

  pub joined_table : table_of (n + m) both ≡ joined (table_of n rs) (table_of m os)
  unfolding table_of joined
  joined_table =
      let rules : rules_in (rule_count both) both ≡ rules_in k rs ++ map (renumbered_rule n) (rules_in l os) =
      ap (λ (i : ℕ). rules_in i both) both_count ∙ rules_append k l rs new g.whole
      ∙ ap (λ (x : List Rule). rules_in k rs ++ x) (places_rules n m l os (omega (arith, h.whole)) h.places) in
      λ i. record { jobs = n + m; rules = rules i }

-- NORMS BEHIND NORMS, number by number
module _ (n : ℕ) (ns ms all : List ℕ) (j : JoinsNorms ns n ms all) where
  left : (i : ℕ) → i < n → i < 24 → get_or all i 0 ≡ get_or ns i 0
  left i h l = j.at i l ∙ sym (first_norm ns n ms i h)

  right : (i : ℕ) → n ≤ i → i < 24 → get_or all i 0 ≡ get_or ms (i - n) 0
  right i h l = j.at i l ∙ sym (second_norm ns n ms i h)

  beyond : (i : ℕ) → 24 ≤ i → get_or all i 0 ≡ 0
  beyond i h = get_or-eq_default all 0 {n = i} (omega (arith, j.size))

  -- none is 0 if none is of either
  pub joined_finite : (m : ℕ) → n + m ≤ 24 → ((i : ℕ) → i < n → 0 < get_or ns i 0) → ((i : ℕ) → i < m → 0 < get_or ms i 0) →
      (i : ℕ) → i < n + m → 0 < get_or all i 0
  joined_finite m few f g i h = by_side (dec_lt i n)
    where
      by_side : Dec (i < n) → 0 < get_or all i 0
      by_side (yes l) = omega (arith, left i l (omega arith), f i l)
      by_side (no l) = omega (arith, right i (omega arith) (omega arith), g (i - n) (omega arith))

  -- a plan of the second table, renumbered, by its own norms
  pub sum_joined : (m : ℕ) → n + m ≤ 24 → (q : List ℕ) → all_below m q ≡ true → sum_of all (renumbered n q) ≡ sum_of ms q
  unfolding sum_of renumbered all_below
  sum_joined m few [] o = refl
  sum_joined m few (i ∷ q) o =
      let below : i < m = ltb-true i m (and_left (ltb i m) (all_below m q) o) in
      let same : n + i - n ≡ i = omega arith in
      ap₂ ◌+◌ (right (n + i) (omega arith) (omega (arith, below, few)) ∙ ap (λ (k : ℕ). get_or ms k 0) same)
      (sum_joined m few q (and_right (ltb i m) (all_below m q) o))

-- AND THE NORMS OF A JOINED TABLE
module _ (n m : ℕ) (rs os ns ms : List ℕ) (g : GoodNorms n rs ns) (h : GoodNorms m os ms) (jobs : n + m ≤ 24) (few : length rs + length os ≤ 2016)
    (all : List ℕ) (j : JoinsNorms ns n ms all) where
  abbrev t : Table
  t = table_of n rs

  abbrev u : Table
  u = table_of m os

  own : OwnRules t
  own = own_rules n rs g.list

  joined_norm : (i : ℕ) → get_or all i 0 ≡ get_or (norms t ++ norms u) i 0
  unfolding table_of
  joined_norm i = by_side (dec_lt i n) (dec_lt i 24)
    where
      by_side : Dec (i < n) → Dec (i < 24) → get_or all i 0 ≡ get_or (norms t ++ norms u) i 0
      by_side (yes l) d = left n ns ms all j i l (omega (arith, l, jobs)) ∙ g.exact.at i ∙ sym (get_or-append (norms t) (norms u) 0 i (omega (arith, norms_length t)))
      by_side (no l) (yes d) =
          let e : n + (i - n) ≡ i = omega (arith, l) in
          right n ns ms all j i (omega (arith, l)) d ∙ h.exact.at (i - n) ∙ sym (number_right (norms t) (norms u) t (norms_length t) (i - n))
          ∙ ap (λ (k : ℕ). get_or (norms t ++ norms u) k 0) e
      by_side (no l) (no d) =
          beyond n ns ms all j i (omega (arith, d))
          ∙ sym (get_or-eq_default (norms t ++ norms u) 0 {n = i} (omega (arith, length-append (norms t) (norms u), norms_length t, norms_length u, d)))

  norm_small : (i : ℕ) → get_or all i 0 ≤ 512
  norm_small i = by_side (dec_lt i n) (dec_lt i 24)
    where
      by_side : Dec (i < n) → Dec (i < 24) → get_or all i 0 ≤ 512
      by_side (yes l) d = omega (arith, left n ns ms all j i l (omega (arith, l, jobs)), g.exact.few i)
      by_side (no l) (yes d) = omega (arith, right n ns ms all j i (omega (arith, l)) d, h.exact.few (i - n))
      by_side (no l) (no d) = omega (arith, beyond n ns ms all j i (omega (arith, d)))

  pub joined_norms : GoodNorms (n + m) (both n m rs os g.list h.list jobs few) all
  joined_norms =
      let e = joined_table n m rs os g.list h.list jobs few in
      let v = joined t u in
      record {
        list = joined_list n m rs os g.list h.list jobs few;
        good = subst (λ (x : Table). Good x (norms x)) (sym e) (joined_good t u own g.good h.good);
        exact = subst (λ (x : Table). ExactNorms x all) (sym e)
            (record { size = j.size; at = λ i. joined_norm i ∙ ap (λ (l : List ℕ). get_or l i 0) (sym (norms_joined t u own g.good h.good)); few = norm_small });
      }
