-- A PLACE WHOSE JOBS ARE NUMBERED ON: its jobs stay bytes, its rule is renumbered, and it is good in the joined table. Assumes nothing.
use mathlib.Core.Path.{◌≡◌, refl, sym, ap, ◌∙◌}
use mathlib.Core.Bool.{Bool, true, ◌&&◌}
use mathlib.Core.List.{List, [], ◌∷◌, map}
use Prim.Native.Nat.{ℕ, zero, suc, ◌+◌, ◌*◌, ◌≤◌, ◌<◌}
use native.Mathlib.Omega.{arith}
use lib.Dec.{ltb, leb, eqb}
use lib.ListN.{length, get_or, set, take, drop, length-take, length-drop}
use lib.Seq.{get_or-take, get_or-drop, drop-drop}
use borrow.Author.Tests.{ltb-true, ltb-false, lt-ltb, leb-true, eqb-true}
use Rattle.bpa.specs.Plans.{all_below}
use Rattle.bpa.proofs.Basics.Cases.{by_test, and_left, and_right, and_both}
use Rattle.bpa.proofs.Basics.JobsBelow.{below_at, below_more}
use Rattle.rules.specs.Places.{all_zero, move_in, rule_in, place_good, places_good, changed_places, rules_in}
use Rattle.rules.proofs.ChangedPlaces.{Place, eight, place_of_eight, each_any, changed_length, changed_each, changed_rules}
use Rattle.joined.specs.Joined.{renumbered, renumbered_rule}
use Rattle.joined.proofs.RenumberedPlans.{renumbered_below}
use Rattle.joining.specs.JoinedBytes.{numbered_on, renumbered_place}

-- the row of a place: the jobs that it names are numbered on, and what stands behind them stays
module _ (n d e f g h : ℕ) where
  row_on : (c : ℕ) → c ≤ 4 →
      take c (numbered_on n c 0 d ∷ numbered_on n c 1 e ∷ numbered_on n c 2 f ∷ numbered_on n c 3 g ∷ h ∷ []) ≡ renumbered n (take c (d ∷ e ∷ f ∷ g ∷ h ∷ []))
  unfolding renumbered
  row_on zero l = refl
  row_on (suc zero) l = refl
  row_on (suc (suc zero)) l = refl
  row_on (suc (suc (suc zero))) l = refl
  row_on (suc (suc (suc (suc zero)))) l = refl
  row_on (suc (suc (suc (suc (suc c))))) l = absurd (omega arith)

  behind_on : (c : ℕ) → c ≤ 4 →
      drop c (numbered_on n c 0 d ∷ numbered_on n c 1 e ∷ numbered_on n c 2 f ∷ numbered_on n c 3 g ∷ []) ≡ drop c (d ∷ e ∷ f ∷ g ∷ [])
  behind_on zero l = refl
  behind_on (suc zero) l = refl
  behind_on (suc (suc zero)) l = refl
  behind_on (suc (suc (suc zero))) l = refl
  behind_on (suc (suc (suc (suc zero)))) l = refl
  behind_on (suc (suc (suc (suc (suc c))))) l = absurd (omega arith)

-- where zeros stand from a place on
zero_behind : (xs : List ℕ) (j i : ℕ) → all_zero (drop j xs) ≡ true → j ≤ i → get_or xs i 0 ≡ 0
unfolding all_zero
zero_behind [] j i z l = refl
zero_behind (x ∷ xs) zero zero z l = eqb-true x 0 (and_left (eqb x 0) (all_zero xs) z)
zero_behind (x ∷ xs) zero (suc i) z l = zero_behind xs zero i (and_right (eqb x 0) (all_zero xs) z) (omega arith)
zero_behind (x ∷ xs) (suc j) zero z l = absurd (omega arith)
zero_behind (x ∷ xs) (suc j) (suc i) z l = zero_behind xs j i z (omega arith)

-- A GOOD PLACE
module _ (m : ℕ) (y : List ℕ) (good : place_good m y ≡ true) where
  abbrev c : ℕ
  c = get_or y 2 0

  abbrev named : Bool
  named = all_below m (take c (drop 3 y))

  abbrev empty : Bool
  empty = all_zero (drop (3 + c) (take 7 y))

  head : (ltb (get_or y 0 0) m && leb c 4) ≡ true
  unfolding place_good
  head = and_left (ltb (get_or y 0 0) m && leb c 4) (named && empty) good

  body : (named && empty) ≡ true
  unfolding place_good
  body = and_right (ltb (get_or y 0 0) m && leb c 4) (named && empty) good

  job_below : get_or y 0 0 < m
  job_below = ltb-true (get_or y 0 0) m (and_left (ltb (get_or y 0 0) m) (leb c 4) head)

  few : c ≤ 4
  few = leb-true c 4 (and_right (ltb (get_or y 0 0) m) (leb c 4) head)

  -- it is good among more jobs
  pub place_more : (n : ℕ) → place_good (m + n) y ≡ true
  unfolding place_good
  place_more n =
      and_both (ltb (get_or y 0 0) (m + n) && leb c 4) (all_below (m + n) (take c (drop 3 y)) && empty)
      (and_both (ltb (get_or y 0 0) (m + n)) (leb c 4) (lt-ltb (get_or y 0 0) (m + n) (omega (arith, job_below))) (and_right (ltb (get_or y 0 0) m) (leb c 4) head))
      (and_both (all_below (m + n) (take c (drop 3 y))) empty (below_more m (m + n) (take c (drop 3 y)) (omega arith) (and_left named empty body))
      (and_right named empty body))

  -- its jobs stay bytes, and so do the zeros behind them
  module _ (n : ℕ) (fits : n + m ≤ 256) where
    pub job_fits : n + get_or y 0 0 < 256
    job_fits = omega (arith, job_below)

    pub byte_fits : (k : ℕ) → k < 4 → length y ≡ 8 → n + get_or y (3 + k) 0 < 256
    byte_fits k l size =
        by_test (ltb k c)
        (λ h.
        let inside : k < length (take c (drop 3 y)) = simp (length-take, length-drop) (omega (arith, ltb-true k c h, few)) in
        let at : get_or (take c (drop 3 y)) k 0 ≡ get_or y (3 + k) 0 = get_or-take c (drop 3 y) k 0 (ltb-true k c h) ∙ get_or-drop 3 y k 0 in
        omega (arith, below_at m (take c (drop 3 y)) k (and_left named empty body) inside, at))
        (λ h.
        let at : get_or (take 7 y) (3 + k) 0 ≡ get_or y (3 + k) 0 = get_or-take 7 y (3 + k) 0 (omega arith) in
        omega (arith, zero_behind (take 7 y) (3 + c) (3 + k) (and_right named empty body) (omega (arith, ltb-false k c h)), at, job_below))

-- five bytes of it are written
pub five_bytes : (n : ℕ) (y : List ℕ) → Place y → {p q r s : ℕ} →
    p ≡ numbered_on n (get_or y 2 0) 0 (get_or y 3 0) → q ≡ numbered_on n (get_or y 2 0) 1 (get_or y 4 0) →
    r ≡ numbered_on n (get_or y 2 0) 2 (get_or y 5 0) → s ≡ numbered_on n (get_or y 2 0) 3 (get_or y 6 0) →
    set (set (set (set (set y 0 (n + get_or y 0 0)) 3 p) 4 q) 5 r) 6 s ≡ renumbered_place n y
unfolding renumbered_place
five_bytes n y (eight a b c d e f g h) i j k l = λ x. (n + a) ∷ b ∷ c ∷ i x ∷ j x ∷ k x ∷ l x ∷ h ∷ []

-- what numbering on does to it
pub place_size : (n : ℕ) (y : List ℕ) → length (renumbered_place n y) ≡ 8
unfolding renumbered_place
place_size n y = refl

module _ (n m : ℕ) where
  rule_of_eight : (y : List ℕ) → Place y → get_or y 2 0 ≤ 4 → rule_in (renumbered_place n y) ≡ renumbered_rule n (rule_in y)
  unfolding renumbered_place rule_in renumbered_rule move_in
  rule_of_eight y (eight a b c d e f g h) l = λ i. record { job = n + a; move = b + 256 * h; after = row_on n d e f g h c l i }

  place_rule : (y : List ℕ) → length y ≡ 8 → place_good m y ≡ true → rule_in (renumbered_place n y) ≡ renumbered_rule n (rule_in y)
  place_rule y size good = rule_of_eight y (place_of_eight y size) (few m y good)

  good_of_eight : (y : List ℕ) → Place y → place_good m y ≡ true → place_good (n + m) (renumbered_place n y) ≡ true
  unfolding renumbered_place place_good
  good_of_eight y (eight a b c d e f g h) k =
      let x = a ∷ b ∷ c ∷ d ∷ e ∷ f ∷ g ∷ h ∷ [] in
      let l : c ≤ 4 = few m x k in
      let row = d ∷ e ∷ f ∷ g ∷ h ∷ [] in
      let row' = numbered_on n c 0 d ∷ numbered_on n c 1 e ∷ numbered_on n c 2 f ∷ numbered_on n c 3 g ∷ h ∷ [] in
      let front = a ∷ b ∷ c ∷ d ∷ e ∷ f ∷ g ∷ [] in
      let front' = (n + a) ∷ b ∷ c ∷ numbered_on n c 0 d ∷ numbered_on n c 1 e ∷ numbered_on n c 2 f ∷ numbered_on n c 3 g ∷ [] in
      let behind : drop (3 + c) front' ≡ drop (3 + c) front = sym (drop-drop c 3 front') ∙ behind_on n d e f g h c l ∙ drop-drop c 3 front in
      and_both (ltb (n + a) (n + m) && leb c 4) (all_below (n + m) (take c row') && all_zero (drop (3 + c) front'))
      (and_both (ltb (n + a) (n + m)) (leb c 4) (lt-ltb (n + a) (n + m) (omega (arith, job_below m x k))) (and_right (ltb a m) (leb c 4) (head m x k)))
      (and_both (all_below (n + m) (take c row')) (all_zero (drop (3 + c) front'))
      (ap (all_below (n + m)) (row_on n d e f g h c l) ∙ renumbered_below n m (take c row) ∙ and_left (all_below m (take c row)) (all_zero (drop (3 + c) front)) (body m x k))
      (ap all_zero behind ∙ and_right (all_below m (take c row)) (all_zero (drop (3 + c) front)) (body m x k)))

  place_stays : (y : List ℕ) → length y ≡ 8 → place_good m y ≡ true → place_good (n + m) (renumbered_place n y) ≡ true
  place_stays y size good = good_of_eight y (place_of_eight y size) good

  -- A ROW OF PLACES
  module _ (k : ℕ) (xs : List ℕ) (room : 8 * k ≤ length xs) where
    pub places_length : length (changed_places (renumbered_place n) k xs) ≡ 8 * k
    places_length = changed_length (renumbered_place n) (λ y. true) (λ y e h. place_size n y) k xs room (each_any k xs)

    pub places_stay : places_good k m xs ≡ true → places_good k (n + m) (changed_places (renumbered_place n) k xs) ≡ true
    unfolding places_good
    places_stay = changed_each (renumbered_place n) (place_good m) (λ y e h. place_size n y) (place_good (n + m)) place_stays k xs room

    pub places_rules : places_good k m xs ≡ true → rules_in k (changed_places (renumbered_place n) k xs) ≡ map (renumbered_rule n) (rules_in k xs)
    unfolding places_good
    places_rules = changed_rules (renumbered_place n) (place_good m) (λ y e h. place_size n y) (renumbered_rule n) place_rule k xs room
