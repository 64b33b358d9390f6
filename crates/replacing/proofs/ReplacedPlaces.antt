-- Places with other moves: each is a place of 8 bytes with its job and its row as they were, so the rules are those with their moves
-- replaced, and a good list stays good. Assumes nothing.
use mathlib.Core.Path.{◌≡◌, refl, sym, ap, ap₂, ◌∙◌}
use mathlib.Core.Bool.{true, ◌&&◌}
use mathlib.Core.List.{List, [], ◌∷◌, ◌++◌, map}
use Prim.Native.Nat.{ℕ, zero, suc, ◌+◌, ◌*◌, ◌-◌, ◌/◌, ◌%◌, ◌≤◌, ◌<◌}
use native.Mathlib.Omega.{arith}
use lib.Dec.{ltb, leb}
use lib.ListN.{length, get_or, take, drop}
use lib.Seq.{take-take, take-append-le, drop-drop}
use borrow.Author.Tests.{leb-true}
use Rattle.bpa.specs.Plans.{Rule, all_below}
use Rattle.bpa.proofs.Basics.Cases.{by_test}
use Rattle.area.specs.Areas.{put}
use Rattle.rules.specs.Places.{all_zero, move_in, with_move, rule_in, place_good, places_good, changed_places, rules_in}
use Rattle.rules.proofs.PlaceBack.{after_few}
use Rattle.rules.proofs.ChangedPlaces.{Place, eight, place_of_eight, each_any, changed_length, changed_each, changed_rules}
use Rattle.image.proofs.PlaceRows.{drop_take}
use Rattle.replacing.specs.ReplacedMoves.{moved, with_moves}

-- the row of jobs ends before the last byte
row_same : (c d e f g h i : ℕ) → c ≤ 4 → take c (d ∷ e ∷ f ∷ g ∷ h ∷ []) ≡ take c (d ∷ e ∷ f ∷ g ∷ i ∷ [])
row_same c d e f g h i l =
    take-append-le c (d ∷ e ∷ f ∷ g ∷ []) (h ∷ []) l ∙ sym (take-append-le c (d ∷ e ∷ f ∷ g ∷ []) (i ∷ []) l)

module _ (v : ℕ) where
  with_length : (xs : List ℕ) → Place xs → length (with_move v xs) ≡ 8
  unfolding with_move put
  with_length xs (eight a b c d e f g h) = refl

  -- its rule makes the other move
  with_rule : (xs : List ℕ) → Place xs → get_or xs 2 0 ≤ 4 →
      rule_in (with_move v xs) ≡ record { job = (rule_in xs).job; move = v; after = (rule_in xs).after }
  unfolding with_move put rule_in move_in
  with_rule xs (eight a b c d e f g h) l =
      let m : v % 256 + 256 * (v / 256) ≡ v = omega arith in
      λ i. record { job = a; move = m i; after = row_same c d e f g (v / 256) h l i }

  -- and it is as good as it was
  with_good : (n : ℕ) (xs : List ℕ) → Place xs → place_good n (with_move v xs) ≡ place_good n xs
  unfolding with_move put place_good
  with_good n xs (eight a b c d e f g h) =
      let zeros : (x : ℕ) → drop (3 + c) (a ∷ x ∷ c ∷ d ∷ e ∷ f ∷ g ∷ []) ≡ drop c (d ∷ e ∷ f ∷ g ∷ []) =
      λ x. sym (drop-drop c 3 (a ∷ x ∷ c ∷ d ∷ e ∷ f ∷ g ∷ [])) in
      by_test (leb c 4)
      (λ l. ap₂ (λ (w z : List ℕ). (ltb a n && leb c 4) && (all_below n w && all_zero z))
      (row_same c d e f g (v / 256) h (leb-true c 4 l)) (zeros (v % 256) ∙ sym (zeros b)))
      (λ l. by_test (ltb a n) (λ k. rw (k, l)) (λ k. rw k))

-- a place with its own move
pub own_move : (xs : List ℕ) → Place xs → get_or xs 1 0 < 256 → with_move (move_in xs) xs ≡ xs
unfolding with_move put move_in
own_move xs (eight a b c d e f g h) l =
    let low : (b + 256 * h) % 256 ≡ b = omega arith in
    let high : (b + 256 * h) / 256 ≡ h = omega arith in
    λ i. a ∷ low i ∷ c ∷ d ∷ e ∷ f ∷ g ∷ high i ∷ []

-- SO MANY PLACES, of any bytes
module _ (f : ℕ → ℕ) where
  pub moved_size : (y : List ℕ) → length y ≡ 8 → true ≡ true → length (moved f y) ≡ 8
  moved_size y e h = with_length (f (move_in y)) y (place_of_eight y e)

  pub moves_length : (k : ℕ) (xs : List ℕ) → 8 * k ≤ length xs → length (with_moves f k xs) ≡ 8 * k
  moves_length k xs h = changed_length (moved f) (λ y. true) moved_size k xs h (each_any k xs)

  -- they are those of the front
  pub moves_front : (k m : ℕ) (xs : List ℕ) → 8 * k ≤ m → with_moves f k (take m xs) ≡ with_moves f k xs
  unfolding changed_places
  moves_front zero m xs h = refl
  moves_front (suc k) m xs h =
      let e : take 8 (take m xs) ≡ take 8 xs = take-take 8 m xs (omega arith) in
      let eight_more : m ≡ 8 + (m - 8) = omega arith in
      let d : drop 8 (take m xs) ≡ take (m - 8) (drop 8 xs) = ap (λ (n : ℕ). drop 8 (take n xs)) eight_more ∙ drop_take 8 (m - 8) xs in
      ap₂ (λ (a b : List ℕ). moved f a ++ with_moves f k b) e d
      ∙ ap (λ (l : List ℕ). moved f (take 8 xs) ++ l) (moves_front k (m - 8) (drop 8 xs) (omega arith))

  -- A GOOD LIST
  module _ (n : ℕ) where
    good_size : (y : List ℕ) → length y ≡ 8 → place_good n y ≡ true → length (moved f y) ≡ 8
    good_size y e h = moved_size y e refl

    -- stays good
    pub moves_good : (k : ℕ) (xs : List ℕ) → 8 * k ≤ length xs → places_good k n xs ≡ true → places_good k n (with_moves f k xs) ≡ true
    unfolding places_good
    moves_good k xs =
        changed_each (moved f) (place_good n) good_size (place_good n)
        (λ y e h. with_good (f (move_in y)) n y (place_of_eight y e) ∙ h) k xs

    -- AND ITS RULES make the moves that their own count as
    pub moves_rules : (g : Rule → Rule) → ((r : Rule) → g r ≡ record { job = r.job; move = f r.move; after = r.after }) →
        (k : ℕ) (xs : List ℕ) → 8 * k ≤ length xs → places_good k n xs ≡ true → rules_in k (with_moves f k xs) ≡ map g (rules_in k xs)
    unfolding places_good rule_in
    moves_rules g e k xs =
        changed_rules (moved f) (place_good n) good_size g
        (λ y d h. with_rule (f (move_in y)) y (place_of_eight y d) (after_few n y h) ∙ sym (e (rule_in y))) k xs
