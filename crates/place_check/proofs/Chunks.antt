-- Zeros and places in a row, by what is asked of each. Assumes nothing.
use Rattle.std.proofs.Common.{◌≡◌, refl, sym, ap, ◌∙◌, ◌↔◌, Bool, true, false, ◌&&◌, List, [], ◌∷◌, ℕ, zero, suc, ◌+◌, ◌*◌, ◌-◌, ◌/◌, ◌≤◌, length, get_or, take, drop, arith}
use lib.Dec.{eqb}
use borrow.Author.Tests.{eqb-true, eq-eqb}
use Rattle.std.specs.List.{All}
use Rattle.std.specs.Simd.{first_chunks}
use Rattle.std.proofs.lemmas.List.{drop-take}
use Rattle.std.proofs.lemmas.List.Elements.{All-nil, All-cons, All-tail}
use lib.ListN.{length-take, length-drop}
use lib.Seq.{take-take}
use Rattle.image.specs.Image.{rules_in_block, places_of_block}
use Rattle.image.proofs.PlaceRows.{places_local}
use Rattle.rules.specs.Places.{all_zero, place_good, each_place, places_good}
use Rattle.bpa.proofs.Basics.Cases.{and_left, and_right, and_both}

pub all_zeros : (bs : List ℕ) → All (λ b. b ≡ 0) bs → all_zero bs ≡ true
unfolding all_zero
all_zeros [] h = refl
all_zeros (b ∷ bs) h = and_both (eqb b 0) (all_zero bs) (eq-eqb b 0 (h 0 0 (omega arith))) (all_zeros bs (All-tail (λ b. b ≡ 0) b bs h))

pub zeros_all : (bs : List ℕ) → all_zero bs ≡ true → All (λ b. b ≡ 0) bs
unfolding all_zero
zeros_all [] h = All-nil (λ b. b ≡ 0)
zeros_all (b ∷ bs) h =
    All-cons (λ b. b ≡ 0) b bs (eqb-true b 0 (and_left (eqb b 0) (all_zero bs) h)) (zeros_all bs (and_right (eqb b 0) (all_zero bs) h))

pub by_zeros : (r : Bool) (bs : List ℕ) → (r ≡ true) ↔ All (λ b. b ≡ 0) bs → r ≡ all_zero bs
by_zeros true bs h = sym (all_zeros bs (h.0 refl))
by_zeros false bs h = unless (all_zero bs) (λ e. h.1 (zeros_all bs e))
  where
    unless : (b : Bool) → (b ≡ true → false ≡ true) → false ≡ b
    unless true f = f refl
    unless false f = refl

-- the bytes behind the jobs of a place
pub unused : (xs : List ℕ) (a : ℕ) → a ≤ 4 → drop (3 + a) (take 7 xs) ≡ take (7 - (3 + a)) (drop (3 + a) xs)
unused xs a h =
    let whole : 7 ≡ 3 + a + (7 - (3 + a)) = omega arith in
    ap (λ (m : ℕ). drop (3 + a) (take m xs)) whole ∙ drop-take (3 + a) (7 - (3 + a)) xs

module _ (n : ℕ) where
  abbrev Good : List ℕ → Type 0
  Good x = place_good n x ≡ true

  pub all_places : (k : ℕ) (xs : List ℕ) → All Good (first_chunks 8 k xs) → places_good k n xs ≡ true
  unfolding places_good each_place
  all_places zero xs h = refl
  all_places (suc k) xs h =
      and_both (place_good n (take 8 xs)) (places_good k n (drop 8 xs)) (h 0 [] (omega arith))
      (all_places k (drop 8 xs) (All-tail Good (take 8 xs) (first_chunks 8 k (drop 8 xs)) h))

  pub places_all : (k : ℕ) (xs : List ℕ) → places_good k n xs ≡ true → All Good (first_chunks 8 k xs)
  unfolding places_good each_place
  places_all zero xs h = All-nil Good
  places_all (suc k) xs h =
      All-cons Good (take 8 xs) (first_chunks 8 k (drop 8 xs)) (and_left (place_good n (take 8 xs)) (places_good k n (drop 8 xs)) h)
      (places_all k (drop 8 xs) (and_right (place_good n (take 8 xs)) (places_good k n (drop 8 xs)) h))

-- a block's places in use, and the bytes behind them
pub block_parts : (n : ℕ) (x : List ℕ) → length x ≡ 512 → rules_in_block x ≤ 63
    → let r = get_or x 1 0 in let used = take (2 + 8 * r - 2) (drop 2 x) in
    places_of_block n x ≡ (places_good (length used / 8) n used && all_zero (take (506 - (2 + 8 * r)) (drop (2 + 8 * r) x)))
unfolding places_of_block rules_in_block
block_parts n x l h =
    let r = get_or x 1 0 in
    let used = take (2 + 8 * r - 2) (drop 2 x) in
    let size : length used ≡ 8 * r = simp (length-take, length-drop) (omega arith) in
    let count : length used / 8 ≡ r = omega arith in
    let same : 2 + 8 * r - 2 ≡ 8 * r = omega arith in
    let left : 506 - (2 + 8 * r) ≡ 504 - 8 * r = omega arith in
    let places : places_good r n (drop 2 x) ≡ places_good r n used = places_local r n (drop 2 x) used (rw same (sym (take-take (8 * r) (8 * r) (drop 2 x) (omega arith)))) in
    rw (count, left, places)
