-- The places that the old format took are the good ones whose byte 7 is zero, and their rules are those of today. Assumes nothing.
use mathlib.Core.Path.{◌≡◌, refl, sym, ap, ap₂, ◌∙◌}
use mathlib.Core.Bool.{Bool, true, false, ◌&&◌, and_assoc, and_comm, true≢false}
use mathlib.Core.List.{List, [], ◌∷◌}
use Prim.Native.Nat.{ℕ, zero, suc, ◌+◌, ◌*◌, ◌≤◌, ◌<◌}
use native.Mathlib.Omega.{arith}
use lib.Dec.{ltb, leb, eqb}
use lib.ListN.{get_or, take, drop}
use borrow.Author.Tests.{leb-true, eqb-true, eq-eqb}
use Rattle.bpa.specs.Plans.{all_below}
use Rattle.bpa.proofs.Basics.Cases.{and_left, and_right, and_both}
use Rattle.rules.specs.Places.{all_zero, move_in, rule_in, place_good, each_place, rules_in}
use Rattle.rules.proofs.ListLaws.{place_next}
use Rattle.old_format.specs.OldFormat.{old_rule_in, old_rules_in, old_place_good}

-- zeros up to one byte more
zeros_front : (n : ℕ) (xs : List ℕ) → all_zero (take (suc n) xs) ≡ (all_zero (take n xs) && eqb (get_or xs n 0) 0)
unfolding all_zero
zeros_front zero [] = sym (eq-eqb 0 0 refl)
zeros_front zero (x ∷ xs) = and_comm (eqb x 0) true
zeros_front (suc n) [] = sym (eq-eqb 0 0 refl)
zeros_front (suc n) (x ∷ xs) = ap (λ (b : Bool). eqb x 0 && b) (zeros_front n xs) ∙ sym (and_assoc (eqb x 0) (all_zero (take n xs)) (eqb (get_or xs n 0) 0))

zeros_more : (m n : ℕ) (xs : List ℕ) → m ≤ n → all_zero (drop m (take (suc n) xs)) ≡ (all_zero (drop m (take n xs)) && eqb (get_or xs n 0) 0)
unfolding all_zero
zeros_more zero n xs h = zeros_front n xs
zeros_more (suc m) zero xs h = absurd (omega arith)
zeros_more (suc m) (suc n) [] h = sym (eq-eqb 0 0 refl)
zeros_more (suc m) (suc n) (x ∷ xs) h = zeros_more m n xs (omega arith)

-- one test more at the end of a row of tests
one_more : (l k a z z' s : Bool) → (k ≡ true → z ≡ (z' && s)) → ((l && k) && (a && z)) ≡ (((l && k) && (a && z')) && s)
one_more false k a z z' s h = refl
one_more true false a z z' s h = refl
one_more true true a z z' s h = ap (λ (b : Bool). a && b) (h refl) ∙ sym (and_assoc a z' s)

-- THE OLD CHECK of a place is today's, and that byte 7 is zero
old_place : (n : ℕ) (xs : List ℕ) → old_place_good n xs ≡ (place_good n xs && eqb (get_or xs 7 0) 0)
unfolding old_place_good place_good
old_place n xs =
    let c = get_or xs 2 0 in
    one_more (ltb (get_or xs 0 0) n) (leb c 4) (all_below n (take c (drop 3 xs))) (all_zero (drop (3 + c) (take 8 xs)))
    (all_zero (drop (3 + c) (take 7 xs))) (eqb (get_or xs 7 0) 0)
    (λ e. zeros_more (3 + c) 7 xs (let few = leb-true c 4 e in omega arith))

module _ (n : ℕ) (xs : List ℕ) (h : old_place_good n xs ≡ true) where
  both : (place_good n xs && eqb (get_or xs 7 0) 0) ≡ true
  both = sym (old_place n xs) ∙ h

  pub old_is_good : place_good n xs ≡ true
  old_is_good = and_left (place_good n xs) (eqb (get_or xs 7 0) 0) both

  pub high_zero : get_or xs 7 0 ≡ 0
  high_zero = eqb-true (get_or xs 7 0) 0 (and_right (place_good n xs) (eqb (get_or xs 7 0) 0) both)

  same_rule : rule_in xs ≡ old_rule_in xs
  unfolding rule_in old_rule_in move_in
  same_rule =
      let e : get_or xs 1 0 + 256 * get_or xs 7 0 ≡ get_or xs 1 0 = omega (arith, high_zero) in
      ap (λ (m : ℕ). record { job = get_or xs 0 0; move = m; after = take (get_or xs 2 0) (drop 3 xs) }) e

-- a good place that the old check refuses has a byte 7 that is not zero, and one that has is refused
pub high_there : (n : ℕ) (xs : List ℕ) → place_good n xs ≡ true → old_place_good n xs ≡ false → 0 < get_or xs 7 0
high_there n xs g h =
    let none : get_or xs 7 0 ≡ 0 → ⊥ =
    λ e. true≢false (sym (old_place n xs ∙ and_both (place_good n xs) (eqb (get_or xs 7 0) 0) g (eq-eqb (get_or xs 7 0) 0 e)) ∙ h) in
    omega arith

pub high_refused : (n : ℕ) (xs : List ℕ) → 0 < get_or xs 7 0 → old_place_good n xs ≡ true → ⊥
high_refused n xs h o = omega (arith, high_zero n xs o)

-- places in a row
pub old_rows_good : (n k : ℕ) (xs : List ℕ) → each_place (old_place_good n) k xs ≡ true → each_place (place_good n) k xs ≡ true
unfolding each_place
old_rows_good n zero xs h = refl
old_rows_good n (suc k) xs h =
    let first = old_place_good n (take 8 xs) in
    let later = each_place (old_place_good n) k (drop 8 xs) in
    and_both (place_good n (take 8 xs)) (each_place (place_good n) k (drop 8 xs))
    (old_is_good n (take 8 xs) (and_left first later h)) (old_rows_good n k (drop 8 xs) (and_right first later h))

pub same_rules : (n k : ℕ) (xs : List ℕ) → each_place (old_place_good n) k xs ≡ true → rules_in k xs ≡ old_rules_in k xs
unfolding each_place rules_in old_rules_in
same_rules n zero xs h = refl
same_rules n (suc k) xs h =
    let first = old_place_good n (take 8 xs) in
    let later = each_place (old_place_good n) k (drop 8 xs) in
    ap₂ ◌∷◌ (same_rule n (take 8 xs) (and_left first later h)) (same_rules n k (drop 8 xs) (and_right first later h))

-- a row in which some place fails, and the place
pub fails_somewhere : (f : List ℕ → Bool) (k : ℕ) (xs : List ℕ) → each_place f k xs ≡ false → (i : ℕ) × (i < k) × (f (take 8 (drop (8 * i) xs)) ≡ false)
unfolding each_place
fails_somewhere f zero xs h = absurd (true≢false h)
fails_somewhere f (suc k) xs h = go (f (take 8 xs)) refl (λ d. fails_somewhere f k (drop 8 xs) d)
  where
    go : (b : Bool) → f (take 8 xs) ≡ b →
        (each_place f k (drop 8 xs) ≡ false → (i : ℕ) × (i < k) × (f (take 8 (drop (8 * i) (drop 8 xs))) ≡ false)) →
        (i : ℕ) × (i < suc k) × (f (take 8 (drop (8 * i) xs)) ≡ false)
    go false e later = (0, omega arith, e)
    go true e later =
        let (i, l, d) = later (sym (ap (λ (b : Bool). b && each_place f k (drop 8 xs)) e) ∙ h) in
        (suc i, omega arith, ap (λ (l : List ℕ). f (take 8 l)) (sym (place_next xs i)) ∙ d)
