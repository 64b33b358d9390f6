-- The moves of a log by their places in its bytes, and what a move counts as, looked up pair by pair. Assumes nothing.
use mathlib.Core.Path.{◌≡◌, refl, sym, ap, ◌∙◌}
use mathlib.Core.Bool.{true, false, cond}
use mathlib.Core.List.{List, [], ◌∷◌, ◌++◌, map}
use Prim.Native.Nat.{ℕ, zero, suc, ◌+◌, ◌*◌, ◌/◌, ◌%◌, ◌≤◌, ◌<◌}
use native.Mathlib.Numerals.{add-one}
use native.Mathlib.Omega.{arith}
use lib.Dec.{ltb, eqb}
use lib.ListN.{length, get_or, take, set, replicate, length-set, length-replicate, length-map}
use lib.Seq.{take-suc, take_all, take-suc-set}
use borrow.Author.Tests.{ltb-true, ltb-false, lt-ltb, le-ltb}
use Rattle.area.specs.Numbers.{number_at, numbers_in}
use Rattle.bpa.proofs.Basics.Cases.{by_test, or_right}
use Rattle.alike.specs.Alike.{replace}
use Rattle.alike_list.specs.AlikeLists.{pairs_in, pair_count, alike_pairs}
use Rattle.log_moves.specs.Logs.{log_moves, counted_log, log_refusal, HoldsLog}

-- THE MOVES: as many as two bytes each, and each at its place
length_moves : (bs : List ℕ) → length (numbers_in bs) ≡ length bs / 2
unfolding numbers_in
length_moves [] = refl
length_moves (x ∷ []) = refl
length_moves (x ∷ y ∷ bs) = let h = length_moves bs in omega arith

module _ (f : ℕ → ℕ) where
  mapped_at : (bs : List ℕ) (k : ℕ) → k < length bs / 2 → get_or (map f (numbers_in bs)) k 0 ≡ f (number_at (2 * k) bs)
  unfolding numbers_in number_at
  mapped_at [] k h = absurd (omega arith)
  mapped_at (x ∷ []) k h = absurd (omega arith)
  mapped_at (x ∷ y ∷ bs) zero h = refl
  mapped_at (x ∷ y ∷ bs) (suc k) h =
      let e : 2 * suc k ≡ suc (suc (2 * k)) = omega arith in
      mapped_at bs k (omega arith) ∙ ap (λ (n : ℕ). f (get_or (x ∷ y ∷ bs) n 0 + 256 * get_or (x ∷ y ∷ bs) (suc n) 0)) (sym e)

module _ (ls bs : List ℕ) where
  pub length_counted : length (counted_log ls bs) ≡ length bs / 2
  unfolding counted_log log_moves
  length_counted = length-map (numbers_in bs) (replace (alike_pairs ls)) ∙ length_moves bs

  counted_at : (k : ℕ) → k < length bs / 2 → get_or (counted_log ls bs) k 0 ≡ replace (alike_pairs ls) (number_at (2 * k) bs)
  unfolding counted_log log_moves
  counted_at k h = mapped_at (replace (alike_pairs ls)) bs k h

  -- THE ARRAY filled move by move
  pub record Counted (array : List ℕ) (k : ℕ) : Type 0 where
    pub size : length array ≡ 128
    pub inside : k ≤ length bs / 2
    pub moves : take k array ≡ take k (counted_log ls bs)

  pub counted_none : Counted (replicate {A = ℕ} 128 0) 0
  counted_none = record { size = length-replicate {A = ℕ} 128 0; inside = omega arith; moves = refl }

  pub counted_more : (a : List ℕ) (k v : ℕ) → length bs ≤ 256 → k < length bs / 2 → v ≡ replace (alike_pairs ls) (number_at (2 * k) bs) →
      Counted a k → Counted (set a k v) (k + 1)
  counted_more a k v few h e c = record {
    size = length-set a k v ∙ c.size;
    inside = omega arith;
    moves = ap (λ (n : ℕ). take n (set a k v)) (add-one k) ∙ take-suc-set a k v (omega (arith, c.size))
        ∙ (λ i. c.moves i ++ ((e ∙ sym (counted_at k h)) i ∷ []))
        ∙ sym (take-suc (counted_log ls bs) k 0 (omega (arith, length_counted))) ∙ ap (λ (n : ℕ). take n (counted_log ls bs)) (sym (add-one k));
  }

  pub counted_all : (a : List ℕ) (k : ℕ) → length bs / 2 ≤ k → Counted a k → HoldsLog ls bs a
  counted_all a k h c =
      let e : length bs / 2 ≡ k = omega (arith, c.inside) in
      record {
        size = c.size;
        moves = ap (λ (n : ℕ). take n a) e ∙ c.moves ∙ take_all k (counted_log ls bs) (omega (arith, length_counted));
      }

-- WHAT A MOVE COUNTS AS: by the pair at the front of a list and the others, and by a list without a whole pair
pub counts_next : (ls xs ys : List ℕ) (a : ℕ) → ls ≡ xs ++ ys → length xs ≡ 4 →
    replace (alike_pairs ls) a ≡ cond (eqb (number_at 0 xs) a) (number_at 2 xs) (replace (alike_pairs ys) a)
unfolding alike_pairs pairs_in pair_count replace number_at
counts_next ls (w ∷ x ∷ y ∷ z ∷ []) ys a e h =
    let more : length (w ∷ x ∷ y ∷ z ∷ ys) / 4 ≡ suc (length ys / 4) = omega arith in
    ap (λ (l : List ℕ). replace (alike_pairs l) a) e ∙ ap (λ (n : ℕ). replace (pairs_in n (w ∷ x ∷ y ∷ z ∷ ys)) a) more
counts_next ls [] ys a e h = absurd (omega arith)
counts_next ls (w ∷ []) ys a e h = absurd (omega arith)
counts_next ls (w ∷ x ∷ []) ys a e h = absurd (omega arith)
counts_next ls (w ∷ x ∷ y ∷ []) ys a e h = absurd (omega arith)
counts_next ls (v ∷ w ∷ x ∷ y ∷ z ∷ xs) ys a e h = absurd (omega arith)

pub counts_itself : (ls : List ℕ) (a : ℕ) → length ls < 4 → replace (alike_pairs ls) a ≡ a
unfolding alike_pairs pairs_in pair_count replace
counts_itself ls a h =
    let none : length ls / 4 ≡ 0 = omega arith in
    ap (λ (n : ℕ). replace (pairs_in n ls) a) none

-- REFUSAL 11
module _ (bs : List ℕ) where
  pub too_many : 128 < length bs / 2 → log_refusal bs ≡ 11
  unfolding log_refusal
  too_many h = rw (lt-ltb 128 (length bs / 2) h)

  pub half_a_move : ltb 0 (length bs % 2) ≡ true → log_refusal bs ≡ 11
  unfolding log_refusal
  half_a_move h = rw (or_right (ltb 128 (length bs / 2)) (ltb 0 (length bs % 2)) h)

  pub whole_log : length bs / 2 ≤ 128 → ltb 0 (length bs % 2) ≡ false → log_refusal bs ≡ 0
  unfolding log_refusal
  whole_log h k = rw (le-ltb 128 (length bs / 2) h, k)

  pub log_short : log_refusal bs ≡ 0 → length bs ≤ 256
  unfolding log_refusal
  log_short z =
      by_test (ltb 128 (length bs / 2))
      (λ e. absurd (omega (arith, too_many (ltb-true 128 (length bs / 2) e), z)))
      (λ e.
      by_test (ltb 0 (length bs % 2))
      (λ f. absurd (omega (arith, half_a_move f, z)))
      (λ f. omega (arith, ltb-false 128 (length bs / 2) e, ltb-false 0 (length bs % 2) f)))
