-- PLACES THAT ARE CHANGED, each by itself, one after the other: a change that keeps eight bytes keeps the others where they are, and what it does to one
-- place and its rule it does to all. Assumes nothing.
use mathlib.Core.Path.{◌≡◌, refl, sym, ap, ap₂, ◌∙◌}
use mathlib.Core.Bool.{Bool, true}
use mathlib.Core.List.{List, [], ◌∷◌, ◌++◌, map, append_assoc, append-nil}
use Prim.Native.Nat.{ℕ, zero, suc, ◌+◌, ◌*◌, ◌-◌, ◌≤◌}
use native.Mathlib.Omega.{arith}
use borrow.Rule.Slice.PartMut.{put_mid, post_of}
use lib.ListN.{length, take, drop, length-append, length-drop}
use lib.Seq.{length-take-le, take_at, drop_at, drop-drop}
use Rattle.bpa.specs.Plans.{Rule}
use Rattle.bpa.proofs.Basics.Cases.{and_left, and_right, and_both}
use Rattle.rules.specs.Places.{rule_in, each_place, rules_in, changed_places}
use Rattle.rules.proofs.ListLaws.{place_next}

-- a place has eight bytes
pub data Place : List ℕ → Type 0 where
  eight : (a b c d e f g h : ℕ) → Place (a ∷ b ∷ c ∷ d ∷ e ∷ f ∷ g ∷ h ∷ [])

pub place_of_eight : (xs : List ℕ) → length xs ≡ 8 → Place xs
place_of_eight [] l = absurd (omega arith)
place_of_eight (a ∷ []) l = absurd (omega arith)
place_of_eight (a ∷ b ∷ []) l = absurd (omega arith)
place_of_eight (a ∷ b ∷ c ∷ []) l = absurd (omega arith)
place_of_eight (a ∷ b ∷ c ∷ d ∷ []) l = absurd (omega arith)
place_of_eight (a ∷ b ∷ c ∷ d ∷ e ∷ []) l = absurd (omega arith)
place_of_eight (a ∷ b ∷ c ∷ d ∷ e ∷ f ∷ []) l = absurd (omega arith)
place_of_eight (a ∷ b ∷ c ∷ d ∷ e ∷ f ∷ g ∷ []) l = absurd (omega arith)
place_of_eight (a ∷ b ∷ c ∷ d ∷ e ∷ f ∷ g ∷ h ∷ []) l = eight a b c d e f g h
place_of_eight (a ∷ b ∷ c ∷ d ∷ e ∷ f ∷ g ∷ h ∷ i ∷ xs) l = absurd (omega arith)

-- one place more
pub changed_more : (f : List ℕ → List ℕ) (k : ℕ) (xs : List ℕ) →
    changed_places f (suc k) xs ≡ changed_places f k xs ++ f (take 8 (drop (8 * k) xs))
unfolding changed_places
changed_more f zero xs = append-nil _
changed_more f (suc k) xs =
    ap (λ (l : List ℕ). f (take 8 xs) ++ l)
    (changed_more f k (drop 8 xs) ∙ ap (λ (l : List ℕ). changed_places f k (drop 8 xs) ++ f (take 8 l)) (place_next xs k))
    ∙ sym (append_assoc (f (take 8 xs)) (changed_places f k (drop 8 xs)) (f (take 8 (drop (8 * suc k) xs))))

-- nothing is asked of places
pub each_any : (k : ℕ) (xs : List ℕ) → each_place (λ y. true) k xs ≡ true
unfolding each_place
each_any zero xs = refl
each_any (suc k) xs = each_any k (drop 8 xs)

-- f makes eight bytes of each place of which `ok` holds
module _ (f : List ℕ → List ℕ) (ok : List ℕ → Bool) (size : (y : List ℕ) → length y ≡ 8 → ok y ≡ true → length (f y) ≡ 8) where
  -- the first of so many places
  module _ (k : ℕ) (xs : List ℕ) (room : 8 * suc k ≤ length xs) (good : each_place ok (suc k) xs ≡ true) where
    whole_place : length (take 8 xs) ≡ 8
    whole_place = length-take-le 8 xs (omega arith)

    here : ok (take 8 xs) ≡ true
    unfolding each_place
    here = and_left (ok (take 8 xs)) (each_place ok k (drop 8 xs)) good

    later : each_place ok k (drop 8 xs) ≡ true
    unfolding each_place
    later = and_right (ok (take 8 xs)) (each_place ok k (drop 8 xs)) good

    later_room : 8 * k ≤ length (drop 8 xs)
    later_room = omega (arith, length-drop 8 xs)

    first : take 8 (changed_places f (suc k) xs) ≡ f (take 8 xs)
    unfolding changed_places
    first = take_at (f (take 8 xs)) (changed_places f k (drop 8 xs)) 8 (size (take 8 xs) whole_place here)

    rest : drop 8 (changed_places f (suc k) xs) ≡ changed_places f k (drop 8 xs)
    unfolding changed_places
    rest = drop_at (f (take 8 xs)) (changed_places f k (drop 8 xs)) 8 (size (take 8 xs) whole_place here)

  pub changed_length : (k : ℕ) (xs : List ℕ) → 8 * k ≤ length xs → each_place ok k xs ≡ true → length (changed_places f k xs) ≡ 8 * k
  unfolding changed_places
  changed_length zero xs room good = refl
  changed_length (suc k) xs room good =
      length-append (f (take 8 xs)) (changed_places f k (drop 8 xs))
      ∙ omega (
        arith,
        size (take 8 xs) (whole_place k xs room good) (here k xs room good),
        changed_length k (drop 8 xs) (later_room k xs room good) (later k xs room good),
      )

  -- WHAT HOLDS OF EACH PLACE THAT IS CHANGED holds of all
  pub changed_each : (check : List ℕ → Bool) → ((y : List ℕ) → length y ≡ 8 → ok y ≡ true → check (f y) ≡ true) →
      (k : ℕ) (xs : List ℕ) → 8 * k ≤ length xs → each_place ok k xs ≡ true → each_place check k (changed_places f k xs) ≡ true
  unfolding each_place
  changed_each check h zero xs room good = refl
  changed_each check h (suc k) xs room good =
      and_both (check (take 8 (changed_places f (suc k) xs))) (each_place check k (drop 8 (changed_places f (suc k) xs)))
      (ap check (first k xs room good) ∙ h (take 8 xs) (whole_place k xs room good) (here k xs room good))
      (ap (each_place check k) (rest k xs room good) ∙ changed_each check h k (drop 8 xs) (later_room k xs room good) (later k xs room good))

  -- AND THE RULES are changed as the rule of each place is
  pub changed_rules : (g : Rule → Rule) → ((y : List ℕ) → length y ≡ 8 → ok y ≡ true → rule_in (f y) ≡ g (rule_in y)) →
      (k : ℕ) (xs : List ℕ) → 8 * k ≤ length xs → each_place ok k xs ≡ true → rules_in k (changed_places f k xs) ≡ map g (rules_in k xs)
  unfolding rules_in
  changed_rules g h zero xs room good = refl
  changed_rules g h (suc k) xs room good =
      ap₂ (λ (a b : List ℕ). rule_in a ∷ rules_in k b) (first k xs room good) (rest k xs room good)
      ∙ ap₂ (λ (a : Rule) (b : List Rule). a ∷ b) (h (take 8 xs) (whole_place k xs room good) (here k xs room good))
      (changed_rules g h k (drop 8 xs) (later_room k xs room good) (later k xs room good))

  -- A PASS OVER THE PLACES of a row: those that were passed are changed, the others are as they were
  abbrev pub passed : (i : ℕ) → (row : List ℕ) → List ℕ
  passed i rs = changed_places f i rs ++ drop (8 * i) rs

  module _ (i : ℕ) (rs xs : List ℕ) (room : 8 * i ≤ length rs) (good : each_place ok i rs ≡ true) (e : xs ≡ passed i rs) where
    many : length (changed_places f i rs) ≡ 8 * i
    many = changed_length i rs room good

    pub passed_length : length xs ≡ length rs
    passed_length = ap length e ∙ length-append (changed_places f i rs) (drop (8 * i) rs) ∙ omega (arith, many, length-drop (8 * i) rs)

    left : drop (8 * i) xs ≡ drop (8 * i) rs
    left = ap (drop (8 * i)) e ∙ drop_at (changed_places f i rs) (drop (8 * i) rs) (8 * i) many

    pub next_place : take (8 * i + 8 - 8 * i) (drop (8 * i) xs) ≡ take 8 (drop (8 * i) rs)
    next_place = let n : 8 * i + 8 - 8 * i ≡ 8 = omega arith in ap₂ (λ (m : ℕ) (l : List ℕ). take m l) n left

    pub next_passed : (new : List ℕ) → new ≡ f (take 8 (drop (8 * i) rs)) → put_mid (8 * i) (8 * i + 8 - 8 * i) xs new ≡ passed (i + 1) rs
    next_passed new d =
        let n : 8 * i + 8 - 8 * i ≡ 8 = omega arith in
        let m : 8 * i + 8 ≡ 8 * (i + 1) = omega arith in
        let next : suc i ≡ i + 1 = omega arith in
        let behind : post_of (8 * i) (8 * i + 8 - 8 * i) xs ≡ drop (8 * (i + 1)) rs =
        ap₂ (λ (j : ℕ) (l : List ℕ). drop j l) n left ∙ drop-drop 8 (8 * i) rs ∙ ap (λ (j : ℕ). drop j rs) m in
        let front : take (8 * i) xs ≡ changed_places f i rs = ap (take (8 * i)) e ∙ take_at (changed_places f i rs) (drop (8 * i) rs) (8 * i) many in
        (λ j. front j ++ (d j ++ behind j))
        ∙ sym (append_assoc (changed_places f i rs) (f (take 8 (drop (8 * i) rs))) (drop (8 * (i + 1)) rs))
        ∙ ap (λ (l : List ℕ). l ++ drop (8 * (i + 1)) rs) (sym (changed_more f i rs) ∙ ap (λ (k : ℕ). changed_places f k rs) next)
