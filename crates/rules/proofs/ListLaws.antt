-- The rules of a table by their positions in the list, and what a good list says of each. Assumes nothing.
use mathlib.Core.Path.{◌≡◌, refl, sym, ap, ◌∙◌, subst}
use mathlib.Core.Bool.{Bool, true, ◌&&◌, and-eq-true_iff}
use mathlib.Core.List.Memᴰ
use mathlib.Core.List.{List, [], ◌∷◌, Memᴰ}
use mathlib.Core.Logic.{⊎_elim}
use Prim.Native.Nat.{ℕ, zero, suc, ◌+◌, ◌*◌, ◌-◌, ◌≤◌, ◌<◌}
use native.Mathlib.Nat.{sub-zero}
use native.Mathlib.Omega.{arith}
use lib.Dec.{ltb, leb}
use lib.ListN.{length, get_or, take, drop}
use lib.Seq.{drop-drop}
use borrow.Author.Tests.{ltb-true, leb-true}
use Rattle.bpa.specs.Plans.{Rule, all_below, HasRule, over}
use Rattle.rules.specs.Places.{rule_in, place_good, each_place, places_good, rules_in, rule_at, rule_count, table_of}
use Rattle.rules.specs.Lists.{GoodList, HasPlace, GoodRule}
use Rattle.rules.proofs.PlaceLaws.{byte_at, after_length}

pub length_rules_in : (k : ℕ) (xs : List ℕ) → length (rules_in k xs) ≡ k
unfolding rules_in
length_rules_in zero xs = refl
length_rules_in (suc k) xs = ap suc (length_rules_in k (drop 8 xs))

pub place_next : (xs : List ℕ) (i : ℕ) → drop (8 * i) (drop 8 xs) ≡ drop (8 * suc i) xs
place_next xs i =
    let e : 8 + 8 * i ≡ 8 * suc i = omega arith in
    drop-drop (8 * i) 8 xs ∙ ap (λ (m : ℕ). drop m xs) e

pub rule_at_drop : (xs : List ℕ) (i : ℕ) → rule_at (drop 8 xs) i ≡ rule_at xs (suc i)
unfolding rule_at
rule_at_drop xs i = ap (λ (l : List ℕ). rule_in (take 8 l)) (place_next xs i)

pub rules_in_at : (k : ℕ) (xs : List ℕ) (i : ℕ) (d : Rule) → i < k → get_or (rules_in k xs) i d ≡ rule_at xs i
unfolding rules_in rule_at
rules_in_at zero xs i d h = absurd (omega arith)
rules_in_at (suc k) xs zero d h = refl
rules_in_at (suc k) xs (suc i) d h = rules_in_at k (drop 8 xs) i d (omega arith) ∙ rule_at_drop xs i

-- THE RULES FROM A POSITION ON, for a pass over them
unfoldable pub rules_from : (rules : List ℕ) → (i : ℕ) → List Rule
rules_from rs i = rules_in (rule_count rs - i) (drop (8 * i) rs)

pub rules_from_start : (n : ℕ) (rs : List ℕ) → rules_from rs 0 ≡ (table_of n rs).rules
unfolding rules_from table_of
rules_from_start n rs = ap (λ (k : ℕ). rules_in k rs) (sub-zero (rule_count rs))

pub rules_from_cons : (rs : List ℕ) (i : ℕ) → i < rule_count rs → rules_from rs i ≡ rule_at rs i ∷ rules_from rs (suc i)
unfolding rules_from rules_in rule_at
rules_from_cons rs i h =
    let e : rule_count rs - i ≡ suc (rule_count rs - suc i) = omega arith in
    let f : 8 * i + 8 ≡ 8 * suc i = omega arith in
    ap (λ (k : ℕ). rules_in k (drop (8 * i) rs)) e
    ∙ ap (λ (l : List ℕ). rule_in (take 8 (drop (8 * i) rs)) ∷ rules_in (rule_count rs - suc i) l)
    (drop-drop 8 (8 * i) rs ∙ ap (λ (m : ℕ). drop m rs) f)

pub rules_from_end : (rs : List ℕ) (i : ℕ) → rule_count rs ≤ i → rules_from rs i ≡ []
unfolding rules_from rules_in
rules_from_end rs i h =
    let e : rule_count rs - i ≡ 0 = omega arith in
    ap (λ (k : ℕ). rules_in k (drop (8 * i) rs)) e

-- what is asked of each place of a row holds of one
pub each_at : (f : List ℕ → Bool) (k : ℕ) (xs : List ℕ) (i : ℕ) → each_place f k xs ≡ true → i < k → f (take 8 (drop (8 * i) xs)) ≡ true
unfolding each_place
each_at f zero xs i g h = absurd (omega arith)
each_at f (suc k) xs zero g h = ((and-eq-true_iff (f (take 8 xs)) (each_place f k (drop 8 xs))).0 g).0
each_at f (suc k) xs (suc i) g h =
    subst (λ (l : List ℕ). f (take 8 l) ≡ true) (place_next xs i)
    (each_at f k (drop 8 xs) i ((and-eq-true_iff (f (take 8 xs)) (each_place f k (drop 8 xs))).0 g).1 (omega arith))

pub good_place : (k n : ℕ) (xs : List ℕ) (i : ℕ) → places_good k n xs ≡ true → i < k → place_good n (take 8 (drop (8 * i) xs)) ≡ true
unfolding places_good
good_place k n xs i g h = each_at (place_good n) k xs i g h

module _ (n : ℕ) (rs : List ℕ) (good : GoodList n rs) (i : ℕ) (h : i < rule_count rs) where
  parts : ((ltb (rule_at rs i).job n ≡ true) × (leb (get_or (take 8 (drop (8 * i) rs)) 2 0) 4 ≡ true)) × (all_below n (rule_at rs i).after ≡ true)
  unfolding place_good rule_at rule_in
  parts =
      let xs = take 8 (drop (8 * i) rs) in
      let p = (and-eq-true_iff (ltb (get_or xs 0 0) n && leb (get_or xs 2 0) 4) _).0 (good_place (rule_count rs) n rs i good.places h) in
      let a = (and-eq-true_iff (ltb (get_or xs 0 0) n) (leb (get_or xs 2 0) 4)).0 p.0 in
      let b = (and-eq-true_iff (all_below n (take (get_or xs 2 0) (drop 3 xs))) _).0 p.1 in
      (a, b.0)

  pub good_has_place : HasPlace rs i
  good_has_place = record {
    inside = h;
    few = subst (λ (b : ℕ). b ≤ 4) (byte_at rs i 2 (omega arith)) (leb-true (get_or (take 8 (drop (8 * i) rs)) 2 0) 4 parts.0.1);
  }

  pub good_rule : GoodRule n (rule_at rs i)
  good_rule = record {
    job = ltb-true (rule_at rs i).job n parts.0.0;
    few = subst (λ (b : ℕ). b ≤ 4) (sym (after_length rs i good_has_place.few h)) good_has_place.few;
    after = parts.1;
  }

-- the rule of a position is one of the table's, and each of the table's has a position
pub has_rule_at : (k : ℕ) (xs : List ℕ) (i : ℕ) (r : Rule) → i < k → rule_at xs i ≡ r → Memᴰ r (rules_in k xs)
unfolding rules_in rule_at
has_rule_at zero xs i r h e = absurd (omega arith)
has_rule_at (suc k) xs zero r h e = Memᴰ.head (sym e)
has_rule_at (suc k) xs (suc i) r h e = Memᴰ.tail (has_rule_at k (drop 8 xs) i r (omega arith) (rule_at_drop xs i ∙ e))

pub position_of : (k : ℕ) (xs : List ℕ) (r : Rule) → Memᴰ r (rules_in k xs) → (i : ℕ) × (i < k) × (rule_at xs i ≡ r)
unfolding rules_in rule_at
position_of zero xs r m = absurd (Memᴰ.not-nil m)
position_of (suc k) xs r m = ⊎_elim
    (λ (e : r ≡ rule_in (take 8 xs)). (0, omega arith, sym e))
    (λ (t : Memᴰ r (rules_in k (drop 8 xs))).
    let p = position_of k (drop 8 xs) r t in
    (suc p.0, omega (arith, p.1), sym (rule_at_drop xs p.0) ∙ p.2))
    (Memᴰ.cases_cons m)

-- THE TABLE'S RULES are the rules at the positions of its list
pub rule_of : (n : ℕ) (rs : List ℕ) (i : ℕ) → i < rule_count rs →
    HasRule (table_of n rs) (rule_at rs i).job (rule_at rs i).move (rule_at rs i).after
unfolding table_of
rule_of n rs i h = has_rule_at (rule_count rs) rs i _ h refl

pub place_of_rule : (n : ℕ) (rs : List ℕ) (j a : ℕ) (w : List ℕ) → HasRule (table_of n rs) j a w →
    (i : ℕ) × (i < rule_count rs) × (rule_at rs i ≡ record { job = j; move = a; after = w })
unfolding table_of
place_of_rule n rs j a w m = position_of (rule_count rs) rs _ m

-- the rules of a good list keep to its table
pub table_closed : (n : ℕ) (rs : List ℕ) → GoodList n rs → (j a : ℕ) (w : List ℕ) → HasRule (table_of n rs) j a w → over (table_of n rs) w ≡ true
unfolding over table_of
table_closed n rs good j a w m =
    let p = place_of_rule n rs j a w m in
    subst (λ (l : List ℕ). all_below n l ≡ true) (ap (λ (r : Rule). r.after) p.2) (good_rule n rs good p.0 p.1).after
