-- Two-byte numbers as parts of a list, read and written. Assumes nothing.
use mathlib.Core.Path.{◌≡◌, refl, sym, ap, ◌∙◌}
use mathlib.Core.List.{List, [], ◌∷◌, ◌++◌, Memᴰ}
use Prim.Native.Nat.{ℕ, zero, suc, ◌+◌, ◌*◌, ◌/◌, ◌%◌, ◌≤◌, ◌<◌}
use native.Mathlib.Nat.{mod-eq_of_lt, add-mul-mod_self_left}
use native.Mathlib.Omega.{arith}
use lib.ListN.{length, get_or, take, drop}
use lib.Seq.{drop-cons}
use Rattle.area.specs.Numbers.{number_at, low_first, all_low_first, numbers_in}

-- two bytes in a row are the number that is read from them
pub number_split : (l : List ℕ) (i : ℕ) → i + 2 ≤ length l → get_or l i 0 < 256 → get_or l (suc i) 0 < 256 → take 2 (drop i l) ≡ low_first (number_at i l)
unfolding low_first number_at
number_split l i room low high =
    let a = get_or l i 0 in
    let b = get_or l (suc i) 0 in
    let first : (a + 256 * b) % 256 ≡ a = add-mul-mod_self_left a 256 b ∙ mod-eq_of_lt low in
    let quotient : (a + 256 * b) / 256 ≡ b = omega arith in
    let second : (a + 256 * b) / 256 % 256 ≡ b = ap (λ q. q % 256) quotient ∙ mod-eq_of_lt high in
    ap (take 2) (drop-cons l i 0 (omega arith) ∙ ap (λ r. a ∷ r) (drop-cons l (suc i) 0 (omega arith)))
    ∙ ap (λ x. x ∷ b ∷ []) (sym first) ∙ ap (λ y. ((a + 256 * b) % 256) ∷ y ∷ []) (sym second)

-- a number that is written somewhere is read there
number_head : (v : ℕ) (q : List ℕ) → v < 65536 → number_at 0 (low_first v ++ q) ≡ v
unfolding low_first number_at
number_head v q h = omega arith

pub number_there : (p : List ℕ) (v : ℕ) (q : List ℕ) (i : ℕ) → length p ≡ i → v < 65536 → number_at i (p ++ low_first v ++ q) ≡ v
unfolding number_at
number_there [] v q zero e h = number_head v q h
number_there [] v q (suc i) e h = absurd (omega arith)
number_there (x ∷ p) v q zero e h = absurd (omega arith)
number_there (x ∷ p) v q (suc i) e h = number_there p v q i (omega arith) h

-- numbers in a row: one row behind another, the bytes that they need, and back
pub all_append : (us vs : List ℕ) → all_low_first (us ++ vs) ≡ all_low_first us ++ all_low_first vs
unfolding all_low_first low_first
all_append [] vs = refl
all_append (u ∷ us) vs = ap (λ l. (u % 256) ∷ (u / 256 % 256) ∷ l) (all_append us vs)

pub all_length : (vs : List ℕ) → length (all_low_first vs) ≡ 2 * length vs
unfolding all_low_first low_first
all_length [] = refl
all_length (v ∷ vs) = let h = all_length vs in omega arith

pub numbers_back : (vs : List ℕ) → ((v : ℕ) → Memᴰ v vs → v < 65536) → numbers_in (all_low_first vs) ≡ vs
unfolding all_low_first low_first numbers_in
numbers_back [] small = refl
numbers_back (v ∷ vs) small =
    let here = small v (Memᴰ.head refl) in
    let e : v % 256 + 256 * (v / 256 % 256) ≡ v = omega arith in
    (λ i. e i ∷ numbers_back vs (λ u m. small u (Memᴰ.tail m)) i)
