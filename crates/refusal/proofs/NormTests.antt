-- Refusals 6 and 7 of a row of norms, by whether 0 is among them and whether all are at most 512. Assumes nothing.
use Rattle.std.proofs.Common.{◌≡◌, ℕ, ◌≤◌, List, [], ◌∷◌, Bool, true, false, refl, sym, ap, ap₂, arith, All, Contains}
use Rattle.std.proofs.lemmas.List.Elements.{All-nil, All-cons, All-head, All-tail, All-contains, Contains-append_right}
use mathlib.Core.Bool.{◌||◌, cond}
use lib.Dec.{ltb, eqb}
use borrow.Author.Tests.{ltb-false, le-ltb, eqb-true, eqb-false}
use Rattle.refusal.specs.Refusals.{any_zero, any_above, norms_refusal}

or_false : (a b : Bool) → (a || b) ≡ false → (a ≡ false) × (b ≡ false)
or_false false b e = (refl, e)
or_false true b e = cc

all_positive : (ns : List ℕ) → any_zero ns ≡ false → All (λ n. n ≡ 0 → ⊥) ns
unfolding any_zero
all_positive [] e = All-nil _
all_positive (n ∷ ns) e =
    let (a, b) = or_false (eqb n 0) (any_zero ns) e in
    All-cons (λ m. m ≡ 0 → ⊥) n ns (eqb-false n 0 a) (all_positive ns b)

all_small : (ns : List ℕ) → any_above 512 ns ≡ false → All (λ n. n ≤ 512) ns
unfolding any_above
all_small [] e = All-nil _
all_small (n ∷ ns) e =
    let (a, b) = or_false (ltb 512 n) (any_above 512 ns) e in
    All-cons (λ m. m ≤ 512) n ns (ltb-false 512 n a) (all_small ns b)

none_above : (ns : List ℕ) → All (λ n. n ≤ 512) ns → any_above 512 ns ≡ false
unfolding any_above
none_above [] h = refl
none_above (n ∷ ns) h =
    ap₂ ◌||◌ (le-ltb 512 n (All-head (λ m. m ≤ 512) n ns h)) (none_above ns (All-tail (λ m. m ≤ 512) n ns h))

by_value : (b : Bool) → (b ≡ false → ⊥) → b ≡ true
by_value true h = refl
by_value false h = absurd (h refl)

by_other : (b : Bool) → (b ≡ true → ⊥) → b ≡ false
by_other false h = refl
by_other true h = absurd (h refl)

none_zero : (ns : List ℕ) → (Contains ns 0 → ⊥) → any_zero ns ≡ false
unfolding any_zero
none_zero [] h = refl
none_zero (n ∷ ns) h =
    ap₂ ◌||◌ (by_other (eqb n 0) (λ e. h (0, omega arith, eqb-true n 0 e)))
    (none_zero ns (λ c. h (Contains-append_right (n ∷ []) ns 0 c)))

pub six : (ns : List ℕ) → Contains ns 0 → 6 ≡ norms_refusal ns
unfolding norms_refusal
six ns h =
    let zero : any_zero ns ≡ true = by_value (any_zero ns) (λ e. All-contains (λ n. n ≡ 0 → ⊥) ns 0 (all_positive ns e) h refl) in
    sym (ap (λ b. cond b 6 (cond (any_above 512 ns) 7 0)) zero)

pub seven : (ns : List ℕ) → (Contains ns 0 → ⊥) → (All (λ n. n ≤ 512) ns → ⊥) → 7 ≡ norms_refusal ns
unfolding norms_refusal
seven ns h k = sym (ap₂ (λ a b. cond a 6 (cond b 7 0)) (none_zero ns h) (by_value (any_above 512 ns) (λ e. k (all_small ns e))))

pub none : (ns : List ℕ) → (Contains ns 0 → ⊥) → All (λ n. n ≤ 512) ns → 0 ≡ norms_refusal ns
unfolding norms_refusal
none ns h k = sym (ap₂ (λ a b. cond a 6 (cond b 7 0)) (none_zero ns h) (none_above ns k))
