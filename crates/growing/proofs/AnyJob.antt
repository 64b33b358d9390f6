-- Whether one of the numbers below 24 has two properties, by a search through them; and a test as a number. Assumes nothing.
use Rattle.std.proofs.Common.{◌≡◌, ℕ, ◌<◌, Bool, true, false, cond, get_or, refl, sym, subst, arith}
use Rattle.std.proofs.lemmas.Bool.{false≢true}
use Rattle.std.proofs.lemmas.List.FromFn.{get_or-range_with_len}
use Rattle.std.specs.Bool.{MatchBool}
use Rattle.std.specs.List.{range_with_len, HoldsAt, AllWithin}
use mathlib.Core.Logic.{◌↔◌}
use mir.Val.{bool_byte}

place : (k : ℕ) → k < 24 → get_or (range_with_len 0 24) k 0 ≡ k
place k h = let e = get_or-range_with_len 0 24 k 0 h in omega (arith, e)

pub any_below : (r : Bool) (P Q : ℕ → Type 0) → ((j : ℕ) → P j → j < 24) →
    MatchBool r ((k : ℕ) × (k < 24) × HoldsAt (λ j. P j × Q j) (range_with_len 0 24) k) (AllWithin (λ j. P j × Q j → ⊥) (range_with_len 0 24) 0 24) →
    (r ≡ true) ↔ ((j : ℕ) × P j × Q j)
any_below true P Q below (k, h, at) = let (p, q) = at 0 in ((λ e. (get_or (range_with_len 0 24) k 0, p, q)), (λ w. refl))
any_below false P Q below none = (
  (λ e. absurd (false≢true e)),
  (λ w.
      let (j, p, q) = w in
      absurd (none j 0 (omega arith) (below j p) (subst (λ (n : ℕ). P n × Q n) (sym (place j (below j p))) (p, q)))),
)

-- a test as a number
pub test_number : (b : Bool) → bool_byte b ≡ cond b 1 0
test_number true = refl
test_number false = refl
