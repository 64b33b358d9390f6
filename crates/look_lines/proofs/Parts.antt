-- The parts of planlook's lines as they are put together. Assumes nothing.
use mathlib.Core.Path.{◌≡◌, refl, sym, ap, ◌∙◌}
use mathlib.Core.List.{List, [], ◌∷◌, ◌++◌, append_assoc, append-nil}
use Prim.Native.Nat.{ℕ, zero, suc, ◌+◌, ◌<◌}
use native.Mathlib.Numerals.{add-one}
use native.Mathlib.Omega.{arith}
use lib.ListN.{length, take, get_or, length-append}
use lib.Seq.{take-suc}
use Rattle.look_lines.specs.Numbers.{number}
use Rattle.look_lines.specs.Lines.{field, jobs_text, verdict}

pub field_length : (w : List ℕ) (n : ℕ) → length (field w n) ≡ length w + length (number n)
unfolding field
field_length w n = length-append w (number n)

one_more : (xs : List ℕ) (j : ℕ) → jobs_text (xs ++ (j ∷ [])) ≡ jobs_text xs ++ field (32 ∷ []) j
unfolding jobs_text
one_more [] j = append-nil (field (32 ∷ []) j)
one_more (x ∷ xs) j =
    ap (λ (l : List ℕ). field (32 ∷ []) x ++ l) (one_more xs j)
    ∙ sym (append_assoc (field (32 ∷ []) x) (jobs_text xs) (field (32 ∷ []) j))

-- one job more
pub next_job : (xs : List ℕ) (i : ℕ) → i < length xs → jobs_text (take i xs) ++ field (32 ∷ []) (get_or xs i 0) ≡ jobs_text (take (i + 1) xs)
next_job xs i h = sym (ap jobs_text (ap (λ (k : ℕ). take k xs) (add-one i) ∙ take-suc xs i 0 h) ∙ one_more (take i xs) (get_or xs i 0))

pub verdict_refused : (n v : ℕ) → (n ≡ 0 → ⊥) →
    field (32 ∷ 114 ∷ 101 ∷ 102 ∷ 117 ∷ 115 ∷ 101 ∷ 100 ∷ 32 ∷ []) n ++ (10 ∷ []) ≡ verdict n v
unfolding verdict
verdict_refused zero v h = absurd (h refl)
verdict_refused (suc n) v h = refl

pub verdict_same : (n v : ℕ) → n ≡ 0 → (v ≡ 0 → ⊥) → 32 ∷ 115 ∷ 97 ∷ 109 ∷ 101 ∷ 10 ∷ [] ≡ verdict n v
unfolding verdict
verdict_same zero zero e h = absurd (h refl)
verdict_same zero (suc v) e h = refl
verdict_same (suc n) v e h = absurd (omega arith)

pub verdict_apart : (n v : ℕ) → n ≡ 0 → v ≡ 0 → 32 ∷ 97 ∷ 112 ∷ 97 ∷ 114 ∷ 116 ∷ 10 ∷ [] ≡ verdict n v
unfolding verdict
verdict_apart zero zero e h = refl
verdict_apart zero (suc v) e h = absurd (omega arith)
verdict_apart (suc n) v e h = absurd (omega arith)
