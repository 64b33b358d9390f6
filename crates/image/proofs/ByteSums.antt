-- A byte sum as a sum of numbers. Assumes nothing.
use Rattle.std.proofs.Common.{◌≡◌, refl, sym, ap, ◌∙◌, List, [], ◌∷◌, ℕ, ◌+◌}
use Rattle.std.specs.List.{sum}
use Rattle.std.proofs.lemmas.List.Sums.{sum_by-cons}
use Rattle.image.specs.Image.{byte_sum}

pub sum_bytes : (bs : List ℕ) → byte_sum bs ≡ sum bs
unfolding byte_sum
sum_bytes [] = refl
sum_bytes (b ∷ bs) = ap (λ (n : ℕ). b + n) (sum_bytes bs) ∙ sym (sum_by-cons (λ n. n) b bs)
