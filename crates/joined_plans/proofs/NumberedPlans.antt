-- A plan that is numbered on: it stands at the front of the array that it is put into, and its jobs are the joined table's. Assumes nothing.
use Rattle.std.proofs.Common.{◌≡◌, ℕ, ◌+◌, ◌-◌, List, true, ◌≤◌, length, take, replicate, sym, ap, ap₂, ◌∙◌, arith}
use Rattle.area.specs.Areas.{put}
use Rattle.area.proofs.Puts.{put_up_to}
use Rattle.bpa.specs.Plans.{all_below}
use Rattle.joined.specs.Joined.{renumbered}
use Rattle.joined.proofs.RenumberedPlans.{renumbered_length, renumbered_below}

pub stands : (n : ℕ) (q out : List ℕ) → length q ≤ 4096 → out ≡ put 0 (renumbered n q) (replicate 4096 0) → take (length q) out ≡ renumbered n q
stands n q out l e =
    let at : length q ≡ 0 + length (renumbered n q) = omega (arith, renumbered_length n q) in
    ap₂ (λ (k : ℕ) (l : List ℕ). take k l) at e ∙ put_up_to 0 (renumbered n q) (replicate 4096 0) (omega (arith, renumbered_length n q))

pub numbered_below : (n m : ℕ) (q : List ℕ) → n ≤ m → all_below (m - n) q ≡ true → all_below m (renumbered n q) ≡ true
numbered_below n m q h b =
    let all : n + (m - n) ≡ m = omega (arith, h) in
    ap (λ (k : ℕ). all_below k (renumbered n q)) (sym all) ∙ renumbered_below n (m - n) q ∙ b
