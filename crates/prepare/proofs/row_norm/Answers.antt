-- `row_norm` meets its contract: the norm of a row of so few jobs is small. Assumes nothing.
use Rattle.std.proofs.Common.{List, [], ◌∷◌, ℕ, suc, ◌*◌, ◌≤◌, ◌<◌, length, get_or, arith}
use Rattle.bpa.specs.Norms.{sum_of}
use Rattle.prepare.proofs.row_norm.Goals as goal

sum_most : (ns row : List ℕ) → ((i : ℕ) → i < length row → get_or ns (get_or row i 0) 0 ≤ 512) → sum_of ns row ≤ 512 * length row
unfolding sum_of
sum_most ns [] h = omega arith
sum_most ns (j ∷ js) h = omega (arith, h 0 (omega arith), sum_most ns js (λ i l. h (suc i) (omega arith)))

pub returns : goal.returns
returns c =
    let small = sum_most c.args.norms.now c.args.row.now c.requires.most in
    record { is = omega (arith, small, c.requires.few, c.capped_sum.ensures); small = omega (arith, small, c.requires.few, c.capped_sum.ensures) }
