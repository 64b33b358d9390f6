-- `area::put_zeros` meets its contract. Assumes nothing.
use Rattle.std.proofs.Common.{◌≡◌, ◌∙◌, ap, ℕ, List, ◌-◌, ◌++◌, length, take, drop, replicate, length-drop, arith, rules}
use Rattle.std.proofs.lemmas.List.{length-take, length-replicate}
use Rattle.area.proofs.Puts.{put_part}
use Rattle.area.proofs.put_zeros.Goals as goal

pub returns : goal.returns
returns c =
    let from = c.args.from in
    let to = c.args.to in
    let area = c.args.area.now in
    let zeros = replicate {A = ℕ} (to - from) 0 in
    let many : length zeros ≡ to - from = length-replicate (to - from) 0 in
    let room : length (take (to - from) (drop from area)) ≡ to - from = simp (length-take, length-drop) (omega arith) in
    let filled : c.fill.new.self ≡ replicate {A = ℕ} (length (take (to - from) (drop from area))) 0 = search rules in
    let same : c.fill.new.self ≡ zeros = filled ∙ ap (λ (n : ℕ). replicate n 0) room in
    ap (λ (l : List ℕ). take from area ++ (l ++ drop (to - from) (drop from area))) same
    ∙ put_part from zeros area (omega arith) to (omega arith)
