-- A row put into an area together with what stands behind it: up to its own end it is the row. Assumes nothing.
use Rattle.std.proofs.Common.{◌≡◌, ◌∙◌, ◌+◌, ◌≤◌, ◌++◌, ℕ, List, arith, ap, ap₂, length, take, drop, length-take, length-drop, length-take-le}
use Rattle.std.proofs.Math.Seq.{take-add}
use Rattle.std.proofs.lemmas.List.{take_at, drop_at, take-take, take-append-le}
use borrow.Rule.Slice.PartMut.{put_mid}

-- n bytes are put, and the row is the first `len` of them
pub row_front : (rows out new : List ℕ) (start len n at k : ℕ) → new ≡ take n (drop start rows) → len ≤ n → start + n ≤ length rows → at ≤ length out →
    take (at + len) (put_mid at k out new) ≡ take at out ++ take len (drop start rows)
row_front rows out new start len n at k e h l m =
    let front = take at out in
    let rest : List ℕ = new ++ drop k (drop at out) in
    let room = length-take-le at out m in
    let long : len ≤ length new = rw e (omega (arith, length-take n (drop start rows), length-drop start rows)) in
    take-add at len (front ++ rest)
    ∙ ap₂ ◌++◌ (take_at front rest at room) (ap (take len) (drop_at front rest at room) ∙ take-append-le len new (drop k (drop at out)) long)
    ∙ ap (λ (x : List ℕ). front ++ take len x) e ∙ ap (λ (x : List ℕ). front ++ x) (take-take len n (drop start rows) h)
