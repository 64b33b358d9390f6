-- The rows of short jobs: as the code lends one, its length, and one of them put anew. Assumes nothing.
use mathlib.Core.Path.{◌≡◌, sym, ap, ap₂, ◌∙◌}
use mathlib.Core.List.{List}
use Prim.Native.Nat.{ℕ, ◌+◌, ◌*◌, ◌-◌, ◌≤◌, ◌<◌}
use native.Mathlib.Omega.{arith}
use lib.Arith.{lt_of_le-ne}
use lib.Dec.{ltb}
use lib.ListN.{length, get_or, take, drop, length-take, length-drop}
use lib.Seq.{take_at, drop-drop}
use borrow.Author.Tests.{ltb-true, ltb-false}
use Rattle.bpa.proofs.Basics.Cases.{by_test}
use Rattle.area.specs.Areas.{put, IsPut}
use Rattle.area.proofs.Parts.{part}
use Rattle.area.proofs.PutLaws.{drop_put}
use Rattle.area.proofs.Puts.{put_up_to, put_behind, take_put}
use Rattle.lowering.specs.Lowering.{short_row}

pub lent_row : (ns rows : List ℕ) (x m : ℕ) → m ≡ get_or ns x 0 → take (170 * x + 2 * m - 170 * x) (drop (170 * x) rows) ≡ short_row ns rows x
unfolding short_row
lent_row ns rows x m e =
    let k : 170 * x + 2 * m - 170 * x ≡ 2 * get_or ns x 0 = omega arith in
    ap (λ (i : ℕ). take i (drop (170 * x) rows)) k

pub short_length : (ns rows : List ℕ) (x : ℕ) → length rows ≡ 4080 → x < 24 → get_or ns x 0 ≤ 85 → length (short_row ns rows x) ≡ 2 * get_or ns x 0
unfolding short_row
short_length ns rows x e h l = simp (length-take, length-drop) (omega arith)

-- what was put at the front of an area, as the code lends it
pub made_front : {bytes area made : List ℕ} {r : ℕ} → IsPut 0 bytes area r made → take (r - 0) made ≡ bytes
made_front {bytes} {area} {made} {r} p =
    let k : r - 0 ≡ 0 + length bytes = omega (arith, p.next) in
    ap₂ take k p.output ∙ put_up_to 0 bytes area (omega arith)

-- the row of one job put anew, the others kept
module _ (ns rows : List ℕ) (job : ℕ) (new : List ℕ) (size : length rows ≡ 4080) (h : job < 24) (few : length new ≤ 170) where
  pub row_put : length new ≡ 2 * get_or ns job 0 → short_row ns (put (170 * job) new rows) job ≡ new
  unfolding short_row
  row_put e =
      ap (take (2 * get_or ns job 0)) (drop_put (170 * job) new rows (omega arith)) ∙ take_at new (drop (170 * job + length new) rows) (2 * get_or ns job 0) e

  pub row_kept : (j : ℕ) → (j ≡ job → ⊥) → get_or ns j 0 ≤ 85 → short_row ns (put (170 * job) new rows) j ≡ short_row ns rows j
  unfolding short_row
  row_kept j other l =
      by_test (ltb j job)
      (λ b.
      let m = 2 * get_or ns j 0 in
      let k : 170 * j + m ≤ 170 * job = omega (arith, ltb-true j job b) in
      part (170 * j) m (put (170 * job) new rows)
      ∙ ap (drop (170 * j)) (take_put (170 * job) new rows (omega arith) (170 * j + m) k)
      ∙ sym (part (170 * j) m rows))
      (λ b.
      let past : job < j = lt_of_le-ne (ltb-false j job b) (λ e. other (sym e)) in
      let d : (i : ℕ) × (170 * job + length new + i ≡ 170 * j) = (170 * j - (170 * job + length new), omega arith) in
      ap (take (2 * get_or ns j 0))
      (ap (λ (k : ℕ). drop k (put (170 * job) new rows)) (sym d.1)
      ∙ sym (drop-drop d.0 (170 * job + length new) (put (170 * job) new rows))
      ∙ ap (drop d.0) (put_behind (170 * job) new rows (omega arith))
      ∙ drop-drop d.0 (170 * job + length new) rows
      ∙ ap (λ (k : ℕ). drop k rows) d.1))
