-- The moves of an image of bytes are numbers of two bytes, and so are those of its runs. Assumes nothing.
use mathlib.Core.Path.{◌≡◌, ap}
use mathlib.Core.Bool.{true}
use mathlib.Core.List.{List, Memᴰ}
use Prim.Native.Nat.{ℕ, ◌<◌}
use native.Mathlib.Omega.{arith}
use Rattle.bpa.specs.Plans.{Rule, all_below, HasRule, Step, Runs}
use Rattle.rules.proofs.PlaceLaws.{move_at}
use Rattle.rules.proofs.ListLaws.{place_of_rule}
use Rattle.image.specs.Image.{image_jobs, image_places, table_in}
use Rattle.image.proofs.ByteRows.{place_byte}
use Rattle.first_run.proofs.RunParts.{step_moves, run_moves}

module _ (bs : List ℕ) (bytes : all_below 256 bs ≡ true) where
  rule_small : (j a : ℕ) (w : List ℕ) → HasRule (table_in bs) j a w → a < 65536
  unfolding table_in
  rule_small j a w r =
      let rs = image_places bs in
      let (i, l, e) = place_of_rule (image_jobs bs) rs j a w r in
      let low = place_byte bs bytes i 1 l (omega arith) in
      let high = place_byte bs bytes i 7 l (omega arith) in
      omega (arith, ap (λ (x : Rule). x.move) e, move_at rs i)

  pub step_small : (p q : List ℕ) (a : ℕ) → Step (table_in bs) p a q → a < 65536
  step_small = step_moves (table_in bs) 65536 rule_small

  pub run_small : {p run end : List ℕ} → Runs (table_in bs) p run end → (v : ℕ) → Memᴰ v run → v < 65536
  run_small = run_moves (table_in bs) 65536 rule_small
