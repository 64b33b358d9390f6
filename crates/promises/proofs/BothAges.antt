-- The promises about images and tables of both ages, each with its proved term. Assumes nothing.
use mathlib.Core.Path.{◌≡◌, refl, sym, ap, ap₂, ◌∙◌}
use mathlib.Core.Bool.{true}
use mathlib.Core.List.{List, ◌∷◌}
use Prim.Native.Nat.{ℕ}
use native.Mathlib.Omega.{arith}
use lib.IntN.{pos}
use lib.ListN.{length, take, drop}
use Rattle.bpa.specs.Plans.{all_below}
use Rattle.rules.specs.Places.{table_bytes}
use Rattle.answer.proofs.RefusalChains.{neither, both_pass}
use Rattle.answer.proofs.Results.{written_result, result_written}
use Rattle.refusal.specs.Refusals.{table_refusal}
use Rattle.image.specs.Image.{image_refusal, image_jobs, image_places, table_in}
use Rattle.image.specs.Writing.{write_refusal, written}
use Rattle.image.proofs.TableBytes.{bytes_of_image}
use Rattle.image.proofs.ImageBack as images
use Rattle.image.proofs.TableBack as tables
use Rattle.table.proofs.ImageTables.{image_passes}
use Rattle.old_format.specs.OldFormat.{old_table_of, old_table_bytes, old_layout_refusal, old_table_in, old_image_refusal, old_list_refusal, old_write_refusal}
use Rattle.old_format.proofs.OldLists.{list_table_same, write_same}
use Rattle.old_format.proofs.OldImages.{layout_by_list, image_table_same, image_same, image_five, larger_five}
use Rattle.old_format.proofs.OldBytes.{old_list_bytes, old_image_bytes}
use Rattle.promises.specs.Promises.{all_bytes}
use Rattle.promises.specs.BothAges as promised

pub old_images_same : promised.OldImagesSame
unfolding promised.OldImagesSame
old_images_same bs other = (image_same bs other, image_table_same bs)

pub old_lists_same : promised.OldListsSame
unfolding promised.OldListsSame
old_lists_same n rs other = (write_same n rs other, list_table_same n rs)

pub larger_meets_five : promised.LargerMeetsFive
unfolding promised.LargerMeetsFive
larger_meets_five bs h = image_five bs h

pub larger_moves_meet_five : promised.LargerMovesMeetFive
unfolding promised.LargerMovesMeetFive all_bytes
larger_moves_meet_five bs bytes h = larger_five bs bytes h

-- an image that the old reader accepted: today's does, and the bytes of its table are its job count and its rules
module _ (bs : List ℕ) (bytes : all_below 256 bs ≡ true) (h : old_image_refusal bs ≡ 0) where
  accepted : image_refusal bs ≡ 0
  accepted = image_same bs (λ e. omega arith) ∙ h

  given : old_table_bytes (old_table_in bs) ≡ image_jobs bs ∷ image_places bs
  unfolding old_image_refusal
  given = old_image_bytes bs bytes (neither (old_layout_refusal bs) (table_refusal (old_table_in bs)) h).0

  old_jobs : (old_table_in bs).jobs ≡ image_jobs bs
  unfolding old_table_in old_table_of
  old_jobs = refl

pub old_image_back : promised.OldImageBack
unfolding promised.OldImageBack all_bytes
old_image_back bs bytes h =
    let j = old_jobs bs bytes h in
    let ps = ap (drop 1) (given bs bytes h) in (
      ap₂ write_refusal j ps ∙ images.image_writes bs (accepted bs bytes h),
      ap₂ written j ps ∙ images.image_back bs (accepted bs bytes h) bytes,
    )

-- a list that the old writer took, and its image
module _ (n : ℕ) (rs : List ℕ) (h : old_write_refusal n rs ≡ 0) where
  taken : write_refusal n rs ≡ 0
  taken = write_same n rs (λ e. omega arith) ∙ h

  old_passed : (old_list_refusal n rs ≡ 0) × (table_refusal (old_table_of n rs) ≡ 0)
  unfolding old_write_refusal
  old_passed = neither (old_list_refusal n rs) (table_refusal (old_table_of n rs)) h

  old_held : old_table_in (written n rs) ≡ old_table_of n rs
  unfolding old_table_in
  old_held = ap₂ old_table_of (tables.table_jobs n rs taken) (tables.table_places n rs taken)

  old_accepted : old_image_refusal (written n rs) ≡ 0
  unfolding old_image_refusal
  old_accepted =
      let layout = (image_passes (written n rs) (tables.table_back n rs taken)).0 in
      both_pass (old_layout_refusal (written n rs)) (table_refusal (old_table_in (written n rs)))
      (layout_by_list (written n rs) layout ∙ ap₂ old_list_refusal (tables.table_jobs n rs taken) (tables.table_places n rs taken) ∙ old_passed.0)
      (ap table_refusal old_held ∙ old_passed.1)

pub old_table_back : promised.OldTableBack
unfolding promised.OldTableBack all_bytes
old_table_back n rs bytes h = (
  old_accepted n rs h,
  ap old_table_bytes (old_held n rs h) ∙ old_list_bytes n rs bytes (old_passed n rs h).0,
)

pub old_image_read : promised.OldImageRead
unfolding promised.OldImageRead all_bytes
old_image_read bs o o' r n bytes h w is room =
    let passed = accepted bs bytes h in
    let same : table_bytes (table_in bs) ≡ old_table_bytes (old_table_in bs) =
    bytes_of_image bs bytes (image_passes bs passed).0 ∙ sym (given bs bytes h) in
    let size : n ≡ length (table_bytes (table_in bs)) = is ∙ ap length (sym same) in
    let (answer, put) = result_written (image_refusal bs) (table_bytes (table_in bs)) o r o' passed (omega arith) w in
    (answer ∙ ap pos (sym size), ap (λ (m : ℕ). take m o') size ∙ put ∙ same)

pub old_table_written : promised.OldTableWritten
unfolding promised.OldTableWritten promised.OldTableBack
old_table_written jobs rs o o' n bytes h w =
    let s = written_result (write_refusal jobs rs) (written jobs rs) o o' n w in
    let back = old_table_back jobs rs bytes h in (
      ap old_image_refusal s.bytes ∙ back.0,
      ap (λ (l : List ℕ). old_table_bytes (old_table_in l)) s.bytes ∙ back.1,
    )
