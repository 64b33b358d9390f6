-- The bytes of a table and of an image, as the code counts and writes them. Assumes nothing.
use mathlib.Core.Path.{◌≡◌, sym, ap, ◌∙◌}
use mathlib.Core.List.{List, [], ◌∷◌}
use Prim.Native.Nat.{ℕ, ◌+◌, ◌*◌, ◌/◌, ◌≤◌, ◌<◌}
use native.Mathlib.Omega.{arith}
use lib.ListN.{length, get_or, set}
use Rattle.bpa.proofs.Basics.JobsBelow.{below_all}
use Rattle.area.specs.Areas.{put, IsPut}
use Rattle.area.proofs.PutLaws.{put_one, put_put}
use Rattle.rules.specs.Places.{rule_count, table_of, table_bytes}
use Rattle.rules.specs.Lists.{GoodList}
use Rattle.answer.proofs.RefusalChains.{neither}
use Rattle.refusal.specs.Refusals.{table_refusal}
use Rattle.image.specs.Writing.{written, blocks_for, list_refusal, write_refusal}
use Rattle.image.proofs.TableBytes.{bytes_of_list}
use Rattle.image.proofs.ListRefusal.{good_list}
use Rattle.image.proofs.WrittenImages.{written_size}

-- the table of a list of bytes is written as its job count and those bytes
pub listed_bytes : (jobs : ℕ) (rs : List ℕ) → GoodList jobs rs → ((i : ℕ) → get_or rs i 0 < 256) → table_bytes (table_of jobs rs) ≡ jobs ∷ rs
listed_bytes jobs rs g bytes = bytes_of_list jobs rs g (below_all 256 rs (λ i h. bytes i))

-- a job count and bytes put behind it
pub behind_count : (j : ℕ) (rs xs : List ℕ) {n : ℕ} {ys : List ℕ} → 1 ≤ length xs → IsPut 1 rs (set xs 0 j) n ys →
    (n ≡ length (j ∷ rs)) × (ys ≡ put 0 (j ∷ rs) xs)
behind_count j rs xs h p = (
  omega (arith, p.next),
  p.output ∙ ap (put 1 rs) (sym (put_one 0 j xs (omega arith))) ∙ put_put 0 (j ∷ []) rs xs (omega arith),
)

-- an image that is written
module _ (n : ℕ) (rs : List ℕ) (passed : write_refusal n rs ≡ 0) where
  pub list_passed : list_refusal n rs ≡ 0
  unfolding write_refusal
  list_passed = (neither (list_refusal n rs) (table_refusal (table_of n rs)) passed).0

  good : GoodList n rs
  good = good_list n rs list_passed

  pub image_size : length (written n rs) ≡ 512 * ((length rs / 8 + 62) / 63)
  unfolding blocks_for rule_count
  image_size = written_size rs good.whole n

  pub image_small : length (written n rs) ≤ 2048
  unfolding rule_count
  image_small = omega (arith, image_size, good.few)
