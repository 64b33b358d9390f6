-- What the reader's state says of an image. Assumes nothing: these are definitions.
use Rattle.std.specs.Prelude.{◌≡◌, List, ◌++◌, ℕ, ◌+◌, ◌*◌, ◌≤◌, ◌<◌, length, take}
use Rattle.image.specs.Image.{rules_in_block, block_places, image_jobs, image_places}

-- a block that the reader can take after so many blocks and rules: its rules have room
pub record Takes (blocks count : ℕ) (rules block : List ℕ) : Type 0 where
  pub whole : length block ≡ 512
  pub few_blocks : blocks < 4
  pub few_rules : rules_in_block block ≤ 63
  pub room : count ≤ 63 * blocks
  pub size : length rules ≡ 2016

-- the rules after a block: those before, and the block's behind them
pub record Took (count : ℕ) (rules block : List ℕ) (count_after : ℕ) (rules_after : List ℕ) : Type 0 where
  pub count_is : count_after ≡ count + rules_in_block block
  pub size : length rules_after ≡ 2016
  pub holds : take (8 * count_after) rules_after ≡ take (8 * count) rules ++ block_places block

-- THE TABLE of an image, in the first bytes of an array
pub record HoldsTable (image : List ℕ) (jobs count : ℕ) (rules : List ℕ) : Type 0 where
  pub jobs_are : jobs ≡ image_jobs image
  pub some_jobs : 1 ≤ jobs
  pub few_jobs : jobs ≤ 24
  pub count_is : 8 * count ≡ length (image_places image)
  pub few_rules : count ≤ 252
  pub size : length rules ≡ 2016
  pub holds : take (8 * count) rules ≡ image_places image
