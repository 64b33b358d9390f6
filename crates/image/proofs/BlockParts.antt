-- A block that passes its checks is filled with the places that it holds. Assumes nothing.
use mathlib.Core.Path.{◌≡◌, sym, ap, ◌∙◌}
use mathlib.Core.Bool.{true}
use mathlib.Core.List.{List, [], ◌∷◌, ◌++◌}
use Prim.Native.Nat.{ℕ, suc, ◌+◌, ◌*◌, ◌-◌, ◌/◌, ◌%◌, ◌≤◌, ◌<◌}
use native.Mathlib.Omega.{arith}
use lib.ListN.{length, get_or, take, drop, replicate, length-take, length-drop, take-append-drop}
use lib.Seq.{take-add, take_all, take-take, drop-cons}
use Rattle.area.specs.Numbers.{number_at, low_first}
use Rattle.area.proofs.Numbers.{number_split}
use Rattle.rules.specs.Places.{all_zero, places_good}
use Rattle.image.specs.Image.{byte_sum, checksum, rules_in_block, block_places, places_of_block}
use Rattle.image.specs.Filling.{filled_body, filled}
use Rattle.bpa.proofs.Basics.Cases.{and_right}
use Rattle.image.proofs.Blocks.{Head}
use Rattle.rules.proofs.Zeros.{zeros_are}

parts : (a b c d e : ℕ) (x : List ℕ) →
    take (a + b + c + d + e) x ≡ take a x ++ take b (drop a x) ++ take c (drop (a + b) x) ++ take d (drop (a + b + c) x) ++ take e (drop (a + b + c + d) x)
parts a b c d e x = simp take-add

-- THE PARTS OF A BLOCK are what it is made of
module _ (n b k : ℕ) (x : List ℕ) (whole : length x ≡ 512) (bytes : (i : ℕ) → i < 512 → get_or x i 0 < 256)
    (head : Head n b k x) (places : places_of_block n x ≡ true) (sum : number_at 510 x ≡ checksum x) where
  front_parts : take 510 x ≡ take 2 x ++ block_places x ++ take (504 - 8 * rules_in_block x) (drop (2 + 8 * rules_in_block x) x) ++ take 2 (drop 506 x) ++ take 2 (drop 508 x)
  unfolding block_places
  front_parts =
      let r = rules_in_block x in
      let c = 504 - 8 * r in
      let all : 510 ≡ 2 + 8 * r + c + 2 + 2 = omega arith in
      let third : 2 + 8 * r + c ≡ 506 = omega arith in
      let fourth : 2 + 8 * r + c + 2 ≡ 508 = omega arith in
      ap (λ m. take m x) all ∙ parts 2 (8 * r) c 2 2 x
      ∙ ap (λ m. take 2 x ++ take (8 * r) (drop 2 x) ++ take c (drop (2 + 8 * r) x) ++ take 2 (drop m x) ++ take 2 (drop (2 + 8 * r + c + 2) x)) third
      ∙ ap (λ m. take 2 x ++ take (8 * r) (drop 2 x) ++ take c (drop (2 + 8 * r) x) ++ take 2 (drop 506 x) ++ take 2 (drop m x)) fourth

  first_two : take 2 x ≡ n ∷ rules_in_block x ∷ []
  unfolding rules_in_block
  first_two =
      ap (take 2) (drop-cons x 0 0 (omega arith) ∙ ap (λ l. get_or x 0 0 ∷ l) (drop-cons x 1 0 (omega arith)))
      ∙ ap (λ j. j ∷ get_or x 1 0 ∷ []) head.same_jobs

  unused : take (504 - 8 * rules_in_block x) (drop (2 + 8 * rules_in_block x) x) ≡ replicate (504 - 8 * rules_in_block x) 0
  unfolding places_of_block
  unused =
      let r = rules_in_block x in
      let l = take (504 - 8 * r) (drop (2 + 8 * r) x) in
      let size : length l ≡ 504 - 8 * r = simp (length-take, length-drop) (omega arith) in
      zeros_are (504 - 8 * r) l size (and_right (places_good r n (drop 2 x)) (all_zero l) places)

  number_part : (i v : ℕ) → i + 2 ≤ 512 → number_at i x ≡ v → take 2 (drop i x) ≡ low_first v
  number_part i v room e = number_split x i (omega arith) (bytes i (omega arith)) (bytes (suc i) (omega arith)) ∙ ap low_first e

  places_size : length (block_places x) ≡ 8 * rules_in_block x
  unfolding block_places
  places_size = let few = head.few_rules in simp (length-take, length-drop) (omega arith)

  front_is : take 510 x ≡ filled_body n k b (block_places x)
  unfolding filled_body
  front_is =
      let size = places_size in
      let count : rules_in_block x ≡ length (block_places x) / 8 = omega arith in
      let left : 504 - 8 * rules_in_block x ≡ 504 - length (block_places x) = omega arith in
      front_parts
      ∙ (λ i. first_two i ++ block_places x ++ unused i ++ number_part 506 k (omega arith) head.number i ++ number_part 508 b (omega arith) head.count i)
      ∙ (λ i. n ∷ count i ∷ (block_places x ++ replicate (left i) 0 ++ low_first k ++ low_first b))

  checksum_front : checksum (take 510 x) ≡ checksum x
  unfolding checksum
  checksum_front = ap (λ l. byte_sum l % 65521) (take-take 510 510 x (omega arith))

  pub block_filled : x ≡ filled n k b (block_places x)
  unfolding filled
  block_filled =
      let f = filled_body n k b (block_places x) in
      let rest : drop 510 x ≡ low_first (checksum x) = sym (take_all 2 (drop 510 x) (simp length-drop (omega arith))) ∙ number_part 510 (checksum x) (omega arith) sum in
      let same : checksum x ≡ checksum f = sym checksum_front ∙ ap checksum front_is in
      sym (take-append-drop 510 x) ∙ (λ i. front_is i ++ (rest ∙ ap low_first same) i)
