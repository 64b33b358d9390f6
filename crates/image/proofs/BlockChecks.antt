-- What the checks find in a block filled with places. Assumes nothing.
use mathlib.Core.Path.{◌≡◌, refl, sym, ap, ◌∙◌}
use mathlib.Core.Bool.{true, ◌&&◌}
use mathlib.Core.List.{List, [], ◌∷◌, ◌++◌, append_assoc, append-nil}
use Prim.Native.Nat.{ℕ, ◌+◌, ◌*◌, ◌-◌, ◌/◌, ◌%◌, ◌≤◌, ◌<◌}
use native.Mathlib.Nat.{mod-lt}
use native.Mathlib.Omega.{arith}
use lib.ListN.{length, get_or, take, drop, replicate, length-append, length-replicate}
use lib.Seq.{take_at, drop_at, take_all, drop-drop}
use Rattle.area.specs.Numbers.{number_at, low_first}
use Rattle.area.proofs.Numbers.{number_there}
use Rattle.rules.specs.Places.{all_zero, places_good}
use Rattle.image.specs.Image.{byte_sum, checksum, rules_in_block, block_places, places_of_block}
use Rattle.image.specs.Filling.{filled_body, filled}
use Rattle.bpa.proofs.Basics.Cases.{and_both}
use Rattle.image.proofs.PlaceRows.{places_local}
use Rattle.rules.proofs.Zeros.{zeros_zero}

checksum_small : (x : List ℕ) → checksum x < 65521
unfolding checksum
checksum_small x = mod-lt (byte_sum (take 510 x)) (omega arith)

module _ (n k b : ℕ) (p : List ℕ) where
  pub filled_jobs : get_or (filled n k b p) 0 0 ≡ n
  unfolding filled filled_body
  filled_jobs = refl

  filled_count : rules_in_block (filled n k b p) ≡ length p / 8
  unfolding filled filled_body rules_in_block
  filled_count = refl

module _ (n k b : ℕ) (p : List ℕ) (r : ℕ) (size : length p ≡ 8 * r) (few : r ≤ 63) where
  pub filled_rules : rules_in_block (filled n k b p) ≡ r
  filled_rules = filled_count n k b p ∙ omega arith

  body_length : length (filled_body n k b p) ≡ 510
  unfolding filled_body low_first
  body_length = simp (length-append, length-replicate) (omega arith)

  filled_checksum : checksum (filled n k b p) ≡ checksum (filled_body n k b p)
  unfolding filled checksum
  filled_checksum =
      let f = filled_body n k b p in
      ap (λ l. byte_sum l % 65521) (take_at f (low_first (checksum f)) 510 body_length ∙ sym (take_all 510 f (omega (arith, body_length))))

  pub filled_sum : number_at 510 (filled n k b p) ≡ checksum (filled n k b p)
  unfolding filled
  filled_sum =
      let f = filled_body n k b p in
      ap (number_at 510) (sym (append-nil (f ++ low_first (checksum f))))
      ∙ number_there f (checksum f) [] 510 body_length (omega (arith, checksum_small f)) ∙ sym filled_checksum

  abbrev zeros : List ℕ
  zeros = replicate (504 - length p) 0

  used_length : length (p ++ zeros) ≡ 504
  used_length = simp (length-append, length-replicate) (omega arith)

  pub filled_number : k < 65536 → number_at 506 (filled n k b p) ≡ k
  unfolding filled filled_body
  filled_number h =
      let c = low_first (checksum (filled_body n k b p)) in
      ap (λ l. number_at 506 (n ∷ (length p / 8) ∷ l)) (append_assoc (p ++ zeros ++ low_first k) (low_first b) c)
      ∙ number_there (n ∷ (length p / 8) ∷ (p ++ zeros)) k (low_first b ++ c) 506 (omega (arith, used_length)) h

  pub filled_blocks : b < 65536 → number_at 508 (filled n k b p) ≡ b
  unfolding filled filled_body low_first
  filled_blocks h =
      let c = low_first (checksum (filled_body n k b p)) in
      number_there (n ∷ (length p / 8) ∷ (p ++ zeros ++ low_first k)) b c 508 (simp (length-append, length-replicate) (omega arith)) h

  abbrev after_zeros : List ℕ
  after_zeros = low_first k ++ low_first b ++ low_first (checksum (filled_body n k b p))

  places_first : drop 2 (filled n k b p) ≡ p ++ (zeros ++ after_zeros)
  unfolding filled filled_body
  places_first = simp append_assoc

  pub filled_places : block_places (filled n k b p) ≡ p
  unfolding block_places
  filled_places =
      ap (λ m. take (8 * m) (drop 2 (filled n k b p))) filled_rules
      ∙ ap (take (8 * r)) places_first ∙ take_at p (zeros ++ after_zeros) (8 * r) size

  unused_zero : take (504 - 8 * r) (drop (2 + 8 * r) (filled n k b p)) ≡ zeros
  unused_zero =
      ap (take (504 - 8 * r)) (sym (drop-drop (8 * r) 2 (filled n k b p)) ∙ ap (drop (8 * r)) places_first ∙ drop_at p (zeros ++ after_zeros) (8 * r) size)
      ∙ take_at zeros after_zeros (504 - 8 * r) (length-replicate (504 - length p) 0 ∙ omega arith)

  -- the places of a block are good if the rules that they were taken from are
  pub filled_good : (rules : List ℕ) → take (8 * r) rules ≡ p → places_good r n rules ≡ true → places_of_block n (filled n k b p) ≡ true
  unfolding places_of_block
  filled_good rules e good =
      let x = filled n k b p in
      let same : take (8 * r) (drop 2 x) ≡ take (8 * r) rules = ap (take (8 * r)) places_first ∙ take_at p (zeros ++ after_zeros) (8 * r) size ∙ sym e in
      ap (λ m. places_good m n (drop 2 x) && all_zero (take (504 - 8 * m) (drop (2 + 8 * m) x))) filled_rules
      ∙ and_both (places_good r n (drop 2 x)) (all_zero (take (504 - 8 * r) (drop (2 + 8 * r) x)))
      (places_local r n (drop 2 x) rules same ∙ good) (ap all_zero unused_zero ∙ zeros_zero (504 - length p))
