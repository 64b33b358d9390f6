-- Images by the old reader: unless it answers 5, today's refuses the same and sees the same table; and an image past refusals 2 to 5 today is
-- refused there as the list of its rules is. Assumes nothing.
use mathlib.Core.Path.{◌≡◌, refl, sym, ap, ap₂, ◌∙◌}
use mathlib.Core.Bool.{Bool, true, ◌&&◌, not, cond, and-true}
use mathlib.Core.List.{List}
use mathlib.Core.Logic.{◌↔◌}
use Prim.Native.Nat.{ℕ, zero, suc, ◌+◌, ◌*◌, ◌-◌, ◌≤◌, ◌<◌}
use native.Mathlib.Omega.{arith}
use lib.ListN.{get_or, take, drop}
use Rattle.bpa.specs.Plans.{Rule, all_below, HasRule}
use Rattle.bpa.proofs.Basics.Cases.{and_left, and_right, and_both}
use Rattle.rules.specs.Places.{all_zero, place_good, each_place, places_good, rule_at, rule_count}
use Rattle.rules.proofs.PlaceLaws.{move_at}
use Rattle.rules.proofs.ListLaws.{rule_of, place_of_rule}
use Rattle.refusal.specs.Refusals.{table_refusal}
use Rattle.image.specs.Image.{block, blocks_in, rules_in_block, each_block, length_good, sum_good, head_good, places_of_block, block_good, layout_refusal, image_refusal, image_jobs, image_places, table_in}
use Rattle.image.proofs.Refusals.{passed, past}
use Rattle.image.proofs.Blocks.{each_one, each_all}
use Rattle.image.proofs.AcceptedImages.{LaidOut, laid_out}
use Rattle.image.proofs.ByteRows.{place_byte}
use Rattle.image.proofs.HeldTable.{image_each, image_listed}
use Rattle.old_format.specs.OldFormat.{old_place_good, old_places_good, old_places_of_block, old_block_good, old_layout_refusal, old_table_in, old_image_refusal, old_list_refusal}
use Rattle.old_format.proofs.Chains.{last_same, earlier_same, behind_same, five_first, other_table}
use Rattle.old_format.proofs.OldPlaces.{old_rows_good}
use Rattle.old_format.proofs.OldLists.{High, old_last, list_table_same, five_by_high}

each_same : (f g : ℕ → Bool) (n k : ℕ) → ((j : ℕ) → k ≤ j → j < k + n → f j ≡ g j) → each_block f n k ≡ each_block g n k
unfolding each_block
each_same f g zero k h = refl
each_same f g (suc n) k h = ap₂ ◌&&◌ (h k (omega arith) (omega arith)) (each_same f g n (suc k) (λ j low high. h j (omega arith) (omega arith)))

module _ (bs : List ℕ) where
  abbrev old_blocks : Bool
  old_blocks = each_block (old_block_good bs) (blocks_in bs) 0

  -- the places of a block by the old check, and the unused ones, which are zero by either
  abbrev old_used : ℕ → Bool
  old_used k = each_place (old_place_good (get_or bs 0 0)) (rules_in_block (block k bs)) (drop 2 (block k bs))

  abbrev unused : ℕ → Bool
  unused k = all_zero (take (504 - 8 * rules_in_block (block k bs)) (drop (2 + 8 * rules_in_block (block k bs)) (block k bs)))

  block_taken : (k : ℕ) → old_block_good bs k ≡ true → block_good bs k ≡ true
  unfolding old_block_good old_places_of_block old_places_good block_good places_of_block places_good
  block_taken k h =
      let n = get_or bs 0 0 in
      and_both (each_place (place_good n) (rules_in_block (block k bs)) (drop 2 (block k bs))) (unused k)
      (old_rows_good n (rules_in_block (block k bs)) (drop 2 (block k bs)) (and_left (old_used k) (unused k) h)) (and_right (old_used k) (unused k) h)

  blocks_taken : old_blocks ≡ true → each_block (block_good bs) (blocks_in bs) 0 ≡ true
  blocks_taken h =
      each_all (block_good bs) (blocks_in bs) 0 (λ k low high. block_taken k (each_one (old_block_good bs) (blocks_in bs) 0 h k low high))

  layout_same : (old_layout_refusal bs ≡ 5 → ⊥) → layout_refusal bs ≡ old_layout_refusal bs
  unfolding layout_refusal old_layout_refusal
  layout_same =
      earlier_same (length_good bs) 2 (earlier_same (each_block (sum_good bs) (blocks_in bs) 0) 3
      (earlier_same (each_block (head_good bs) (blocks_in bs) 0) 4
      (last_same (each_block (block_good bs) (blocks_in bs) 0) old_blocks blocks_taken)))

  -- an image past refusals 2 to 5 today is refused by the old reader as its list is by the old writer
  module _ (h : layout_refusal bs ≡ 0) where
    laid : LaidOut bs
    laid = laid_out bs h

    old_block : (k : ℕ) → k < blocks_in bs → old_block_good bs k ≡ old_used k
    unfolding old_block_good old_places_of_block old_places_good places_of_block
    old_block k l =
        ap (λ (b : Bool). old_used k && b) (and_right (places_good (rules_in_block (block k bs)) (get_or bs 0 0) (drop 2 (block k bs))) (unused k) (laid.places k l))
        ∙ and-true (old_used k)

    old_blocks_are : old_blocks ≡ each_place (old_place_good (image_jobs bs)) (rule_count (image_places bs)) (image_places bs)
    unfolding image_jobs
    old_blocks_are =
        each_same (old_block_good bs) old_used (blocks_in bs) 0 (λ k low high. old_block k (omega arith))
        ∙ sym (image_each bs laid (old_place_good (get_or bs 0 0)))

    pub layout_by_list : old_layout_refusal bs ≡ old_list_refusal (image_jobs bs) (image_places bs)
    unfolding layout_refusal old_layout_refusal
    layout_by_list =
        let first = passed (length_good bs) 2 _ (omega arith) h in
        let second = passed (each_block (sum_good bs) (blocks_in bs) 0) 3 _ (omega arith) first.1 in
        let third = passed (each_block (head_good bs) (blocks_in bs) 0) 4 _ (omega arith) second.1 in
        past (length_good bs) 2 _ first.0 ∙ past (each_block (sum_good bs) (blocks_in bs) 0) 3 _ second.0
        ∙ past (each_block (head_good bs) (blocks_in bs) 0) 4 _ third.0
        ∙ ap (λ (b : Bool). cond (not b) 5 0) old_blocks_are
        ∙ sym (old_last (image_jobs bs) (image_places bs) (image_listed bs h))

  -- an image that the old reader took
  module _ (h : old_layout_refusal bs ≡ 0) where
    layout_taken : layout_refusal bs ≡ 0
    layout_taken = layout_same (λ e. omega arith) ∙ h

    pub list_taken : old_list_refusal (image_jobs bs) (image_places bs) ≡ 0
    list_taken = sym (layout_by_list layout_taken) ∙ h

    pub image_table_same : table_in bs ≡ old_table_in bs
    unfolding table_in old_table_in
    image_table_same = list_table_same (image_jobs bs) (image_places bs) list_taken

  pub image_same : (old_image_refusal bs ≡ 5 → ⊥) → image_refusal bs ≡ old_image_refusal bs
  unfolding image_refusal old_image_refusal
  image_same = behind_same layout_same (λ h. ap table_refusal (image_table_same h))

  -- LARGER MOVES: an image past refusals 2 to 5 today is refused by the old reader by 5 exactly if byte 7 of some place in use is not zero
  pub image_five : layout_refusal bs ≡ 0 → (old_image_refusal bs ≡ 5) ↔ High (image_places bs)
  unfolding old_image_refusal
  image_five h =
      let e = layout_by_list h in
      let (by_table, as_table) = five_first (old_layout_refusal bs) (table_refusal (old_table_in bs)) (other_table (old_table_in bs)) in
      let (high, five) = five_by_high (image_jobs bs) (image_places bs) (image_listed bs h) in
      (λ r. high (sym e ∙ by_table r), λ p. as_table (e ∙ five p))

  -- and that is: exactly if its table has a move above 255
  module _ (bytes : all_below 256 bs ≡ true) (h : layout_refusal bs ≡ 0) where
    larger : High (image_places bs) → (j a : ℕ) × (w : List ℕ) × HasRule (table_in bs) j a w × (255 < a)
    unfolding table_in
    larger (i, l, p) =
        let r = rule_at (image_places bs) i in
        (r.job, r.move, r.after, rule_of (image_jobs bs) (image_places bs) i l, omega (arith, move_at (image_places bs) i))

    high : (j a : ℕ) (w : List ℕ) → HasRule (table_in bs) j a w → 255 < a → High (image_places bs)
    unfolding table_in
    high j a w r p =
        let (i, l, e) = place_of_rule (image_jobs bs) (image_places bs) j a w r in
        (i, l, omega (arith, ap (λ (x : Rule). x.move) e, move_at (image_places bs) i, place_byte bs bytes i 1 l (omega arith)))

    pub larger_five : (old_image_refusal bs ≡ 5) ↔ ((j a : ℕ) × (w : List ℕ) × HasRule (table_in bs) j a w × (255 < a))
    larger_five = (
      λ e. larger ((image_five h).0 e),
      λ (j, a, w, r, p). (image_five h).1 (high j a w r p),
    )
