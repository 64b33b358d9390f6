-- Lists of rules by the old writer: unless it answers 5, today's refuses the same and sees the same table; and a list that is good today meets
-- refusal 5 there exactly if byte 7 of some place is not zero. Assumes nothing.
use mathlib.Core.Path.{◌≡◌, refl, sym, ap, ◌∙◌}
use mathlib.Core.Bool.{Bool, true, false, ◌&&◌, not, cond}
use mathlib.Core.List.{List}
use mathlib.Core.Logic.{◌↔◌}
use Prim.Native.Nat.{ℕ, ◌+◌, ◌*◌, ◌%◌, ◌<◌}
use native.Mathlib.Omega.{arith}
use lib.Dec.{leb, eqb}
use lib.ListN.{length, get_or, take, drop}
use Rattle.bpa.specs.Plans.{Rule}
use Rattle.rules.specs.Places.{place_good, each_place, places_good, rule_count, table_of}
use Rattle.rules.proofs.PlaceLaws.{byte_at}
use Rattle.rules.proofs.ListLaws.{each_at, good_place}
use Rattle.refusal.specs.Refusals.{table_refusal}
use Rattle.image.specs.Writing.{list_refusal, write_refusal}
use Rattle.image.proofs.ListRefusal.{good_list}
use Rattle.image.proofs.Refusals.{passed, past}
use Rattle.old_format.specs.OldFormat.{old_table_of, old_place_good, old_places_good, old_list_refusal, old_write_refusal}
use Rattle.old_format.proofs.Chains.{last_same, earlier_same, behind_same, five_last}
use Rattle.old_format.proofs.OldPlaces.{high_there, high_refused, old_rows_good, same_rules, fails_somewhere}

-- byte 7 of some place is not zero
abbrev pub High : (rules : List ℕ) → Type 0
High rs = (i : ℕ) × (i < rule_count rs) × (0 < get_or rs (8 * i + 7) 0)

module _ (n : ℕ) (rs : List ℕ) where
  abbrev sized : Bool
  sized = eqb (length rs % 8) 0 && (leb 1 (rule_count rs) && leb (rule_count rs) 252)

  abbrev jobs_fit : Bool
  jobs_fit = leb 1 n && leb n 24

  abbrev old_good : Bool
  old_good = each_place (old_place_good n) (rule_count rs) rs

  pub list_same : (old_list_refusal n rs ≡ 5 → ⊥) → list_refusal n rs ≡ old_list_refusal n rs
  unfolding list_refusal old_list_refusal places_good old_places_good
  list_same =
      earlier_same sized 2 (earlier_same jobs_fit 4
      (last_same (each_place (place_good n) (rule_count rs) rs) old_good (old_rows_good n (rule_count rs) rs)))

  -- a list that the old writer took
  module _ (h : old_list_refusal n rs ≡ 0) where
    pub old_places_pass : old_good ≡ true
    unfolding old_list_refusal old_places_good
    old_places_pass =
        let first = passed sized 2 _ (omega arith) h in
        let second = passed jobs_fit 4 _ (omega arith) first.1 in
        (passed old_good 5 0 (omega arith) second.1).0

    pub list_table_same : table_of n rs ≡ old_table_of n rs
    unfolding table_of old_table_of
    list_table_same = ap (λ (r : List Rule). record { jobs = n; rules = r }) (same_rules n (rule_count rs) rs old_places_pass)

  pub write_same : (old_write_refusal n rs ≡ 5 → ⊥) → write_refusal n rs ≡ old_write_refusal n rs
  unfolding write_refusal old_write_refusal
  write_same = behind_same list_same (λ h. ap table_refusal (list_table_same h))

  -- a list that is good today
  module _ (h : list_refusal n rs ≡ 0) where
    pub old_last : old_list_refusal n rs ≡ cond (not old_good) 5 0
    unfolding list_refusal old_list_refusal old_places_good
    old_last =
        let first = passed sized 2 _ (omega arith) h in
        let second = passed jobs_fit 4 _ (omega arith) first.1 in
        past sized 2 _ first.0 ∙ past jobs_fit 4 _ second.0

    high_then : old_good ≡ false → High rs
    high_then e =
        let (i, l, d) = fails_somewhere (old_place_good n) (rule_count rs) rs e in
        let good = good_place (rule_count rs) n rs i (good_list n rs h).places l in
        (i, l, omega (arith, byte_at rs i 7 (omega arith), high_there n (take 8 (drop (8 * i) rs)) good d))

    then_high : High rs → old_good ≡ false
    then_high (i, l, p) = go (each_place (old_place_good n) (rule_count rs) rs) refl
      where
        go : (b : Bool) → each_place (old_place_good n) (rule_count rs) rs ≡ b → each_place (old_place_good n) (rule_count rs) rs ≡ false
        go false e = e
        go true e =
            absurd (high_refused n (take 8 (drop (8 * i) rs)) (omega (arith, byte_at rs i 7 (omega arith))) (each_at (old_place_good n) (rule_count rs) rs i e l))

    pub five_by_high : (old_list_refusal n rs ≡ 5) ↔ High rs
    five_by_high = (
      λ e. high_then ((five_last old_good).0 (sym old_last ∙ e)),
      λ p. old_last ∙ (five_last old_good).1 (then_high p),
    )
