-- The numbers of a word taken from the lowest on, each with the cell of its job. Assumes nothing.
use mathlib.Core.Path.{◌≡◌, sym, ap, ◌∙◌, subst}
use mathlib.Core.List.{List, [], ◌∷◌}
use mathlib.Core.Logic.{inl, inr, ⊎_elim, ⊎_map}
use Prim.Native.Nat.{ℕ, suc, ◌+◌, ◌-◌, ◌/◌, ◌^◌, ◌≤◌, ◌<◌}
use native.Mathlib.Omega.{arith}
use native.Mathlib.Nat.{div-one, le_of_lt, le_of_eq, lt_of_le_of_lt}
use lib.Count.{count_trailing_zeros}
use lib.Dec.{ltb}
use lib.ListN.{length}
use lib.Pow.{shr_lt, shr-shr, shr_le}
use borrow.Author.Tests.{ltb-true, ltb-false}
use Rattle.bpa.specs.Plans.{Table}
use Rattle.bpa.proofs.Basics.Cases.{by_test}
use Rattle.replay.specs.Ends.{last, Ends, Gets}
use Rattle.replay.proofs.EndsLaws.{length_last, ends_fewer}
use Rattle.reach.specs.Cells.{reach_in}
use Rattle.reach.specs.declared.Reach.{Reach}
use Rattle.bits.specs.Bits.{bit}
use Rattle.bits.proofs.PlaceBits.{zero_bit}
use Rattle.bits.proofs.TrailingBits.{bit_shifted, clear_below, set_above, set_within}
use Rattle.reach.specs.Reaches.{HoldsWord, CellReaches, Joins}
use Rattle.reach.proofs.ReachLaws.{reaches_as, reaches_joined}
use Rattle.following.specs.Followed.{cell_of, KnownCells, OneMore, WordMore}

-- a number below the next one is below it, or is it
pub last_or : {A : Type 0} (s m : ℕ) → s < suc m → (s < m → A) → (s ≡ m → A) → A
last_or s m l f g = by_test (ltb s m) (λ e. f (ltb-true s m e)) (λ e. g (omega (arith, ltb-false s m e)))

-- a plan with a job is through before the moves left are all there still
pub through_later : (t : Table) (log p : List ℕ) (d s : ℕ) → d ≤ length log → 0 < length p → Ends t p (last d log) s → s < d
through_later t log [] d s h k e = absurd (omega arith)
through_later t log (j ∷ p) d s h k e = omega (arith, ends_fewer t j p (last d log) s e, length_last d log h)

module _ (t : Table) (log p : List ℕ) (d x : ℕ) where
  -- numbers at which the plan cannot be through add nothing
  more_none : {a : Reach} (m n : ℕ) → m ≤ n → ((s : ℕ) → m ≤ s → s < n → Ends t p (last d log) s → ⊥) →
      OneMore t log p d x m a → OneMore t log p d x n a
  more_none m n h none =
      reaches_as
      (λ e. ((λ w. let (s, l, k, f) = w in (s, omega (arith, l), k, f)), (λ w. let (s, l, k, f) = w in (s, below s l k, k, f))))
      (λ e. (
        (λ w. ⊎_map (λ g. g) (λ v. let (s, l, k, f) = v in (s, omega (arith, l), k, f)) w),
        (λ w. ⊎_map (λ g. g) (λ v. let (s, l, k, f) = v in (s, below s l k, k, f)) w),
      ))
    where
      below : (s : ℕ) → s < n → Ends t p (last d log) s → s < m
      below s l k = by_test (ltb s m) (λ e. ltb-true s m e) (λ e. absurd (none s (ltb-false s m e) l k))

  -- a number at which it can adds what the job reaches from there
  more_one : {a c : Reach} (m : ℕ) (cells : List ℕ) → Ends t p (last d log) m →
      CellReaches (cell_of x m) cells (Ends t (x ∷ []) (last m log)) (Gets t (x ∷ []) (last m log)) →
      Joins a (reach_in (cell_of x m) cells) c →
      OneMore t log p d x m a → OneMore t log p d x (suc m) c
  more_one m cells k known joins r =
      reaches_as
      (λ e. (
        (λ w. ⊎_elim (λ v. let (s, l, i, f) = v in (s, omega (arith, l), i, f)) (λ v. (m, omega arith, k, v)) w),
        (λ w. let (s, l, i, f) = w in last_or s m l (λ h. inl (s, h, i, f)) (λ h. inr (subst (λ (n : ℕ). Ends t (x ∷ []) (last n log) e) h f))),
      ))
      (λ e. (
        (λ w.
            ⊎_elim
            (λ v. ⊎_map (λ g. g) (λ y. let (s, l, i, f) = y in (s, omega (arith, l), i, f)) v)
            (λ v. inr (m, omega arith, k, v)) w),
        (λ w.
            ⊎_elim (λ g. inl (inl g))
            (λ v.
            let (s, l, i, f) = v in
            last_or s m l (λ h. inl (inr (s, h, i, f))) (λ h. inr (subst (λ (n : ℕ). Gets t (x ∷ []) (last n log) e) h f))) w),
      ))
      (reaches_joined r known joins)

-- THE WALK: the bits that are left, and what was reached by those before
pub record Walking (cells : List ℕ) (first word : ℕ) (start reach : Reach) (bits cell : ℕ) : Type 0 where
  pub begun : first ≤ cell
  pub within : cell ≤ first + 64
  pub left : bits ≡ word / 2 ^ (cell - first)
  pub reached : (t : Table) (log p : List ℕ) (d x m : ℕ) → KnownCells t log d cells → 0 < length p → x < t.jobs →
      first ≡ cell_of x m → HoldsWord word (λ k. Ends t p (last d log) (m + k)) →
      OneMore t log p d x m start → OneMore t log p d x (m + (cell - first)) reach

module _ (cells : List ℕ) (first word : ℕ) (start : Reach) where
  pub walk_begins : Walking cells first word start start word first
  walk_begins =
      let z : first - first ≡ 0 = omega arith in
      record {
        begun = omega arith;
        within = omega arith;
        left = sym (ap (λ (n : ℕ). word / 2 ^ n) z ∙ div-one word);
        reached = λ t log p d x m known some job is holds r. more_none t log p d x m (m + (first - first)) (omega arith) (λ s l k e. omega (arith, l, k)) r;
      }

  module _ (reach : Reach) (bits cell : ℕ) (w : Walking cells first word start reach bits cell) (small : word < 18446744073709551616) where
    abbrev done : ℕ
    done = cell - first

    -- the bits of the word from here on
    bit_left : (i : ℕ) → bit bits i ≡ bit word (done + i)
    bit_left i = ap (λ (n : ℕ). bit n i) w.left ∙ bit_shifted word done i

    bits_small : bits < 2 ^ (64 - done)
    bits_small =
        let e : 64 - done + done ≡ 64 = omega (arith, w.begun, w.within) in
        rw w.left (shr_lt (64 - done) done (rw e small))

    -- no number where the bit is clear
    clear : (t : Table) (log p : List ℕ) (d m i : ℕ) → HoldsWord word (λ k. Ends t p (last d log) (m + k)) →
        done + i < 64 → bit bits i ≡ 0 → (s : ℕ) → s ≡ m + (done + i) → Ends t p (last d log) s → ⊥
    clear t log p d m i holds h z s e k =
        let one = (holds (done + i) h).1 (subst (Ends t p (last d log)) e k) in
        omega (arith, one, z, bit_left i)

    -- nothing is left
    pub walk_ends : bits ≡ 0 → WordMore cells first word start reach
    walk_ends z = record {
      more = λ t log p d x m known some job is holds r.
          more_none t log p d x (m + done) (m + 64) (omega (arith, w.begun, w.within))
          (λ s l k e.
          clear t log p d m (s - (m + done)) holds (omega (arith, l, k))
          (ap (λ (n : ℕ). bit n (s - (m + done))) z ∙ zero_bit (s - (m + done))) s (omega (arith, l)) e)
          (w.reached t log p d x m known some job is holds r);
    }

    -- the next bit
    module _ (some_left : 0 < bits) where
      abbrev skip : ℕ
      skip = count_trailing_zeros 64 bits

      -- as a number of the machine has no more than 64 bits
      word_small : bits < 2 ^ 64
      word_small = lt_of_le_of_lt (le_of_eq w.left) (lt_of_le_of_lt (shr_le word done) small)

      here : bit bits skip ≡ 1
      here = set_above 64 bits some_left word_small

      pub skip_within : done + skip < 64
      skip_within = omega (arith, set_within bits skip (64 - done) here bits_small, w.begun, w.within)

      -- one number more, with the cell of its job
      one_more : (next : Reach) → Joins reach (reach_in (cell + skip) cells) next →
          (t : Table) (log p : List ℕ) (d j m : ℕ) → KnownCells t log d cells → 0 < length p → j < t.jobs →
          first ≡ cell_of j m → HoldsWord word (λ i. Ends t p (last d log) (m + i)) →
          OneMore t log p d j m start → OneMore t log p d j (suc (m + (done + skip))) next
      unfolding cell_of
      one_more next joins t log p d j m known some job is holds r =
          let n = m + (done + skip) in
          let ends : Ends t p (last d log) n = (holds (done + skip) skip_within).0 (sym (bit_left skip) ∙ here) in
          let at : cell + skip ≡ cell_of j n = omega (arith, is, w.begun) in
          let gap : OneMore t log p d j n reach =
          more_none t log p d j (m + done) n (omega arith)
          (λ s l h e.
          clear t log p d m (s - (m + done)) holds (omega (arith, l, h, skip_within))
          (clear_below 64 bits (s - (m + done)) (omega (arith, l, h))) s (omega (arith, l)) e)
          (w.reached t log p d j m known some job is holds r) in
          more_one t log p d j n cells ends
          (known.known j n job (le_of_lt (through_later t log p d n known.inside some ends)))
          (subst (λ (y : ℕ). Joins reach (reach_in y cells) next) at joins)
          gap

      pub walk_more : (next : Reach) → Joins reach (reach_in (cell + skip) cells) next →
          Walking cells first word start next (bits / 2 ^ skip / 2) (cell + skip + 1)
      walk_more next joins =
          let e : done + skip + 1 ≡ cell + skip + 1 - first = omega (arith, w.begun) in
          record {
            begun = omega (arith, w.begun);
            within = omega (arith, w.begun, skip_within);
            left = ap (λ (n : ℕ). n / 2 ^ skip / 2) w.left ∙ ap (λ (n : ℕ). n / 2) (shr-shr word done skip) ∙ shr-shr word (done + skip) 1
                ∙ ap (λ (n : ℕ). word / 2 ^ n) e;
            reached = λ t log p d x m known some job is holds r.
                let n : suc (m + (done + skip)) ≡ m + (cell + skip + 1 - first) = omega (arith, w.begun) in
                subst (λ (y : ℕ). OneMore t log p d x y next) n (one_more next joins t log p d x m known some job is holds r);
          }
