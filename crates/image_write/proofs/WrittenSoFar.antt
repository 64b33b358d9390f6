-- The output before block k is written, and what one block adds. Assumes nothing.
use Rattle.std.proofs.Common.{◌≡◌, refl, sym, ap, ◌∙◌, List, [], ◌++◌, append_assoc, ℕ, suc, ◌+◌, ◌*◌, ◌-◌, ◌/◌, ◌≤◌, ◌<◌, min, length, take, drop, length-append, arith}
use mathlib.Core.List.{append-nil}
use native.Mathlib.Nat.{sub-zero}
use native.Mathlib.Numerals.{add-one}
use lib.ListN.{length-take, length-drop, take-append-drop}
use lib.Seq.{length-take-le, take_at, drop-drop}
use borrow.Rule.Slice.PartMut.{put_mid, post_of, same_len_mid, drop_put}
use Rattle.area.specs.Areas.{IsPut}
use Rattle.area.proofs.PutLaws.{put_front}
use Rattle.rules.specs.Lists.{GoodList}
use Rattle.rules.specs.Places.{rule_count}
use Rattle.image.specs.Writing.{blocks_for, rules_for, written_block, written_from, written}
use Rattle.image.specs.Filling.{filled}
use Rattle.image.proofs.WrittenImages.{filled_is, block_size, written_size}

abbrev pub blocks : (rules : List ℕ) → ℕ
blocks rs = (length rs / 8 + 62) / 63

-- what the loop does not change
pub record Fixed (n : ℕ) (rs out₀ : List ℕ) (count : ℕ) : Type 0 where
  pub sized : length rs ≡ 8 * (length rs / 8)
  pub few_rules : length rs ≤ 2016
  pub few_jobs : n ≤ 24
  pub few_blocks : count ≤ 4
  pub all : length rs ≤ 504 * count
  pub last : 504 * count < length rs + 504
  pub room : 512 * count ≤ length out₀

-- the output before block k is written
pub record State (n : ℕ) (rs out₀ : List ℕ) (count k : ℕ) (out : List ℕ) : Type 0 where
  pub fixed : Fixed n rs out₀ count
  pub within : k ≤ count
  pub size : length out ≡ length out₀
  pub done : take (512 * k) out ++ written_from (count - k) k n rs ≡ written n rs
  pub kept : drop (512 * k) out ≡ drop (512 * k) out₀

pub begin : (n : ℕ) (rs out : List ℕ) → GoodList n rs → length (written n rs) ≤ length out → State n rs out (blocks rs) 0 out
unfolding rule_count blocks_for written
begin n rs out g room =
    let sized = g.whole in
    let some = g.some in
    let few = g.few in
    let all = written_size rs sized n in record {
      fixed = record {
        sized = sized;
        few_rules = omega arith;
        few_jobs = g.jobs;
        few_blocks = omega arith;
        all = omega arith;
        last = omega arith;
        room = omega arith;
      };
      within = omega arith;
      size = refl;
      done = rw sub-zero;
      kept = refl;
    }

-- block k and those behind it
one_more : (n : ℕ) (rs : List ℕ) (count k : ℕ) → k < count →
    written_from (count - k) k n rs ≡ written_block n k rs ++ written_from (count - (k + 1)) (k + 1) n rs
unfolding written_from
one_more n rs count k h = let left : count - k ≡ suc (count - (k + 1)) = omega arith in rw (left, add-one)

no_more : (n : ℕ) (rs : List ℕ) (count k : ℕ) → count ≤ k → written_from (count - k) k n rs ≡ []
unfolding written_from
no_more n rs count k h = let left : count - k ≡ 0 = omega arith in rw left

module _ (n : ℕ) (rs out₀ : List ℕ) (k : ℕ) (out : List ℕ) (t : State n rs out₀ (blocks rs) k out) where
  filled_block : k < blocks rs → (to : ℕ) → to ≡ min (504 * k + 504) (length rs) → filled n k (blocks rs) (take (to - 504 * k) (drop (504 * k) rs)) ≡ written_block n k rs
  unfolding rules_for rule_count blocks_for
  filled_block h to e =
      let size : to - 504 * k ≡ 8 * min 63 (length rs / 8 - 63 * k) = omega arith in
      ap (λ m. filled n k (blocks rs) (take m (drop (504 * k) rs))) size ∙ filled_is rs t.fixed.sized n k

  pub next : k < blocks rs → (to : ℕ) → to ≡ min (504 * k + 504) (length rs) → (block : List ℕ)
      → block ≡ filled n k (blocks rs) (take (to - 504 * k) (drop (504 * k) rs))
      → State n rs out₀ (blocks rs) (k + 1) (put_mid (512 * k) (512 * k + 512 - 512 * k) out block)
  unfolding rule_count
  next h to e block w =
      let a = 512 * k in
      let k' = k + 1 in
      let block_is : block ≡ written_block n k rs = w ∙ filled_block h to e in
      let many : length block ≡ 512 = ap length block_is ∙ block_size rs t.fixed.sized n k in
      let middle : length (take (a + 512 - a) (drop a out)) ≡ 512 = simp (length-take, length-drop) (omega arith) in
      let end : 512 * k' ≡ a + 512 = omega arith in
      let front : length (take a out ++ block) ≡ 512 * k' = let f = length-take-le a out (omega arith) in length-append (take a out) block ∙ omega arith in
      let later = written_from (blocks rs - k') k' n rs in record {
        fixed = t.fixed;
        within = omega arith;
        size = same_len_mid a (a + 512 - a) out block (many ∙ sym middle) ∙ t.size;
        done = ap (λ l. take (512 * k') l ++ later) (sym (append_assoc (take a out) block (post_of a (a + 512 - a) out)))
            ∙ ap (λ l. l ++ later) (take_at (take a out ++ block) (post_of a (a + 512 - a) out) (512 * k') front)
            ∙ append_assoc (take a out) block later ∙ ap (λ l. take a out ++ (l ++ later)) block_is
            ∙ ap (λ l. take a out ++ l) (sym (one_more n rs (blocks rs) k h)) ∙ t.done;
        kept = ap (λ m. drop m (put_mid a (a + 512 - a) out block)) end
            ∙ drop_put a (a + 512) out block (omega arith) (omega arith) (omega arith)
            ∙ sym (drop-drop 512 a out) ∙ ap (drop 512) t.kept ∙ drop-drop 512 a out₀ ∙ ap (λ m. drop m out₀) (sym end);
      }

  pub done : blocks rs ≤ k → IsPut 0 (written n rs) out₀ (512 * blocks rs) out
  unfolding rule_count blocks_for
  done h =
      let all = written_size rs t.fixed.sized n in
      let end : length (written n rs) ≡ 512 * k = let w = t.within in omega arith in
      let whole : take (512 * k) out ≡ written n rs =
      sym (append-nil (take (512 * k) out)) ∙ ap (λ l. take (512 * k) out ++ l) (sym (no_more n rs (blocks rs) k h)) ∙ t.done in
      record {
        next = omega arith;
        output =
            sym (take-append-drop (512 * k) out) ∙ (λ i. whole i ++ t.kept i) ∙ ap (λ m. written n rs ++ drop m out₀) (sym end)
            ∙ sym (put_front (written n rs) out₀);
      }
