-- Checks over all blocks, the parts of an image that are its blocks, and what check 4 says of one. Assumes nothing.
use mathlib.Core.Path.{◌≡◌, refl, sym, ap, ◌∙◌, subst}
use mathlib.Core.Bool.{Bool, true, false, ◌&&◌, true≢false}
use mathlib.Core.List.{List, [], ◌++◌}
use Prim.Native.Nat.{ℕ, zero, suc, ◌+◌, ◌*◌, ◌-◌, ◌≤◌, ◌<◌}
use native.Mathlib.Omega.{arith}
use native.Mathlib.Decide.{ℕ_discrete}
use lib.Dec.{leb, eqb}
use lib.ListN.{length, get_or, take, drop, length-take, length-drop, take-append-drop}
use lib.Seq.{drop-drop}
use Rattle.std.specs.Simd.{first_chunks}
use borrow.Author.Tests.{leb-true, eqb-true, eqb-false, le-leb, eq-eqb, ne_eqb}
use Rattle.area.specs.Numbers.{number_at}
use Rattle.image.specs.Image.{block, blocks_in, rules_in_block, each_block, head_good, block_good, rules_fit, head_of, places_of_block}
use Rattle.bpa.proofs.Basics.Cases.{and_left, and_right, and_both}

-- a check of each block, and of one
pub each_one : (f : ℕ → Bool) (n k : ℕ) → each_block f n k ≡ true → (j : ℕ) → k ≤ j → j < k + n → f j ≡ true
unfolding each_block
each_one f zero k h = λ j low high. absurd (omega arith)
each_one f (suc n) k h =
    λ j low high. pick (each_one f n (suc k) (and_right (f k) (each_block f n (suc k)) h) j) low high (ℕ_discrete k j)
  where
    pick : {j : ℕ} → (suc k ≤ j → j < suc k + n → f j ≡ true) → k ≤ j → j < k + suc n → Dec (k ≡ j) → f j ≡ true
    pick later low high (yes e) = subst (λ i. f i ≡ true) e (and_left (f k) (each_block f n (suc k)) h)
    pick later low high (no e) = later (omega arith) (omega arith)

pub each_all : (f : ℕ → Bool) (n k : ℕ) → ((j : ℕ) → k ≤ j → j < k + n → f j ≡ true) → each_block f n k ≡ true
unfolding each_block
each_all f zero k h = refl
each_all f (suc n) k h =
    and_both (f k) (each_block f n (suc k)) (h k (omega arith) (omega arith))
    (each_all f n (suc k) (λ j low high. h j (omega arith) (omega arith)))

pub blocks_are : (bs : List ℕ) (n : ℕ) → length bs ≡ 512 * n → blocks_in bs ≡ n
unfolding blocks_in
blocks_are bs n e = omega arith

-- block k as the part from byte 512 * k on
pub block_part : (bs : List ℕ) (k : ℕ) → take (512 * k + 512 - 512 * k) (drop (512 * k) bs) ≡ block k bs
unfolding block
block_part bs k = let size : 512 * k + 512 - 512 * k ≡ 512 = omega arith in rw size

pub block_length : (bs : List ℕ) (k n : ℕ) → length bs ≡ 512 * n → k < n → length (block k bs) ≡ 512
unfolding block
block_length bs k n e h = simp (length-take, length-drop) (omega arith)

-- an image from block k on begins with block k
pub block_cons : (bs : List ℕ) (k : ℕ) → block k bs ++ drop (512 * suc k) bs ≡ drop (512 * k) bs
unfolding block
block_cons bs k =
    let next : 512 * suc k ≡ 512 * k + 512 = omega arith in
    rw (next, ← drop-drop 512 (512 * k) bs) (take-append-drop 512 (drop (512 * k) bs))

-- the blocks of an image as arrays: the one at place k is block k
pub length_chunks : (n : ℕ) (bs : List ℕ) → length (first_chunks 512 n bs) ≡ n
length_chunks zero bs = refl
length_chunks (suc n) bs = ap (λ (j : ℕ). suc j) (length_chunks n (drop 512 bs))

pub chunk_at : (bs : List ℕ) (n k : ℕ) → k < n → get_or (first_chunks 512 n bs) k [] ≡ block k bs
unfolding block
chunk_at bs zero k h = absurd (omega arith)
chunk_at bs (suc n) zero h = refl
chunk_at bs (suc n) (suc k) h =
    let next : 512 * suc k ≡ 512 + 512 * k = omega arith in
    chunk_at (drop 512 bs) n k (omega arith) ∙ rw (next, drop-drop (512 * k) 512 bs)

-- what check 4 says of a block
pub record Head (jobs blocks k : ℕ) (block : List ℕ) : Type 0 where
  pub some_jobs : 1 ≤ get_or block 0 0
  pub few_jobs : get_or block 0 0 ≤ 24
  pub same_jobs : get_or block 0 0 ≡ jobs
  pub some_rules : 1 ≤ rules_in_block block
  pub few_rules : rules_in_block block ≤ 63
  pub full : (suc k ≡ blocks → ⊥) → rules_in_block block ≡ 63
  pub number : number_at 506 block ≡ k
  pub count : number_at 508 block ≡ blocks

fit : (last : Bool) (r : ℕ) → rules_fit last r ≡ true → (1 ≤ r) × (r ≤ 63) × (last ≡ false → r ≡ 63)
unfolding rules_fit
fit true r h = (leb-true 1 r (and_left (leb 1 r) (leb r 63) h), leb-true r 63 (and_right (leb 1 r) (leb r 63) h), λ e. absurd (true≢false e))
fit false r h = let e = eqb-true r 63 h in (omega arith, omega arith, λ x. e)

fits : (last : Bool) (r : ℕ) → 1 ≤ r → r ≤ 63 → (last ≡ false → r ≡ 63) → rules_fit last r ≡ true
unfolding rules_fit
fits true r some few full = and_both (leb 1 r) (leb r 63) (le-leb 1 r some) (le-leb r 63 few)
fits false r some few full = eq-eqb r 63 (full refl)

-- check 4 of block k, over its own bytes
pub head_is : (bs : List ℕ) (k : ℕ) → head_good bs k ≡ head_of (get_or bs 0 0) (blocks_in bs) k (block k bs)
unfolding head_good
head_is bs k = refl

module _ (n b k : ℕ) (x : List ℕ) where
  abbrev low : Bool
  low = leb 1 (get_or x 0 0)

  abbrev high : Bool
  high = leb (get_or x 0 0) 24

  abbrev same : Bool
  same = eqb (get_or x 0 0) n

  abbrev rules : Bool
  rules = rules_fit (eqb (suc k) b) (rules_in_block x)

  abbrev numbers : Bool
  numbers = eqb (number_at 506 x) k && eqb (number_at 508 x) b

  pub head_facts : head_of n b k x ≡ true → Head n b k x
  unfolding head_of
  head_facts h =
      let jobs = and_left ((low && high) && same) (rules && numbers) h in
      let bounds = and_left (low && high) same jobs in
      let others = and_right ((low && high) && same) (rules && numbers) h in
      let rule_facts = fit (eqb (suc k) b) (rules_in_block x) (and_left rules numbers others) in
      let number_facts = and_right rules numbers others in
      record {
        some_jobs = leb-true 1 (get_or x 0 0) (and_left low high bounds);
        few_jobs = leb-true (get_or x 0 0) 24 (and_right low high bounds);
        same_jobs = eqb-true (get_or x 0 0) n (and_right (low && high) same jobs);
        some_rules = rule_facts.0;
        few_rules = rule_facts.1;
        full = λ e. rule_facts.2 (ne_eqb (suc k) b e);
        number = eqb-true (number_at 506 x) k (and_left (eqb (number_at 506 x) k) (eqb (number_at 508 x) b) number_facts);
        count = eqb-true (number_at 508 x) b (and_right (eqb (number_at 506 x) k) (eqb (number_at 508 x) b) number_facts);
      }

  pub head_made : Head n b k x → head_of n b k x ≡ true
  unfolding head_of
  head_made h =
      and_both ((low && high) && same) (rules && numbers)
      (and_both (low && high) same (and_both low high (le-leb 1 (get_or x 0 0) h.some_jobs) (le-leb (get_or x 0 0) 24 h.few_jobs)) (eq-eqb (get_or x 0 0) n h.same_jobs))
      (and_both rules numbers
      (fits (eqb (suc k) b) (rules_in_block x) h.some_rules h.few_rules (λ e. h.full (eqb-false (suc k) b e)))
      (and_both (eqb (number_at 506 x) k) (eqb (number_at 508 x) b) (eq-eqb (number_at 506 x) k h.number) (eq-eqb (number_at 508 x) b h.count)))

-- the rules of a block that check 4 passes
pub rules_few : (bs : List ℕ) (k : ℕ) → head_good bs k ≡ true → rules_in_block (block k bs) ≤ 63
rules_few bs k h = (head_facts (get_or bs 0 0) (blocks_in bs) k (block k bs) (sym (head_is bs k) ∙ h)).few_rules

-- check 5 of block k, over its own bytes
pub places_are : (bs : List ℕ) (k : ℕ) → block_good bs k ≡ places_of_block (get_or bs 0 0) (block k bs)
unfolding block_good
places_are bs k = refl
