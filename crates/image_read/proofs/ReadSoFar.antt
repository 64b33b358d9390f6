-- The reader's state before block k, and what one block adds. Assumes nothing.
use Rattle.std.proofs.Common.{◌≡◌, sym, ap, ◌∙◌, subst, List, [], ◌++◌, append_assoc, ℕ, suc, ◌+◌, ◌*◌, ◌-◌, ◌/◌, ◌≤◌, ◌<◌, length, get_or, take, arith}
use mathlib.Core.List.{append-nil}
use native.Mathlib.Nat.{sub-zero}
use native.Mathlib.Numerals.{add-one}
use lib.Seq.{length-take-le}
use Rattle.std.specs.Simd.{first_chunks}
use Rattle.image.specs.Image.{block_places, block, blocks_in, places_from, image_jobs, image_places}
use Rattle.image.specs.Reading.{Takes, Took, HoldsTable}
use Rattle.image.proofs.Blocks.{block_length, chunk_at}
use Rattle.image.proofs.AcceptedImages.{LaidOut}
use Rattle.image.proofs.HeldTable.{held}

-- the state before block k
pub record State (bs : List ℕ) (blocks k jobs number count : ℕ) (rules : List ℕ) : Type 0 where
  pub within : k ≤ blocks
  pub number_is : number ≡ k
  pub room : count ≤ 63 * k
  pub size : length rules ≡ 2016
  pub jobs_are : 0 < k → jobs ≡ get_or bs 0 0
  pub holds : take (8 * count) rules ++ places_from (blocks - k) k bs ≡ image_places bs

pub start : (bs : List ℕ) (jobs number count : ℕ) (rules : List ℕ) → number ≡ 0 → count ≡ 0 → length rules ≡ 2016
    → State bs (length bs / 512) 0 jobs number count rules
unfolding image_places blocks_in
start bs jobs number count rules n c s = record {
  within = omega arith;
  number_is = n;
  room = omega arith;
  size = s;
  jobs_are = λ h. absurd (omega arith);
  holds = rw (c, sub-zero);
}

-- the places of block k and of those behind it
one_more : (bs : List ℕ) (blocks k : ℕ) → k < blocks → places_from (blocks - k) k bs ≡ block_places (block k bs) ++ places_from (blocks - (k + 1)) (k + 1) bs
unfolding places_from
one_more bs blocks k h = let left : blocks - k ≡ suc (blocks - (k + 1)) = omega arith in rw (left, add-one)

no_more : (bs : List ℕ) (blocks k : ℕ) → blocks ≤ k → places_from (blocks - k) k bs ≡ []
unfolding places_from
no_more bs blocks k h = let left : blocks - k ≡ 0 = omega arith in rw left

module _ (bs : List ℕ) (k jobs number count : ℕ) (rules : List ℕ) (t : State bs (length bs / 512) k jobs number count rules) where
  at : (xs : List (List ℕ)) → xs ≡ first_chunks 512 (length bs / 512) bs → k < length bs / 512 → get_or xs k [] ≡ block k bs
  at xs e h = ap (λ (ys : List (List ℕ)). get_or ys k []) e ∙ chunk_at bs (length bs / 512) k h

  pub takes : (xs : List (List ℕ)) → xs ≡ first_chunks 512 (length bs / 512) bs → k < length bs / 512 → LaidOut bs → Takes number count rules (get_or xs k [])
  unfolding blocks_in
  takes xs e h g = subst (Takes number count rules) (sym (at xs e h)) (record {
    whole = block_length bs k (length bs / 512) g.length_is h;
    few_blocks = let n = t.number_is in let few = g.few_blocks in omega arith;
    few_rules = (g.heads k h).few_rules;
    room = let n = t.number_is in let r = t.room in omega arith;
    size = t.size;
  })

  pub next : (xs : List (List ℕ)) → xs ≡ first_chunks 512 (length bs / 512) bs → k < length bs / 512 → LaidOut bs → (jobs' number' count' : ℕ) (rules' : List ℕ)
      → jobs' ≡ get_or (get_or xs k []) 0 0 → number' ≡ number + 1
      → Took count rules (get_or xs k []) count' rules'
      → State bs (length bs / 512) (k + 1) jobs' number' count' rules'
  unfolding blocks_in
  next xs e h g jobs' number' count' rules' j n w =
      let took : Took count rules (block k bs) count' rules' = subst (λ (x : List ℕ). Took count rules x count' rules') (at xs e h) w in
      let later = places_from (length bs / 512 - (k + 1)) (k + 1) bs in
      record {
        within = omega arith;
        number_is = let e = t.number_is in omega arith;
        room = let e = took.count_is in let few = (g.heads k h).few_rules in let r = t.room in omega arith;
        size = took.size;
        jobs_are = λ p. j ∙ ap (λ (x : List ℕ). get_or x 0 0) (at xs e h) ∙ (g.heads k h).same_jobs;
        holds = ap (λ l. l ++ later) took.holds ∙ append_assoc (take (8 * count) rules) (block_places (block k bs)) later
            ∙ ap (λ l. take (8 * count) rules ++ l) (sym (one_more bs (length bs / 512) k h)) ∙ t.holds;
      }

  pub done : length bs / 512 ≤ k → LaidOut bs → HoldsTable bs jobs count rules
  unfolding blocks_in image_jobs
  done h g =
      let all : take (8 * count) rules ≡ image_places bs =
      sym (append-nil (take (8 * count) rules)) ∙ ap (λ l. take (8 * count) rules ++ l) (sym (no_more bs (length bs / 512) k h)) ∙ t.holds in
      let some = g.some_blocks in
      let few = g.few_blocks in
      let w = t.within in
      let r = t.room in
      let j : jobs ≡ image_jobs bs = t.jobs_are (omega arith) in
      record {
        jobs_are = j;
        some_jobs = let m = (held bs g).job in omega arith;
        few_jobs = let m = (held bs g).jobs in omega arith;
        count_is = sym (length-take-le (8 * count) rules (let s = t.size in omega arith)) ∙ ap length all;
        few_rules = omega arith;
        size = t.size;
        holds = all;
      }
