-- The part of a workspace that a call may use: it says whether refusal 1 is due, and once it is cleared the workspace is as a call
-- leaves it, whatever the part became. Assumes nothing.
use mathlib.Core.Path.{◌≡◌, refl, sym, ap, ◌∙◌}
use mathlib.Core.Bool.{Bool, true, false, cond}
use mathlib.Core.List.{List, ◌++◌}
use Prim.Native.Nat.{ℕ, ◌+◌, ◌-◌, ◌≤◌}
use native.Mathlib.Nat.{sub-zero}
use native.Mathlib.Omega.{arith}
use lib.Dec.{ltb}
use lib.ListN.{length, take, drop, replicate, length-replicate, length-append, length-drop}
use lib.Seq.{length-take-le, drop_at, drop-drop}
use borrow.Author.Tests.{ltb-false, le-ltb}
use Rattle.area.specs.Areas.{put}
use Rattle.area.proofs.PutLaws.{put_front}
use Rattle.answer.specs.Refusals.{space_size, space_refusal}
use Rattle.answer.specs.Answer.{space_after}
use Rattle.workspace.specs.Usable.{usable}

-- a workspace that refusal 1 does not meet
pub long_enough : (s : List ℕ) → space_refusal s ≡ 0 → 65536 ≤ length s
unfolding space_refusal space_size
long_enough s h = go (ltb (length s) 65536) refl
  where
    go : (b : Bool) → ltb (length s) 65536 ≡ b → 65536 ≤ length s
    go true e = absurd (let k = sym h ∙ ap (λ (x : Bool). cond x 1 0) e in omega arith)
    go false e = ltb-false (length s) 65536 e

pub long_passes : (s : List ℕ) → 65536 ≤ length s → space_refusal s ≡ 0
unfolding space_refusal space_size
long_passes s h = ap (λ (b : Bool). cond b 1 0) (le-ltb (length s) 65536 h)

long_after : (s : List ℕ) → 65536 ≤ length s → space_after s ≡ replicate space_size 0 ++ drop space_size s
unfolding space_after space_size
long_after s h = ap (λ (b : Bool). cond b s (replicate 65536 0 ++ drop 65536 s)) (le-ltb (length s) 65536 h)

-- the front of one that is long enough, as a call lends it to what does the work. Said here, and not where it is lent: arithmetic reads all that is
-- known at a place, and at the end of a call that is much
pub from_front : (n : ℕ) → 0 ≤ n
from_front n = omega arith

module _ (n : ℕ) (s : List ℕ) (few : n ≤ 65536) (h : 65536 ≤ length s) where
  pub front_inside : n ≤ length s
  front_inside = omega (arith, few, h)

  pub front_size : length (take n s) ≡ n
  front_size = length-take-le n s front_inside

-- refusal 1 by how much may be used
module _ (s : List ℕ) where
  pub none_usable : usable s ≡ 0 → space_refusal s ≡ 1
  unfolding usable space_refusal space_size
  none_usable h = go (ltb (length s) 65536) h
    where
      go : (b : Bool) → ◌≡◌ {A = ℕ} (cond b 0 65536) 0 → ◌≡◌ {A = ℕ} (cond b 1 0) 1
      go true e = refl
      go false e = absurd (omega arith)

  pub some_usable : (usable s ≡ 0 → ⊥) → space_refusal s ≡ 0
  unfolding usable space_refusal space_size
  some_usable h = go (ltb (length s) 65536) h
    where
      go : (b : Bool) → (◌≡◌ {A = ℕ} (cond b 0 65536) 0 → ⊥) → ◌≡◌ {A = ℕ} (cond b 1 0) 0
      go true d = absurd (d refl)
      go false d = refl

  pub usable_inside : usable s ≤ length s
  unfolding usable
  usable_inside = go (ltb (length s) space_size) refl
    where
      go : (b : Bool) → ltb (length s) space_size ≡ b → cond b 0 space_size ≤ length s
      go true e = omega arith
      go false e = ltb-false (length s) space_size e

  -- zeros in the part
  cleared : replicate (usable s) 0 ++ drop (usable s) s ≡ space_after s
  unfolding usable space_after
  cleared = go (ltb (length s) space_size)
    where
      go : (b : Bool) → replicate (cond b 0 space_size) 0 ++ drop (cond b 0 space_size) s ≡ cond b s (replicate space_size 0 ++ drop space_size s)
      go true = refl
      go false = refl

  pub part_cleared : (n : ℕ) → n ≡ usable s → put 0 (replicate (n - 0) 0) s ≡ space_after s
  part_cleared n e =
      put_front (replicate (n - 0) 0) s
      ∙ ap (λ (k : ℕ). replicate k 0 ++ drop (length (replicate {A = ℕ} k 0)) s) (sub-zero n ∙ e)
      ∙ ap (λ (k : ℕ). replicate (usable s) 0 ++ drop k s) (length-replicate (usable s) 0)
      ∙ cleared

-- the front of a workspace that is long enough was worked in and became w
module _ (s w : List ℕ) (n : ℕ) (inside : n ≤ 65536) (e : length w ≡ n) where
  same_behind : drop space_size (w ++ drop n s) ≡ drop space_size s
  unfolding space_size
  same_behind =
      let m : n + (65536 - n) ≡ 65536 = omega arith in
      let split : (l : List ℕ) → drop 65536 l ≡ drop (65536 - n) (drop n l) = λ l. sym (drop-drop (65536 - n) n l ∙ ap (λ (k : ℕ). drop k l) m) in
      split (w ++ drop n s) ∙ ap (drop (65536 - n)) (drop_at w (drop n s) n e) ∙ sym (split s)

  pub front_cleared : 65536 ≤ length s → space_after (w ++ drop n s) ≡ space_after s
  front_cleared h =
      let same : length (w ++ drop n s) ≡ length s = length-append w (drop n s) ∙ omega (arith, e, length-drop n s) in
      long_after (w ++ drop n s) (omega (arith, same)) ∙ ap (λ (l : List ℕ). replicate space_size 0 ++ l) same_behind ∙ sym (long_after s h)
