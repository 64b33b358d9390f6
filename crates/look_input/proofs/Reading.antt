-- What the bytes say that were read, and that they stay where others are read behind them. Assumes nothing.
use mathlib.Core.Path.{◌≡◌, refl, sym, ap, ap₂, subst, ◌∙◌}
use mathlib.Core.Bool.{Bool, true, false, cond}
use mathlib.Core.Logic.{inl, inr}
use mathlib.Core.List.{List, ◌++◌}
use Prim.Native.Nat.{ℕ, zero, suc, ◌+◌, ◌*◌, ◌≤◌, ◌<◌}
use native.Mathlib.Omega.{arith}
use borrow.Author.Tests.{leb-true, leb-false}
use lib.Dec.{leb, ltb}
use lib.ListN.{length, take, drop, get_or, get_or-append}
use lib.Seq.{length-take-le, get_or-take, take_at, drop_at}
use Rattle.area.specs.Numbers.{number_at}
use Rattle.look_input.specs.declared.Got.{Got}
use Rattle.look_input.specs.declared.Got.TheVariants.{Cut, Long, Plan}
use Rattle.look_input.specs.Input.{image_size, block_got, image_got, ImageRead, plan_length, length_got, jobs_got, Reads}

-- a number at the front of an area stays
module _ (k : ℕ) (xs ys : List ℕ) (inside : k ≤ length xs) where
  byte_kept : (i : ℕ) → i < k → get_or (take k xs ++ ys) i 0 ≡ get_or xs i 0
  byte_kept i h = get_or-append (take k xs) ys 0 i (omega (arith, length-take-le k xs inside)) ∙ get_or-take k xs i 0 h

  pub number_kept : (i : ℕ) → suc i < k → number_at i (take k xs ++ ys) ≡ number_at i xs
  unfolding number_at
  number_kept i h = ap₂ (λ (a b : ℕ). a + 256 * b) (byte_kept i (omega arith)) (byte_kept (suc i) h)

-- an image's size is what its first block says
said : (b : Bool) (n m : ℕ) → n ≡ cond b 0 m → 512 ≤ n → n ≡ m
said true n m e h = absurd (omega arith)
said false n m e h = e

image_is : {r : ℕ} (b : Bool) (n : ℕ) (area : List ℕ) → r ≡ cond b 0 n → n ≤ 2048 → n ≡ image_size area → ImageRead area r
image_is true n area e h s = record { within = omega arith; size = inl e }
image_is false n area e h s = record { within = omega arith; size = inr (e ∙ s) }

pub image_read : {r : ℕ} (j k n : ℕ) (xs ys : List ℕ) → n ≡ block_got j xs → 512 ≤ n → n ≤ 2048 → 512 ≤ length xs → r ≡ image_got k n →
    ImageRead (take 512 xs ++ ys) r
unfolding image_size block_got image_got
image_read j k n xs ys b l h f e =
    let kept = ap (λ (m : ℕ). cond (leb m 4) (512 * m) 0) (sym (number_kept 512 xs ys f 508 (omega arith))) in
    image_is (ltb k n) n (take 512 xs ++ ys) e h (said (ltb j 512) n (image_size xs) b l ∙ kept)

-- what a length says, and what stands there once its jobs were read behind it
fits : (p : List ℕ) (b : Bool) → leb (plan_length p) 4096 ≡ b → Reads (cond b (Plan (plan_length p)) Long) p
unfolding Reads
fits p true e = (refl, leb-true (plan_length p) 4096 e)
fits p false e = leb-false (plan_length p) 4096 e

length_says : (k : ℕ) (p : List ℕ) → Reads (length_got k (plan_length p)) p
unfolding length_got Reads
length_says zero p = tt
length_says (suc zero) p = tt
length_says (suc (suc k)) p = fits p (leb (plan_length p) 4096) refl

pub length_reads : {g : Got} (k : ℕ) (p : List ℕ) → g ≡ length_got k (plan_length p) → Reads g p
length_reads k p e = subst (λ (g : Got). Reads g p) (sym e) (length_says k p)

cut_or_whole : (n : ℕ) (p : List ℕ) (b : Bool) → Reads (Plan n) p → Reads (cond b Cut (Plan n)) p
unfolding Reads
cut_or_whole n p true r = tt
cut_or_whole n p false r = r

length_kept : (n : ℕ) (xs ys : List ℕ) → 2 ≤ length xs → Reads (Plan n) xs → Reads (Plan n) (take 2 xs ++ ys)
unfolding Reads plan_length
length_kept n xs ys h r = (r.0 ∙ sym (number_kept 2 xs ys h 0 (omega arith)), r.1)

pub jobs_read : {g : Got} (k n : ℕ) (xs ys : List ℕ) → g ≡ jobs_got k n → 2 ≤ length xs → Reads (Plan n) xs → Reads g (take 2 xs ++ ys)
unfolding jobs_got
jobs_read k n xs ys e h r =
    subst (λ (g : Got). Reads g (take 2 xs ++ ys)) (sym e) (cut_or_whole n (take 2 xs ++ ys) (ltb k n) (length_kept n xs ys h r))

-- a part at the front of an area, and the next one
module _ (n : ℕ) (g : Got) (part : List ℕ) (e : length part ≡ n) (r : Reads g part) where
  pub reads_front : (ys : List ℕ) → Reads g (take n (part ++ ys))
  reads_front ys = subst (Reads g) (sym (take_at part ys n e)) r

  pub reads_next : (xs ys : List ℕ) → n ≤ length xs → Reads g (take n (drop n (take n xs ++ (part ++ ys))))
  reads_next xs ys h =
      subst (Reads g) (sym (ap (take n) (drop_at (take n xs) (part ++ ys) n (length-take-le n xs h)) ∙ take_at part ys n e)) r
