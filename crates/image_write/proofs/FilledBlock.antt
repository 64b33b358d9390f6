-- A block that is put together from its front, whatever it held. Assumes nothing.
use mathlib.Core.Path.{◌≡◌, refl, sym, ap, ◌∙◌}
use mathlib.Core.List.{List, [], ◌∷◌, ◌++◌}
use Prim.Native.Nat.{ℕ, ◌+◌, ◌-◌, ◌/◌, ◌%◌, ◌≤◌}
use native.Mathlib.Nat.{le_refl}
use native.Mathlib.Omega.{arith}
use lib.ListN.{length, take, replicate, length-replicate}
use lib.Seq.{take-take, take_all}
use Rattle.area.specs.Areas.{put}
use Rattle.area.specs.Numbers.{low_first}
use Rattle.area.proofs.Puts.{put_up_to, put_length}
use Rattle.image.specs.Image.{byte_sum, checksum}
use Rattle.image.specs.Filling.{Fills, filled_body, filled}

-- a block of 512 bytes whose first e bytes are known
record Front (e : ℕ) (block front : List ℕ) : Type 0 where
  whole : length block ≡ 512
  known : take e block ≡ front

-- bytes put behind the known ones
further : (at e : ℕ) (block block' front new : List ℕ) → Front at block front → e ≡ at + length new → e ≤ 512 → block' ≡ put at new block
    → Front e block' (front ++ new)
further at e block block' front new f end fits h =
    let whole = f.whole in
    let room : at + length new ≤ length block = omega arith in record {
      whole = ap length h ∙ put_length at new block room ∙ whole;
      known = (λ i. take (end i) (h i)) ∙ put_up_to at new block (omega (arith, room)) ∙ ap (λ l. l ++ new) f.known;
    }

-- the checksum of a block is that of its first 510 bytes
sum_front : (block front : List ℕ) → take 510 block ≡ front → checksum block ≡ checksum front
unfolding checksum
sum_front block front h = ap (λ l. byte_sum l % 65521) (sym (take-take 510 510 block (le_refl 510)) ∙ ap (take 510) h)

pub fill : (n k b : ℕ) (ps b₀ : List ℕ) → Fills n ps b₀ → (b₁ b₂ b₃ b₄ b₅ b₆ : List ℕ) (sum : ℕ)
    → b₁ ≡ put 0 (n ∷ (length ps / 8) ∷ []) b₀ → b₂ ≡ put 2 ps b₁ → b₃ ≡ put (2 + length ps) (replicate (506 - (2 + length ps)) 0) b₂
    → b₄ ≡ put 506 (low_first k) b₃ → b₅ ≡ put 508 (low_first b) b₄ → sum ≡ checksum b₅ → b₆ ≡ put 510 (low_first sum) b₅ → b₆ ≡ filled n k b ps
unfolding filled filled_body low_first
fill n k b ps b₀ fills b₁ b₂ b₃ b₄ b₅ b₆ sum h₁ h₂ h₃ h₄ h₅ s h₆ =
    let few = fills.few_rules in
    let left : 506 - (2 + length ps) ≡ 504 - length ps = omega arith in
    let zeros : replicate {A = ℕ} (506 - (2 + length ps)) 0 ≡ replicate (504 - length ps) 0 = ap (λ m. replicate m 0) left in
    let many : length (replicate {A = ℕ} (504 - length ps) 0) ≡ 504 - length ps = length-replicate (504 - length ps) 0 in
    let f₁ = further 0 2 b₀ b₁ [] (n ∷ (length ps / 8) ∷ []) (record { whole = fills.whole; known = refl }) refl (omega arith) h₁ in
    let f₂ = further 2 (2 + length ps) b₁ b₂ _ ps f₁ refl (omega arith) h₂ in
    let f₃ = further (2 + length ps) 506 b₂ b₃ _ (replicate (504 - length ps) 0) f₂ (omega arith) (omega arith) (h₃ ∙ ap (λ l. put (2 + length ps) l b₂) zeros) in
    let f₄ = further 506 508 b₃ b₄ _ (low_first k) f₃ refl (omega arith) h₄ in
    let f₅ = further 508 510 b₄ b₅ _ (low_first b) f₄ refl (omega arith) h₅ in
    let f₆ = further 510 512 b₅ b₆ _ (low_first sum) f₅ refl (omega arith) h₆ in
    let size = f₆.whole in
    sym (take_all 512 b₆ (omega arith)) ∙ f₆.known ∙ ap (λ v. filled_body n k b ps ++ low_first v) (s ∙ sum_front b₅ (filled_body n k b ps) f₅.known)
