-- THE FOUR SHAPES of what a call gives back and leaves in the areas lent to it: a number, bytes written, and each of them with a
-- workspace. `refusal` is what the call's own checks come to. Assumes nothing: these are definitions.
use Rattle.std.specs.Prelude.{◌≡◌, Bool, true, false, cond, List, ◌++◌, ℕ, zero, suc, ltb, ℤ, pos, negsuc, length, drop, replicate, Result, Ok, Err}
use Rattle.area.specs.Areas.{put}
use Rattle.answer.specs.declared.Refusal.{Refusal}
use Rattle.answer.specs.Refusals.{or_else, space_size, space_refusal, room_refusal, number}

-- a result, or a refusal's number made negative; refusal 0 is none
unfoldable pub signed : (refusal value : ℕ) → ℤ
signed zero v = pos v
signed (suc n) v = negsuc n

-- what a call gives back for a result, and for a refusal
unfoldable pub answered : Result ℕ Refusal → ℤ
answered (Ok v) = pos v
answered (Err r) = signed (number r) 0

-- an answer of yes or no as a number
unfoldable pub one_if : Bool → ℕ
one_if true = 1
one_if false = 0

-- A NUMBER
abbrev pub Gives : (refusal value : ℕ) → ℤ → Type 0
Gives f v r = r ≡ signed f v

-- BYTES WRITTEN: refusal 10 comes after all others. A result stands at the front of the output, and the bytes behind it stay; a
-- refusal leaves all of them.
unfoldable pub with_room : (refusal : ℕ) → (bytes out : List ℕ) → ℕ
with_room f bs o = or_else f (room_refusal bs o)

unfoldable pub output_after : (refusal : ℕ) → (bytes out : List ℕ) → List ℕ
output_after zero bs o = put 0 bs o
output_after (suc n) bs o = o

pub record Writes (refusal : ℕ) (bytes out : List ℕ) (r : ℤ) (out' : List ℕ) : Type 0 where
  pub answer : r ≡ signed (with_room refusal bytes out) (length bytes)
  pub output : out' ≡ output_after (with_room refusal bytes out) bytes out

-- THE WORKSPACE: refusal 1 comes before all others and leaves it as it is; after any other end its first 65,536 bytes are zero
abbrev pub with_space : (space : List ℕ) → (refusal : ℕ) → ℕ
with_space s f = or_else (space_refusal s) f

unfoldable pub space_after : (space : List ℕ) → List ℕ
space_after s = cond (ltb (length s) space_size) s (replicate space_size 0 ++ drop space_size s)

-- A NUMBER, WITH A WORKSPACE
pub record GivesWithSpace (refusal value : ℕ) (space : List ℕ) (r : ℤ) (space' : List ℕ) : Type 0 where
  pub answer : Gives (with_space space refusal) value r
  pub cleared : space' ≡ space_after space

-- BYTES WRITTEN, WITH A WORKSPACE
pub record WritesWithSpace (refusal : ℕ) (bytes out space : List ℕ) (r : ℤ) (out' space' : List ℕ) : Type 0 where
  pub written : Writes (with_space space refusal) bytes out r out'
  pub cleared : space' ≡ space_after space
