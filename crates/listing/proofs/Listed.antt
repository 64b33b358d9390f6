-- What is written, by how many rows there are and the row at an index. Assumes nothing.
use mathlib.Core.Path.{◌≡◌, refl, sym, ap, ap₂, ◌∙◌}
use mathlib.Core.Bool.{Bool, cond, true≢false}
use mathlib.Core.List.{List, [], ◌∷◌, ◌++◌, append_assoc}
use Prim.Native.Nat.{ℕ, ◌+◌, ◌≤◌, ◌<◌}
use native.Mathlib.Omega.{arith}
use mathlib.Core.Logic.{◌↔◌}
use lib.ListN.{length, get_or, take, set, length-append}
use borrow.Author.Tests.{lt-ltb, le-ltb}
use mir.Val.{bool_byte}
use Rattle.area.specs.Areas.{put}
use Rattle.area.proofs.Puts.{put_length}
use Rattle.area.proofs.PutLaws.{put_one, put_put}
use Rattle.words.specs.Words.{word_bytes}
use Rattle.words.proofs.PutWords.{eight}
use Rattle.std.specs.Prelude.{Option, Some, None, IsNone, IfSome, is_some}
use Rattle.catalogue.proofs.BegunRows.{by_order}
use Rattle.nth_row.specs.declared.row.Row.{Row}
use Rattle.nth_row.specs.Rows.{IsRow}
use Rattle.listing.specs.Listing.{entry_bytes, listing, row_bytes}

pub answer_long : (n f : ℕ) (row : List ℕ) → length (word_bytes n ++ (f ∷ row)) ≡ 9 + length row
answer_long n f row = omega (arith, length-append (word_bytes n) (f ∷ row), eight n)

-- put one behind the other
pub answer_put : (n f : ℕ) (row out : List ℕ) → 9 + length row ≤ length out →
    put 9 row (set (put 0 (word_bytes n) out) 8 f) ≡ put 0 (word_bytes n ++ (f ∷ row)) out
answer_put n f row out h =
    let w : List ℕ = word_bytes n in
    let a : 8 ≡ 0 + length w = omega (arith, eight n) in
    let b : 9 ≡ 0 + length (w ++ (f ∷ [])) = omega (arith, length-append w (f ∷ []), eight n) in
    let long : length (put 0 w out) ≡ length out = put_length 0 w out (omega (arith, eight n)) in
    ap₂ (λ (i : ℕ) (o : List ℕ). put i row o) b
    (sym (put_one 8 f (put 0 w out) (omega (arith, long))) ∙ ap (λ (i : ℕ). put i (f ∷ []) (put 0 w out)) a ∙ put_put 0 w (f ∷ []) out (omega arith))
    ∙ put_put 0 (w ++ (f ∷ [])) row out (omega arith)
    ∙ ap (λ (l : List ℕ). put 0 l out) (append_assoc w (f ∷ []) row)

-- the jobs of a row that was found, and whether one was
abbrev pub jobs_of : Option Row → List ℕ
jobs_of (Some row) = take row.len row.jobs
jobs_of None = []

pub entry_is : (row : Option Row) (jobs : List ℕ) (found : ℕ) → jobs ≡ jobs_of row → found ≡ bool_byte (is_some row) → found ∷ jobs ≡ row_bytes row
entry_is (Some row) jobs found e f = ap₂ ◌∷◌ f e
entry_is None jobs found e f = ap₂ ◌∷◌ f e

pub bytes_long : (n : ℕ) (row : Option Row) → length (word_bytes n ++ row_bytes row) ≡ 9 + length (jobs_of row)
bytes_long n (Some row) = answer_long n 1 (take row.len row.jobs)
bytes_long n None = answer_long n 0 []

pub row_listed : (l : List (List ℕ)) (k n : ℕ) → n ≡ length l → (row : Option Row) → IsNone row ↔ (length l ≤ k) → IfSome row (IsRow l k) →
    word_bytes n ++ row_bytes row ≡ listing l k
unfolding listing entry_bytes
row_listed l k n is (Some row) none some =
    let less : k < length l = by_order k (length l) (λ (h : k < length l). h) (λ (h : length l ≤ k). absurd (true≢false (none.1 h))) in
    ap₂ (λ (m : ℕ) (r : List ℕ). word_bytes m ++ (1 ∷ r)) is some
    ∙ ap (λ (b : Bool). word_bytes (length l) ++ cond b (1 ∷ get_or l k []) (0 ∷ [])) (sym (lt-ltb k (length l) less))
row_listed l k n is None none some =
    ap₂ (λ (m : ℕ) (e : List ℕ). word_bytes m ++ e) is (ap (λ (b : Bool). cond b (1 ∷ get_or l k []) (0 ∷ [])) (sym (le-ltb k (length l) (none.0 refl))))
