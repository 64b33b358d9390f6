-- Bytes put into a line, one part behind the other. Assumes nothing.
use mathlib.Core.Path.{◌≡◌, sym, subst, ap₂, ◌∙◌}
use mathlib.Core.List.{List, [], ◌++◌}
use Prim.Native.Nat.{ℕ, ◌≤◌, zero-le}
use native.Mathlib.Nat.{add-zero}
use native.Mathlib.Omega.{arith}
use lib.ListN.{length, length-append}
use Rattle.area.specs.Areas.{put, IsPut}
use Rattle.area.proofs.PutLaws.{put_none, put_put}
use Rattle.look_lines.specs.Lines.{IsLine}

-- nothing is put
pub put_nothing : (i : ℕ) (xs : List ℕ) → IsPut i [] xs i xs
put_nothing i xs = record { next = sym (add-zero i); output = sym (put_none i xs) }

-- two puts are one
pub put_both : {i r s : ℕ} {bs cs xs ys zs : List ℕ} → i ≤ length xs → IsPut i bs xs r ys → IsPut r cs ys s zs → IsPut i (bs ++ cs) xs s zs
put_both {i} {r} {s} {bs} {cs} {xs} h p q =
    record {
      next = q.next ∙ omega (arith, p.next, length-append bs cs);
      output = q.output ∙ ap₂ (λ (k : ℕ) (l : List ℕ). put k cs l) p.next p.output ∙ put_put i bs cs xs h;
    }

-- a put at the front, and one behind it
pub put_line : {r s : ℕ} {bs cs xs ys zs : List ℕ} → IsPut 0 bs xs r ys → IsPut r cs ys s zs → IsPut 0 (bs ++ cs) xs s zs
put_line p q = put_both zero-le p q

-- the same bytes
pub put_as : {i r : ℕ} {bs cs xs ys : List ℕ} → bs ≡ cs → IsPut i bs xs r ys → IsPut i cs xs r ys
put_as {i} {r} {bs} {cs} {xs} {ys} e p = subst (λ (l : List ℕ). IsPut i l xs r ys) e p

pub line_as : {r : ℕ} {bs cs xs ys : List ℕ} → bs ≡ cs → IsLine bs xs r ys → IsLine cs xs r ys
line_as {r} {bs} {cs} {xs} {ys} e l = subst (λ (b : List ℕ). IsLine b xs r ys) e l
