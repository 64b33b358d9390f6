-- Laws of dictionary order: of two rows at most one is before the other, a row before a second is before each after it, and `earliest` is
-- one of the rows, before which none of them comes. Assumes nothing.
use mathlib.Core.Path.{◌≡◌, refl, sym, ap, ap₂, ◌∙◌, subst}
use mathlib.Core.List.{List, [], ◌∷◌, ◌++◌}
use mathlib.Core.List.Memᴰ
use mathlib.Core.List.Memᴰ.{head as here}
use mathlib.Core.List.Memᴰ.{tail as there}
use mathlib.Core.List.{Memᴰ}
use mathlib.Core.Logic.{◌⊎◌, inl, inr, ⊎_elim, ⊎_map}
use Prim.Native.Nat.{ℕ}
use native.Mathlib.Omega.{arith}
use lib.Dec.{ltb}
use lib.ListN.{length}
use borrow.Author.Tests.{ltb-true, ltb-false}
use Rattle.bpa.proofs.Norm.NormRounds.{cond_elim}
use Rattle.first_run.specs.FirstRun.{Before, earlier, earliest}

pub before_asym : (u v : List ℕ) → Before u v → Before v u → ⊥
unfolding Before
before_asym [] [] h k = h
before_asym [] (b ∷ v) h k = k
before_asym (a ∷ u) [] h k = h
before_asym (a ∷ u) (b ∷ v) (inl h) (inl k) = omega arith
before_asym (a ∷ u) (b ∷ v) (inl h) (inr k) = omega arith
before_asym (a ∷ u) (b ∷ v) (inr h) (inl k) = omega arith
before_asym (a ∷ u) (b ∷ v) (inr h) (inr k) = before_asym u v h.1 k.1

pub before_trans : (u v w : List ℕ) → Before u v → Before v w → Before u w
unfolding Before
before_trans [] [] w h k = absurd h
before_trans [] (b ∷ v) [] h k = k
before_trans [] (b ∷ v) (c ∷ w) h k = tt
before_trans (a ∷ u) [] w h k = absurd h
before_trans (a ∷ u) (b ∷ v) [] h k = k
before_trans (a ∷ u) (b ∷ v) (c ∷ w) (inl h) (inl k) = inl (omega arith)
before_trans (a ∷ u) (b ∷ v) (c ∷ w) (inl h) (inr k) = inl (omega arith)
before_trans (a ∷ u) (b ∷ v) (c ∷ w) (inr h) (inl k) = inl (omega arith)
before_trans (a ∷ u) (b ∷ v) (c ∷ w) (inr h) (inr k) = inr (h.0 ∙ k.0, before_trans u v w h.1 k.1)

-- of rows that are equally long, what follows them does not matter
pub before_append : (u v s s' : List ℕ) → length u ≡ length v → Before u v → Before (u ++ s) (v ++ s')
unfolding Before
before_append [] [] s s' e h = absurd h
before_append [] (b ∷ v) s s' e h = absurd (omega arith)
before_append (a ∷ u) [] s s' e h = absurd h
before_append (a ∷ u) (b ∷ v) s s' e (inl h) = inl h
before_append (a ∷ u) (b ∷ v) s s' e (inr h) = inr (h.0, before_append u v s s' (omega arith) h.1)

-- equal, or before it
abbrev pub NotAfter : (left right : List ℕ) → Type 0
NotAfter u v = (u ≡ v) ⊎ Before u v

pub equal_rows : {u v : List ℕ} → NotAfter u v → NotAfter v u → u ≡ v
equal_rows (inl e) k = e
equal_rows (inr h) (inl e) = sym e
equal_rows {u} {v} (inr h) (inr k) = absurd (before_asym u v h k)

pub not_after_trans : {u v w : List ℕ} → NotAfter u v → NotAfter v w → NotAfter u w
not_after_trans (inl e) k = rw e k
not_after_trans (inr h) (inl e) = inr (rw e at h)
not_after_trans {u} {v} {w} (inr h) (inr k) = inr (before_trans u v w h k)

pub not_after_cons : {a b : ℕ} {u v : List ℕ} → a ≡ b → NotAfter u v → NotAfter (a ∷ u) (b ∷ v)
unfolding Before
not_after_cons e h = ⊎_map (ap₂ ◌∷◌ e) (λ k. inr (e, k)) h

pub not_after_append : (s : List ℕ) {u v : List ℕ} → length u ≡ length v → NotAfter u v → NotAfter (u ++ s) (v ++ s)
not_after_append s {u} {v} e h = ⊎_map (ap (λ l. l ++ s)) (before_append u v s s e) h

-- the two cases of the earlier of two rows
earlier_cases : (P : List ℕ → Type 0) (u v : List ℕ) → (NotAfter u v → P u) → (Before v u → P v) → P (earlier u v)
unfolding earlier Before
earlier_cases P [] [] f g = f (inl refl)
earlier_cases P [] (b ∷ v) f g = f (inr tt)
earlier_cases P (a ∷ u) [] f g = g tt
earlier_cases P (a ∷ u) (b ∷ v) f g =
    cond_elim P (ltb a b) _ _ (λ e. f (inr (inl (ltb-true a b e))))
    (λ e. cond_elim P (ltb b a) _ _ (λ d. g (inl (ltb-true b a d)))
    (λ d.
    let s : a ≡ b = omega (arith, ltb-false a b e, ltb-false b a d) in
    earlier_cases (λ l. P (a ∷ l)) u v (λ h. f (not_after_cons s h)) (λ h. subst (λ (x : ℕ). P (x ∷ v)) (sym s) (g (inr (sym s, h))))))

pub earliest_member : (rows : List (List ℕ)) {row : List ℕ} → Memᴰ row rows → Memᴰ (earliest rows) rows
unfolding earliest
earliest_member [] m = absurd (Memᴰ.not-nil m)
earliest_member (u ∷ []) m = here refl
earliest_member (u ∷ v ∷ more) m =
    earlier_cases (λ l. Memᴰ l (u ∷ v ∷ more)) u (earliest (v ∷ more)) (λ h. here refl)
    (λ h. there (earliest_member (v ∷ more) {row = v} (here refl)))

pub earliest_first : (rows : List (List ℕ)) {row : List ℕ} → Memᴰ row rows → NotAfter (earliest rows) row
unfolding earliest
earliest_first [] m = absurd (Memᴰ.not-nil m)
earliest_first (u ∷ []) m = inl (sym (Memᴰ.eq_of_singleton m))
earliest_first (u ∷ v ∷ more) {row} m =
    let rest = earliest (v ∷ more) in
    ⊎_elim
    (λ (e : row ≡ u). rw e (earlier_cases (λ l. NotAfter l u) u rest (λ h. inl refl) inr))
    (λ k. not_after_trans (earlier_cases (λ l. NotAfter l rest) u rest (λ h. h) (λ h. inl refl)) (earliest_first (v ∷ more) k))
    (Memᴰ.cases_cons m)
