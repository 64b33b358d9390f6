-- Rows that rise stand once each, and are the only list of their entries that rises. Assumes nothing.
use mathlib.Core.Path.{◌≡◌, refl, sym, ap₂, ◌∙◌, subst}
use mathlib.Core.List.{List, [], ◌∷◌}
use mathlib.Core.Logic.{◌⊎◌, inl, inr, ⊎_elim}
use Prim.Native.Nat.{ℕ, zero, suc, ◌≤◌, ◌<◌}
use native.Mathlib.Omega.{arith}
use lib.ListN.{length, get_or}
use Rattle.first_run.specs.FirstRun.{Before}
use Rattle.first_run.proofs.DictionaryOrder.{before_asym}
use Rattle.catalogue.specs.Catalogue.{Entry, Rising}
use Rattle.catalogue.proofs.BegunRows.{by_order}

-- EACH ROW ONCE
not_before_itself : (u : List ℕ) → Before u u → ⊥
not_before_itself u h = before_asym u u h h

pub rising_once : (l : List (List ℕ)) → Rising l → (i k : ℕ) → i < length l → k < length l → get_or l i [] ≡ get_or l k [] → i ≡ k
rising_once l r i k h m e =
    by_order i k
    (λ (a : i < k). absurd (not_before_itself (get_or l k []) (subst (λ u. Before u (get_or l k [])) e (r i k a m))))
    (λ (a : k ≤ i). by_order k i
    (λ (b : k < i). absurd (not_before_itself (get_or l k []) (subst (Before (get_or l k [])) e (r k i b h))))
    (λ (b : i ≤ k). omega arith))

-- THE SAME ENTRIES, THE SAME LIST
rising_rest : (u : List ℕ) (l : List (List ℕ)) → Rising (u ∷ l) → Rising l
rising_rest u l r i k h m = r (suc i) (suc k) (omega arith) (omega arith)

-- an entry is the first row or behind it
entry_cases : (u : List ℕ) (l : List (List ℕ)) {f : List ℕ} → Entry (u ∷ l) f → (u ≡ f) ⊎ Entry l f
entry_cases u l (zero, h, e) = inl e
entry_cases u l (suc k, h, e) = inr (k, omega (arith, h), e)

entry_behind : (u : List ℕ) (l : List (List ℕ)) {f : List ℕ} → Entry l f → Entry (u ∷ l) f
entry_behind u l (k, h, e) = (suc k, omega (arith, h), e)

entry_first : (u : List ℕ) (l : List (List ℕ)) → Entry (u ∷ l) u
entry_first u l = (0, omega arith, refl)

-- the first row comes before each entry behind it
before_entry : (u f : List ℕ) (l : List (List ℕ)) → Rising (u ∷ l) → Entry l f → Before u f
before_entry u f l r (k, h, e) = subst (Before u) e (r 0 (suc k) (omega arith) (omega (arith, h)))

-- two lists that rise begin with the same row, if each first row is an entry of the other
same_first : (u v : List ℕ) (l m : List (List ℕ)) → Rising (u ∷ l) → Rising (v ∷ m) → Entry (v ∷ m) u → Entry (u ∷ l) v → u ≡ v
same_first u v l m r s a b =
    ⊎_elim (λ (e : v ≡ u). sym e)
    (λ (x : Entry m u). ⊎_elim (λ (e : u ≡ v). e) (λ (y : Entry l v). absurd (before_asym u v (before_entry u v l r y) (before_entry v u m s x))) (entry_cases u l b))
    (entry_cases v m a)

-- what is behind the first row of the one is behind that of the other
same_rest : (u v : List ℕ) (l m : List (List ℕ)) → Rising (u ∷ l) → u ≡ v → ((f : List ℕ) → Entry (u ∷ l) f → Entry (v ∷ m) f) →
    (f : List ℕ) → Entry l f → Entry m f
same_rest u v l m r e to f a =
    ⊎_elim (λ (d : v ≡ f). absurd (not_before_itself f (subst (λ (x : List ℕ). Before x f) (e ∙ d) (before_entry u f l r a)))) (λ (x : Entry m f). x)
    (entry_cases v m (to f (entry_behind u l a)))

no_entry : {f : List ℕ} {A : Type 0} → Entry [] f → A
no_entry (k, h, e) = absurd (omega (arith, h))

pub rising_only : (l m : List (List ℕ)) → Rising l → Rising m → ((f : List ℕ) → Entry l f → Entry m f) → ((f : List ℕ) → Entry m f → Entry l f) → l ≡ m
rising_only [] [] r s to from = refl
rising_only [] (v ∷ m) r s to from = no_entry (from v (entry_first v m))
rising_only (u ∷ l) [] r s to from = no_entry (to u (entry_first u l))
rising_only (u ∷ l) (v ∷ m) r s to from =
    let e = same_first u v l m r s (to u (entry_first u l)) (from v (entry_first v m)) in
    ap₂ ◌∷◌ e
    (rising_only l m (rising_rest u l r) (rising_rest v m s) (same_rest u v l m r e to) (same_rest v u m l s (sym e) from))
