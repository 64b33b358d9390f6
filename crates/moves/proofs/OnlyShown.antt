-- No other list has the moves shown and goes by their first places. Assumes nothing.
use mathlib.Core.Path.{◌≡◌, refl, sym, ◌∙◌}
use mathlib.Core.List.Memᴰ
use mathlib.Core.List.{List, [], ◌∷◌, Memᴰ}
use mathlib.Core.Logic.{⊎_elim, ◌↔◌}
use Prim.Native.Nat.{suc}
use native.Mathlib.Omega.{arith}
use Rattle.bpa.specs.Plans.{Move}
use Rattle.moves.specs.Shown.{once, ByFirstPlaces}
use Rattle.moves.proofs.ShownMoves.{member_at, once_members, once_order}

module _ (ms : List Move) where
  -- the first of a list stands nowhere else in it
  head_once : (a : Move) (l : List Move) → ByFirstPlaces ms (a ∷ l) → (m : Move) → m ≡ a → Memᴰ m l → ⊥
  head_once a l o m e h =
      let (i, at) = member_at l m h in
      let (x, y, f, g, s) = o m m 0 (suc i) e at (omega arith) in
      let le = g.first x f.stands in
      omega (arith, s, le)

  -- the first of each of two such lists is in the other, so they are one
  heads : (a b : Move) (l k : List Move) → ByFirstPlaces ms (a ∷ l) → ByFirstPlaces ms (b ∷ k) → Memᴰ a (b ∷ k) → Memᴰ b (a ∷ l) → a ≡ b
  heads a b l k o p h g =
      ⊎_elim (λ (e : a ≡ b). e)
      (λ (in_k : Memᴰ a k).
      ⊎_elim (λ (e : b ≡ a). sym e)
      (λ (in_l : Memᴰ b l).
      let (i, at) = member_at k a in_k in
      let (j, bt) = member_at l b in_l in
      let (x, y, f, f', s) = p b a 0 (suc i) refl at (omega arith) in
      let (u, v, d, d', r) = o a b 0 (suc j) refl bt (omega arith) in
      let c = f'.first u d.stands in
      let z = d'.first x f.stands in
      absurd (omega (arith, s, r, c, z)))
      (Memᴰ.cases_cons g))
      (Memᴰ.cases_cons h)

  -- what is behind the first of one is behind that of the other
  behind : (a b : Move) (l k : List Move) → ByFirstPlaces ms (a ∷ l) → a ≡ b → (m : Move) → Memᴰ m l → Memᴰ m (b ∷ k) → Memᴰ m k
  behind a b l k o e m h g = ⊎_elim (λ (q : m ≡ b). absurd (head_once a l o m (q ∙ sym e) h)) (λ (t : Memᴰ m k). t) (Memᴰ.cases_cons g)

  one_list : (l k : List Move) → ByFirstPlaces ms l → ByFirstPlaces ms k → ((m : Move) → Memᴰ m l → Memᴰ m k) →
      ((m : Move) → Memᴰ m k → Memᴰ m l) → l ≡ k
  one_list [] [] o p f g = refl
  one_list [] (b ∷ k) o p f g = absurd (Memᴰ.not-nil (g b (Memᴰ.head refl)))
  one_list (a ∷ l) [] o p f g = absurd (Memᴰ.not-nil (f a (Memᴰ.head refl)))
  one_list (a ∷ l) (b ∷ k) o p f g =
      let e = heads a b l k o p (f a (Memᴰ.head refl)) (g b (Memᴰ.head refl)) in
      let rest =
      one_list l k (λ m n i j h t s. o m n (suc i) (suc j) h t (omega (arith, s))) (λ m n i j h t s. p m n (suc i) (suc j) h t (omega (arith, s)))
      (λ m h. behind a b l k o e m h (f m (Memᴰ.tail h)))
      (λ m h. behind b a k l p (sym e) m h (g m (Memᴰ.tail h))) in
      λ i. e i ∷ rest i

  pub once_only : (l : List Move) → ((m : Move) → Memᴰ m l ↔ Memᴰ m ms) → ByFirstPlaces ms l → l ≡ once ms
  once_only l members o =
      one_list l (once ms) o (once_order ms) (λ m h. (once_members ms m).1 ((members m).0 h)) (λ m h. (members m).1 ((once_members ms m).0 h))
