-- Rows that begin with a job of a list of weights and go on with a row that can follow it: where they stand, and that they rise. Assumes nothing.
use mathlib.Core.Path.{◌≡◌, refl, sym, ap, ◌∙◌, subst}
use mathlib.Core.List.{List, [], ◌∷◌, ◌++◌, map}
use mathlib.Core.Logic.{inl, inr}
use Prim.Native.Nat.{ℕ, zero, suc, ◌+◌, ◌-◌, ◌≤◌, ◌<◌}
use native.Mathlib.Omega.{arith}
use lib.Dec.{ltb}
use lib.ListN.{length, get_or, take, length-append, length-map, get_or-append}
use lib.Seq.{get_or-append-add}
use borrow.Author.Tests.{ltb-true, ltb-false}
use Rattle.bpa.proofs.Basics.Cases.{by_test}
use Rattle.first_run.specs.FirstRun.{Before}
use Rattle.catalogue.specs.Catalogue.{Rising, follows, begun}

pub by_order : {C : Type 0} (a b : ℕ) → (a < b → C) → (b ≤ a → C) → C
by_order a b f g = by_test (ltb a b) (λ e. f (ltb-true a b e)) (λ e. g (ltb-false a b e))

map_at : (f : List ℕ → List ℕ) (l : List (List ℕ)) (k : ℕ) → k < length l → get_or (map f l) k [] ≡ f (get_or l k [])
map_at f [] k h = absurd (omega arith)
map_at f (x ∷ l) zero h = refl
map_at f (x ∷ l) (suc k) h = map_at f l k (omega arith)

-- what holds of a number if it holds of all lesser ones
pub by_lesser : (P : ℕ → Type 0) → ((v : ℕ) → ((u : ℕ) → u < v → P u) → P v) → (v : ℕ) → P v
by_lesser P f v = f v (λ u h. below v u h)
  where
    below : (n v : ℕ) → v < n → P v
    below zero v h = absurd (omega arith)
    below (suc n) v h = f v (λ u l. below n u (omega arith))

-- ROWS THAT BEGIN with a job of a list of weights
module _ (w : ℕ) (ws : List ℕ) (j : ℕ) (ls : List (List (List ℕ))) where
  pub begun_long : length (begun (w ∷ ws) j ls) ≡ length (follows w ls) + length (begun ws (suc j) ls)
  unfolding begun
  begun_long = length-append (map (◌∷◌ j) (follows w ls)) (begun ws (suc j) ls) ∙ ap (λ (n : ℕ). n + length (begun ws (suc j) ls)) (length-map (follows w ls) (◌∷◌ j))

  pub begun_here : (k : ℕ) → k < length (follows w ls) → get_or (begun (w ∷ ws) j ls) k [] ≡ j ∷ get_or (follows w ls) k []
  unfolding begun
  begun_here k h =
      get_or-append (map (◌∷◌ j) (follows w ls)) (begun ws (suc j) ls) [] k (omega (arith, length-map (follows w ls) (λ (r : List ℕ). j ∷ r)))
      ∙ map_at (◌∷◌ j) (follows w ls) k h

  pub begun_past : (k : ℕ) → get_or (begun (w ∷ ws) j ls) (length (follows w ls) + k) [] ≡ get_or (begun ws (suc j) ls) k []
  unfolding begun
  begun_past k =
      ap (λ (n : ℕ). get_or (map (◌∷◌ j) (follows w ls) ++ begun ws (suc j) ls) (n + k) []) (sym (length-map (follows w ls) (◌∷◌ j)))
      ∙ get_or-append-add (map (◌∷◌ j) (follows w ls)) (begun ws (suc j) ls) k []

-- a row that begins with a job of the list and goes on with a row that can follow it
pub record Begins (ws : List ℕ) (j : ℕ) (ls : List (List (List ℕ))) (row : List ℕ) : Type 0 where
  pub place : ℕ
  pub next : ℕ
  pub inside : place < length ws
  pub there : next < length (follows (get_or ws place 0) ls)
  pub is : row ≡ (j + place) ∷ get_or (follows (get_or ws place 0) ls) next []

module _ (ls : List (List (List ℕ))) where
  later : {w j : ℕ} {ws row : List ℕ} → Begins ws (suc j) ls row → Begins (w ∷ ws) j ls row
  later {w} {j} {ws} {row} b = record {
    place = suc b.place;
    next = b.next;
    inside = omega (arith, b.inside);
    there = b.there;
    is = b.is ∙ ap (λ (n : ℕ). n ∷ get_or (follows (get_or ws b.place 0) ls) b.next []) (omega arith);
  }

  pub none_begun : (j : ℕ) → length (begun [] j ls) ≡ 0
  unfolding begun
  none_begun j = refl

  pub begun_begins : (ws : List ℕ) (j k : ℕ) → k < length (begun ws j ls) → Begins ws j ls (get_or (begun ws j ls) k [])
  begun_begins [] j k h = absurd (omega (arith, none_begun j))
  begun_begins (w ∷ ws) j k h =
      by_order k (length (follows w ls))
      (λ l. record { place = 0; next = k; inside = omega arith; there = l; is = begun_here w ws j ls k l ∙ ap (λ (n : ℕ). n ∷ get_or (follows w ls) k []) (omega arith) })
      (λ l. subst (λ (n : ℕ). Begins (w ∷ ws) j ls (get_or (begun (w ∷ ws) j ls) n [])) (omega arith)
      (subst (Begins (w ∷ ws) j ls) (sym (begun_past w ws j ls (k - length (follows w ls))))
      (later (begun_begins ws (suc j) (k - length (follows w ls)) (omega (arith, begun_long w ws j ls))))))

  -- where such a row stands: behind those that begin with lesser jobs
  pub begun_place : (ws : List ℕ) (j place next : ℕ) → place < length ws → next < length (follows (get_or ws place 0) ls) →
      get_or (begun ws j ls) (length (begun (take place ws) j ls) + next) [] ≡ (j + place) ∷ get_or (follows (get_or ws place 0) ls) next []
  begun_place [] j x i h l = absurd (omega arith)
  begun_place (w ∷ ws) j zero i h l =
      let k : length (begun [] j ls) + i ≡ i = omega (arith, none_begun j) in
      let z : j ≡ j + 0 = omega arith in
      ap (λ (n : ℕ). get_or (begun (w ∷ ws) j ls) n []) k ∙ begun_here w ws j ls i l ∙ ap (λ (n : ℕ). n ∷ get_or (follows w ls) i []) z
  begun_place (w ∷ ws) j (suc x) i h l =
      let n = length (begun (take x ws) (suc j) ls) in
      let k : length (begun (w ∷ take x ws) j ls) + i ≡ length (follows w ls) + (n + i) = omega (arith, begun_long w (take x ws) j ls) in
      let z : suc j + x ≡ j + suc x = omega arith in
      ap (λ (m : ℕ). get_or (begun (w ∷ ws) j ls) m []) k ∙ begun_past w ws j ls (n + i) ∙ begun_place ws (suc j) x i (omega arith) l
      ∙ ap (λ (m : ℕ). m ∷ get_or (follows (get_or ws x 0) ls) i []) z

  pub begun_within : (ws : List ℕ) (j place next : ℕ) → place < length ws → next < length (follows (get_or ws place 0) ls) →
      length (begun (take place ws) j ls) + next < length (begun ws j ls)
  begun_within [] j x i h l = absurd (omega arith)
  begun_within (w ∷ ws) j zero i h l = omega (arith, none_begun j, begun_long w ws j ls)
  begun_within (w ∷ ws) j (suc x) i h l =
      omega (arith, begun_within ws (suc j) x i (omega arith) l, begun_long w ws j ls, begun_long w (take x ws) j ls)

  -- the first job of a row tells whether it comes before
  lesser_job : (j : ℕ) (u : List ℕ) {ws row : List ℕ} → Begins ws (suc j) ls row → Before (j ∷ u) row
  unfolding Before
  lesser_job j u b = subst (Before (j ∷ u)) (sym b.is) (inl (omega arith))

  same_job : (j : ℕ) (u r : List ℕ) → Before u r → Before (j ∷ u) (j ∷ r)
  unfolding Before
  same_job j u r h = inr (refl, h)

  pub begun_rises : ((w : ℕ) → Rising (follows w ls)) → (ws : List ℕ) (j : ℕ) → Rising (begun ws j ls)
  begun_rises r [] j i k h l = absurd (omega (arith, none_begun j))
  begun_rises r (w ∷ ws) j i k h l =
      let n = length (follows w ls) in
      let long = begun_long w ws j ls in
      by_order k n
      (λ (a : k < n). rw (begun_here w ws j ls k a, begun_here w ws j ls i (omega arith)) (same_job j _ _ (r w i k h a)))
      (λ (a : n ≤ k).
      let move : n + (k - n) ≡ k = omega arith in
      let at : get_or (begun (w ∷ ws) j ls) k [] ≡ get_or (begun ws (suc j) ls) (k - n) [] = ap (λ (m : ℕ). get_or (begun (w ∷ ws) j ls) m []) (sym move) ∙ begun_past w ws j ls (k - n) in
      by_order i n
      (λ (b : i < n).
      rw (begun_here w ws j ls i b, at) (lesser_job j (get_or (follows w ls) i []) (begun_begins ws (suc j) (k - n) (omega arith))))
      (λ (b : n ≤ i).
      let from : get_or (begun (w ∷ ws) j ls) i [] ≡ get_or (begun ws (suc j) ls) (i - n) [] = ap (λ (m : ℕ). get_or (begun (w ∷ ws) j ls) m []) (sym (omega arith)) ∙ begun_past w ws j ls (i - n) in
      rw (from, at) (begun_rises r ws (suc j) (i - n) (k - n) (omega arith) (omega arith))))
