-- Two lists without repetition that name the same jobs are equal, so the number of jobs that a plan can reach is one number. Assumes nothing.
use mathlib.Core.Path.{◌≡◌, refl, sym, ap, ap₂, ◌∙◌}
use mathlib.Core.Bool.{true}
use mathlib.Core.List.Memᴰ
use mathlib.Core.List.{List, [], ◌∷◌, Memᴰ}
use mathlib.Core.Logic.{◌↔◌, ⊎_elim}
use Prim.Native.Nat.{ℕ, ◌≤◌, ◌<◌}
use native.Mathlib.Omega.{arith}
use lib.Dec.{ltb}
use lib.ListN.{length}
use borrow.Author.Tests.{ltb-true}
use Rattle.bpa.specs.Plans.{Table}
use Rattle.bpa.proofs.Basics.Cases.{and_left, and_right}
use Rattle.growth.specs.Growth.{rises, JobCount}

rises_tail : (i : ℕ) (l : List ℕ) → rises (i ∷ l) ≡ true → rises l ≡ true
unfolding rises
rises_tail i [] h = refl
rises_tail i (j ∷ js) h = and_right (ltb i j) (rises (j ∷ js)) h

-- the first is the least
first_least : (i : ℕ) (l : List ℕ) → rises (i ∷ l) ≡ true → (x : ℕ) → Memᴰ x l → i < x
unfolding rises
first_least i [] h x m = absurd (Memᴰ.not-nil m)
first_least i (j ∷ js) h x m =
    let less : i < j = ltb-true i j (and_left (ltb i j) (rises (j ∷ js)) h) in
    ⊎_elim (λ (e : x ≡ j). omega (arith, less, e)) (λ n. omega (arith, less, first_least j js (and_right (ltb i j) (rises (j ∷ js)) h) x n))
    (Memᴰ.cases_cons m)

first_of_all : (i : ℕ) (l : List ℕ) → rises (i ∷ l) ≡ true → (x : ℕ) → Memᴰ x (i ∷ l) → i ≤ x
first_of_all i l h x m = ⊎_elim (λ (e : x ≡ i). omega (arith, e)) (λ n. omega (arith, first_least i l h x n)) (Memᴰ.cases_cons m)

abbrev SameJobs : (l m : List ℕ) → Type 0
SameJobs l m = (x : ℕ) → Memᴰ x l ↔ Memᴰ x m

-- what is in one tail is in the other, since no first stands there
in_tail : (i j : ℕ) (l m : List ℕ) → rises (i ∷ l) ≡ true → i ≡ j → ((x : ℕ) → Memᴰ x (i ∷ l) → Memᴰ x (j ∷ m)) →
    (x : ℕ) → Memᴰ x l → Memᴰ x m
in_tail i j l m h e f x n =
    ⊎_elim (λ (k : x ≡ j). absurd (omega (arith, k, e, first_least i l h x n))) (λ k. k) (Memᴰ.cases_cons (f x (Memᴰ.tail n)))

same_list : (l m : List ℕ) → rises l ≡ true → rises m ≡ true → SameJobs l m → l ≡ m
same_list [] [] h k f = refl
same_list [] (j ∷ m) h k f = absurd (Memᴰ.not-nil ((f j).1 (Memᴰ.head refl)))
same_list (i ∷ l) [] h k f = absurd (Memᴰ.not-nil ((f i).0 (Memᴰ.head refl)))
same_list (i ∷ l) (j ∷ m) h k f =
    let e : i ≡ j = omega (arith, first_of_all i l h j ((f j).1 (Memᴰ.head refl)), first_of_all j m k i ((f i).0 (Memᴰ.head refl))) in
    ap₂ ◌∷◌ e
    (same_list l m (rises_tail i l h) (rises_tail j m k)
    (λ x. (in_tail i j l m h e (λ y. (f y).0) x, in_tail j i m l k (sym e) (λ y. (f y).1) x)))

pub count_single : (t : Table) (p : List ℕ) (n m : ℕ) → JobCount t p n → JobCount t p m → n ≡ m
count_single t p n m a b =
    sym a.counted
    ∙ ap length (same_list a.jobs b.jobs a.once b.once (λ x. ((λ k. (b.exactly x).1 ((a.exactly x).0 k)), (λ k. (a.exactly x).1 ((b.exactly x).0 k)))))
    ∙ b.counted
