-- Refusals 6 and 7 of an image and of the writer, and 8 and 9 of plans, are given exactly for their conditions. Assumes nothing.
use mathlib.Core.Path.{◌≡◌, refl, sym, ◌∙◌}
use mathlib.Core.Bool.{Bool, true, false, ◌&&◌, not, cond, true≢false}
use mathlib.Core.List.{List}
use mathlib.Core.Logic.{◌↔◌, ◌⊎◌, inl, inr, ⊎_elim, ⊎_map}
use Prim.Native.Nat.{ℕ, zero, suc, ◌%◌, ◌≤◌, ◌<◌}
use native.Mathlib.Omega.{arith}
use lib.Dec.{leb, eqb}
use lib.ListN.{length}
use borrow.Author.Tests.{leb-false, lt-leb}
use Rattle.bpa.specs.Plans.{Table, all_below, over}
use Rattle.bpa.specs.Norms.{sum_of, norms, norm, Fewest}
use Rattle.bpa.proofs.Norm.NormFewest.{norm_fewest}
use Rattle.answer.specs.Refusals.{or_else}
use Rattle.answer.proofs.RefusalChains.{passed_first, refused_first}
use Rattle.rules.specs.Places.{places_good, rule_count, table_of}
use Rattle.refusal.specs.Refusals.{table_refusal, jobs_refusal, sum_refusal, plan_refusal, plans_refusal, Accepted}
use Rattle.image.specs.Image.{length_good, each_block, sum_good, head_good, block_good, blocks_in, layout_refusal, image_refusal, table_in}
use Rattle.image.specs.Writing.{list_refusal, write_refusal}
use Rattle.promises.specs.Promises.{Above4096}

-- a later refusal of a chain is given exactly if the earlier ones pass and its condition holds
later_exactly : (f g n : ℕ) {C : Type 0} → (f ≡ n → ⊥) → 0 < n → (f ≡ 0 → (g ≡ n) ↔ C) → (or_else f g ≡ n) ↔ ((f ≡ 0) × C)
later_exactly f g n {C} other some later = go f refl
  where
    go : (x : ℕ) → f ≡ x → (or_else f g ≡ n) ↔ ((f ≡ 0) × C)
    go zero z = (
      λ e. (z, (later z).0 (sym (passed_first f g z) ∙ e)),
      λ h. passed_first f g z ∙ (later z).1 h.1,
    )
    go (suc x) z = (
      λ e. absurd (other (sym (refused_first f g (λ d. omega arith)) ∙ e)),
      λ h. absurd (omega (arith, h.0)),
    )

-- a check that refuses by at most a bound, then others that do
bounded : (b : Bool) (m r x : ℕ) → r ≤ m → x ≤ m → cond (not b) r x ≤ m
bounded true m r x h k = k
bounded false m r x h k = h

-- IMAGES: the layout is refused by 2 to 5
layout_bound : (bs : List ℕ) → layout_refusal bs ≤ 5
unfolding layout_refusal
layout_bound bs =
    bounded (length_good bs) 5 2 _ (omega arith)
    (bounded (each_block (sum_good bs) (blocks_in bs) 0) 5 3 _ (omega arith)
    (bounded (each_block (head_good bs) (blocks_in bs) 0) 5 4 _ (omega arith)
    (bounded (each_block (block_good bs) (blocks_in bs) 0) 5 5 0 (omega arith) (omega arith))))

pub image_exactly : (bs : List ℕ) (n : ℕ) {C : Type 0} → 5 < n → (layout_refusal bs ≡ 0 → (table_refusal (table_in bs) ≡ n) ↔ C) →
    (image_refusal bs ≡ n) ↔ ((layout_refusal bs ≡ 0) × C)
unfolding image_refusal
image_exactly bs n l =
    later_exactly (layout_refusal bs) (table_refusal (table_in bs)) n (λ e. omega (arith, layout_bound bs)) (omega arith)

-- THE WRITER: a list is refused by 2, 4 and 5
list_bound : (n : ℕ) (rs : List ℕ) → list_refusal n rs ≤ 5
unfolding list_refusal
list_bound n rs =
    bounded (eqb (length rs % 8) 0 && (leb 1 (rule_count rs) && leb (rule_count rs) 252)) 5 2 _ (omega arith)
    (bounded (leb 1 n && leb n 24) 5 4 _ (omega arith) (bounded (places_good (rule_count rs) n rs) 5 5 0 (omega arith) (omega arith)))

pub writer_exactly : (m : ℕ) (rs : List ℕ) (n : ℕ) {C : Type 0} → 5 < n →
    (list_refusal m rs ≡ 0 → (table_refusal (table_of m rs) ≡ n) ↔ C) →
    (write_refusal m rs ≡ n) ↔ ((list_refusal m rs ≡ 0) × C)
unfolding write_refusal
writer_exactly m rs n l =
    later_exactly (list_refusal m rs) (table_refusal (table_of m rs)) n (λ e. omega (arith, list_bound m rs)) (omega arith)

impossible : {C : Type 0} → true ≡ false → C
impossible e = absurd (true≢false e)

-- PLANS: which tests led to 8 and to 9
one_plan : (a b : Bool) → ((or_else (cond a 0 8) (cond b 0 9) ≡ 8) ↔ (a ≡ false))
    × ((or_else (cond a 0 8) (cond b 0 9) ≡ 9) ↔ ((a ≡ true) × (b ≡ false)))
unfolding or_else
one_plan false b = ((λ e. refl, λ e. refl), (λ e. absurd (omega arith), λ e. impossible (sym e.0)))
one_plan true false = ((λ e. absurd (omega arith), impossible), (λ e. (refl, refl), λ e. refl))
one_plan true true = ((λ e. absurd (omega arith), impossible), (λ e. absurd (omega arith), λ e. impossible e.1))

pub eight_exactly : (t : Table) (p : List ℕ) → (plan_refusal t p ≡ 8) ↔ (over t p ≡ false)
unfolding plan_refusal jobs_refusal sum_refusal over
eight_exactly t p = (one_plan (all_below t.jobs p) (leb (sum_of (norms t) p) 4096)).0

two_plans : (a b c d : Bool) →
    ((or_else (cond a 0 8) (or_else (cond b 0 8) (or_else (cond c 0 9) (cond d 0 9))) ≡ 8) ↔ ((a ≡ false) ⊎ (b ≡ false)))
    × ((or_else (cond a 0 8) (or_else (cond b 0 8) (or_else (cond c 0 9) (cond d 0 9))) ≡ 9)
    ↔ ((a ≡ true) × (b ≡ true) × ((c ≡ false) ⊎ (d ≡ false))))
unfolding or_else
two_plans false b c d = ((λ e. inl refl, λ e. refl), (λ e. absurd (omega arith), λ e. impossible (sym e.0)))
two_plans true false c d = ((λ e. inr refl, λ e. refl), (λ e. absurd (omega arith), λ e. impossible (sym e.1)))
two_plans true true false d = ((λ e. absurd (omega arith), ⊎_elim impossible impossible), (λ e. (refl, refl, inl refl), λ e. refl))
two_plans true true true false = ((λ e. absurd (omega arith), ⊎_elim impossible impossible), (λ e. (refl, refl, inr refl), λ e. refl))
two_plans true true true true = (
  (λ e. absurd (omega arith), ⊎_elim impossible impossible),
  (λ e. absurd (omega arith), λ e. ⊎_elim impossible impossible e.2),
)

pub eight_of_two : (t : Table) (p q : List ℕ) → (plans_refusal t p q ≡ 8) ↔ ((over t p ≡ false) ⊎ (over t q ≡ false))
unfolding plans_refusal jobs_refusal sum_refusal over
eight_of_two t p q =
    (two_plans (all_below t.jobs p) (all_below t.jobs q) (leb (sum_of (norms t) p) 4096) (leb (sum_of (norms t) q) 4096)).0

-- the test of 9 fails exactly for a plan whose shortest run is longer than 4,096 moves
module _ (t : Table) (k : Accepted t) (p : List ℕ) (o : over t p ≡ true) where
  fewest : Fewest t p (norm t p)
  fewest = norm_fewest t k.good p o

  above : leb (sum_of (norms t) p) 4096 ≡ false → Above4096 t p
  unfolding norm
  above e = (norm t p, fewest, leb-false (sum_of (norms t) p) 4096 e)

  above_fails : Above4096 t p → leb (sum_of (norms t) p) 4096 ≡ false
  unfolding norm
  above_fails (v, f, l) =
      let (run, r, e) = fewest.0 in
      lt-leb (sum_of (norms t) p) 4096 (let m = f.1 run r in omega arith)

pub nine_exactly : (t : Table) (p : List ℕ) → Accepted t → (plan_refusal t p ≡ 9) ↔ ((over t p ≡ true) × Above4096 t p)
unfolding plan_refusal jobs_refusal sum_refusal over
nine_exactly t p k =
    let tests = (one_plan (all_below t.jobs p) (leb (sum_of (norms t) p) 4096)).1 in (
      λ e. let (o, b) = tests.0 e in (o, above t k p o b),
      λ h. tests.1 (h.0, above_fails t k p h.0 h.1),
    )

pub nine_of_two : (t : Table) (p q : List ℕ) → Accepted t →
    (plans_refusal t p q ≡ 9) ↔ ((over t p ≡ true) × (over t q ≡ true) × (Above4096 t p ⊎ Above4096 t q))
unfolding plans_refusal jobs_refusal sum_refusal over
nine_of_two t p q k =
    let tests = (two_plans (all_below t.jobs p) (all_below t.jobs q) (leb (sum_of (norms t) p) 4096) (leb (sum_of (norms t) q) 4096)).1 in (
      λ e. let (o, u, b) = tests.0 e in (o, u, ⊎_map (above t k p o) (above t k q u) b),
      λ h. tests.1 (h.0, h.1, ⊎_map (above_fails t k p h.0) (above_fails t k q h.1) h.2),
    )
