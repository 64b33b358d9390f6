-- REFUSAL 15 by its tests, and by the numbers that a call holds as by the tables; the norm of a job by the side that it is on. Assumes nothing.
use mathlib.Core.Path.{◌≡◌, refl, sym, ap, ap₂, ◌∙◌}
use mathlib.Core.Bool.{Bool, true, false, ◌||◌, cond}
use mathlib.Core.List.{List, ◌++◌}
use Prim.Native.Nat.{ℕ, ◌+◌, ◌*◌, ◌-◌, ◌≤◌, ◌<◌}
use native.Mathlib.Decide.{dec_lt}
use native.Mathlib.Omega.{arith}
use lib.Dec.{ltb}
use borrow.Rule.Slice.PartMut.{put_mid}
use lib.ListN.{length, get_or, take, drop, length-append, length-drop, get_or-append}
use lib.Seq.{length-take-le, get_or-take, get_or-append_right}
use borrow.Author.Tests.{ltb-true, ltb-false, lt-ltb, le-ltb}
use Rattle.bpa.specs.Plans.{Table}
use Rattle.bpa.proofs.Basics.Cases.{same_test, or_left, or_right, or_none}
use Rattle.joining.specs.JoinedBytes.{tables_refusal, sizes_refusal, norm_of, JoinsNorms}

-- by its two tests
many : (b : Bool) → b ≡ true → ◌≡◌ {A = ℕ} 15 (cond b 15 0)
many b h = ap (λ (x : Bool). cond {A = ℕ} x 15 0) (sym h)

module _ (n e : ℕ) where
  pub many_jobs : 24 < n → 15 ≡ sizes_refusal n e
  unfolding sizes_refusal
  many_jobs h = many (ltb 24 n || ltb 2016 e) (or_left (ltb 24 n) (ltb 2016 e) (lt-ltb 24 n h))

  pub many_rules : 2016 < e → 15 ≡ sizes_refusal n e
  unfolding sizes_refusal
  many_rules h = many (ltb 24 n || ltb 2016 e) (or_right (ltb 24 n) (ltb 2016 e) (lt-ltb 2016 e h))

  pub sizes_fit : n ≤ 24 → e ≤ 2016 → 0 ≡ sizes_refusal n e
  unfolding sizes_refusal
  sizes_fit h k = sym (ap₂ (λ (a b : Bool). cond {A = ℕ} (a || b) 15 0) (le-ltb 24 n h) (le-ltb 2016 e k))

  -- what has passed fits
  pub sizes_passed : sizes_refusal n e ≡ 0 → (n ≤ 24) × (e ≤ 2016)
  unfolding sizes_refusal
  sizes_passed z =
      let (a, b) = or_none (ltb 24 n) (ltb 2016 e) (none (ltb 24 n || ltb 2016 e) z) in
      (ltb-false 24 n a, ltb-false 2016 e b)
    where
      none : (b : Bool) → cond {A = ℕ} b 15 0 ≡ 0 → b ≡ false
      none true h = absurd (omega (arith, h))
      none false h = refl

-- THE TABLES' OWN NUMBERS
pub sizes_tables : (t u : Table) (n m e d : ℕ) → n ≡ t.jobs → m ≡ u.jobs → e ≡ 8 * length t.rules → d ≡ 8 * length u.rules →
    sizes_refusal (n + m) (e + d) ≡ tables_refusal t u
unfolding sizes_refusal tables_refusal
sizes_tables t u n m e d a b c f =
    let jobs : n + m ≡ t.jobs + u.jobs = omega (arith, a, b) in
    let all = length t.rules + length u.rules in
    let rules : ltb 2016 (e + d) ≡ ltb 252 all =
    same_test (ltb 2016 (e + d)) (ltb 252 all) (λ h. lt-ltb 252 all (omega (arith, ltb-true 2016 (e + d) h, c, f)))
    (λ h. lt-ltb 2016 (e + d) (omega (arith, ltb-true 252 all h, c, f))) in
    λ i. cond (ltb 24 (jobs i) || rules i) 15 0

-- A NORM of either side
module _ (ns : List ℕ) (n : ℕ) (ms : List ℕ) where
  pub first_norm : (j : ℕ) → j < n → get_or ns j 0 ≡ norm_of ns n ms j
  unfolding norm_of
  first_norm j h = sym (ap (λ (b : Bool). cond b (get_or ns j 0) (get_or ms (j - n) 0)) (lt-ltb j n h))

  pub second_norm : (j : ℕ) → n ≤ j → get_or ms (j - n) 0 ≡ norm_of ns n ms j
  unfolding norm_of
  second_norm j h = sym (ap (λ (b : Bool). cond b (get_or ns j 0) (get_or ms (j - n) 0)) (le-ltb j n h))

  -- norms that are put behind others
  pub norms_put : length ns ≡ 24 → length ms ≡ 24 → n ≤ 24 → (w : List ℕ) → w ≡ take (24 - n) ms → JoinsNorms ns n ms (put_mid n (24 - n) ns w)
  norms_put e d l w k =
      let front : length (take n ns) ≡ n = length-take-le n ns (omega (arith, e)) in
      let back : length w ≡ 24 - n = ap length k ∙ length-take-le (24 - n) ms (omega (arith, d)) in
      let behind = drop (24 - n) (drop n ns) in
      record {
        size = length-append (take n ns) (w ++ behind) ∙ omega (arith, front, length-append w behind, back, length-drop (24 - n) (drop n ns), length-drop n ns, e);
        at = λ j h. by_side j h (dec_lt j n);
      }
    where
      by_side : (j : ℕ) → j < 24 → Dec (j < n) → get_or (put_mid n (24 - n) ns w) j 0 ≡ norm_of ns n ms j
      by_side j h (yes b) =
          let front : length (take n ns) ≡ n = length-take-le n ns (omega (arith, e)) in
          get_or-append (take n ns) (w ++ drop (24 - n) (drop n ns)) 0 j (omega (arith, front, b)) ∙ get_or-take n ns j 0 b ∙ first_norm j b
      by_side j h (no b) =
          let front : length (take n ns) ≡ n = length-take-le n ns (omega (arith, e)) in
          let back : length w ≡ 24 - n = ap length k ∙ length-take-le (24 - n) ms (omega (arith, d)) in
          get_or-append_right (take n ns) (w ++ drop (24 - n) (drop n ns)) j 0 (omega (arith, front, b))
          ∙ ap (λ (i : ℕ). get_or (w ++ drop (24 - n) (drop n ns)) (j - i) 0) front
          ∙ get_or-append w (drop (24 - n) (drop n ns)) 0 (j - n) (omega (arith, back, b, h))
          ∙ ap (λ (x : List ℕ). get_or x (j - n) 0) k ∙ get_or-take (24 - n) ms (j - n) 0 (omega (arith, b, h)) ∙ second_norm j (omega (arith, b))
