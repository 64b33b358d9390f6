-- Norms capped at a bound, round by round, are the norms capped at the end. Assumes nothing.
use mathlib.Core.Path.{◌≡◌, refl, sym, ap, ap₂, ◌∙◌}
use mathlib.Core.Bool.{Bool, true, false, ◌&&◌, cond}
use mathlib.Core.List.{List, [], ◌∷◌, map}
use Prim.Native.Nat.{ℕ, zero, suc, ◌+◌, ◌≤◌, min}
use native.Mathlib.Nat.{zero-add, suc-add}
use native.Mathlib.Omega.{arith}
use lib.Dec.{ltb, eqb}
use lib.ListN.{get_or, replicate}
use borrow.Author.Tests.{lt-ltb}
use Rattle.bpa.specs.Plans.{Rule, Table}
use Rattle.bpa.specs.Norms.{sum_of, all_known, lesser, best, one_round, rounds, norms, capped_round, capped_rounds}
use Rattle.bpa.proofs.Norm.NormRounds.{lesser_none, lesser_both}

module _ (m : ℕ) (one : 1 ≤ m) where
  getD_cap : (ns : List ℕ) (j : ℕ) → get_or (map (min m) ns) j 0 ≡ min m (get_or ns j 0)
  getD_cap [] j = omega arith
  getD_cap (v ∷ vs) zero = refl
  getD_cap (v ∷ vs) (suc j) = getD_cap vs j

  known_cap : (v : ℕ) → ltb 0 (min m v) ≡ ltb 0 v
  known_cap zero = let e : min m 0 ≡ 0 = omega arith in ap (ltb 0) e
  known_cap (suc v) = lt-ltb 0 (min m (suc v)) (omega arith) ∙ sym (lt-ltb 0 (suc v) (omega arith))

  all_known_cap : (ns p : List ℕ) → all_known (map (min m) ns) p ≡ all_known ns p
  unfolding all_known
  all_known_cap ns [] = refl
  all_known_cap ns (j ∷ js) = ap₂ ◌&&◌ (ap (ltb 0) (getD_cap ns j) ∙ known_cap (get_or ns j 0)) (all_known_cap ns js)

  sum_cap : (ns p : List ℕ) → min m (sum_of ns p) ≡ min m (sum_of (map (min m) ns) p)
  unfolding sum_of
  sum_cap ns [] = refl
  sum_cap ns (j ∷ js) = let e = sum_cap ns js in let d = getD_cap ns j in omega arith

  min_cap : (a b : ℕ) → min m (min a b) ≡ min (min m a) (min m b)
  min_cap a b = omega arith

  suc_cap : (a b : ℕ) → min m a ≡ min m b → min m (suc a) ≡ min m (suc b)
  suc_cap a b e = omega arith

  lesser_cap : (a c b d : ℕ) → min m (suc a) ≡ min m (suc c) → min m b ≡ min m d →
      min m (lesser (suc a) b) ≡ min m (lesser (suc c) d)
  lesser_cap a c zero zero e f = rw (lesser_none a, lesser_none c) e
  lesser_cap a c zero (suc d) e f = omega arith
  lesser_cap a c (suc b) zero e f = omega arith
  lesser_cap a c (suc b) (suc d) e f =
      rw (lesser_both a b, lesser_both c d, min_cap (suc a) (suc b), min_cap (suc c) (suc d)) (ap₂ min e f)

  cond_cap : (b : Bool) (v w v' w' : ℕ) → min m v ≡ min m v' → min m w ≡ min m w' → min m (cond b v w) ≡ min m (cond b v' w')
  cond_cap true v w v' w' e f = e
  cond_cap false v w v' w' e f = f

  best_cap : (j : ℕ) (ns : List ℕ) (rs : List Rule) → min m (best j ns rs) ≡ min m (best j (map (min m) ns) rs)
  unfolding best
  best_cap j ns [] = refl
  best_cap j ns (r ∷ rs) =
      let e = best_cap j ns rs in
      let f = suc_cap _ _ (sum_cap ns r.after) in
      rw all_known_cap (cond_cap (eqb r.job j && all_known ns r.after) _ _ _ _ (lesser_cap _ _ _ _ f e) e)

  pub round_cap : (n j : ℕ) (ns : List ℕ) (rs : List Rule) →
      map (min m) (one_round n j ns rs) ≡ map (min m) (one_round n j (map (min m) ns) rs)
  unfolding one_round
  round_cap zero j ns rs = refl
  round_cap (suc n) j ns rs = ap₂ ◌∷◌ (best_cap j ns rs) (round_cap n (suc j) ns rs)

  capped_after : (k : ℕ) (t : Table) (ns : List ℕ) → map (min m) (rounds k t ns) ≡ capped_rounds m k t (map (min m) ns)
  unfolding rounds capped_rounds capped_round
  capped_after zero t ns = refl
  capped_after (suc k) t ns =
      capped_after k t (one_round t.jobs 0 ns t.rules) ∙ ap (capped_rounds m k t) (round_cap t.jobs 0 ns t.rules)

  cap_zeros : (n : ℕ) → map (min m) (replicate n 0) ≡ replicate n 0
  cap_zeros zero = refl
  cap_zeros (suc n) = ap₂ ◌∷◌ (omega arith) (cap_zeros n)

  pub capped_sums : (t : Table) → map (min m) (norms t) ≡ capped_rounds m t.jobs t (replicate t.jobs 0)
  unfolding norms
  capped_sums t =
      capped_after t.jobs t (replicate t.jobs 0) ∙ ap (capped_rounds m t.jobs t) (cap_zeros t.jobs)

-- one more round, at the end instead of at the start
pub capped_one_more : (m k : ℕ) (t : Table) (ns : List ℕ) →
    capped_rounds m (suc k) t ns ≡ capped_round m t (capped_rounds m k t ns)
unfolding capped_rounds
capped_one_more m zero t ns = refl
capped_one_more m (suc k) t ns = capped_one_more m k t (capped_round m t ns)

capped_rest : (m k l : ℕ) (t : Table) (ns : List ℕ) → capped_rounds m (k + l) t ns ≡ capped_rounds m l t (capped_rounds m k t ns)
unfolding capped_rounds
capped_rest m zero l t ns = ap (λ (n : ℕ). capped_rounds m n t ns) (zero-add l)
capped_rest m (suc k) l t ns = ap (λ (n : ℕ). capped_rounds m n t ns) (suc-add k l) ∙ capped_rest m k l t (capped_round m t ns)

-- what a round leaves unchanged, every further round does
pub capped_stable : (m k : ℕ) (t : Table) (ns : List ℕ) → capped_round m t ns ≡ ns → capped_rounds m k t ns ≡ ns
unfolding capped_rounds
capped_stable m zero t ns e = refl
capped_stable m (suc k) t ns e = ap (capped_rounds m k t) e ∙ capped_stable m k t ns e

-- so the rounds may end early: at the first that changes nothing
pub capped_settled : (m : ℕ) → 1 ≤ m → (t : Table) (k l : ℕ) → k + l ≡ t.jobs →
    capped_round m t (capped_rounds m k t (replicate t.jobs 0)) ≡ capped_rounds m k t (replicate t.jobs 0) →
    map (min m) (norms t) ≡ capped_rounds m k t (replicate t.jobs 0)
capped_settled m one t k l e h =
    let zs : List ℕ = replicate t.jobs 0 in
    capped_sums m one t ∙ ap (λ (n : ℕ). capped_rounds m n t zs) (sym e) ∙ capped_rest m k l t zs ∙
    capped_stable m l t (capped_rounds m k t zs) h
