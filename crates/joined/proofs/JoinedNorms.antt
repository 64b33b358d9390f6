-- THE NORMS OF A JOINED TABLE are those of the first and then those of the second, and it is good if both are. Assumes nothing.
use mathlib.Core.Path.{◌≡◌, refl, sym, ap, ap₂, subst, ◌∙◌}
use mathlib.Core.Bool.{true}
use mathlib.Core.List.{List, [], ◌∷◌, ◌++◌}
use Prim.Native.Nat.{ℕ, zero, suc, ◌+◌, ◌-◌, ◌≤◌, ◌<◌}
use native.Mathlib.Decide.{dec_lt}
use native.Mathlib.Omega.{arith}
use lib.ListN.{length, get_or, length-append, get_or-append}
use lib.Seq.{ext_get_or}
use Rattle.bpa.specs.Plans.{Table, over, HasRule}
use Rattle.bpa.specs.Norms.{sum_of, norms, norm, Fewest, Good}
use Rattle.bpa.proofs.Basics.Plans.{over_head, over_tail, over_one, sum_one}
use Rattle.bpa.proofs.Norm.NormStable.{norms_length}
use Rattle.bpa.proofs.Norm.NormExact.{job_norm, job_without}
use Rattle.bpa.proofs.Norm.NormFewest.{sum_fewest}
use Rattle.joined.specs.Joined.{renumbered, joined, OwnRules}
use Rattle.joined.proofs.RenumberedPlans.{over_left, over_right}
use Rattle.joined.proofs.JoinedRules.{left_rule, right_rule, rule_left, rule_right}

-- THE NUMBERS by which a table is good are its norms: there are no others
module _ (t : Table) (ns : List ℕ) (g : Good t ns) where
  fewest : (j : ℕ) → j < t.jobs → Fewest t (j ∷ []) (get_or ns j 0)
  fewest j h = subst (Fewest t (j ∷ [])) (sum_one ns j) (sum_fewest t ns g (j ∷ []) (over_one t j h))

  only_norm : (j : ℕ) → j < t.jobs → get_or (norms t) j 0 ≡ get_or ns j 0
  only_norm j h = by_norm (get_or (norms t) j 0) refl
    where
      by_norm : (v : ℕ) → get_or (norms t) j 0 ≡ v → get_or (norms t) j 0 ≡ get_or ns j 0
      by_norm zero e = let ((run, r, l), least) = fewest j h in absurd ((job_without t g.closed j h).0 e run r)
      by_norm (suc v) e =
          let ((run, r, l), least) = fewest j h in
          let ((other, s, m), fewer) = job_norm t g.closed j h (omega (arith, e)) in
          omega (arith, l, least other s, m, fewer run r)

  pub only_norms : length ns ≡ t.jobs → norms t ≡ ns
  only_norms e = ext_get_or 0 (norms t) ns (norms_length t ∙ sym e) (λ j h. only_norm j (omega (arith, norms_length t)))

-- one row of numbers behind another, for jobs that are numbered on
module _ (ns ms : List ℕ) where
  pub behind : (j : ℕ) → get_or (ns ++ ms) (length ns + j) 0 ≡ get_or ms j 0
  behind j = go ns
    where
      go : (l : List ℕ) → get_or (l ++ ms) (length l + j) 0 ≡ get_or ms j 0
      go [] = ap (λ (k : ℕ). get_or ms k 0) (omega arith)
      go (x ∷ l) = let e : suc (length l) + j ≡ suc (length l + j) = omega arith in ap (λ (k : ℕ). get_or (x ∷ (l ++ ms)) k 0) e ∙ go l

  module _ (t : Table) (size : length ns ≡ t.jobs) where
    pub sum_left : (p : List ℕ) → over t p ≡ true → sum_of (ns ++ ms) p ≡ sum_of ns p
    unfolding sum_of
    sum_left [] o = refl
    sum_left (j ∷ p) o =
        ap₂ ◌+◌ (get_or-append ns ms 0 j (omega (arith, size, over_head t j p o))) (sum_left p (over_tail t j p o))

    pub number_right : (j : ℕ) → get_or (ns ++ ms) (t.jobs + j) 0 ≡ get_or ms j 0
    number_right j = ap (λ (k : ℕ). get_or (ns ++ ms) (k + j) 0) (sym size) ∙ behind j

    pub sum_right : (q : List ℕ) → sum_of (ns ++ ms) (renumbered t.jobs q) ≡ sum_of ms q
    unfolding sum_of renumbered
    sum_right [] = refl
    sum_right (j ∷ q) = ap₂ ◌+◌ (number_right j) (sum_right q)

-- A JOINED TABLE IS GOOD
module _ (t u : Table) (own : OwnRules t) (ns ms : List ℕ) (g : Good t ns) (h : Good u ms) (size : length ns ≡ t.jobs) where
  abbrev n : ℕ
  n = t.jobs

  -- a job of the joined table is one of the first, or one of the second numbered on
  of_either : (j : ℕ) (P : ℕ → Type 0) → (j < n → P j) → ((k : ℕ) → P (n + k)) → P j
  of_either j P f k = go (dec_lt j n)
    where
      go : Dec (j < n) → P j
      go (yes l) = f l
      go (no l) = let e : n + (j - n) ≡ j = omega arith in subst P e (k (j - n))

  closed_joined : (j a : ℕ) (w : List ℕ) → HasRule (joined t u) j a w → over (joined t u) w ≡ true
  closed_joined j =
      of_either j (λ i. (a : ℕ) (w : List ℕ) → HasRule (joined t u) i a w → over (joined t u) w ≡ true)
      (λ l a w m. over_left t u w (g.closed j a w (rule_left t u j a w l m)))
      (λ k a w m.
      let (v, r, e) = rule_right t u own k a w m in
      subst (λ (x : List ℕ). over (joined t u) x ≡ true) (sym e) (over_right t u v ∙ h.closed k a v r))

  slow_joined : (j a : ℕ) (w : List ℕ) → HasRule (joined t u) j a w → get_or (ns ++ ms) j 0 ≤ suc (sum_of (ns ++ ms) w)
  slow_joined j =
      of_either j (λ i. (a : ℕ) (w : List ℕ) → HasRule (joined t u) i a w → get_or (ns ++ ms) i 0 ≤ suc (sum_of (ns ++ ms) w))
      (λ l a w m.
      let r = rule_left t u j a w l m in
      omega (arith, get_or-append ns ms 0 j (omega (arith, size, l)), sum_left ns ms t size w (g.closed j a w r), g.slow j a w r))
      (λ k a w m.
      let (v, r, e) = rule_right t u own k a w m in
      omega (arith, number_right ns ms t size k, ap (sum_of (ns ++ ms)) e, sum_right ns ms t size v, h.slow k a v r))

  falls_joined : (j : ℕ) → j < (joined t u).jobs →
      (a : ℕ) × (w : List ℕ) × HasRule (joined t u) j a w × (get_or (ns ++ ms) j 0 ≡ suc (sum_of (ns ++ ms) w))
  unfolding joined
  falls_joined j =
      of_either j
      (λ i. i < n + u.jobs → (a : ℕ) × (w : List ℕ) × HasRule (joined t u) i a w × (get_or (ns ++ ms) i 0 ≡ suc (sum_of (ns ++ ms) w)))
      (λ l b.
      let (a, w, r, e) = g.falls j l in
      (a, w, left_rule t u j a w r, get_or-append ns ms 0 j (omega (arith, size, l)) ∙ e ∙ ap suc (sym (sum_left ns ms t size w (g.closed j a w r)))))
      (λ k b.
      let (a, w, r, e) = h.falls k (omega (arith, b)) in
      (a, renumbered n w, right_rule t u k a w r, number_right ns ms t size k ∙ e ∙ ap suc (sym (sum_right ns ms t size w))))

  pub good_joined : Good (joined t u) (ns ++ ms)
  good_joined = record { closed = closed_joined; slow = slow_joined; falls = falls_joined }

-- AND ITS NORMS ARE THEIRS
module _ (t u : Table) (own : OwnRules t) (g : Good t (norms t)) (h : Good u (norms u)) where
  pub norms_joined : norms (joined t u) ≡ norms t ++ norms u
  unfolding joined
  norms_joined =
      only_norms (joined t u) (norms t ++ norms u) (good_joined t u own (norms t) (norms u) g h (norms_length t))
      (length-append (norms t) (norms u) ∙ (λ i. norms_length t i + norms_length u i))

  pub joined_good : Good (joined t u) (norms (joined t u))
  joined_good = subst (Good (joined t u)) (sym norms_joined) (good_joined t u own (norms t) (norms u) g h (norms_length t))

  pub norm_left : (p : List ℕ) → over t p ≡ true → norm (joined t u) p ≡ norm t p
  unfolding norm
  norm_left p o = ap (λ (ns : List ℕ). sum_of ns p) norms_joined ∙ sum_left (norms t) (norms u) t (norms_length t) p o

  pub norm_right : (q : List ℕ) → norm (joined t u) (renumbered t.jobs q) ≡ norm u q
  unfolding norm
  norm_right q =
      ap (λ (ns : List ℕ). sum_of ns (renumbered t.jobs q)) norms_joined ∙ sum_right (norms t) (norms u) t (norms_length t) q
