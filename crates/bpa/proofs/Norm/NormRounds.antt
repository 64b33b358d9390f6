-- One round of norms: the cheapest rule of each job by the norms before it. Assumes nothing.
use mathlib.Core.Path.{◌≡◌, refl, sym, ap, ◌∙◌, subst}
use mathlib.Core.Bool.{Bool, true, false, ◌&&◌, cond, true≢false}
use mathlib.Core.Logic.{⊎_elim}
use mathlib.Core.List.Memᴰ
use mathlib.Core.List.{List, [], ◌∷◌, Memᴰ}
use Prim.Native.Nat.{ℕ, zero, suc, ◌+◌, ◌≤◌, ◌<◌, min}
use native.Mathlib.Nat.{not-suc-le-zero, le_trans, min-eq_left, min-eq_right}
use native.Mathlib.Decide.{dec_le, dec_lt}
use native.Mathlib.Omega.{arith}
use lib.Dec.{eqb, eqb-suc-zero}
use lib.ListN.{length, get_or, get_or-eq_default}
use borrow.Author.Tests.{eqb-true, eq-eqb}
use Rattle.bpa.specs.Plans.{Rule, Table, HasRule}
use Rattle.bpa.specs.Norms.{sum_of, all_known, lesser, best, one_round}
use Rattle.bpa.proofs.Basics.Cases.{and_left, and_right, and_both}

-- a fact of a choice, from each side of it
pub cond_elim : {A : Type 0} (P : A → Type 0) (b : Bool) (x y : A) → (b ≡ true → P x) → (b ≡ false → P y) → P (cond b x y)
cond_elim P true x y f g = f refl
cond_elim P false x y f g = g refl

pub lesser_none : (a : ℕ) → lesser (suc a) 0 ≡ suc a
unfolding lesser
lesser_none a = rw (eqb-suc-zero a)

pub lesser_both : (a b : ℕ) → lesser (suc a) (suc b) ≡ min (suc a) (suc b)
unfolding lesser
lesser_both a b = rw (eqb-suc-zero a, eqb-suc-zero b)

-- the two cases of the lesser of a norm and perhaps another
lesser_cases : (P : ℕ → Type 0) (a b : ℕ) → ((0 < b → suc a ≤ b) → P (suc a)) → (0 < b → b ≤ suc a → P b) → P (lesser (suc a) b)
lesser_cases P a zero f g = subst P (sym (lesser_none a)) (f (λ h. absurd (not-suc-le-zero h)))
lesser_cases P a (suc b) f g = subst P (sym (lesser_both a b)) (go (dec_le (suc a) (suc b)))
  where
    go : Dec (suc a ≤ suc b) → P (min (suc a) (suc b))
    go (yes h) = subst P (sym (min-eq_left h)) (f (λ _. h))
    go (no h) = let k : suc b ≤ suc a = omega arith in subst P (sym (min-eq_right k)) (g (omega arith) k)

-- a norm that is known and no more than a bound
abbrev pub Found : (bound v : ℕ) → Type 0
Found b v = (0 < v) × (v ≤ b)

-- a rule that a norm comes from
pub record ByRule (j : ℕ) (ns : List ℕ) (rs : List Rule) (v : ℕ) : Type 0 where
  pub move : ℕ
  pub after : List ℕ
  pub rule : Memᴰ {A = Rule} (record { job = j; move = move; after = after }) rs
  pub known : all_known ns after ≡ true
  pub norm : v ≡ suc (sum_of ns after)

module _ (j : ℕ) (ns : List ℕ) where
  abbrev applies : Rule → Bool
  applies r = eqb r.job j && all_known ns r.after

  abbrev cost : Rule → ℕ
  cost r = suc (sum_of ns r.after)

  -- the best of more rules is the first rule's cost, or that of the others
  best_cases : (P : ℕ → Type 0) (r : Rule) (rs : List Rule) →
      (applies r ≡ true → (0 < best j ns rs → cost r ≤ best j ns rs) → P (cost r)) →
      ((applies r ≡ true → Found (cost r) (best j ns rs)) → P (best j ns rs)) → P (best j ns (r ∷ rs))
  unfolding best
  best_cases P r rs f g =
      cond_elim P (applies r) _ _ (λ e. lesser_cases P (sum_of ns r.after) (best j ns rs) (f e) (λ h k. g (λ _. (h, k))))
      (λ e. g (λ d. absurd (true≢false (sym d ∙ e))))

  best_by_rule : (rs : List Rule) → 0 < best j ns rs → ByRule j ns rs (best j ns rs)
  unfolding best
  best_by_rule [] h = absurd (not-suc-le-zero h)
  best_by_rule (r ∷ rs) h =
      best_cases (λ (v : ℕ). 0 < v → ByRule j ns (r ∷ rs) v) r rs (λ e _ _. here e) (λ _ k. later (best_by_rule rs k)) h
    where
      here : applies r ≡ true → ByRule j ns (r ∷ rs) (cost r)
      here e =
          let p = eqb-true r.job j (and_left (eqb r.job j) (all_known ns r.after) e) in
          record {
            move = r.move;
            after = r.after;
            rule = Memᴰ.head (λ i. record { job = sym p i; move = r.move; after = r.after });
            known = and_right (eqb r.job j) (all_known ns r.after) e;
            norm = refl;
          }

      later : {v : ℕ} → ByRule j ns rs v → ByRule j ns (r ∷ rs) v
      later b = record { move = b.move; after = b.after; rule = Memᴰ.tail b.rule; known = b.known; norm = b.norm }

  best_least : (rs : List Rule) (a : ℕ) (w : List ℕ) → Memᴰ {A = Rule} (record { job = j; move = a; after = w }) rs →
      all_known ns w ≡ true → Found (suc (sum_of ns w)) (best j ns rs)
  best_least [] a w m k = absurd (Memᴰ.not-nil m)
  best_least (r ∷ rs) a w m k = ⊎_elim this (λ n. other (best_least rs a w n k)) (Memᴰ.cases_cons m)
    where
      this : ◌≡◌ {A = Rule} (record { job = j; move = a; after = w }) r → Found (suc (sum_of ns w)) (best j ns (r ∷ rs))
      this e =
          let s = ap cost e in
          let known = ap (λ (q : Rule). all_known ns q.after) (sym e) ∙ k in
          let own = eq-eqb r.job j (ap (λ (q : Rule). q.job) (sym e)) in
          let all = and_both (eqb r.job j) (all_known ns r.after) own known in
          best_cases (Found (suc (sum_of ns w))) r rs (λ _ _. omega arith) (λ f. omega (arith, f all))

      other : Found (suc (sum_of ns w)) (best j ns rs) → Found (suc (sum_of ns w)) (best j ns (r ∷ rs))
      other b = best_cases (Found (suc (sum_of ns w))) r rs (λ _ h. (omega arith, le_trans (h b.0) b.1)) (λ _. b)

round_length : (n j : ℕ) (ns : List ℕ) (rs : List Rule) → length (one_round n j ns rs) ≡ n
unfolding one_round
round_length zero j ns rs = refl
round_length (suc n) j ns rs = ap suc (round_length n (suc j) ns rs)

round_at : (n j : ℕ) (ns : List ℕ) (rs : List Rule) (i : ℕ) → i < n → get_or (one_round n j ns rs) i 0 ≡ best (j + i) ns rs
unfolding one_round
round_at zero j ns rs i h = absurd (not-suc-le-zero h)
round_at (suc n) j ns rs zero h = ap (λ (k : ℕ). best k ns rs) (omega arith)
round_at (suc n) j ns rs (suc i) h =
    round_at n (suc j) ns rs i (omega arith) ∙ ap (λ (k : ℕ). best k ns rs) (omega arith)

-- the norms of a table's jobs after one more round
unfoldable pub next : Table → (norms : List ℕ) → List ℕ
next t ns = one_round t.jobs 0 ns t.rules

pub next_length : (t : Table) (ns : List ℕ) → length (next t ns) ≡ t.jobs
unfolding next
next_length t ns = round_length t.jobs 0 ns t.rules

pub next_at : (t : Table) (ns : List ℕ) (j : ℕ) → j < t.jobs → get_or (next t ns) j 0 ≡ best j ns t.rules
unfolding next
next_at t ns j h = round_at t.jobs 0 ns t.rules j h ∙ ap (λ (k : ℕ). best k ns t.rules) (omega arith)

-- only a job has a norm
in_range : (ns : List ℕ) (j : ℕ) → 0 < get_or ns j 0 → j < length ns
in_range ns j h = go (dec_lt j (length ns))
  where
    go : Dec (j < length ns) → j < length ns
    go (yes k) = k
    go (no k) = let e = get_or-eq_default ns 0 {n = j} (omega arith) in omega arith

module _ (t : Table) (ns : List ℕ) (j : ℕ) where
  pub next_job : 0 < get_or (next t ns) j 0 → j < t.jobs
  next_job h = subst (λ (n : ℕ). j < n) (next_length t ns) (in_range (next t ns) j h)

  pub next_by_rule : 0 < get_or (next t ns) j 0 → ByRule j ns t.rules (get_or (next t ns) j 0)
  next_by_rule h =
      let e = next_at t ns j (next_job h) in
      subst (ByRule j ns t.rules) (sym e) (best_by_rule j ns t.rules (subst (λ (v : ℕ). 0 < v) e h))

  pub next_least : (a : ℕ) (w : List ℕ) → j < t.jobs → HasRule t j a w → all_known ns w ≡ true →
      Found (suc (sum_of ns w)) (get_or (next t ns) j 0)
  next_least a w h r k = subst (Found (suc (sum_of ns w))) (sym (next_at t ns j h)) (best_least j ns t.rules a w r k)
