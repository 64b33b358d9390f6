-- After as many rounds as jobs no round changes a norm: when a job's norm changes at round k + 1, at least k + 1 jobs are known and
-- no dearer than its new norm. Assumes nothing.
use mathlib.Core.Path.{◌≡◌, refl, sym, ap, ◌∙◌}
use mathlib.Core.Bool.{Bool, true, false, ◌&&◌}
use mathlib.Core.Logic.{◌⊎◌, inl, inr, ⊎_elim}
use mathlib.Core.List.{List, [], ◌∷◌}
use Prim.Native.Nat.{ℕ, zero, suc, ◌+◌, ◌≤◌, ◌<◌}
use native.Mathlib.Nat.{le_refl, zero-add, suc-add, add-zero, add-suc}
use native.Mathlib.Decide.{ℕ_discrete, dec_lt}
use native.Mathlib.Omega.{arith}
use lib.Dec.{ltb, leb}
use lib.ListN.{length, get_or, replicate, length-replicate}
use lib.Seq.{ext_get_or}
use borrow.Author.Tests.{ltb-true, lt-ltb, leb-true, le-leb}
use Rattle.bpa.specs.Plans.{Table}
use Rattle.bpa.specs.Norms.{sum_of, all_known, rounds, norms}
use Rattle.bpa.proofs.Basics.Zeros.{zeros_at}
use Rattle.bpa.proofs.Basics.Cases.{and_left, and_right, and_both, is_false}
use Rattle.bpa.proofs.Norm.KnownPlans.{known_parts, known_cons}
use Rattle.bpa.proofs.Basics.Counting.{count, count_le, count_more}
use Rattle.bpa.proofs.Norm.NormRounds.{Found, ByRule, next, next_length, next_job, next_by_rule, next_least}

-- no norm is lost, and none grows
abbrev Improves : (later earlier : List ℕ) → Type 0
Improves ns ms = (j : ℕ) → 0 < get_or ms j 0 → Found (get_or ms j 0) (get_or ns j 0)

improves_plan : (ns ms : List ℕ) → Improves ns ms → (p : List ℕ) → all_known ms p ≡ true →
    (all_known ns p ≡ true) × (sum_of ns p ≤ sum_of ms p)
unfolding sum_of all_known
improves_plan ns ms f [] k = (refl, omega arith)
improves_plan ns ms f (j ∷ js) k =
    let (a, b) = known_parts ms j js k in
    let (c, d) = improves_plan ns ms f js b in
    (known_cons ns j js (f j a).0 c, omega (arith, f j a))

-- a job of a plan whose norm changed
record Change (ns ms p : List ℕ) : Type 0 where
  job : ℕ
  differs : get_or ns job 0 ≡ get_or ms job 0 → ⊥
  no_dearer : get_or ns job 0 ≤ sum_of ns p

abbrev Unchanged : (ns ms p : List ℕ) → Type 0
Unchanged ns ms p = (all_known ms p ≡ true) × (sum_of ms p ≡ sum_of ns p)

find_change : (ns ms p : List ℕ) → all_known ns p ≡ true → Unchanged ns ms p ⊎ Change ns ms p
unfolding sum_of all_known
find_change ns ms [] k = inl (refl, refl)
find_change ns ms (j ∷ js) k = go (ℕ_discrete (get_or ns j 0) (get_or ms j 0)) (find_change ns ms js (known_parts ns j js k).1)
  where
    go : Dec (get_or ns j 0 ≡ get_or ms j 0) → Unchanged ns ms js ⊎ Change ns ms js → Unchanged ns ms (j ∷ js) ⊎ Change ns ms (j ∷ js)
    go (yes e) (inl u) = inl (known_cons ms j js (omega (arith, (known_parts ns j js k).0)) u.0, omega arith)
    go (yes e) (inr c) = inr (record { job = c.job; differs = c.differs; no_dearer = omega (arith, c.no_dearer) })
    go (no e) r = inr (record { job = j; differs = e; no_dearer = omega arith })

-- the jobs whose norm is known and no dearer than a bound
abbrev cheap : (ns : List ℕ) → (bound : ℕ) → (job : ℕ) → Bool
cheap ns v i = ltb 0 (get_or ns i 0) && leb (get_or ns i 0) v

cheap_true : (ns : List ℕ) (v i : ℕ) → Found v (get_or ns i 0) → cheap ns v i ≡ true
cheap_true ns v i (h, k) =
    and_both (ltb 0 (get_or ns i 0)) (leb (get_or ns i 0) v) (lt-ltb 0 (get_or ns i 0) h) (le-leb (get_or ns i 0) v k)

true_cheap : (ns : List ℕ) (v i : ℕ) → cheap ns v i ≡ true → Found v (get_or ns i 0)
true_cheap ns v i e =
    let a = ltb 0 (get_or ns i 0) in
    let b = leb (get_or ns i 0) v in
    (ltb-true 0 (get_or ns i 0) (and_left a b e), leb-true (get_or ns i 0) v (and_right a b e))

not_yet : (ns : List ℕ) (v i : ℕ) → (Found v (get_or ns i 0) → ⊥) → cheap ns v i ≡ false
not_yet ns v i h = is_false (cheap ns v i) (λ e. h (true_cheap ns v i e))

module _ (t : Table) where
  abbrev after : ℕ → List ℕ
  after zero = replicate t.jobs 0
  after (suc k) = next t (after k)

  next_improves : (ns ms : List ℕ) → Improves ns ms → Improves (next t ns) (next t ms)
  next_improves ns ms f j h =
      let b = next_by_rule t ms j h in
      let (k, l) = improves_plan ns ms f b.after b.known in
      let (m, n) = next_least t ns j b.move b.after (next_job t ms j h) b.rule k in
      (m, omega (arith, b.norm))

  after_improves : (k : ℕ) → Improves (after (suc k)) (after k)
  after_improves zero = λ j h. let e = zeros_at t.jobs j in omega arith
  after_improves (suc k) = next_improves (after (suc k)) (after k) (after_improves k)

  -- a norm that changes becomes known
  change_found : (k j : ℕ) → (get_or (after (suc k)) j 0 ≡ get_or (after k) j 0 → ⊥) → 0 < get_or (after (suc k)) j 0
  change_found k j d = go (dec_lt 0 (get_or (after k) j 0))
    where
      go : Dec (0 < get_or (after k) j 0) → 0 < get_or (after (suc k)) j 0
      go (yes h) = (after_improves k j h).0
      go (no h) = omega arith

  -- the jobs that were known and cheaper still are, and j is one more
  one_more : (k j u : ℕ) → (get_or (after (suc k)) j 0 ≡ get_or (after k) j 0 → ⊥) → u < get_or (after (suc k)) j 0 →
      1 + count (cheap (after k) u) t.jobs ≤ count (cheap (after (suc k)) (get_or (after (suc k)) j 0)) t.jobs
  one_more k j u d l =
      count_more (cheap (after k) u) (cheap (after (suc k)) v) t.jobs (λ i _ e. still i (true_cheap (after k) u i e)) j
      (is_job (change_found k j d)) (not_yet (after k) u j new) (cheap_true (after (suc k)) v j (change_found k j d, le_refl v))
    where
      v : ℕ
      v = get_or (after (suc k)) j 0

      is_job : 0 < get_or (after (suc k)) j 0 → j < t.jobs
      is_job = next_job t (after k) j

      still : (i : ℕ) → Found u (get_or (after k) i 0) → cheap (after (suc k)) v i ≡ true
      still i (a, b) = let (c, e) = after_improves k i a in cheap_true (after (suc k)) v i (c, omega arith)

      new : Found u (get_or (after k) j 0) → ⊥
      new (a, b) = let (c, e) = after_improves k j a in omega arith

  improved : (k j : ℕ) → (get_or (after (suc k)) j 0 ≡ get_or (after k) j 0 → ⊥) →
      suc k ≤ count (cheap (after (suc k)) (get_or (after (suc k)) j 0)) t.jobs
  improved zero j d = omega (arith, one_more 0 j 0 d (change_found 0 j d))
  improved (suc k) j d =
      ⊎_elim same (λ c. other c (improved k c.job c.differs)) (find_change (after (suc k)) (after k) b.after b.known)
    where
      v : ℕ
      v = get_or (after (suc (suc k))) j 0

      positive : 0 < v
      positive = change_found (suc k) j d

      b : ByRule j (after (suc k)) t.rules v
      b = next_by_rule t (after (suc k)) j positive

      same : Unchanged (after (suc k)) (after k) b.after → suc (suc k) ≤ count (cheap (after (suc (suc k))) v) t.jobs
      same (e, f) =
          let (g, h) = next_least t (after k) j b.move b.after (next_job t (after (suc k)) j positive) b.rule e in
          let (m, n) = after_improves (suc k) j g in
          absurd (d (omega (arith, b.norm)))

      other : (c : Change (after (suc k)) (after k) b.after) →
          suc k ≤ count (cheap (after (suc k)) (get_or (after (suc k)) c.job 0)) t.jobs →
          suc (suc k) ≤ count (cheap (after (suc (suc k))) v) t.jobs
      other c h = omega (arith, one_more (suc k) j (get_or (after (suc k)) c.job 0) d (omega (arith, c.no_dearer, b.norm)))

  settled : (j : ℕ) → get_or (after (suc t.jobs)) j 0 ≡ get_or (after t.jobs) j 0
  settled j = go (ℕ_discrete v (get_or (after t.jobs) j 0))
    where
      v : ℕ
      v = get_or (after (suc t.jobs)) j 0

      go : Dec (v ≡ get_or (after t.jobs) j 0) → v ≡ get_or (after t.jobs) j 0
      go (yes e) = e
      go (no d) = omega (arith, improved t.jobs j d, count_le (cheap (after (suc t.jobs)) v) t.jobs)

  after_length : (k : ℕ) → length (after k) ≡ t.jobs
  after_length zero = length-replicate t.jobs 0
  after_length (suc k) = next_length t (after k)

  rounds_after : (k l : ℕ) → rounds k t (after l) ≡ after (k + l)
  unfolding rounds next
  rounds_after zero l = ap after (sym (zero-add l))
  rounds_after (suc k) l = rounds_after k (suc l) ∙ ap after (add-suc k l ∙ sym (suc-add k l))

  norms_after : norms t ≡ after t.jobs
  unfolding norms
  norms_after = rounds_after t.jobs 0 ∙ ap after (add-zero t.jobs)

  pub norms_length : length (norms t) ≡ t.jobs
  norms_length = ap length norms_after ∙ after_length t.jobs

  pub norms_stable : next t (norms t) ≡ norms t
  norms_stable =
      let n = t.jobs in
      rw norms_after (ext_get_or 0 (after (suc n)) (after n) (after_length (suc n) ∙ sym (after_length n)) (λ j _. settled j))
