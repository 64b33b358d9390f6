-- The first norm-lowering rule of a job, and the candidate of a pair, which is a reduct of its greater job. Assumes nothing.
use mathlib.Core.Path.{◌≡◌, refl, sym, ap, ◌∙◌}
use mathlib.Core.Bool.{Bool, true, ◌&&◌}
use mathlib.Core.List.Memᴰ
use mathlib.Core.List.{List, [], ◌∷◌, ◌++◌, Memᴰ}
use mathlib.Core.Logic.{⊎_elim}
use Prim.Native.Nat.{ℕ, zero, suc, ◌+◌, ◌≤◌, ◌<◌}
use native.Mathlib.Omega.{arith}
use lib.Dec.{eqb}
use lib.ListN.{get_or}
use borrow.Author.Tests.{eqb-true, eq-eqb}
use Rattle.bpa.specs.Plans.{Rule, Table, over}
use Rattle.bpa.specs.Norms.{sum_of, Good}
use Rattle.bpa.specs.Method.{lowering, lower_by, candidate}
use Rattle.bpa.specs.Bases.{OrderedPairs}
use Rattle.bpa.proofs.Basics.Plans.{over_head, over_tail, over_one, over_append, sum_append, sum_one}
use Rattle.bpa.proofs.Rounds.Reductions.{Reduces, reduces_over, reduces_norm}
use Rattle.bpa.proofs.Basics.Cases.{by_test, and_left, and_right, and_both, never_both}
use Rattle.bpa.proofs.Basics.Order.{precedes_le}

abbrev pub Closed : Table → (norms : List ℕ) → (cand : ℕ → ℕ → List ℕ) → Type 0
Closed t ns c = OrderedPairs t ns (λ y x. over t (c y x) ≡ true)

-- `lowering` finds a rule of the job that lowers its norm by one, if there is one
module _ (ns : List ℕ) (j : ℕ) where
  abbrev pub Lowers : List Rule → (after : List ℕ) → Type 0
  Lowers rs w =
      (a : ℕ) × Memᴰ {A = Rule} (record { job = j; move = a; after = w }) rs × (get_or ns j 0 ≡ suc (sum_of ns w))

  abbrev lowers : Rule → Bool
  lowers r = eqb r.job j && eqb (get_or ns j 0) (suc (sum_of ns r.after))

  lowers_here : (r : Rule) (rs : List Rule) → lowers r ≡ true → Lowers (r ∷ rs) r.after
  lowers_here r rs e =
      let f = eqb (get_or ns j 0) (suc (sum_of ns r.after)) in (
        r.move,
        Memᴰ.head (λ i. record {
          job = sym (eqb-true r.job j (and_left (eqb r.job j) f e)) i;
          move = r.move;
          after = r.after;
        }),
        eqb-true (get_or ns j 0) (suc (sum_of ns r.after)) (and_right (eqb r.job j) f e),
      )

  lowers_this : (r : Rule) (a : ℕ) (w : List ℕ) → record { job = j; move = a; after = w } ≡ r →
      get_or ns j 0 ≡ suc (sum_of ns w) → lowers r ≡ true
  lowers_this r a w e s =
      and_both (eqb r.job j) (eqb (get_or ns j 0) (suc (sum_of ns r.after)))
      (eq-eqb r.job j (sym (ap (λ u. u.job) e)))
      (eq-eqb (get_or ns j 0) (suc (sum_of ns r.after)) (s ∙ ap (λ u. suc (sum_of ns u.after)) e))

  lowering_finds : (rs : List Rule) (w : List ℕ) → Lowers rs w → Lowers rs (lowering ns rs j)
  unfolding lowering
  lowering_finds [] w h = absurd (Memᴰ.not-nil h.1)
  lowering_finds (r ∷ rs) w (a, m, s) =
      by_test (lowers r) (λ e. rw e (lowers_here r rs e))
      (λ e.
      rw e
      (⊎_elim (λ (d : record { job = j; move = a; after = w } ≡ r). absurd (never_both (lowers r) (lowers_this r a w d s) e))
      (λ k. let (a', m', s') = lowering_finds rs w (a, k, s) in (a', Memᴰ.tail m', s')) (Memᴰ.cases_cons m)))

module _ (t : Table) (ns : List ℕ) (g : Good t ns) where
  pub lowering_rule : (j : ℕ) → j < t.jobs → Lowers ns j t.rules (lowering ns t.rules j)
  lowering_rule j h = let (a, w, r, e) = g.falls j h in lowering_finds ns j t.rules w (a, r, e)

  pub lowering_norm : (j : ℕ) → j < t.jobs → get_or ns j 0 ≡ suc (sum_of ns (lowering ns t.rules j))
  lowering_norm j h = (lowering_rule j h).2

  lower_by_reduces : (v : ℕ) (p : List ℕ) → over t p ≡ true → v ≤ sum_of ns p →
      Reduces t ns v p (lower_by ns t.rules v p)
  unfolding lower_by sum_of
  lower_by_reduces zero p o l = refl
  lower_by_reduces (suc v) [] o l = absurd (omega arith)
  lower_by_reduces (suc v) (j ∷ js) o l =
      let w = lowering ns t.rules j in
      let (a, r, e) = lowering_rule j (over_head t j js o) in
      let s : sum_of ns (w ++ js) ≡ sum_of ns w + sum_of ns js = sum_append ns w js in (
        a,
        w ++ js,
        (w, r, refl),
        omega arith,
        lower_by_reduces v (w ++ js) (over_append t w js (g.closed j a w r) (over_tail t j js o)) (omega arith),
      )

  pub candidate_reduces : (y x : ℕ) → y < t.jobs → get_or ns x 0 ≤ get_or ns y 0 →
      Reduces t ns (get_or ns x 0) (y ∷ []) (candidate t ns y x)
  unfolding candidate
  candidate_reduces y x h l = lower_by_reduces (get_or ns x 0) (y ∷ []) (over_one t y h) (omega (arith, sum_one ns y))

  pub candidate_over : (y x : ℕ) → y < t.jobs → get_or ns x 0 ≤ get_or ns y 0 → over t (candidate t ns y x) ≡ true
  candidate_over y x h l =
      reduces_over t ns g (get_or ns x 0) (y ∷ []) (candidate t ns y x) (over_one t y h) (candidate_reduces y x h l)

  pub candidate_norm : (y x : ℕ) → y < t.jobs → get_or ns x 0 ≤ get_or ns y 0 →
      get_or ns x 0 + sum_of ns (candidate t ns y x) ≡ get_or ns y 0
  candidate_norm y x h l =
      sym (reduces_norm t ns g (get_or ns x 0) (y ∷ []) (candidate t ns y x) (candidate_reduces y x h l)) ∙ sum_one ns y

  pub candidates_closed : Closed t ns (candidate t ns)
  candidates_closed y x hy hx o = candidate_over y x hy (precedes_le ns x y o)
