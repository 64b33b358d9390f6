-- The rules of a joined table: those of the first for its jobs, and those of the second, renumbered, for the others. Assumes nothing.
use mathlib.Core.Path.{◌≡◌, sym, ap}
use mathlib.Core.List.{List, Memᴰ, map}
use mathlib.Core.List.Memᴰ
use mathlib.Core.Logic.{⊎_elim}
use Prim.Native.Nat.{ℕ, ◌+◌, ◌<◌}
use native.Mathlib.Omega.{arith}
use Rattle.bpa.specs.Plans.{Rule, Table, HasRule}
use Rattle.joined.specs.Joined.{renumbered, renumbered_rule, joined, OwnRules}

module _ (t u : Table) where
  pub left_rule : (j a : ℕ) (w : List ℕ) → HasRule t j a w → HasRule (joined t u) j a w
  unfolding joined
  left_rule j a w m = Memᴰ.append_left (map (renumbered_rule t.jobs) u.rules) m

  pub right_rule : (j a : ℕ) (w : List ℕ) → HasRule u j a w → HasRule (joined t u) (t.jobs + j) a (renumbered t.jobs w)
  unfolding joined renumbered_rule
  right_rule j a w m = Memᴰ.append_right t.rules (Memᴰ.map (renumbered_rule t.jobs) m)

  -- a rule of the second table by what it is renumbered
  renumbered_one : (j a : ℕ) (w : List ℕ) → Memᴰ {A = Rule} (record { job = j; move = a; after = w }) (map (renumbered_rule t.jobs) u.rules) →
      (k : ℕ) × (v : List ℕ) × HasRule u k a v × (j ≡ t.jobs + k) × (w ≡ renumbered t.jobs v)
  unfolding renumbered_rule
  renumbered_one j a w m =
      let (r, k, e) = Memᴰ.of_map (renumbered_rule t.jobs) u.rules m in
      let same : r ≡ record { job = r.job; move = a; after = r.after } = λ i. record { job = r.job; move = (e i).move; after = r.after } in
      (r.job, r.after, Memᴰ.cast (sym same) k, sym (ap (λ (x : Rule). x.job) e), sym (ap (λ (x : Rule). x.after) e))

  -- EACH RULE is one of these
  pub rule_left : (j a : ℕ) (w : List ℕ) → j < t.jobs → HasRule (joined t u) j a w → HasRule t j a w
  unfolding joined
  rule_left j a w h m = ⊎_elim
      (λ (k : HasRule t j a w). k)
      (λ (k : Memᴰ {A = Rule} (record { job = j; move = a; after = w }) (map (renumbered_rule t.jobs) u.rules)).
      let (i, v, r, e, f) = renumbered_one j a w k in absurd (omega (arith, e, h)))
      (Memᴰ.append_cases t.rules m)

  module _ (own : OwnRules t) where
    pub rule_right : (j a : ℕ) (w : List ℕ) → HasRule (joined t u) (t.jobs + j) a w → (v : List ℕ) × HasRule u j a v × (w ≡ renumbered t.jobs v)
    unfolding joined
    rule_right j a w m = ⊎_elim
        (λ (k : HasRule t (t.jobs + j) a w). absurd (omega (arith, own (t.jobs + j) a w k)))
        (λ (k : Memᴰ {A = Rule} (record { job = t.jobs + j; move = a; after = w }) (map (renumbered_rule t.jobs) u.rules)).
        let (i, v, r, e, f) = renumbered_one (t.jobs + j) a w k in
        let same : i ≡ j = omega (arith, e) in
        (v, Memᴰ.cast (λ x. record { job = sym same x; move = a; after = v }) r, f))
        (Memᴰ.append_cases t.rules m)
