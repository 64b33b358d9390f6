-- By the prime rows of a table and its norms, the array has the table's weights. Assumes nothing.
use mathlib.Core.Path.{◌≡◌, sym, ap, ap₂, ◌∙◌, subst}
use mathlib.Core.Bool.{Bool, true, cond}
use mathlib.Core.List.{List, [], ◌∷◌, append-nil}
use Prim.Native.Nat.{ℕ, ◌+◌, ◌≤◌, ◌<◌}
use native.Mathlib.Omega.{arith}
use lib.ListN.{length, get_or, take, set, length-set}
use lib.Seq.{length-take-le, get_or-take, get_or-set_same, get_or-set_other, ext_get_or}
use Rattle.bpa.specs.Plans.{Table, over}
use Rattle.bpa.specs.Norms.{norms}
use Rattle.bpa.specs.Method.{Rows, expand, prime_form}
use Rattle.bpa.proofs.Basics.Cases.{is_false}
use Rattle.bpa.proofs.Basics.Plans.{over_one}
use Rattle.catalogue.specs.Catalogue.{is_alone, own_form, weight, weights}
use Rattle.catalogue.proofs.BegunRows.{by_order}
use Rattle.catalogue.proofs.LowestWeights.{alone_is, is_itself, weights_long, weights_at}
use Rattle.form_weights.specs.Weighed.{row_weight, Weighed}

-- a job whose row is the job alone weighs its norm, any other nothing
pub weight_alone : (n j : ℕ) (r : List ℕ) → r ≡ j ∷ [] → row_weight n j r ≡ n
unfolding row_weight
weight_alone n j r e = ap (λ (b : Bool). cond b n 0) (ap (is_alone j) e ∙ is_itself j)

pub weight_other : (n j : ℕ) (r : List ℕ) → (r ≡ j ∷ [] → ⊥) → row_weight n j r ≡ 0
unfolding row_weight
weight_other n j r h = ap (λ (b : Bool). cond b n 0) (is_false (is_alone j r) (λ e. h (alone_is j r e)))

pub weighed_all : (j n : ℕ) {ns ws : List ℕ} {e : Rows} → j ≡ n → Weighed j ns e ws → Weighed n ns e ws
weighed_all j n {ns} {ws} {e} h w = subst (λ (k : ℕ). Weighed k ns e ws) h w

-- one more job
pub weighed_next : (j : ℕ) (ns : List ℕ) (e : Rows) (ws : List ℕ) → j < 24 → Weighed j ns e ws → (w : ℕ) → w ≡ row_weight (get_or ns j 0) j (e j) →
    Weighed (j + 1) ns e (set ws j w)
weighed_next j ns e ws h d w is = record {
  size = length-set ws j w ∙ d.size;
  at = λ i l. by_order i j
      (λ (m : i < j). get_or-set_other ws j i w 0 (λ k. omega arith) ∙ d.at i m)
      (λ (m : j ≤ i). let k : j ≡ i = omega arith in subst (λ (x : ℕ). get_or (set ws j w) x 0 ≡ row_weight (get_or ns x 0) x (e x)) k (get_or-set_same ws j w 0 (omega (arith, d.size)) ∙ is));
}

module _ (t : Table) (ns : List ℕ) (e : Rows) (ws : List ℕ)
    (few : t.jobs ≤ 24) (exact : (j : ℕ) → get_or ns j 0 ≡ get_or (norms t) j 0)
    (form : (p : List ℕ) → over t p ≡ true → expand e p ≡ prime_form t p) (w : Weighed t.jobs ns e ws) where
  row_form : (j : ℕ) → j < t.jobs → e j ≡ prime_form t (j ∷ [])
  unfolding expand
  row_form j h = sym (append-nil (e j)) ∙ form (j ∷ []) (over_one t j h)

  weight_is : (j : ℕ) → j < t.jobs → get_or ws j 0 ≡ weight t j
  unfolding row_weight weight own_form
  weight_is j h = w.at j h ∙ ap₂ (λ (n : ℕ) (r : List ℕ). row_weight n j r) (exact j) (row_form j h)

  pub weights_are : take t.jobs ws ≡ weights t
  weights_are =
      let long : length (take t.jobs ws) ≡ t.jobs = length-take-le t.jobs ws (omega (arith, w.size)) in
      ext_get_or 0 (take t.jobs ws) (weights t) (long ∙ sym (weights_long t))
      (λ j h. let i : j < t.jobs = omega (arith, long) in get_or-take t.jobs ws j 0 i ∙ weight_is j i ∙ sym (weights_at t j i))
