-- New rows worked out job by job in order: those of earlier jobs stay right when a later one is written, and in the end all are right.
-- Assumes nothing.
use mathlib.Core.Path.{◌≡◌, sym, subst}
use mathlib.Core.Bool.{true}
use mathlib.Core.Logic.{⊎_elim}
use mathlib.Core.List.{List}
use Prim.Native.Nat.{ℕ, zero, suc, ◌+◌, ◌≤◌, ◌<◌}
use native.Mathlib.Nat.{eq-or-lt_of_le}
use native.Mathlib.Omega.{arith}
use lib.ListN.{get_or, take}
use Rattle.bpa.specs.Plans.{Table, over}
use Rattle.bpa.specs.Norms.{Good}
use Rattle.bpa.specs.Method.{Rows}
use Rattle.bpa.proofs.Basics.Order.{precedes_distinct}
use Rattle.decompositions.specs.Decompositions.{Decomposed, Decomposition, NewRow, Refined, Refines}
use Rattle.decompositions.proofs.NewRows.{Earlier, new_row_agree, new_row_decomposed}
use Rattle.order.specs.Order.{ordered}
use Rattle.order.proofs.OrderedJobs.{place_below, place_rising, place_complete, place_earlier}

-- the new rows of the jobs before a place of the order are right
abbrev pub RefinedBefore : Table → (norms ord : List ℕ) → (d e : Rows) → (place : ℕ) → Type 0
RefinedBefore t ns ord d e i = (k : ℕ) → k < i → Refined t ns d e (get_or ord k 0)

module _ (t : Table) (ns : List ℕ) (g : Good t ns) (ord : List ℕ) (o : take t.jobs ord ≡ ordered ns t.jobs) where
  -- what holds at all places before one holds of all jobs before the job there
  pub earlier_places : (P : ℕ → Type 0) (i : ℕ) → i < t.jobs → ((k : ℕ) → k < i → P (get_or ord k 0)) → Earlier t ns (get_or ord i 0) P
  earlier_places P i h all j l p =
      let (k, s, e) = place_earlier ns ord t.jobs o i j h l p in subst P e (all k s)

  -- RIGHT ROWS ARE DECOMPOSED
  decomposed_below : (d e : Rows) (i : ℕ) → i ≤ t.jobs → RefinedBefore t ns ord d e i → (n k : ℕ) → k < n → k < i →
      Decomposed t ns e (get_or ord k 0)
  decomposed_below d e i l r zero k h s = absurd (omega arith)
  decomposed_below d e i l r (suc n) k h s =
      new_row_decomposed t ns g d e (get_or ord k 0) (place_below ns ord t.jobs o k (omega arith))
      (earlier_places (Decomposed t ns e) k (omega arith) (λ m q. decomposed_below d e i l r n m (omega arith) (omega arith)))
      (r k s)

  pub decomposed_before : (d e : Rows) (i : ℕ) → i ≤ t.jobs → RefinedBefore t ns ord d e i → (k : ℕ) → k < i →
      Decomposed t ns e (get_or ord k 0)
  decomposed_before d e i l r k s = decomposed_below d e i l r (suc k) k (omega arith) s

  -- ONE MORE ROW: e' has the new row v of the job at place i, and the rows of e else
  module _ (d e e' : Rows) (i : ℕ) (h : i < t.jobs) (r : RefinedBefore t ns ord d e i)
      (old : (j : ℕ) → j < t.jobs → (j ≡ get_or ord i 0 → ⊥) → e' j ≡ e j) where
    below : (k : ℕ) → k ≤ i → get_or ord k 0 < t.jobs
    below k l = place_below ns ord t.jobs o k (omega arith)

    kept : (k : ℕ) → k < i → e (get_or ord k 0) ≡ e' (get_or ord k 0)
    kept k s =
        sym
        (old (get_or ord k 0) (below k (omega arith))
        (precedes_distinct ns (get_or ord k 0) (get_or ord i 0) (place_rising ns ord t.jobs o k i s h)))

    -- an earlier row is right in e' too, and so is a row for the job at place i
    still : (k : ℕ) (row : List ℕ) → k ≤ i → NewRow t ns d e (get_or ord k 0) row → NewRow t ns d e' (get_or ord k 0) row
    still k row l w =
        new_row_agree t ns g d e e' (get_or ord k 0) row (below k l)
        (earlier_places (λ j. over t (e j) ≡ true) k (omega arith)
        (λ m q. (decomposed_before d e i (omega arith) r m (omega arith)).inside))
        (earlier_places (λ j. e j ≡ e' j) k (omega arith) (λ m q. kept m (omega arith))) w

    pub refined_more : (v : List ℕ) → NewRow t ns d e (get_or ord i 0) v → e' (get_or ord i 0) ≡ v → RefinedBefore t ns ord d e' (i + 1)
    refined_more v w q k l =
        ⊎_elim
        (λ (s : k ≡ i).
        subst (λ (m : ℕ). Refined t ns d e' (get_or ord m 0)) (sym s)
        (subst (NewRow t ns d e' (get_or ord i 0)) (sym q) (still i v (omega arith) w)))
        (λ (s : k < i).
        subst (NewRow t ns d e' (get_or ord k 0)) (kept k s) (still k (e (get_or ord k 0)) (omega arith) (r k s)))
        (eq-or-lt_of_le (omega arith))

  -- ALL ROWS
  module _ (d e : Rows) (i : ℕ) (all : i ≡ t.jobs) (r : RefinedBefore t ns ord d e i) where
    every : (P : ℕ → Type 0) → ((k : ℕ) → k < i → P (get_or ord k 0)) → (j : ℕ) → j < t.jobs → P j
    every P f j h = let (k, l, q) = place_complete ns ord t.jobs o j h in subst P q (f k (omega arith))

    pub refined_all : Refines t ns d e
    refined_all = every (Refined t ns d e) r

    pub decomposed_all : Decomposition t ns e
    decomposed_all = every (Decomposed t ns e) (decomposed_before d e i (omega arith) r)
