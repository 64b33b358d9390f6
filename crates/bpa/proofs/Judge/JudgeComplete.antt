-- Plans that match for long enough are judged the same by a base that is full at some level, and the fuel is enough. Assumes nothing.
use mathlib.Core.Path.{◌≡◌, refl, sym, ap, subst, subst₂, ◌∙◌}
use mathlib.Core.Bool.{Bool, true}
use mathlib.Core.List.Memᴰ
use mathlib.Core.List.{List, [], ◌∷◌, ◌++◌}
use mathlib.Core.Logic.{⊎_elim}
use Prim.Native.Nat.{ℕ, zero, suc, ◌+◌, ◌≤◌, ◌<◌}
use native.Mathlib.Omega.{arith}
use lib.ListN.{get_or}
use Rattle.bpa.specs.Plans.{Table, over}
use Rattle.bpa.specs.Norms.{sum_of, Good}
use Rattle.bpa.specs.Bisimilar.{Approx}
use Rattle.bpa.specs.Method.{Rows, itself, candidate, expand, grow, differ, first_difference, Base, judge, judged}
use Rattle.bpa.specs.Bases.{Full}
use Rattle.bpa.proofs.Basics.Plans.{over_head, over_one, over_left, over_right, sum_append, norm_positive}
use Rattle.bpa.proofs.Basics.Cases.{and_both}
use Rattle.bpa.proofs.Rounds.Approximants.{approx_sym, approx_trans, approx_mono, norms_agree}
use Rattle.bpa.proofs.Rounds.Cancellation.{cancel_left, split, any_reduct}
use Rattle.bpa.proofs.Rounds.Reductions.{reduces_over}
use Rattle.bpa.proofs.Basics.Order.{precedes_le, precedes_distinct}
use Rattle.bpa.proofs.Judge.Candidates.{candidate_reduces, candidate_over, candidate_norm}
use Rattle.bpa.proofs.Basics.Counting.{count, count_le}
use Rattle.bpa.proofs.Judge.Rows.{itself_over, itself_norm, itself_match, RowsOver, RowsNorm, RowsMatch, expand_over, expand_norm, expand_match, grow_over, grow_norm, grow_match}
use Rattle.bpa.proofs.Judge.LiveJobs.{Live, RowsLive, expand_live, without, without_fewer, grow_live}
use Rattle.bpa.proofs.Judge.Differences.{by_difference, Parted, parted_swap, Longer, ends_longer}
use Rattle.bpa.proofs.Judge.JudgeTurns.{judge_equal, Turn, turn_of, judge_turn}

-- rounds enough for a judge: each turn may cost twice the norm
unfoldable pub rounds_for : (level norm fuel : ℕ) → ℕ
rounds_for n v zero = suc (n + v)
rounds_for n v (suc f) = rounds_for n v f + (v + v)

pub rounds_least : (n v f : ℕ) → suc (n + v) ≤ rounds_for n v f
unfolding rounds_for
rounds_least n v zero = omega arith
rounds_least n v (suc f) = omega (arith, rounds_least n v f)

-- the two jobs of a turn are live
module _ (t : Table) (ns : List ℕ) (live : ℕ → Bool) where
  live_at : (c α r : List ℕ) (x : ℕ) → Live live r → r ≡ c ++ x ∷ α → live x ≡ true
  live_at c α r x l e = subst (Live live) e l x (Memᴰ.append_right c (Memᴰ.head refl))

  turn_live : (p q : List ℕ) (x y : ℕ) → Live live p → Live live q → (u : Turn t ns p q x y) →
      (live u.greater ≡ true) × (live u.lesser ≡ true)
  turn_live p q x y l l' u =
      let d = u.parts in
      let left : live x ≡ true = live_at d.front d.left p x l d.left_is in
      let right : live y ≡ true = live_at d.front d.right q y l' d.right_is in
      ⊎_elim (λ (a : (u.lesser ≡ x) × (u.greater ≡ y)). (rw a.1 right, rw a.0 left))
      (λ (a : (u.lesser ≡ y) × (u.greater ≡ x)). (rw a.1 left, rw a.0 right)) u.sides

module _ (t : Table) (ns : List ℕ) (g : Good t ns) where
  -- where two plans differ, the greater job matches its pair with the lesser
  pair_matches : (m k v x y : ℕ) (c α β : List ℕ) → over t (c ++ x ∷ α) ≡ true → over t (c ++ y ∷ β) ≡ true →
      get_or ns x 0 ≤ get_or ns y 0 → sum_of ns (c ++ x ∷ α) ≤ v → v < m → m + (v + v) ≤ k →
      Approx t k (c ++ x ∷ α) (c ++ y ∷ β) → Approx t m (y ∷ []) (x ∷ candidate t ns y x)
  unfolding sum_of
  pair_matches m k v x y c α β o o' l s d e h =
      let oₓ : over t (x ∷ α) ≡ true = over_right t c (x ∷ α) o in
      let oᵧ : over t (y ∷ β) ≡ true = over_right t c (y ∷ β) o' in
      let a : sum_of ns (c ++ x ∷ α) ≡ sum_of ns c + (get_or ns x 0 + sum_of ns α) = sum_append ns c (x ∷ α) in
      let b : sum_of ns (c ++ y ∷ β) ≡ sum_of ns c + (get_or ns y 0 + sum_of ns β) = sum_append ns c (y ∷ β) in
      let i : sum_of ns (c ++ x ∷ α) ≡ sum_of ns (c ++ y ∷ β) =
      norms_agree t ns g k (c ++ x ∷ α) (c ++ y ∷ β) o o' (omega arith) h in
      let k₃ : ℕ = m + get_or ns x 0 in
      let k₂ : ℕ = k₃ + sum_of ns β in
      let k₁ : ℕ = k₂ + get_or ns x 0 in
      let h₁ : Approx t k₁ (x ∷ α) (y ∷ β) =
      cancel_left t ns g k₁ k c (x ∷ α) (y ∷ β) (over_left t c (x ∷ α) o) oₓ oᵧ (omega arith) (omega arith) h in
      let (δ, r, _, h₃) = split t ns g k₃ k₂ k₁ x y α β oₓ oᵧ l (omega arith) (omega arith) (omega arith) h₁ in
      let hy : y < t.jobs = over_head t y β oᵧ in
      any_reduct t ns g m k₃ x y δ (candidate t ns y x) (over_head t x α oₓ) hy
      (reduces_over t ns g (get_or ns x 0) (y ∷ []) δ (over_one t y hy) r) (omega arith) (omega arith)
      (candidate_reduces t ns g y x hy l) h₃

  -- no plan matches a longer one for more rounds than its norm
  not_longer : (k : ℕ) (p q : List ℕ) → over t p ≡ true → over t q ≡ true → sum_of ns p < k → Approx t k p q → Longer p q → ⊥
  unfolding sum_of
  not_longer k p q o o' l h w =
      let a : sum_of ns q ≡ sum_of ns p + (get_or ns w.next 0 + sum_of ns w.more) =
      ap (sum_of ns) w.is ∙ sum_append ns p (w.next ∷ w.more) in
      let j : w.next < t.jobs =
      over_head t w.next w.more (over_right t p (w.next ∷ w.more) (subst (λ r. over t r ≡ true) w.is o')) in
      omega (arith, norms_agree t ns g k p q o o' l h, norm_positive t ns g w.next j)

  parted_matches : (m k v : ℕ) (p q : List ℕ) (x y : ℕ) → over t p ≡ true → over t q ≡ true → sum_of ns p ≤ v → v < m →
      m + (v + v) ≤ k → Approx t k p q → Parted p q x y → get_or ns x 0 ≤ get_or ns y 0 →
      Approx t m (y ∷ []) (x ∷ candidate t ns y x)
  parted_matches m k v p q x y o o' s d e h a l =
      pair_matches m k v x y a.front a.left a.right (rw a.left_is at o) (rw a.right_is at o') l
      (rw a.left_is at s) d e (subst₂ (Approx t k) a.left_is a.right_is h)

  turn_matches : (m k v : ℕ) (p q : List ℕ) (x y : ℕ) → over t p ≡ true → over t q ≡ true → sum_of ns p ≤ v → v < m →
      m + (v + v) ≤ k → Approx t k p q → (u : Turn t ns p q x y) →
      Approx t m (u.greater ∷ []) (u.lesser ∷ candidate t ns u.greater u.lesser)
  turn_matches m k v p q x y o o' s d e h u =
      let l : get_or ns u.lesser 0 ≤ get_or ns u.greater 0 = precedes_le ns u.lesser u.greater u.order in
      ⊎_elim
      (λ (a : (u.lesser ≡ x) × (u.greater ≡ y)).
      parted_matches m k v p q u.lesser u.greater o o' s d e h
      (subst₂ (Parted p q) (sym a.0) (sym a.1) u.parts) l)
      (λ (a : (u.lesser ≡ y) × (u.greater ≡ x)).
      parted_matches m k v q p u.lesser u.greater o' o (omega (arith, norms_agree t ns g k p q o o' (omega arith) h)) d e
      (approx_sym t k p q h) (subst₂ (Parted q p) (sym a.0) (sym a.1) (parted_swap p q x y u.parts)) l) u.sides

  module _ (b : Base) (v : ℕ) (p q : List ℕ) (o : over t p ≡ true) (o' : over t q ≡ true) (s : sum_of ns p ≤ v) where
    -- rows that match keep two plans that match, and these are equal or have a turn
    complete_turn : (f k : ℕ) (e : Rows) → RowsOver t e → RowsNorm t ns e → v < k → RowsMatch t k e → Approx t k p q →
        ((x y : ℕ) → first_difference (expand e p) (expand e q) ≡ differ x y → Turn t ns (expand e p) (expand e q) x y →
        Approx t k (expand e p) (expand e q) → judge ns (candidate t ns) b f e p q ≡ true) →
        judge ns (candidate t ns) b f e p q ≡ true
    complete_turn f k e r w z m h turn =
        let a : Approx t k (expand e p) (expand e q) =
        approx_trans t k (expand e p) p (expand e q)
        (approx_sym t k p (expand e p) (expand_match t e r ns g k m p o))
        (approx_trans t k p q (expand e q) h (expand_match t e r ns g k m q o')) in
        let oₚ : over t (expand e p) ≡ true = expand_over t e r p o in
        let oᵣ : over t (expand e q) ≡ true = expand_over t e r q o' in
        let sₚ : sum_of ns (expand e p) < k = omega (arith, expand_norm t ns e w p o) in
        let sᵣ : sum_of ns (expand e q) < k =
        omega (arith, norms_agree t ns g k (expand e p) (expand e q) oₚ oᵣ sₚ a) in
        by_difference (first_difference (expand e p) (expand e q))
        (judge_equal ns (candidate t ns) b e p q f)
        (λ d. absurd (⊎_elim (not_longer k (expand e p) (expand e q) oₚ oᵣ sₚ a)
        (not_longer k (expand e q) (expand e p) oᵣ oₚ sᵣ (approx_sym t k (expand e p) (expand e q) a))
        (ends_longer (expand e p) (expand e q) d)))
        (λ x y d. turn x y d (turn_of t ns (expand e p) (expand e q) x y oₚ oᵣ d) a)

    judge_complete : (n : ℕ) → Full t ns n b → (f : ℕ) (e : Rows) (live : ℕ → Bool) → RowsOver t e → RowsNorm t ns e → RowsLive t live e →
        count live t.jobs ≤ f → RowsMatch t (rounds_for n v f) e → Approx t (rounds_for n v f) p q →
        judge ns (candidate t ns) b f e p q ≡ true
    unfolding rounds_for
    judge_complete n full zero e live r w l z m h =
        complete_turn zero (rounds_for n v zero) e r w (omega (arith, rounds_least n v zero)) m h
        (λ x y d u a.
        let (i, _) =
        turn_live t ns live (expand e p) (expand e q) x y (expand_live t live e l p o) (expand_live t live e l q o') u in
        absurd (omega (arith, without_fewer live u.greater t.jobs u.greater_job i)))
    judge_complete n full (suc f) e live r w l z m h =
        complete_turn (suc f) (rounds_for n v (suc f)) e r w (omega (arith, rounds_least n v (suc f))) m h
        (λ x y d u a.
        let k = rounds_for n v f in
        let k' = rounds_for n v (suc f) in
        let hi = u.greater in
        let lo = u.lesser in
        let c = candidate t ns hi lo in
        let (i, j) =
        turn_live t ns live (expand e p) (expand e q) x y (expand_live t live e l p o) (expand_live t live e l q o') u in
        let le : get_or ns lo 0 ≤ get_or ns hi 0 = precedes_le ns lo hi u.order in
        let oc : over t c ≡ true = candidate_over t ns g hi lo u.greater_job le in
        let nc : get_or ns lo 0 + sum_of ns c ≡ get_or ns hi 0 = candidate_norm t ns g hi lo u.greater_job le in
        let pm : Approx t k (hi ∷ []) (lo ∷ c) =
        turn_matches k k' v (expand e p) (expand e q) x y (expand_over t e r p o) (expand_over t e r q o')
        (omega (arith, expand_norm t ns e w p o)) (omega (arith, rounds_least n v f)) (omega arith) a u in
        judge_turn t ns (candidate t ns) b e p q f x y d u ∙
        and_both (b hi lo) (judge ns (candidate t ns) b f (grow (candidate t ns) e hi lo) p q)
        (full hi lo u.greater_job u.lesser_job u.order c oc
        (approx_mono t n k (hi ∷ []) (lo ∷ c) (omega (arith, rounds_least n v f)) pm))
        (judge_complete n full f (grow (candidate t ns) e hi lo) (without live hi)
        (grow_over t (candidate t ns) e r hi lo oc u.lesser_job) (grow_norm t (candidate t ns) e r hi lo oc ns w nc)
        (grow_live t ns (candidate t ns) e live w l hi lo oc (omega (arith, norm_positive t ns g lo u.lesser_job)) j
        (precedes_distinct ns lo hi u.order))
        (omega (arith, without_fewer live hi t.jobs u.greater_job i))
        (grow_match t (candidate t ns) e r hi lo oc ns g k u.lesser_job
        (λ z hz. approx_mono t k k' (z ∷ []) (e z) (omega arith) (m z hz)) pm)
        (approx_mono t k k' p q (omega arith) h)))

    -- the fuel of the judge is enough
    pub judged_complete : (n : ℕ) → Full t ns n b → Approx t (rounds_for n v t.jobs) p q → judged t ns b p q ≡ true
    unfolding judged
    judged_complete n full h =
        judge_complete n full t.jobs itself (λ j. true) (itself_over t) (itself_norm t ns) (λ j a i m. refl)
        (count_le (λ j. true) t.jobs) (itself_match t (rounds_for n v t.jobs)) h
