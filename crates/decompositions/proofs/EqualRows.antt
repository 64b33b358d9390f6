-- Rows of primes of the new rows that are equal by the old rows and match are equal lists: one lowering step makes one row an end of the
-- other, and a prime whose steps answer those of a row would have been decomposed by it. Assumes nothing.
use mathlib.Core.Path.{◌≡◌, refl, sym, ap, ap₂, subst, ◌∙◌}
use mathlib.Core.Bool.{true}
use mathlib.Core.List.{List, [], ◌∷◌, ◌++◌, append_assoc, append_cancel_right, head-eq_of_cons-eq, tail-eq_of_cons-eq}
use mathlib.Core.List.Memᴰ.{head as here}
use mathlib.Core.List.Memᴰ.{tail as there}
use Prim.Native.Nat.{ℕ, ◌+◌, ◌≤◌}
use native.Mathlib.Decide.{ℕ_discrete}
use native.Mathlib.Omega.{arith}
use lib.ListN.{get_or}
use Rattle.bpa.specs.Plans.{Table, over, HasRule}
use Rattle.bpa.specs.Norms.{sum_of, Good}
use Rattle.bpa.specs.Method.{Rows, expand, precedes, lowering}
use Rattle.bpa.proofs.Basics.Cases.{by_test}
use Rattle.bpa.proofs.Basics.Plans.{over_head, over_tail, over_append, over_left, sum_append, norm_positive, norm_zero}
use Rattle.bpa.proofs.Basics.Order.{precedes_le, precedes_distinct, precedes_total}
use Rattle.bpa.proofs.Basics.EachJob.{Each}
use Rattle.bpa.proofs.Judge.Rows.{expand_append}
use Rattle.bpa.proofs.Judge.Candidates.{lowering_rule}
use Rattle.decompositions.specs.Decompositions.{Alone, Decomposition, Answers, Fits, Decomposes, NewRow, whole, parted, Refines}
use Rattle.decompositions.proofs.Expansions.{decomposed_over, decomposed_norm}
use Rattle.decompositions.proofs.NewRows.{alone_expand}
use Rattle.decompositions.proofs.CloseSteps.{Close, Matches, close_sym, matches_sym}

-- of two fronts of a plan the one of the lesser norm is a beginning of the other
front_begins : (t : Table) (ns : List ℕ) → Good t ns → (f r α β : List ℕ) → over t f ≡ true → over t r ≡ true →
    f ++ α ≡ r ++ β → sum_of ns f ≤ sum_of ns r → (tail : List ℕ) × (r ≡ f ++ tail) × (α ≡ tail ++ β)
unfolding sum_of
front_begins t ns g [] r α β o o' h l = (r, refl, h)
front_begins t ns g (x ∷ f) [] α β o o' h l = absurd (omega (arith, norm_positive t ns g x (over_head t x f o)))
front_begins t ns g (x ∷ f) (y ∷ r) α β o o' h l =
    let i : x ≡ y = head-eq_of_cons-eq h in
    let n : get_or ns x 0 ≡ get_or ns y 0 = ap (λ z. get_or ns z 0) i in
    let (tail, k, s) =
    front_begins t ns g f r α β (over_tail t x f o) (over_tail t y r o') (tail-eq_of_cons-eq h) (omega arith) in
    (tail, ap₂ ◌∷◌ (sym i) k, s)

-- a job that is prime in the new rows is not decomposed
prime_whole : (t : Table) (ns : List ℕ) (d e : Rows) (y : ℕ) (row : List ℕ) → NewRow t ns d e y row → row ≡ y ∷ [] →
    (x : ℕ) (tail : List ℕ) → Decomposes t ns d e y x tail → ⊥
prime_whole t ns d e y row (whole f) s x tail c = f x tail c
prime_whole t ns d e y row (parted z rest b) s x tail c = precedes_distinct ns z y b.earlier (head-eq_of_cons-eq s)

-- plans that are equal with the same behind them are equal
expand_cancel : (d : Rows) (w v tail β : List ℕ) → expand d (w ++ β) ≡ expand d (v ++ (tail ++ β)) → expand d w ≡ expand d (v ++ tail)
expand_cancel d w v tail β h =
    append_cancel_right (expand d w) (expand d (v ++ tail)) (expand d β)
    (sym (expand_append d w β) ∙ h ∙ ap (expand d) (sym (append_assoc v tail β)) ∙ expand_append d (v ++ tail) β)

module _
    (t : Table) (ns : List ℕ) (g : Good t ns) (d e : Rows)
    (dd : Decomposition t ns d) (de : Decomposition t ns e) (r : Refines t ns d e) where
  -- two rows x α and y β, x no later than y: the step by the first lowering rule of y gives the tail
  module _ (x y : ℕ) (α β : List ℕ) (ox : over t (x ∷ α) ≡ true) (oy : over t (y ∷ β) ≡ true)
      (ax : Each (Alone e) (x ∷ α)) (ay : Each (Alone e) (y ∷ β)) (s : sum_of ns (x ∷ α) ≡ sum_of ns (y ∷ β))
      (m : Matches t ns d e (sum_of ns (y ∷ β)) (x ∷ α) (y ∷ β)) where
    abbrev Tails : List ℕ → Type 0
    Tails tail =
        ((front : List ℕ) × (expand e (lowering ns t.rules y) ≡ front ++ tail)) × (α ≡ tail ++ β)

    tails_join : (w v : List ℕ) → expand e (w ++ β) ≡ expand e (v ++ α) → expand e v ++ α ≡ expand e w ++ β
    tails_join w v h =
        ap (λ l. expand e v ++ l) (sym (alone_expand e α (λ i n. ax i (there n))))
        ∙ sym (expand_append e v α) ∙ sym h ∙ expand_append e w β
        ∙ ap (λ l. expand e w ++ l) (alone_expand e β (λ i n. ay i (there n)))

    tails : get_or ns x 0 ≤ get_or ns y 0 → (tail : List ℕ) × Tails tail
    unfolding sum_of
    tails le =
        let w : List ℕ = lowering ns t.rules y in
        let (a, h, n) = lowering_rule t ns g y (over_head t y β oy) in
        let (q, (v, h', f), (c, k)) = m.1 a (w ++ β) (w, h, refl) in
        let ow : over t w ≡ true = g.closed y a w h in
        let ov : over t v ≡ true = g.closed x a v h' in
        let oβ : over t (w ++ β) ≡ true = over_append t w β ow (over_tail t y β oy) in
        let oα : over t (v ++ α) ≡ true = over_append t v α ov (over_tail t x α ox) in
        let nw : sum_of ns (expand d (w ++ β)) ≡ sum_of ns (w ++ β) = decomposed_norm t ns d dd (w ++ β) oβ in
        let nv : sum_of ns (expand e (v ++ α)) ≡ sum_of ns (v ++ α) = decomposed_norm t ns e de (v ++ α) oα in
        let nu : sum_of ns (expand e (w ++ β)) ≡ sum_of ns (w ++ β) = decomposed_norm t ns e de (w ++ β) oβ in
        let i : expand e (w ++ β) ≡ expand e (v ++ α) = k (omega (arith, sum_append ns w β)) ∙ ap (expand e) f in
        let j : sum_of ns (expand e (w ++ β)) ≡ sum_of ns (expand e (v ++ α)) = ap (sum_of ns) i in
        let (tail, z, u) =
        front_begins t ns g (expand e v) (expand e w) α β (decomposed_over t ns e de v ov) (decomposed_over t ns e de w ow)
        (tails_join w v i)
        (omega (arith, sum_append ns w β, sum_append ns v α, decomposed_norm t ns e de v ov, decomposed_norm t ns e de w ow)) in
        (tail, ((expand e v, z), u))

    module _ (tail : List ℕ) (u : α ≡ tail ++ β) where
      tail_norm : get_or ns x 0 + sum_of ns tail ≡ get_or ns y 0
      unfolding sum_of
      tail_norm = let n : sum_of ns α ≡ sum_of ns (tail ++ β) = ap (sum_of ns) u in omega (arith, sum_append ns tail β)

      -- the same head
      tail_none : x ≡ y → x ∷ α ≡ y ∷ β
      tail_none h =
          let n : get_or ns x 0 ≡ get_or ns y 0 = ap (λ z. get_or ns z 0) h in
          let o : over t tail ≡ true = over_left t tail β (subst (λ l. over t l ≡ true) u (over_tail t x α ox)) in
          let z : tail ≡ [] = norm_zero t ns g tail o (omega (arith, tail_norm)) in
          ap₂ ◌∷◌ h (u ∙ ap (λ l. l ++ β) z)

      -- an earlier head
      close_answers : (a : ℕ) (w v : List ℕ) → HasRule t y a w → HasRule t x a v →
          Close ns d e (sum_of ns (y ∷ β)) (w ++ β) (v ++ α) → Answers ns d e y tail w v
      unfolding sum_of
      close_answers a w v h h' (c, k) =
          let oα : over t (v ++ α) ≡ true = over_append t v α (g.closed x a v h') (over_tail t x α ox) in
          let oβ : over t (w ++ β) ≡ true = over_append t w β (g.closed y a w h) (over_tail t y β oy) in
          let nα : sum_of ns (expand d (v ++ α)) ≡ sum_of ns (v ++ α) = decomposed_norm t ns d dd (v ++ α) oα in
          let nβ : sum_of ns (expand d (w ++ β)) ≡ sum_of ns (w ++ β) = decomposed_norm t ns d dd (w ++ β) oβ in
          let n : sum_of ns (expand d (w ++ β)) ≡ sum_of ns (expand d (v ++ α)) = ap (sum_of ns) c in
          let i : sum_of ns (w ++ β) ≡ sum_of ns w + sum_of ns β = sum_append ns w β in
          record {
            norm = omega (arith, sum_append ns v α, tail_norm);
            by_new = λ l.
                expand_cancel e w v tail β (k (omega (arith, g.slow y a w h)) ∙ ap (λ (z : List ℕ). expand e (v ++ z)) u);
            by_old = λ l. expand_cancel d w v tail β (c ∙ ap (λ (z : List ℕ). expand d (v ++ z)) u);
          }

      tail_fits : expand d (x ∷ α) ≡ expand d (y ∷ β) → Fits t ns d e y x tail
      unfolding expand
      tail_fits c = record {
        equal =
            append_cancel_right (d y) (d x ++ expand d tail) (expand d β)
            (sym c ∙ ap (λ l. d x ++ expand d l) u ∙ expand_append d (x ∷ tail) β);
        forth = λ a w h.
            let (q, (v, h', f), k) = m.1 a (w ++ β) (w, h, refl) in
            (v, h', close_answers a w v h h' (subst (λ l. Close ns d e (sum_of ns (y ∷ β)) (w ++ β) l) f k));
        back = λ a v h.
            let (q, (w, h', f), k) = m.0 a (v ++ α) (v, h, refl) in
            let n : ℕ = sum_of ns (y ∷ β) in (
              w,
              h',
              close_answers a w v h' h
                  (close_sym ns d e n (v ++ α) (w ++ β) (subst (λ l. Close ns d e n (v ++ α) l) f k)),
            );
      }

    none_earlier : expand d (x ∷ α) ≡ expand d (y ∷ β) → precedes ns x y ≡ true → ⊥
    none_earlier c p =
        let (tail, ((front, z), u)) = tails (precedes_le ns x y p) in
        prime_whole t ns d e y (e y) (r y (over_head t y β oy)) (ay y (here refl)) x tail (record {
          is_job = over_head t x α ox;
          earlier = p;
          prime = ax x (here refl);
          ends = record { front = front; parts = z; norm = tail_norm tail u };
          fits = tail_fits tail u c;
        })

    same_head : x ≡ y → x ∷ α ≡ y ∷ β
    same_head h =
        let n : get_or ns x 0 ≡ get_or ns y 0 = ap (λ z. get_or ns z 0) h in
        let (tail, (f, u)) = tails (omega arith) in
        tail_none tail u h

  -- EQUAL ROWS
  pub equal_rows : (p q : List ℕ) → over t p ≡ true → over t q ≡ true → Each (Alone e) p → Each (Alone e) q →
      sum_of ns p ≡ sum_of ns q → expand d p ≡ expand d q → Matches t ns d e (sum_of ns q) p q → p ≡ q
  unfolding sum_of
  equal_rows [] [] o o' a b s c m = refl
  equal_rows [] (y ∷ β) o o' a b s c m = absurd (omega (arith, norm_positive t ns g y (over_head t y β o')))
  equal_rows (x ∷ α) [] o o' a b s c m = absurd (omega (arith, norm_positive t ns g x (over_head t x α o)))
  equal_rows (x ∷ α) (y ∷ β) o o' a b s c m = go (ℕ_discrete x y)
    where
      n : ℕ
      n = sum_of ns (y ∷ β)

      go : Dec (x ≡ y) → x ∷ α ≡ y ∷ β
      go (yes h) = same_head x y α β o o' a b s m h
      go (no h) =
          by_test (precedes ns x y) (λ k. absurd (none_earlier x y α β o o' a b s m c k))
          (λ k. absurd (none_earlier y x β α o' o b a (sym s)
          (subst (λ i. Matches t ns d e i (y ∷ β) (x ∷ α)) (sym s) (matches_sym ns d e n t (x ∷ α) (y ∷ β) m))
          (sym c) (precedes_total ns x y h k)))
