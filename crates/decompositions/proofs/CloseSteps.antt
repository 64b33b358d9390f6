-- Plans whose steps answer each other, the remainders close: equal by the old rows, and by the new ones if the norm falls. It is an
-- equivalence, and each plan so matches its expansion by the new rows. Assumes nothing.
use mathlib.Core.Path.{◌≡◌, refl, sym, ap, subst, ◌∙◌}
use mathlib.Core.Bool.{true}
use mathlib.Core.List.{List, [], ◌∷◌, ◌++◌, append_assoc}
use Prim.Native.Nat.{ℕ, suc, ◌<◌}
use native.Mathlib.Omega.{arith}
use lib.Dec.{ltb}
use lib.ListN.{get_or}
use borrow.Author.Tests.{ltb-true, ltb-false}
use Rattle.bpa.specs.Plans.{Table, over}
use Rattle.bpa.specs.Norms.{sum_of, Good}
use Rattle.bpa.specs.Bisimilar.{Simulates}
use Rattle.bpa.specs.Method.{Rows, expand}
use Rattle.bpa.proofs.Basics.Cases.{by_test}
use Rattle.bpa.proofs.Basics.Plans.{over_head, over_tail, over_append, sum_append}
use Rattle.bpa.proofs.Judge.Rows.{expand_append}
use Rattle.decompositions.specs.Decompositions.{Decomposition, Answers, NewRow, whole, parted, Refines}
use Rattle.decompositions.proofs.Expansions.{decomposed_norm, decomposed_twice, refined_equal, new_old}

-- what remains after a step of a plan of norm n
abbrev pub Close : (norms : List ℕ) → (d e : Rows) → (n : ℕ) → (p q : List ℕ) → Type 0
Close ns d e n p q = (expand d p ≡ expand d q) × (suc (sum_of ns (expand d p)) ≡ n → expand e p ≡ expand e q)

abbrev pub Matches : Table → (norms : List ℕ) → (d e : Rows) → (n : ℕ) → (p q : List ℕ) → Type 0
Matches t ns d e n p q = Simulates t (Close ns d e n) p q × Simulates t (Close ns d e n) q p

module _ (ns : List ℕ) (d e : Rows) (n : ℕ) where
  pub close_sym : (p q : List ℕ) → Close ns d e n p q → Close ns d e n q p
  close_sym p q (h, k) = (sym h, λ s. sym (k (subst (λ l. suc (sum_of ns l) ≡ n) (sym h) s)))

  close_trans : (p q r : List ℕ) → Close ns d e n p q → Close ns d e n q r → Close ns d e n p r
  close_trans p q r (h, k) (h', k') = (h ∙ h', λ s. k s ∙ k' (subst (λ l. suc (sum_of ns l) ≡ n) h s))

  -- plans that are equal by both rows
  close_equal : (p q : List ℕ) → expand d p ≡ expand d q → expand e p ≡ expand e q → Close ns d e n p q
  close_equal p q h k = (h, λ s. k)

  module _ (t : Table) where
    pub matches_sym : (p q : List ℕ) → Matches t ns d e n p q → Matches t ns d e n q p
    matches_sym p q (h, k) = (k, h)

    close_simulates : (p q r : List ℕ) → Simulates t (Close ns d e n) p q → Simulates t (Close ns d e n) q r →
        Simulates t (Close ns d e n) p r
    close_simulates p q r h k a p' s =
        let (q', s₁, h₁) = h a p' s in
        let (r', s₂, h₂) = k a q' s₁ in
        (r', s₂, close_trans p' q' r' h₁ h₂)

    pub matches_trans : (p q r : List ℕ) → Matches t ns d e n p q → Matches t ns d e n q r → Matches t ns d e n p r
    matches_trans p q r (h, h') (k, k') = (close_simulates p q r h k, close_simulates r q p k' h')

-- what is equal stays equal with the same behind it
expand_front : (d : Rows) (p q r : List ℕ) → expand d p ≡ expand d q → expand d (p ++ r) ≡ expand d (q ++ r)
expand_front d p q r h = expand_append d p r ∙ ap (λ l. l ++ expand d r) h ∙ sym (expand_append d q r)

expand_behind : (d : Rows) (p q r : List ℕ) → expand d q ≡ expand d r → expand d (p ++ q) ≡ expand d (p ++ r)
expand_behind d p q r h = expand_append d p q ∙ ap (λ l. expand d p ++ l) h ∙ sym (expand_append d p r)

module _
    (t : Table) (ns : List ℕ) (g : Good t ns) (d e : Rows)
    (dd : Decomposition t ns d) (de : Decomposition t ns e) (r : Refines t ns d e) where
  close_behind : (n : ℕ) (v ps : List ℕ) → over t ps ≡ true → Close ns d e n (v ++ ps) (v ++ expand e ps)
  close_behind n v ps o =
      close_equal ns d e n (v ++ ps) (v ++ expand e ps) (expand_behind d v ps (expand e ps) (sym (refined_equal t ns d e r ps o)))
      (expand_behind e v ps (expand e ps) (sym (decomposed_twice t ns e de ps o)))

  -- the rows after two rules that answer each other
  module _ (y : ℕ) (tail w v : List ℕ) (c : Answers ns d e y tail w v) (ow : over t w ≡ true) (ov : over t (v ++ tail) ≡ true) where
    answers_equal : expand d w ≡ expand d (v ++ tail)
    answers_equal =
        by_test (ltb (sum_of ns w) (get_or ns y 0))
        (λ k. new_old t ns d e r w (v ++ tail) ow ov (c.by_new (ltb-true (sum_of ns w) (get_or ns y 0) k)))
        (λ k. c.by_old (ltb-false (sum_of ns w) (get_or ns y 0) k))

    answers_front : (ps : List ℕ) → over t ps ≡ true → Close ns d e (sum_of ns (y ∷ ps)) (w ++ ps) ((v ++ tail) ++ ps)
    unfolding sum_of
    answers_front ps o = (
      expand_front d w (v ++ tail) ps answers_equal,
      λ s.
          expand_front e w (v ++ tail) ps
          (c.by_new (omega (arith, decomposed_norm t ns d dd (w ++ ps) (over_append t w ps ow o), sum_append ns w ps))),
    )

    answers_close : (ps : List ℕ) → over t ps ≡ true →
        Close ns d e (sum_of ns (y ∷ ps)) (w ++ ps) (v ++ (tail ++ expand e ps))
    answers_close ps o =
        let n : ℕ = sum_of ns (y ∷ ps) in
        subst (λ l. Close ns d e n (w ++ ps) l) (append_assoc v tail (expand e ps))
        (close_trans ns d e n (w ++ ps) ((v ++ tail) ++ ps) ((v ++ tail) ++ expand e ps) (answers_front ps o)
        (close_behind n (v ++ tail) ps o))

  -- a plan matches the plan in which the head is replaced by its new row, and the jobs behind by theirs
  head_matches : (y : ℕ) (ps row : List ℕ) → over t ps ≡ true → over t row ≡ true → NewRow t ns d e y row →
      Matches t ns d e (sum_of ns (y ∷ ps)) (y ∷ ps) (row ++ expand e ps)
  head_matches y ps row o k (whole f) =
      let n : ℕ = sum_of ns (y ∷ ps) in (
        λ a p' (w, h, s). (
          w ++ expand e ps,
          (w, h, refl),
          subst (λ l. Close ns d e n l (w ++ expand e ps)) (sym s) (close_behind n w ps o),
        ),
        λ a q' (w, h, s). (
          w ++ ps,
          (w, h, refl),
          subst (λ l. Close ns d e n l (w ++ ps)) (sym s)
              (close_sym ns d e n (w ++ ps) (w ++ expand e ps) (close_behind n w ps o)),
        ),
      )
  head_matches y ps row o k (parted x tail c) =
      let n : ℕ = sum_of ns (y ∷ ps) in (
        λ a p' (w, h, s).
            let (v, h', b) = c.fits.forth a w h in
            let q' = v ++ (tail ++ expand e ps) in (
              q',
              (v, h', refl),
              subst (λ l. Close ns d e n l q') (sym s)
                  (answers_close y tail w v b (g.closed y a w h)
                  (over_append t v tail (g.closed x a v h') (over_tail t x tail k)) ps o),
            ),
        λ a q' (v, h, s).
            let (w, h', b) = c.fits.back a v h in
            let q = v ++ (tail ++ expand e ps) in (
              w ++ ps,
              (w, h', refl),
              subst (λ l. Close ns d e n l (w ++ ps)) (sym s)
                  (close_sym ns d e n (w ++ ps) q
                  (answers_close y tail w v b (g.closed y a w h')
                  (over_append t v tail (g.closed x a v h) (over_tail t x tail k)) ps o)),
            ),
      )

  -- A PLAN MATCHES ITS EXPANSION by the new rows
  pub matches_expansion : (p : List ℕ) → over t p ≡ true → Matches t ns d e (sum_of ns p) p (expand e p)
  unfolding expand
  matches_expansion [] o = (λ a p' s. absurd s, λ a p' s. absurd s)
  matches_expansion (y ∷ ps) o =
      let h : y < t.jobs = over_head t y ps o in
      head_matches y ps (e y) (over_tail t y ps o) (de y h).inside (r y h)
