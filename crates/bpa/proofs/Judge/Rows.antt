-- Expansions and replacements: how they meet joined plans, stay over the table, keep the norm and keep matching. Assumes nothing.
use mathlib.Core.Path.{◌≡◌, refl, sym, ◌∙◌}
use mathlib.Core.Bool.{true, cond}
use mathlib.Core.List.{List, [], ◌∷◌, ◌++◌, append_assoc}
use Prim.Native.Nat.{ℕ, ◌+◌, ◌<◌}
use native.Mathlib.Omega.{arith}
use lib.Dec.{eqb}
use lib.ListN.{get_or}
use borrow.Author.Tests.{eqb-true}
use Rattle.bpa.specs.Plans.{Table, over}
use Rattle.bpa.specs.Norms.{sum_of, Good}
use Rattle.bpa.specs.Bisimilar.{Approx}
use Rattle.bpa.specs.Method.{Rows, itself, expand, replace, grow}
use Rattle.bpa.proofs.Basics.Plans.{over_head, over_tail, over_cons, over_one, over_append, sum_append, sum_one}
use Rattle.bpa.proofs.Rounds.Approximants.{approx_refl, approx_trans, approx_append, approx_cons}
use Rattle.bpa.proofs.Basics.Cases.{by_test}

pub expand_append : (e : Rows) (p q : List ℕ) → expand e (p ++ q) ≡ expand e p ++ expand e q
unfolding expand
expand_append e [] q = refl
expand_append e (j ∷ p) q = rw (expand_append e p q) (sym (append_assoc (e j) (expand e p) (expand e q)))

-- expansions depend on the rows of the plan's own jobs only
pub expand_in_range : (t : Table) (e e' : Rows) → ((j : ℕ) → j < t.jobs → e j ≡ e' j) → (p : List ℕ) →
    over t p ≡ true → expand e p ≡ expand e' p
unfolding expand
expand_in_range t e e' s [] o = refl
expand_in_range t e e' s (j ∷ p) o =
    rw (s j (over_head t j p o), expand_in_range t e e' s p (over_tail t j p o))

-- a replacement is the expansion in which every other job stands for itself
unfoldable pub instead : (job : ℕ) → (by : List ℕ) → Rows
instead h w j = cond (eqb j h) w (j ∷ [])

pub replace_expand : (h : ℕ) (w r : List ℕ) → replace h w r ≡ expand (instead h w) r
unfolding replace expand instead
replace_expand h w [] = refl
replace_expand h w (j ∷ r) = by_test (eqb j h) (λ e. rw (e, replace_expand h w r)) (λ e. rw (e, replace_expand h w r))

-- what rows keep: the table, the norm, matching for n rounds
abbrev pub RowsOver : Table → Rows → Type 0
RowsOver t e = (j : ℕ) → j < t.jobs → over t (e j) ≡ true

abbrev pub RowsNorm : Table → (norms : List ℕ) → Rows → Type 0
RowsNorm t ns e = (j : ℕ) → j < t.jobs → sum_of ns (e j) ≡ get_or ns j 0

abbrev pub RowsMatch : Table → (rounds : ℕ) → Rows → Type 0
RowsMatch t n e = (j : ℕ) → j < t.jobs → Approx t n (j ∷ []) (e j)

-- jobs that stand for themselves
pub itself_over : (t : Table) → RowsOver t itself
unfolding itself
itself_over t j h = over_one t j h

pub itself_norm : (t : Table) (ns : List ℕ) → RowsNorm t ns itself
unfolding itself
itself_norm t ns j h = sum_one ns j

pub itself_match : (t : Table) (n : ℕ) → RowsMatch t n itself
unfolding itself
itself_match t n j h = approx_refl t n (j ∷ [])

module _ (t : Table) (e : Rows) (r : RowsOver t e) where
  pub expand_over : (p : List ℕ) → over t p ≡ true → over t (expand e p) ≡ true
  unfolding expand
  expand_over [] o = o
  expand_over (j ∷ p) o =
      over_append t (e j) (expand e p) (r j (over_head t j p o)) (expand_over p (over_tail t j p o))

  pub expand_match : (ns : List ℕ) → Good t ns → (n : ℕ) → RowsMatch t n e → (p : List ℕ) →
      over t p ≡ true → Approx t n p (expand e p)
  unfolding expand
  expand_match ns g n m [] o = approx_refl t n []
  expand_match ns g n m (j ∷ p) o =
      approx_append t ns g n (j ∷ []) (e j) p (expand e p) (over_one t j (over_head t j p o)) (r j (over_head t j p o))
      (m j (over_head t j p o)) (expand_match ns g n m p (over_tail t j p o))

pub expand_norm : (t : Table) (ns : List ℕ) (e : Rows) → RowsNorm t ns e → (p : List ℕ) → over t p ≡ true →
    sum_of ns (expand e p) ≡ sum_of ns p
unfolding expand sum_of
expand_norm t ns e k [] o = refl
expand_norm t ns e k (j ∷ p) o =
    omega (arith, sum_append ns (e j) (expand e p), k j (over_head t j p o), expand_norm t ns e k p (over_tail t j p o))

-- a job replaced by a row that is as good: over the table, of its norm, matching it
module _ (t : Table) (h : ℕ) (w : List ℕ) where
  instead_over : over t w ≡ true → RowsOver t (instead h w)
  unfolding instead
  instead_over o j l = by_test (eqb j h) (λ e. rw e o) (λ e. rw e (over_one t j l))

  instead_norm : (ns : List ℕ) → sum_of ns w ≡ get_or ns h 0 → RowsNorm t ns (instead h w)
  unfolding instead
  instead_norm ns s j l =
      by_test (eqb j h) (λ e. rw (e, eqb-true j h e) s) (λ e. rw e (sum_one ns j))

  instead_match : (n : ℕ) → Approx t n (h ∷ []) w → RowsMatch t n (instead h w)
  unfolding instead
  instead_match n m j l =
      by_test (eqb j h) (λ e. rw (e, eqb-true j h e) m) (λ e. rw e (approx_refl t n (j ∷ [])))

-- the rows after a job was replaced everywhere by its pair with a lesser one
unfoldable pub pair_row : (cand : ℕ → ℕ → List ℕ) → Rows → (y x : ℕ) → List ℕ
pair_row c e y x = x ∷ expand e (c y x)

pub grow_expand : (c : ℕ → ℕ → List ℕ) (e : Rows) (y x j : ℕ) → grow c e y x j ≡ expand (instead y (pair_row c e y x)) (e j)
unfolding grow pair_row
grow_expand c e y x j = replace_expand y (x ∷ expand e (c y x)) (e j)

module _ (t : Table) (c : ℕ → ℕ → List ℕ) (e : Rows) (r : RowsOver t e) (y x : ℕ) (o : over t (c y x) ≡ true) where
  row_over : x < t.jobs → over t (pair_row c e y x) ≡ true
  unfolding pair_row
  row_over l = over_cons t x (expand e (c y x)) l (expand_over t e r (c y x) o)

  pub grow_over : x < t.jobs → RowsOver t (grow c e y x)
  grow_over l j k =
      let w = pair_row c e y x in
      rw (grow_expand c e y x j)
      (expand_over t (instead y w) (instead_over t y w (row_over l)) (e j) (r j k))

  row_norm : (ns : List ℕ) → RowsNorm t ns e → get_or ns x 0 + sum_of ns (c y x) ≡ get_or ns y 0 →
      sum_of ns (pair_row c e y x) ≡ get_or ns y 0
  unfolding pair_row sum_of
  row_norm ns k s = omega (arith, expand_norm t ns e k (c y x) o)

  pub grow_norm : (ns : List ℕ) → RowsNorm t ns e → get_or ns x 0 + sum_of ns (c y x) ≡ get_or ns y 0 →
      RowsNorm t ns (grow c e y x)
  grow_norm ns k s j l =
      let w = pair_row c e y x in
      rw (grow_expand c e y x j)
      (expand_norm t ns (instead y w) (instead_norm t y w ns (row_norm ns k s)) (e j) (r j l) ∙ k j l)

  pub grow_match : (ns : List ℕ) → Good t ns → (n : ℕ) → x < t.jobs → RowsMatch t n e →
      Approx t n (y ∷ []) (x ∷ c y x) → RowsMatch t n (grow c e y x)
  unfolding pair_row
  grow_match ns g n l m a j k =
      let w = pair_row c e y x in
      let b : Approx t n (y ∷ []) w =
      approx_trans t n (y ∷ []) (x ∷ c y x) w a
      (approx_cons t ns g n x (c y x) (expand e (c y x)) l (expand_match t e r ns g n m (c y x) o)) in
      rw (grow_expand c e y x j)
      (approx_trans t n (j ∷ []) (e j) (expand (instead y w) (e j)) (m j k)
      (expand_match t (instead y w) (instead_over t y w (row_over l)) ns g n (instead_match t y w n b) (e j) (r j k)))
