-- A plan's rows one behind the other compared with jobs: what is left of both has their leftmost difference. Assumes nothing.
use mathlib.Core.Path.{◌≡◌, refl, sym, ap, ap₂, subst, ◌∙◌}
use mathlib.Core.List.{List, [], ◌∷◌, ◌++◌, append_assoc, append-nil}
use Prim.Native.Nat.{ℕ, suc, ◌+◌, ◌≤◌, ◌<◌}
use native.Mathlib.Omega.{arith}
use lib.ListN.{length, get_or, take, drop, take-append-drop}
use lib.Seq.{drop-cons, take-length}
use Rattle.std.proofs.lemmas.List.{take_more}
use Rattle.comparing.specs.Comparisons.{Common}
use Rattle.bpa.specs.Method.{Rows, expand, first_difference, equal, ends, differ}
use Rattle.rows.proofs.Heads.{fronts_equal, heads_differ, both_end, left_ends, right_ends}
use Rattle.rows.proofs.Parts.{expand_at, expand_end}

-- the same difference
pub record SameRests (e : Rows) (plan flat : List ℕ) (i : ℕ) (rest : List ℕ) : Type 0 where
  pub same : first_difference (expand e plan) flat ≡ first_difference (expand e (drop i plan)) rest

-- a list cut at a place
cut : (k : ℕ) (l : List ℕ) → k < length l → l ≡ take k l ++ (get_or l k 0 ∷ drop (suc k) l)
cut k l h = sym (take-append-drop k l) ∙ ap (λ (r : List ℕ). take k l ++ r) (drop-cons l k 0 h)

-- one place more of two lists is equal
pub same_more : (k : ℕ) (row rest : List ℕ) → take k row ≡ take k rest → k < length row → k < length rest → get_or row k 0 ≡ get_or rest k 0 →
    take (k + 1) row ≡ take (k + 1) rest
same_more k row rest s h g d =
    take_more row k 0 h ∙ ap₂ (λ (l : List ℕ) (x : ℕ). l ++ x ∷ []) s d ∙ sym (take_more rest k 0 g)

-- places that are equal up to a number, at another name of it
pub passed : (row rest : List ℕ) (k n : ℕ) → Common row rest k → k ≡ n → take n row ≡ take n rest
passed row rest k n c e = subst (λ (m : ℕ). take m row ≡ take m rest) e c.equal

none : (l : List ℕ) → length l ≡ 0 → l ≡ []
none [] z = refl
none (x ∷ l) z = absurd (omega arith)

module _ (e : Rows) (plan flat : List ℕ) where
  pub rests_first : SameRests e plan flat 0 flat
  rests_first = record { same = refl }

  -- the row of the job at a place of the plan, of which the first k places are equal
  module _ (i : ℕ) (rest : List ℕ) (w : SameRests e plan flat i rest) (h : i < length plan) (row : List ℕ) (is : row ≡ e (get_or plan i 0))
      (k : ℕ) (s : take k row ≡ take k rest) where
    abbrev more : List ℕ
    more = expand e (drop (i + 1) plan)

    split : expand e (drop i plan) ≡ row ++ more
    split = expand_at e plan i h ∙ ap (λ (r : List ℕ). r ++ more) (sym is)

    pub rests_more : k ≡ length row → SameRests e plan flat (i + 1) (drop k rest)
    rests_more l =
        let whole : row ≡ take k rest = sym (take-length row) ∙ ap (λ (n : ℕ). take n row) (sym l) ∙ s in
        record {
          same = w.same
              ∙ ap₂ first_difference (split ∙ ap (λ (r : List ℕ). r ++ more) whole) (sym (take-append-drop k rest))
              ∙ fronts_equal (take k rest) more (drop k rest);
        }

    pub rests_differ : k < length row → k < length rest → (get_or row k 0 ≡ get_or rest k 0 → ⊥) →
        first_difference (expand e plan) flat ≡ differ (get_or row k 0) (get_or rest k 0)
    rests_differ l g d =
        let x = get_or row k 0 in
        let y = get_or rest k 0 in
        let front = take k rest in
        w.same
        ∙ ap₂ first_difference
        (split
        ∙ ap (λ (r : List ℕ). r ++ more) (cut k row l ∙ ap (λ (r : List ℕ). r ++ (x ∷ drop (suc k) row)) s)
        ∙ append_assoc front (x ∷ drop (suc k) row) more)
        (cut k rest g)
        ∙ fronts_equal front (x ∷ (drop (suc k) row ++ more)) (y ∷ drop (suc k) rest)
        ∙ heads_differ x y (drop (suc k) row ++ more) (drop (suc k) rest) d

    pub rests_over : k < length row → k ≡ length rest → first_difference (expand e plan) flat ≡ ends
    rests_over l g =
        let x = get_or row k 0 in
        let whole : take k row ≡ rest = s ∙ ap (λ (n : ℕ). take n rest) g ∙ take-length rest in
        w.same
        ∙ ap₂ first_difference
        (split
        ∙ ap (λ (r : List ℕ). r ++ more) (cut k row l ∙ ap (λ (r : List ℕ). r ++ (x ∷ drop (suc k) row)) whole)
        ∙ append_assoc rest (x ∷ drop (suc k) row) more)
        (sym (append-nil rest))
        ∙ fronts_equal rest (x ∷ (drop (suc k) row ++ more)) []
        ∙ right_ends x (drop (suc k) row ++ more)

  -- all jobs are passed
  module _ (i : ℕ) (rest : List ℕ) (w : SameRests e plan flat i rest) (h : length plan ≤ i) where
    pub rests_equal : length rest ≡ 0 → first_difference (expand e plan) flat ≡ equal
    rests_equal z = w.same ∙ rw (expand_end e plan i h, none rest z) both_end

    pub rests_shorter : 0 < length rest → first_difference (expand e plan) flat ≡ ends
    rests_shorter z = w.same ∙ rw (expand_end e plan i h, drop-cons rest 0 0 z) (left_ends (get_or rest 0 0) (drop 1 rest))
