-- An alike list changes nothing: rows are the same, and growth does not look at moves. Assumes nothing.
use mathlib.Core.Path.{◌≡◌, refl, ap, ap₂, ◌∙◌}
use mathlib.Core.Bool.{Bool, ◌&&◌, ◌||◌, cond}
use mathlib.Core.List.{List, [], ◌∷◌, ◌++◌, map}
use Prim.Native.Nat.{ℕ, zero, suc, ◌+◌, ◌*◌}
use lib.Dec.{eqb}
use lib.ListN.{length}
use Rattle.bpa.specs.Plans.{Rule, Table}
use Rattle.alike.specs.Alike.{Pair, replaced_rule, replaced, stands_in}
use Rattle.growth.specs.Reached.{JobSet, has, members, set_from, set_of, comes_in, widened, widened_by, reached, all_but_last, fronts, grows_at, one_of, grows, growth}

-- sets made by tests that agree
same_set : (f g : ℕ → Bool) → ((j : ℕ) → f j ≡ g j) → (n j : ℕ) → set_from f n j ≡ set_from g n j
unfolding set_from
same_set f g e zero j = refl
same_set f g e (suc n) j = ap₂ ◌∷◌ (e j) (same_set f g e n (suc j))

same_one : (f g : ℕ → Bool) → ((j : ℕ) → f j ≡ g j) → (js : List ℕ) → one_of f js ≡ one_of g js
unfolding one_of
same_one f g e [] = refl
same_one f g e (j ∷ js) = ap₂ ◌||◌ (e j) (same_one f g e js)

module _ (ps : List Pair) where
  abbrev by_list : List Rule → List Rule
  by_list rs = map (replaced_rule ps) rs

  same_coming : (s : JobSet) (rs : List Rule) (j : ℕ) → comes_in s (by_list rs) j ≡ comes_in s rs j
  unfolding comes_in replaced_rule
  same_coming s [] j = refl
  same_coming s (r ∷ rs) j = ap (λ (b : Bool). (has s r.job && stands_in r.after j) || b) (same_coming s rs j)

  same_fronts : (rs : List Rule) (j : ℕ) → fronts (by_list rs) j ≡ fronts rs j
  unfolding fronts replaced_rule
  same_fronts [] j = refl
  same_fronts (r ∷ rs) j = ap (λ (l : List ℕ). cond (eqb r.job j) (all_but_last r.after ++ l) l) (same_fronts rs j)

  module _ (t : Table) where
    same_round : (s : JobSet) → widened (replaced ps t) s ≡ widened t s
    unfolding widened replaced
    same_round s =
        same_set (λ j. has s j || comes_in s (by_list t.rules) j) (λ j. has s j || comes_in s t.rules j)
        (λ j. ap (λ (b : Bool). has s j || b) (same_coming s t.rules j)) t.jobs 0

    same_rounds : (n : ℕ) (s : JobSet) → widened_by n (replaced ps t) s ≡ widened_by n t s
    unfolding widened_by
    same_rounds zero s = refl
    same_rounds (suc n) s = same_rounds n (widened (replaced ps t) s) ∙ ap (widened_by n t) (same_round s)

    same_reached : (p : List ℕ) → reached (replaced ps t) p ≡ reached t p
    unfolding reached replaced
    same_reached p = same_rounds t.jobs (set_of (stands_in p) t.jobs)

    same_at : (j : ℕ) → grows_at (replaced ps t) j ≡ grows_at t j
    unfolding grows_at replaced
    same_at j = ap (λ (s : JobSet). has s j) (same_reached (fronts (by_list t.rules) j) ∙ ap (reached t) (same_fronts t.rules j))

    same_grows : (p : List ℕ) → grows (replaced ps t) p ≡ grows t p
    unfolding grows
    same_grows p =
        same_one (grows_at (replaced ps t)) (grows_at t) same_at (members (reached (replaced ps t) p))
        ∙ ap (λ (s : JobSet). one_of (grows_at t) (members s)) (same_reached p)

    pub growth_alike : (p : List ℕ) → growth (replaced ps t) p ≡ growth t p
    unfolding growth
    growth_alike p = ap₂ (λ (s : JobSet) (b : Bool). 2 * length (members s) + cond b 1 0) (same_reached p) (same_grows p)
