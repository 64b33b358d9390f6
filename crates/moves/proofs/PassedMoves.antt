-- A list with each combination once, read from the left: what was passed is taken out of what is ahead. Assumes nothing.
use mathlib.Core.Path.{◌≡◌, refl, sym, ap, ◌∙◌}
use mathlib.Core.Bool.{Bool, true, false, cond, ◌||◌, or_assoc}
use mathlib.Core.List.{List, [], ◌∷◌, ◌++◌}
use Rattle.bpa.specs.Plans.{Move}
use Rattle.bpa.proofs.Basics.Cases.{by_test}
use Rattle.moves.specs.Shown.{same_move, without}

-- a list without any of those that were passed
unfoldable pub apart_from : (passed : List Move) → List Move → List Move
apart_from [] l = l
apart_from (s ∷ ss) l = without s (apart_from ss l)

unfoldable pub was_passed : (passed : List Move) → Move → Bool
was_passed [] m = false
was_passed (s ∷ ss) m = same_move s m || was_passed ss m

-- the first entry is dropped exactly if it was passed
module _ (m : Move) (l : List Move) where
  by_front : (s : Move) (rest : List Move) (b : Bool) →
      without s (cond b rest (m ∷ rest)) ≡ cond (same_move s m || b) (without s rest) (m ∷ without s rest)
  unfolding without
  by_front s rest true = by_test (same_move s m) (λ e. rw e) (λ e. rw e)
  by_front s rest false = by_test (same_move s m) (λ e. rw e) (λ e. rw e)

  pub front : (ss : List Move) → apart_from ss (m ∷ l) ≡ cond (was_passed ss m) (apart_from ss l) (m ∷ apart_from ss l)
  unfolding apart_from was_passed
  front [] = refl
  front (s ∷ ss) = ap (without s) (front ss) ∙ by_front s (apart_from ss l) (was_passed ss m)

-- one more is passed
pub one_more : (ss : List Move) (m : Move) (l : List Move) → apart_from (ss ++ (m ∷ [])) l ≡ apart_from ss (without m l)
unfolding apart_from
one_more [] m l = refl
one_more (s ∷ ss) m l = ap (without s) (one_more ss m l)

pub passed_last : (ss : List Move) (x m : Move) → was_passed (ss ++ (x ∷ [])) m ≡ (was_passed ss m || same_move x m)
unfolding was_passed
passed_last [] x m = by_test (same_move x m) (λ e. rw e) (λ e. rw e)
passed_last (s ∷ ss) x m = ap (λ (b : Bool). same_move s m || b) (passed_last ss x m) ∙ sym (or_assoc (same_move s m) (was_passed ss m) (same_move x m))

pub nothing_apart : (ss : List Move) → apart_from ss [] ≡ []
unfolding apart_from without
nothing_apart [] = refl
nothing_apart (s ∷ ss) = ap (without s) (nothing_apart ss)
