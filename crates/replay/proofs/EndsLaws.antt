-- Where plans in a row end in a log, and how far they get: by those of the first and then of the second; of one job by its rules.
-- Assumes nothing.
use mathlib.Core.Path.{◌≡◌, refl, sym, ap, ◌∙◌, subst}
use mathlib.Core.List.{List, [], ◌∷◌, ◌++◌, append_assoc, append-nil, nil≢cons, head-eq_of_cons-eq, tail-eq_of_cons-eq}
use mathlib.Core.Logic.{◌⊎◌, inl, inr, ⊎_map}
use Prim.Native.Nat.{ℕ, suc, ◌+◌, ◌-◌, ◌≤◌, ◌<◌}
use native.Mathlib.Omega.{arith}
use lib.ListN.{length, get_or, drop, length-append, length-drop}
use lib.Seq.{drop_at, drop-drop, drop-cons}
use Rattle.bpa.specs.Plans.{Table, HasRule, Runs, empty_run, longer_run}
use Rattle.first_run.proofs.RunParts.{first_move}
use Rattle.replay.specs.Ends.{last, Ends, Gets}
use Rattle.replay.proofs.RunSplits.{no_move, run_waiting, run_both, Within, Behind, split, split_complete}

-- THE LAST MOVES of a log
pub last_rest : (run rest l : List ℕ) → l ≡ run ++ rest → last (length rest) l ≡ rest
unfolding last
last_rest run rest l e =
    let n : length run ≡ length (run ++ rest) - length rest = omega (arith, length-append run rest) in
    rw e (drop_at run rest (length (run ++ rest) - length rest) n)

pub length_last : (d : ℕ) (l : List ℕ) → d ≤ length l → length (last d l) ≡ d
unfolding last
length_last d l h = length-drop (length l - d) l ∙ omega arith

pub last_all : (l : List ℕ) → last (length l) l ≡ l
last_all l = last_rest [] l l refl

pub last_last : (s d : ℕ) (l : List ℕ) → s ≤ d → d ≤ length l → last s (last d l) ≡ last s l
unfolding last
last_last s d l h k =
    let e : (length l - d) + (length l - (length l - d) - s) ≡ length l - s = omega arith in
    ap (λ (n : ℕ). drop (n - s) (drop (length l - d) l)) (length-drop (length l - d) l)
    ∙ drop-drop (length l - (length l - d) - s) (length l - d) l ∙ ap (λ (n : ℕ). drop n l) e

pub last_more : (d : ℕ) (l : List ℕ) → d < length l → last (suc d) l ≡ get_or l (length l - suc d) 0 ∷ last d l
unfolding last
last_more d l h =
    let e : suc (length l - suc d) ≡ length l - d = omega arith in
    drop-cons l (length l - suc d) 0 (omega arith) ∙ ap (λ (n : ℕ). get_or l (length l - suc d) 0 ∷ drop n l) e

module _ (t : Table) where
  -- no move made
  pub gets_all : (p l : List ℕ) → Gets t p l (length l)
  gets_all p l = ([], l, refl, refl, p, empty_run p)

  pub ends_gets : (p l : List ℕ) (e : ℕ) → Ends t p l e → Gets t p l e
  ends_gets p l e (run, rest, f, k, r) = (run, rest, f, k, [], r)

  pub gets_few : (p l : List ℕ) (e : ℕ) → Gets t p l e → e ≤ length l
  gets_few p l e (run, rest, f, k, end, r) = omega (arith, ap length f, length-append run rest, k)

  -- THE EMPTY PLAN is through at once, and gets no further
  pub no_run : (run end : List ℕ) → Runs t [] run end → run ≡ []
  no_run [] end r = refl
  no_run (a ∷ run) end r = let (q, s, k) = first_move t r in absurd s

  pub none_ends : (l : List ℕ) → Ends t [] l (length l)
  none_ends l = ([], l, refl, refl, empty_run [])

  pub none_gets : (l : List ℕ) (e : ℕ) → Gets t [] l e → e ≡ length l
  none_gets l e (run, rest, f, k, end, r) = sym k ∙ ap length (sym (f ∙ ap (λ (x : List ℕ). x ++ rest) (no_run run end r)))

  -- TWO PLANS IN A ROW
  module _ (p q l : List ℕ) where
    pub ends_join : (s e : ℕ) → Ends t p l s → Ends t q (last s l) e → Ends t (p ++ q) l e
    ends_join s e (run, rest, f, k, r) (more, left, g, m, h) =
        let same : last s l ≡ rest = ap (λ (n : ℕ). last n l) (sym k) ∙ last_rest run rest l f in
        (run ++ more, left, f ∙ ap (λ (x : List ℕ). run ++ x) (sym same ∙ g) ∙ sym (append_assoc run more left), m, run_both t r h)

    pub gets_join : (s e : ℕ) → Ends t p l s → Gets t q (last s l) e → Gets t (p ++ q) l e
    gets_join s e (run, rest, f, k, r) (more, left, g, m, end, h) =
        let same : last s l ≡ rest = ap (λ (n : ℕ). last n l) (sym k) ∙ last_rest run rest l f in
        (run ++ more, left, f ∙ ap (λ (x : List ℕ). run ++ x) (sym same ∙ g) ∙ sym (append_assoc run more left), m, end, run_both t r h)

    pub gets_front : (e : ℕ) → Gets t p l e → Gets t (p ++ q) l e
    gets_front e (run, rest, f, k, end, r) = (run, rest, f, k, end ++ q, run_waiting t q r)

    -- what is left behind the first
    behind : (front more rest run : List ℕ) → l ≡ run ++ rest → run ≡ front ++ more → last (length (more ++ rest)) l ≡ more ++ rest
    behind front more rest run f g =
        last_rest front (more ++ rest) l (f ∙ ap (λ (x : List ℕ). x ++ rest) g ∙ append_assoc front more rest)

    first : (front more rest run : List ℕ) → l ≡ run ++ rest → run ≡ front ++ more → Runs t p front [] → Ends t p l (length (more ++ rest))
    first front more rest run f g r =
        (front, more ++ rest, f ∙ ap (λ (x : List ℕ). x ++ rest) g ∙ append_assoc front more rest, refl, r)

    pub ends_split : (e : ℕ) → Ends t (p ++ q) l e → (s : ℕ) × Ends t p l s × Ends t q (last s l) e
    ends_split e (run, rest, f, k, r) =
        let (front, more, g, h, m) = split_complete t run p q r in
        (length (more ++ rest), first front more rest run f g h, (more, rest, behind front more rest run f g, k, m))

    pub gets_split : (e : ℕ) → Gets t (p ++ q) l e → Gets t p l e ⊎ ((s : ℕ) × Ends t p l s × Gets t q (last s l) e)
    gets_split e (run, rest, f, k, end, r) =
        ⊎_map
        (λ (w : Within t p q run end). let (u, h, m) = w in (run, rest, f, k, u, h))
        (λ (w : Behind t p q run end).
        let (front, more, g, h, m) = w in
        (length (more ++ rest), first front more rest run f g h, (more, rest, behind front more rest run f g, k, end, m)))
        (split t run p q r)

  -- a plan with a job makes a move before it is through
  pub ends_fewer : (j : ℕ) (js l : List ℕ) (e : ℕ) → Ends t (j ∷ js) l e → e < length l
  ends_fewer j js l e ([], rest, f, k, r) = absurd (nil≢cons (sym (no_move t r)))
  ends_fewer j js l e (a ∷ run, rest, f, k, r) = omega (arith, ap length f, length-append run rest, k)

  -- ONE JOB, by its rules
  module _ (j : ℕ) where
    abbrev job : List ℕ
    job = j ∷ []

    pub no_log_ends : (e : ℕ) → Ends t job [] e → ⊥
    no_log_ends e h = omega (arith, ends_fewer j [] [] e h)

    module _ (a : ℕ) (l : List ℕ) where
      pub ends_rule : (w : List ℕ) (e : ℕ) → HasRule t j a w → Ends t w l e → Ends t job (a ∷ l) e
      ends_rule w e h (run, rest, f, k, r) =
          (a ∷ run, rest, ap (λ (x : List ℕ). a ∷ x) f, k, longer_run job w a run [] (w, h, sym (append-nil w)) r)

      pub gets_rule : (w : List ℕ) (e : ℕ) → HasRule t j a w → Gets t w l e → Gets t job (a ∷ l) e
      gets_rule w e h (run, rest, f, k, end, r) =
          (a ∷ run, rest, ap (λ (x : List ℕ). a ∷ x) f, k, end, longer_run job w a run end (w, h, sym (append-nil w)) r)

      -- the first move is that of a rule
      by_rule : (b : ℕ) (run rest end : List ℕ) → a ∷ l ≡ b ∷ (run ++ rest) → Runs t job (b ∷ run) end →
          (w : List ℕ) × HasRule t j a w × (l ≡ run ++ rest) × Runs t w run end
      by_rule b run rest end f r =
          let (q, (w, h, e), k) = first_move t r in (
            w,
            subst (λ (x : ℕ). HasRule t j x w) (sym (head-eq_of_cons-eq f)) h,
            tail-eq_of_cons-eq f,
            subst (λ (x : List ℕ). Runs t x run end) (e ∙ append-nil w) k,
          )

      pub rule_ends : (e : ℕ) → Ends t job (a ∷ l) e → (w : List ℕ) × HasRule t j a w × Ends t w l e
      rule_ends e ([], rest, f, k, r) = absurd (nil≢cons (sym (no_move t r)))
      rule_ends e (b ∷ run, rest, f, k, r) =
          let (w, h, g, m) = by_rule b run rest [] f r in (w, h, (run, rest, g, k, m))

      pub rule_gets : (e : ℕ) → Gets t job (a ∷ l) e → (e ≡ suc (length l)) ⊎ ((w : List ℕ) × HasRule t j a w × Gets t w l e)
      rule_gets e ([], rest, f, k, end, r) = inl (sym k ∙ ap length (sym f))
      rule_gets e (b ∷ run, rest, f, k, end, r) =
          let (w, h, g, m) = by_rule b run rest end f r in inr (w, h, (run, rest, g, k, end, m))
