-- Two plans that begin with the same jobs, compared by what stands behind these. Assumes nothing.
use mathlib.Core.Path.{◌≡◌, sym, ap, ◌∙◌}
use mathlib.Core.List.{List, ◌++◌}
use Prim.Native.Nat.{ℕ, ◌+◌, ◌-◌, ◌≤◌}
use native.Mathlib.Omega.{arith}
use lib.ListN.{length, take, drop, length-append, length-drop, take-append-drop}
use lib.Seq.{get_or-drop}
use Rattle.std.proofs.lemmas.List.{append_cancel_left}
use Rattle.bpa.specs.Method.{Rows, expand}
use Rattle.bpa.proofs.Judge.Rows.{expand_append}
use Rattle.rows.specs.Region.{Readable}

-- a plan from a place on, as it is lent
abbrev pub rest_lent : (p : List ℕ) (n : ℕ) → List ℕ
rest_lent p n = take (length p - n) (drop n p)

pub rest_readable : (lens region p : List ℕ) (n : ℕ) → Readable lens region p → Readable lens region (drop n p)
rest_readable lens region p n r = record {
  size = r.size;
  job = λ i h. rw (get_or-drop n p i 0) (r.job (n + i) (omega (arith, length-drop n p)));
  short = λ i h. rw (get_or-drop n p i 0) (r.short (n + i) (omega (arith, length-drop n p)));
}

split : (e : Rows) (p : List ℕ) (n : ℕ) → expand e p ≡ expand e (take n p) ++ expand e (drop n p)
split e p n = ap (expand e) (sym (take-append-drop n p)) ∙ expand_append e (take n p) (drop n p)

pub rest_short : (e : Rows) (p : List ℕ) (n : ℕ) → length (expand e (drop n p)) ≤ length (expand e p)
rest_short e p n = omega (arith, ap length (split e p n), length-append (expand e (take n p)) (expand e (drop n p)))

pub front_passed : (e : Rows) (p q : List ℕ) (n : ℕ) → take n p ≡ take n q → expand e (drop n p) ≡ expand e (drop n q) → expand e p ≡ expand e q
front_passed e p q n h g = split e p n ∙ ap (λ (l : List ℕ). expand e l ++ expand e (drop n p)) h
    ∙ ap (λ (l : List ℕ). expand e (take n q) ++ l) g ∙ sym (split e q n)

pub rest_equal : (e : Rows) (p q : List ℕ) (n : ℕ) → take n p ≡ take n q → expand e p ≡ expand e q → expand e (drop n p) ≡ expand e (drop n q)
rest_equal e p q n h g =
    append_cancel_left (expand e (take n q)) (expand e (drop n p)) (expand e (drop n q))
    (ap (λ (l : List ℕ). expand e l ++ expand e (drop n p)) (sym h) ∙ sym (split e p n) ∙ g ∙ split e q n)
