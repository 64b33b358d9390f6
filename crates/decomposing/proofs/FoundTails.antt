-- The tail of a job is the end of the lowered row behind the cut that has the job's norm less one before it; if no cut has, there is no tail.
-- Assumes nothing.
use mathlib.Core.Path.{◌≡◌, sym, ap, subst, ◌∙◌}
use mathlib.Core.Bool.{true}
use mathlib.Core.List.{List, ◌++◌}
use mathlib.Core.Logic.{⊎_elim}
use Prim.Native.Nat.{ℕ, ◌+◌, ◌-◌, ◌≤◌, ◌<◌}
use native.Mathlib.Nat.{eq-or-lt_of_le}
use native.Mathlib.Omega.{arith}
use lib.ListN.{length, get_or, take, drop, take-append-drop}
use Rattle.bpa.specs.Plans.{Table, over}
use Rattle.bpa.specs.Norms.{sum_of}
use Rattle.bpa.specs.Method.{Rows}
use Rattle.bpa.proofs.Basics.JobsBelow.{below_at}
use Rattle.bpa.proofs.Basics.Plans.{over_right, sum_append, norm_positive, length_norm}
use Rattle.decompositions.specs.Decompositions.{Tail}
use Rattle.tails.specs.Cuts.{Reached}
use Rattle.tails.proofs.Tails.{reached_tail, missed_tail}
use Rattle.facts.specs.Columns.{norms_in, jobs_in, table_by}
use Rattle.facts.specs.declared.Facts.{Facts}
use Rattle.facts.proofs.TableFacts.{tables}
use Rattle.candidates.specs.Candidates.{Lowered}
use Rattle.candidates.proofs.JobsOfTable.{job_by, over_below}

-- the one tail of a job
pub record FoundTail (facts : Facts) (e : Rows) (y x : ℕ) (tail : List ℕ) : Type 0 where
  pub inside : over (table_by facts) tail ≡ true
  pub short : length tail < 512
  pub ends : Tail (table_by facts) (norms_in facts) e y x tail
  pub only : (other : List ℕ) → Tail (table_by facts) (norms_in facts) e y x other → other ≡ tail

module _ (facts : Facts) (e : Rows) (y x : ℕ) (hy : y < jobs_in facts) (hx : x < jobs_in facts)
    (low : List ℕ) (l : Lowered facts e y low) (goal : ℕ) (goal_is : goal ≡ get_or (norms_in facts) x 0 - 1)
    (at norm : ℕ) (r : Reached (norms_in facts) low goal at norm) where
  abbrev t : Table
  t = table_by facts

  abbrev ns : List ℕ
  ns = norms_in facts

  some : 1 ≤ get_or ns x 0
  some = norm_positive t ns (tables facts).good x (job_by facts x hx)

  -- what stands before a tail has the norm that the cut is to have
  front_norm : (tail : List ℕ) (k : Tail t ns e y x tail) → sum_of ns k.front ≡ goal
  front_norm tail k =
      omega (arith, some, l.norm, k.norm, ap (sum_of ns) (l.is ∙ k.parts), sum_append ns k.front tail)

  pub no_tail : (norm ≡ goal → ⊥) → (tail : List ℕ) → Tail t ns e y x tail → ⊥
  no_tail d tail k =
      missed_tail ns low goal at norm r k.front tail (l.is ∙ k.parts) (front_norm tail k)
      (below norm goal r.enough d)
    where
      below : (a b : ℕ) → a ≤ b → (a ≡ b → ⊥) → a < b
      below a b h f = ⊎_elim (λ (s : a ≡ b). absurd (f s)) (λ (s : a < b). s) (eq-or-lt_of_le h)

  module _ (is : norm ≡ goal) where
    abbrev tail : List ℕ
    tail = drop at low

    parts : low ≡ take at low ++ tail
    parts = sym (take-append-drop at low)

    inside : over t tail ≡ true
    inside = over_right t (take at low) tail (subst (λ (p : List ℕ). over t p ≡ true) parts l.inside)

    tail_norm : get_or ns x 0 + sum_of ns tail ≡ get_or ns y 0
    tail_norm =
        omega (arith, some, l.norm, r.place.norm_is, ap (sum_of ns) parts, sum_append ns (take at low) tail)

    pub tail_found : FoundTail facts e y x tail
    tail_found = record {
      inside = inside;
      short = omega (arith, some, tail_norm, length_norm t ns (tables facts).good tail inside, (tables facts).small y hy);
      ends = record { front = take at low; parts = sym l.is ∙ parts; norm = tail_norm };
      only = λ other k.
          reached_tail ns low goal at norm r k.front other (l.is ∙ k.parts) (front_norm other k)
          (λ i b.
          norm_positive t ns (tables facts).good (get_or low i 0)
          (job_by facts (get_or low i 0) (below_at (jobs_in facts) low i (over_below facts low l.inside) b)))
          is;
    }
