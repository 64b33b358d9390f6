-- Cells that are put and cells that stay: of a level that is cleared, and of the levels below one that is filled. Assumes nothing.
use mathlib.Core.Path.{◌≡◌, refl, sym, ap, ◌∙◌, subst}
use mathlib.Core.List.{List}
use Prim.Native.Nat.{ℕ, suc, ◌+◌, ◌*◌, ◌≤◌, ◌<◌}
use native.Mathlib.Omega.{arith}
use lib.ListN.{length}
use Rattle.area.specs.Areas.{put}
use Rattle.bpa.specs.Plans.{Table}
use Rattle.rules.specs.Places.{rule_at}
use Rattle.reach.specs.Cells.{reach_in, cell_bytes}
use Rattle.reach.specs.declared.Reach.{Reach}
use Rattle.reach.specs.Reaches.{Joins}
use Rattle.reach.proofs.PutCells.{cells_long, reach_put, reach_kept}
use Rattle.following.proofs.WordWalk.{last_or}
use Rattle.following.specs.Followed.{cell_of, KnownCells, Follows}
use Rattle.levels.specs.Levels.{SameCell, LevelCleared, RuleAdded}

-- cells of two jobs, or of two levels, are two
pub level_apart : (j d i k : ℕ) → d ≤ 128 → k ≤ 128 → (d ≡ k → ⊥) → cell_of j d ≡ cell_of i k → ⊥
unfolding cell_of
level_apart j d i k h l n e = n (same j d i k h l e)
  where
    same : (j d i k : ℕ) → d ≤ 128 → k ≤ 128 → 129 * j + d ≡ 129 * i + k → d ≡ k
    same j d i k h l e = omega arith

pub job_apart : (j i d : ℕ) → (j ≡ i → ⊥) → cell_of j d ≡ cell_of i d → ⊥
unfolding cell_of
job_apart j i d n e = n (omega (arith, e))

-- levels that are known stay known if their cells stay
pub known_kept : (t : Table) (log s u : List ℕ) (left : ℕ) → ((j d : ℕ) → d ≤ left → SameCell (cell_of j d) s u) →
    KnownCells t log left s → KnownCells t log left u
known_kept t log s u left same k = record {
  inside = k.inside;
  log_short = k.log_short;
  known = λ j d h l. rw (same j d l) (k.known j d h l);
}

-- A LEVEL CLEARED job by job
pub cleared_none : (left : ℕ) (s : List ℕ) → LevelCleared 0 left s s
cleared_none left s = record { size = refl; none = λ j h. absurd (omega (arith, h)); others = λ j d h n. refl }

module _ (j left : ℕ) (s u : List ℕ) (f : LevelCleared j left s u) (size : length s ≡ 52632) (few : j < 24) (low : left ≤ 128) where
  abbrev c : ℕ
  c = cell_of j left

  abbrev none : Reach
  none = record { low = 0; high = 0; least = left }

  abbrev after : List ℕ
  after = put (17 * c) (cell_bytes none) u

  cell_fits : 17 * c + 17 ≤ length u
  unfolding cell_of
  cell_fits = omega (arith, f.size)

  pub cleared_more : LevelCleared (j + 1) left s after
  cleared_more = record {
    size = cells_long c none u cell_fits ∙ f.size;
    none = λ i h.
        last_or i j (omega (arith, h))
        (λ l. reach_kept c none u cell_fits (cell_of i left) (job_apart i j left (λ e. omega (arith, l, e))) ∙ f.none i l)
        (λ e. ap (λ (k : ℕ). reach_in (cell_of k left) after) e ∙ reach_put c none u cell_fits (omega arith) (omega arith));
    others = λ i d h n. reach_kept c none u cell_fits (cell_of i d) (level_apart i d j left h low n) ∙ f.others i d h n;
  }

-- A RULE ADDED to a cell
pub rule_added : (rs : List ℕ) (i left c : ℕ) (s u : List ℕ) (row both : Reach) → c ≡ cell_of (rule_at rs i).job (suc left) → 17 * c + 17 ≤ length s →
    Follows s (rule_at rs i).after left row → Joins (reach_in c s) row both →
    both.low < 18446744073709551616 → both.high < 18446744073709551616 → u ≡ put (17 * c) (cell_bytes both) s → RuleAdded rs i left s u
rule_added rs i left c s u row both is fits follows joins l h e = record {
  size = ap length e ∙ cells_long c both s fits;
  row = row;
  follows = follows;
  joins = subst (λ n. Joins (reach_in n s) row (reach_in n u)) is (rw (e, reach_put c both s fits l h) joins);
  others = λ d n. subst (SameCell d s) (sym e) (reach_kept c both s fits d (λ f. n (f ∙ is)));
}
