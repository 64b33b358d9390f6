-- The pass over the rules for the n-th move shown, rule by rule. Assumes nothing.
use mathlib.Core.Path.{◌≡◌, refl, ◌∙◌}
use mathlib.Core.Bool.{false}
use mathlib.Core.List.{List}
use Prim.Native.Nat.{ℕ, suc, ◌-◌, ◌<◌}
use native.Mathlib.Omega.{arith}
use lib.ListN.{length, get_or, set, replicate, length-set, length-replicate}
use Rattle.rules.specs.Places.{rule_at, rule_count}
use Rattle.rules.specs.Lists.{GoodList}
use Rattle.repeated.specs.Repeated.{Repeated, place_at, bucket_of, Stands}
use Rattle.moves.specs.Moves.{IsNth}
use Rattle.moves.proofs.PassedMoves.{was_passed}
use Rattle.moves.proofs.NthRule.{made, passed, Ahead, ahead_start, ahead_past, ahead_again, ahead_later, found_here}
use Rattle.moves.proofs.JobKept.{JobKept, kept_past, kept_again, kept_new, made_again, made_new}

-- before rule i: the move is still ahead, and the job's rules that were passed are kept
pub record Passing (rs : List ℕ) (j n left : ℕ) (links last : List ℕ) (i : ℕ) : Type 0 where
  pub links_size : length links ≡ 252
  pub last_size : length last ≡ 64
  pub ahead : Ahead rs j n left i
  pub kept : JobKept rs j links last i

pub passing_start : (rs : List ℕ) (j n : ℕ) → Passing rs j n n (replicate 252 255) (replicate 64 255) 0
passing_start rs j n = record {
  links_size = length-replicate {A = ℕ} 252 255;
  last_size = length-replicate {A = ℕ} 64 255;
  ahead = ahead_start rs j n;
  kept = λ e l is. absurd (omega (arith, l));
}

module _ (jobs : ℕ) (rs : List ℕ) (good : GoodList jobs rs) (bytes : (k : ℕ) → get_or rs k 0 < 256) (j n left : ℕ) (links last : List ℕ) (i : ℕ)
    (h : i < rule_count rs) (p : Passing rs j n left links last i) where
  pub passing_other : ((rule_at rs i).job ≡ j → ⊥) → Passing rs j n left links last (suc i)
  passing_other other = record {
    links_size = p.links_size;
    last_size = p.last_size;
    ahead = ahead_past rs j n left i h p.ahead other;
    kept = kept_past jobs rs good bytes j links last i h p.kept other;
  }

  module _ (own : (rule_at rs i).job ≡ j) where
    pub passing_again : Repeated rs i → Passing rs j n left links last (suc i)
    passing_again r = record {
      links_size = p.links_size;
      last_size = p.last_size;
      ahead = ahead_again rs j n left i h p.ahead own (made_again jobs rs good bytes j links last i h p.kept own r);
      kept = kept_again jobs rs good bytes j links last i h p.kept r;
    }

    module _ (b : ℕ) (is : b ≡ bucket_of (place_at rs i)) (s : Stands rs links (get_or last b 0) i false) where
      new : (w : List ℕ) → was_passed (passed rs j w i) (made rs j w i) ≡ false
      new = made_new jobs rs good bytes j links last i h p.kept own b is (s.no refl)

      pub passing_new : b < 64 → 0 < left → Passing rs j n (left - 1) (set links i (get_or last b 0)) (set last b i) (suc i)
      passing_new small l = record {
        links_size = length-set links i (get_or last b 0) ∙ p.links_size;
        last_size = length-set last b i ∙ p.last_size;
        ahead = ahead_later rs j n left i h p.ahead own new l;
        kept = kept_new jobs rs good bytes j links last i h p.kept (omega (arith, h, good.few)) p.links_size p.last_size b small is;
      }

      pub passing_ends : left ≡ 0 → IsNth rs j n i
      passing_ends z = found_here rs j n left i h p.ahead own new z
