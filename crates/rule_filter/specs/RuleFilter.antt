-- Rules that may agree: what tests of moves, norms and fingerprints ask and tell. Assumes nothing: these are definitions.
use Rattle.std.specs.Prelude.{◌≡◌, Bool, true, not, List, ℕ, ◌+◌, ◌-◌, get_or}
use Rattle.rules.specs.Places.{rule_at}
use Rattle.fingerprints.specs.declared.Print.{Print}
use Rattle.fingerprints.specs.declared.Prints.{Prints}
use Rattle.fingerprints.specs.Fingerprints.{join, value_from, RulePrint}
use Rattle.rule_filter.specs.declared.Pair.{Pair}

-- the pair of which the other job asks
abbrev pub turned : Pair → Pair
turned p = record {
  forward = not p.forward;
  mine = p.other;
  other = p.mine;
  norm = p.norm - p.gap;
  gap = p.gap;
  tail = p.tail;
  from = p.from;
  to = p.to;
}

-- what rule r of Y and rule s of X leave has equal fingerprints by the old rows; the tail's are given
pub record SamePrint (rs : List ℕ) (prints : Prints) (tail : Print) (r s : ℕ) : Type 0 where
  pub is : value_from prints 0 (rule_at rs r).after ≡ join (value_from prints 0 (rule_at rs s).after) tail.power tail.value

-- the test of two numbers passes any rows of which they are if these have equal fingerprints, the tail behind the right one
abbrev pub PassesEqual : Prints → (tail : Print) → (left right : ℕ) → (out : Bool) → Type 0
PassesEqual prints tail left right out =
    (p q : List ℕ) → RulePrint prints p left → RulePrint prints q right →
    value_from prints 0 p ≡ join (value_from prints 0 q) tail.power tail.value → out ≡ true

-- what the tests before a comparison tell: rules that may agree have equal moves and norms of what they leave; others have not, or have
-- unequal fingerprints
pub record MayAgree (rs sums : List ℕ) (prints : Prints) (pair : Pair) (r s : ℕ) (out : Bool) : Type 0 where
  pub move : out ≡ true → (rule_at rs r).move ≡ (rule_at rs s).move
  pub norm : out ≡ true → get_or sums r 0 ≡ get_or sums s 0 + pair.gap
  pub all : (rule_at rs r).move ≡ (rule_at rs s).move → get_or sums r 0 ≡ get_or sums s 0 + pair.gap →
      SamePrint rs prints pair.tail r s → out ≡ true
