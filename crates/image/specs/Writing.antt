-- Images written from a job count and a list of 8-byte rules, and when that is refused. Assumes nothing: these are definitions.
use Rattle.std.specs.Prelude.{◌&&◌, not, cond, List, [], ◌∷◌, ◌++◌, ℕ, zero, suc, ◌+◌, ◌*◌, ◌-◌, ◌/◌, ◌%◌, min, leb, eqb, length, take, drop, replicate}
use Rattle.area.specs.Numbers.{low_first}
use Rattle.rules.specs.Places.{places_good, rule_count, table_of}
use Rattle.answer.specs.Refusals.{or_else}
use Rattle.refusal.specs.Refusals.{table_refusal}
use Rattle.image.specs.Image.{checksum}

-- 63 rules in all blocks but the last
unfoldable pub blocks_for : (rules : List ℕ) → ℕ
blocks_for rs = (rule_count rs + 62) / 63

unfoldable pub rules_for : (k : ℕ) → (rules : List ℕ) → ℕ
rules_for k rs = min 63 (rule_count rs - 63 * k)

-- bytes 0 to 509 of block k
unfoldable pub body : (jobs k : ℕ) → (rules : List ℕ) → List ℕ
body n k rs =
    n ∷ rules_for k rs ∷ (take (8 * rules_for k rs) (drop (504 * k) rs)
    ++ replicate (504 - 8 * rules_for k rs) 0 ++ low_first k ++ low_first (blocks_for rs))

unfoldable pub written_block : (jobs k : ℕ) → (rules : List ℕ) → List ℕ
written_block n k rs = body n k rs ++ low_first (checksum (body n k rs))

unfoldable pub written_from : (left k : ℕ) → (jobs : ℕ) → (rules : List ℕ) → List ℕ
written_from zero k n rs = []
written_from (suc m) k n rs = written_block n k rs ++ written_from m (suc k) n rs

-- THE IMAGE of a job count and a list of rules
unfoldable pub written : (jobs : ℕ) → (rules : List ℕ) → List ℕ
written n rs = written_from (blocks_for rs) 0 n rs

-- refusals 2, 4 and 5 of a job count and a list of rules
unfoldable pub list_refusal : (jobs : ℕ) → (rules : List ℕ) → ℕ
list_refusal n rs =
    cond (not (eqb (length rs % 8) 0 && (leb 1 (rule_count rs) && leb (rule_count rs) 252))) 2
    (cond (not (leb 1 n && leb n 24)) 4 (cond (not (places_good (rule_count rs) n rs)) 5 0))

-- REFUSALS 2, 4, 5, 6 AND 7 of the writer
unfoldable pub write_refusal : (jobs : ℕ) → (rules : List ℕ) → ℕ
write_refusal n rs = or_else (list_refusal n rs) (table_refusal (table_of n rs))
