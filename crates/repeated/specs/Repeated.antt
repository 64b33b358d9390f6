-- Rules that are written twice in a list, and the rules that a pass over it keeps in buckets to find them. Assumes nothing: these are definitions.
use Rattle.std.specs.Prelude.{◌≡◌, Bool, true, false, List, ℕ, ◌+◌, ◌*◌, ◌%◌, ◌<◌, get_or, take, drop}
use Rattle.rules.specs.Places.{rule_at, rule_count}

-- a rule that an earlier one is equal to
pub record Repeated (rs : List ℕ) (i : ℕ) : Type 0 where
  pub earlier : ℕ
  pub before : earlier < i
  pub same : rule_at rs earlier ≡ rule_at rs i

-- MARKS OF RULES that are written twice: no other rule is marked
pub record RepeatsMarked (rs marks : List ℕ) : Type 0 where
  pub repeated : (i : ℕ) → i < rule_count rs → 0 < get_or marks i 0 → Repeated rs i

pub record MarksRepeats (rs : List ℕ) (marks : List Bool) : Type 0 where
  pub repeated : (i : ℕ) → i < rule_count rs → get_or marks i false ≡ true → Repeated rs i

-- the eight bytes of a rule, and the bucket that they belong to
abbrev pub place_at : (rules : List ℕ) → (i : ℕ) → List ℕ
place_at rs i = take 8 (drop (8 * i) rs)

unfoldable pub bucket_of : (place : List ℕ) → ℕ
bucket_of xs =
    ((get_or xs 0 0 + 5 * (get_or xs 1 0 + get_or xs 7 0) + 7 * get_or xs 2 0) + (11 * get_or xs 3 0 + 23 * get_or xs 4 0)
    + (37 * get_or xs 5 0 + 47 * get_or xs 6 0)) % 64

pub record IsBucket (place : List ℕ) (r : ℕ) : Type 0 where
  pub is : r ≡ bucket_of place
  pub small : r < 64

-- links lead back from a rule k to a rule e
pub data Leads (links : List ℕ) : (k e : ℕ) → Type 0 where
  here : (k : ℕ) → Leads links k k
  back : (k e : ℕ) → k < 252 → get_or links k 0 < k → Leads links (get_or links k 0) e → Leads links k e

-- whether an earlier rule is equal to rule i: if it is denied, no rule is that links lead back to
pub record Stands (rs links : List ℕ) (last i : ℕ) (answer : Bool) : Type 0 where
  pub yes : answer ≡ true → Repeated rs i
  pub no : answer ≡ false → last < i → (e : ℕ) → Leads links last e → place_at rs e ≡ place_at rs i → ⊥

-- A RULE IS KEPT before rule i: links lead back to it from the last rule of its bucket
pub record Kept (rs links last : List ℕ) (i e : ℕ) : Type 0 where
  pub first : get_or last (bucket_of (place_at rs e)) 0 < i
  pub leads : Leads links (get_or last (bucket_of (place_at rs e)) 0) e
