-- Rules that begin alike, with the same job and the same move, and the trees in which a pass over a list keeps the first of them. Each job has 64
-- slots, by the low digits of a move, and each rule two below it, by the digit that comes next: a slot holds a rule, or 255 if it is empty. So the
-- way to a rule is given by its job and move, and has at most eleven slots. Assumes nothing: these are definitions.
use Rattle.std.specs.Prelude.{◌≡◌, List, ℕ, ◌+◌, ◌*◌, ◌/◌, ◌%◌, ◌≤◌, ◌<◌, get_or}
use Rattle.bpa.specs.Plans.{Rule}
use Rattle.rules.specs.Places.{rule_at}

pub record SameStart (r s : Rule) : Type 0 where
  pub job : r.job ≡ s.job
  pub move : r.move ≡ s.move

-- the slot at which the way to a rule begins, what is left of its move there, and the slot below a rule
unfoldable pub first_slot : Rule → ℕ
first_slot r = 64 * r.job + r.move % 64

unfoldable pub first_rest : Rule → ℕ
first_rest r = r.move / 64

abbrev pub slot_below : (rule rest : ℕ) → ℕ
slot_below k b = 1536 + 2 * k + b % 2

-- a way leads from a slot down to a slot, through slots that hold rules
pub data Way (slots : List ℕ) : (slot rest slot' rest' : ℕ) → Type 0 where
  here : (s b : ℕ) → Way slots s b s b
  down : (s b s' b' : ℕ) → get_or slots s 0 < 252 → Way slots (slot_below (get_or slots s 0) b) (b / 2) s' b' → Way slots s b s' b'

-- to a slot that holds rule e
pub record Leads (slots : List ℕ) (slot rest e : ℕ) : Type 0 where
  pub last : ℕ
  pub last_rest : ℕ
  pub way : Way slots slot rest last last_rest
  pub holds : get_or slots last 0 ≡ e
  pub small : e < 252

-- A RULE IS KEPT: its own way leads to it
abbrev pub Kept : (rules slots : List ℕ) → (e : ℕ) → Type 0
Kept rs slots e = Leads slots (first_slot (rule_at rs e)) (first_rest (rule_at rs e)) e

-- slots hold rules before rule i only, and the slots below a rule come after the one that holds it
abbrev pub Rising : (slots : List ℕ) → (i : ℕ) → Type 0
Rising slots i = (s : ℕ) → s < 2040 → get_or slots s 0 < 252 → (get_or slots s 0 < i) × (s < 1536 + 2 * get_or slots s 0)

-- AN EMPTY SLOT FOR RULE i, at the end of its way: no kept rule begins as it does
pub record EmptySlot (rs slots : List ℕ) (i slot : ℕ) : Type 0 where
  pub low : slot < 1536 + 2 * i
  pub empty : 252 ≤ get_or slots slot 0
  pub rest : ℕ
  pub way : Way slots (first_slot (rule_at rs i)) (first_rest (rule_at rs i)) slot rest
  pub none : (e : ℕ) → Kept rs slots e → SameStart (rule_at rs e) (rule_at rs i) → ⊥
