-- What is asked and told of the rules of a pair of jobs. Assumes nothing: these are definitions.
use Rattle.std.specs.Prelude.{◌≡◌, Bool, true, false, List, ℕ, Option, Some, None, get_or}
use Rattle.facts.specs.Columns.{bytes_in}
use Rattle.answering.specs.declared.question.Question.{Question}
use Rattle.rule_filter.specs.RuleFilter.{turned}
use Rattle.answering.specs.Agreeing.{MineRule, AgreeBy}

-- a question of which the other job asks
pub record IsTurned (q r : Question) : Type 0 where
  pub facts : r.facts.now ≡ q.facts.now
  pub old : r.old ≡ q.old
  pub new : r.new ≡ q.new
  pub parts : r.parts.now ≡ q.parts.now
  pub pair : r.pair ≡ turned q.pair

-- a rule of the job that asks, and one of the other
abbrev pub Asks : Question → ℕ → Type 0
Asks q r = MineRule (bytes_in q.facts.now) q.pair.mine r

abbrev pub Answers : Question → ℕ → Type 0
Answers q s = MineRule (bytes_in q.facts.now) q.pair.other s

-- the two agree
abbrev pub Agrees : Question → (asks answers : ℕ) → Type 0
Agrees q r s = AgreeBy q.facts.now q.old q.new q.parts.now q.pair r s

-- what is found for a rule: one that answers, or that there is none
pub record Found (q : Question) (r : ℕ) (out : Option ℕ) : Type 0 where
  pub some : (s : ℕ) → out ≡ Some s → Answers q s × Agrees q r s
  pub none : out ≡ None → (s : ℕ) → Answers q s → Agrees q r s → ⊥

-- a rule of the job that asks is answered
pub record Answered (q : Question) (r : ℕ) : Type 0 where
  pub by : ℕ
  pub rule : Answers q by
  pub agrees : Agrees q r by

-- marks of rules: those of the job that asks are answered, and those of the other answer
pub record Known (q : Question) (known : List Bool) : Type 0 where
  pub own : (i : ℕ) → Asks q i → get_or known i false ≡ true → Answered q i
  pub theirs : (i : ℕ) → Answers q i → get_or known i false ≡ true → (r : ℕ) × Asks q r × Agrees q r i

-- what is told of all rules of the job that asks
pub record AllAnswered (q : Question) (known : List Bool) (out : Bool) : Type 0 where
  pub yes : out ≡ true → (r : ℕ) → Asks q r → Answered q r
  pub no : ((r : ℕ) → Asks q r → Answered q r) → out ≡ true
  pub knows : Known q known
