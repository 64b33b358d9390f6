-- Marks of jobs: bits joined, one for each step of the job's rules, so jobs with the same steps have the same mark. Assumes nothing.
use mathlib.Core.Path.{◌≡◌, refl, sym, ap, ◌∙◌, subst}
use mathlib.Core.Bool.{true}
use mathlib.Core.List.Memᴰ
use mathlib.Core.List.{List, [], ◌∷◌, Memᴰ}
use mathlib.Core.Logic.{⊎_elim}
use Prim.Native.Nat.{ℕ, suc, ◌+◌, ◌-◌, ◌*◌, ◌/◌, ◌%◌, ◌^◌, ◌≤◌, ◌<◌, max}
use native.Mathlib.Omega.{arith}
use lib.Arith.{bin_ind}
use lib.Dec.{lit<}
use lib.Pow.{shl_exact}
use native.Mathlib.Nat.{one-mul}
use lib.Bits.{bit_or, or_step, or_comm, or_self}
use lib.ListN.{length, get_or, drop, set, replicate, get_or-replicate}
use lib.Seq.{get_or-set_same, get_or-set_other}
use Rattle.bpa.specs.Plans.{Rule}
use Rattle.bpa.specs.Norms.{sum_of}
use Rattle.bpa.proofs.Basics.Cases.{by_test, never_both}
use Rattle.bpa.proofs.Basics.SameSteps.{Follows, SameSteps}
use Rattle.rules.specs.Places.{rule_at, rule_count, table_of}
use Rattle.prepare.specs.Prepared.{all_rules, of_job, step_number, step_bit, mark, Marked}
use Rattle.prepare.proofs.FirstRule.{all_cons, all_end}
use Rattle.prepare.proofs.FirstRuleArray.{own_job, job_own}

-- BITS JOINED
digit : (a b : ℕ) → max (a % 2) (b % 2) < 2
digit a b = omega arith

max_joined : (x y z : ℕ) → max (max x y) z ≡ max x (max y z)
max_joined x y z = omega arith

or_half : (a b : ℕ) → bit_or a b / 2 ≡ bit_or (a / 2) (b / 2)
or_half a b = omega (arith, or_step a b, digit a b)

or_digit : (a b : ℕ) → bit_or a b % 2 ≡ max (a % 2) (b % 2)
or_digit a b = omega (arith, or_step a b, digit a b)

or_assoc : (a b c : ℕ) → bit_or (bit_or a b) c ≡ bit_or a (bit_or b c)
or_assoc =
    bin_ind (λ (a : ℕ). (b c : ℕ) → bit_or (bit_or a b) c ≡ bit_or a (bit_or b c)) (λ b c. refl)
    (λ a ih b c.
    or_step (bit_or a b) c
    ∙ ap (λ (x : ℕ). bit_or x (c / 2) * 2 + max (bit_or a b % 2) (c % 2)) (or_half a b)
    ∙ ap (λ (x : ℕ). bit_or (bit_or (a / 2) (b / 2)) (c / 2) * 2 + max x (c % 2)) (or_digit a b)
    ∙ ap (λ (x : ℕ). x * 2 + max (max (a % 2) (b % 2)) (c % 2)) (ih (b / 2) (c / 2))
    ∙ ap (λ (x : ℕ). bit_or (a / 2) (bit_or (b / 2) (c / 2)) * 2 + x) (max_joined (a % 2) (b % 2) (c % 2))
    ∙ ap (λ (x : ℕ). bit_or (a / 2) (bit_or (b / 2) (c / 2)) * 2 + max (a % 2) x) (sym (or_digit b c))
    ∙ ap (λ (x : ℕ). bit_or (a / 2) x * 2 + max (a % 2) (bit_or b c % 2)) (sym (or_half b c))
    ∙ sym (or_step a (bit_or b c)))

-- THE MARK of a job
module _ (ns : List ℕ) (j : ℕ) where
  -- the bit of each of its steps is in it
  bit_in : (l : List Rule) (r : Rule) → Memᴰ r l → of_job j r ≡ true → bit_or (step_bit ns r) (mark ns j l) ≡ mark ns j l
  unfolding mark
  bit_in [] r m e = absurd (Memᴰ.not-nil m)
  bit_in (s ∷ l) r m e =
      let b = step_bit ns s in
      by_test (of_job j s)
      (λ q.
      rw q
      (⊎_elim
      (λ (k : r ≡ s).
      ap (λ (u : Rule). bit_or (step_bit ns u) (bit_or (mark ns j l) b)) k ∙ or_comm b (bit_or (mark ns j l) b) ∙ or_assoc (mark ns j l) b b
      ∙ ap (bit_or (mark ns j l)) (or_self b))
      (λ (k : Memᴰ r l).
      sym (or_assoc (step_bit ns r) (mark ns j l) b) ∙ ap (λ (u : ℕ). bit_or u b) (bit_in l r k e))
      (Memᴰ.cases_cons m)))
      (λ q.
      rw q
      (⊎_elim
      (λ (k : r ≡ s). absurd (never_both (of_job j s) (subst (λ (u : Rule). of_job j u ≡ true) k e) q))
      (λ (k : Memᴰ r l). bit_in l r k e)
      (Memᴰ.cases_cons m)))

  -- and nothing else: a number with the bits of all its steps has all of it
  within : (l : List Rule) (n : ℕ) → ((r : Rule) → Memᴰ r l → of_job j r ≡ true → bit_or (step_bit ns r) n ≡ n) → bit_or (mark ns j l) n ≡ n
  unfolding mark
  within [] n h = refl
  within (s ∷ l) n h =
      let rest : bit_or (mark ns j l) n ≡ n = within l n (λ r m e. h r (Memᴰ.tail m) e) in
      by_test (of_job j s)
      (λ e. rw e (or_assoc (mark ns j l) (step_bit ns s) n ∙ ap (bit_or (mark ns j l)) (h s (Memᴰ.head refl) e) ∙ rest))
      (λ e. rw e rest)

-- jobs with the same steps have the same mark
module _ (n : ℕ) (rs ns : List ℕ) (small : (j : ℕ) → j < n → get_or ns j 0 ≤ 512) where
  half : (y x : ℕ) → y < n → x < n → Follows (table_of n rs) ns y x →
      bit_or (mark ns y (all_rules rs)) (mark ns x (all_rules rs)) ≡ mark ns x (all_rules rs)
  unfolding table_of all_rules step_bit
  half y x hy hx f =
      within ns y (all_rules rs) (mark ns x (all_rules rs))
      (λ r m e.
      let own : record { job = y; move = r.move; after = r.after } ≡ r = λ i. record { job = sym (own_job y r e) i; move = r.move; after = r.after } in
      let (v, k, d) = f r.move r.after (subst (λ (u : Rule). Memᴰ u (all_rules rs)) (sym own) m) in
      let change : sum_of ns r.after + 512 - get_or ns r.job 0 ≡ sum_of ns v + 512 - get_or ns x 0 =
      ap (λ (j : ℕ). sum_of ns r.after + 512 - get_or ns j 0) (own_job y r e) ∙ omega (arith, d, small y hy, small x hx) in
      ap (λ (u : ℕ). bit_or (2 ^ step_number r.move u) (mark ns x (all_rules rs))) change
      ∙ bit_in ns x (all_rules rs) (record { job = x; move = r.move; after = v }) k (job_own x (record { job = x; move = r.move; after = v }) refl))

  pub same_mark : (marks : List ℕ) → Marked n rs ns marks → (y x : ℕ) → SameSteps (table_of n rs) ns y x → y < n → x < n →
      get_or marks y 0 ≡ get_or marks x 0
  same_mark marks m y x s hy hx =
      m.is y hy
      ∙ sym (half x y hx hy s.back) ∙ or_comm (mark ns x (all_rules rs)) (mark ns y (all_rules rs)) ∙ half y x hy hx s.forth
      ∙ sym (m.is x hx)

-- the bit of a step, as it is made
pub shifted : (k : ℕ) → k < 64 → (1 * 2 ^ k) % 2 ^ 64 ≡ 2 ^ k
shifted k h = shl_exact 1 k 64 (lit< tt) (omega arith) ∙ one-mul (2 ^ k)

-- MARKS FILLED from the last rule to the first
abbrev pub Marking : (rules norms marks : List ℕ) → (i : ℕ) → Type 0
Marking rs ns a i = (k : ℕ) → k < 24 → get_or a k 0 ≡ mark ns k (drop i (all_rules rs))

module _ (rs ns a : List ℕ) where
  pub mark_none : (i : ℕ) → i ≡ rule_count rs → Marking rs ns (replicate 24 0) i
  unfolding mark
  mark_none i e k h =
      get_or-replicate 24 k 0 0 h ∙ sym (ap (mark ns k) (ap (λ (m : ℕ). drop m (all_rules rs)) e ∙ all_end rs))

  pub mark_more : (i j v : ℕ) → length a ≡ 24 → i < rule_count rs → j ≡ (rule_at rs i).job → j < 24 →
      v ≡ bit_or (get_or a j 0) (step_bit ns (rule_at rs i)) → Marking rs ns a (suc i) → Marking rs ns (set a j v) i
  unfolding mark
  mark_more i j v l h e b u f k m =
      let r = rule_at rs i in
      by_test (of_job k r)
      (λ q.
      let own : j ≡ k = e ∙ own_job k r q in
      rw q
      (subst (λ (n : ℕ). get_or (set a j v) n 0 ≡ bit_or (mark ns n (drop (suc i) (all_rules rs))) (step_bit ns r)) own
      (get_or-set_same a j v 0 (omega arith) ∙ u ∙ ap (λ (n : ℕ). bit_or n (step_bit ns r)) (f j b))))
      (λ q.
      rw q
      (get_or-set_other a j k v 0 (λ w. never_both (of_job k r) (job_own k r (sym e ∙ sym w)) q) ∙ f k m))
      ∙ sym (ap (mark ns k) (all_cons rs i h))

  pub marked : (n : ℕ) → n ≤ 24 → Marking rs ns a 0 → Marked n rs ns a
  marked n few f = record { is = λ j h. f j (omega arith) }
