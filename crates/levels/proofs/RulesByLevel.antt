-- One level filled rule by rule: what a job reaches by the rules for the log's next move. Assumes nothing.
use mathlib.Core.Path.{◌≡◌, refl, sym, ap, ◌∙◌, subst}
use mathlib.Core.Bool.{true}
use mathlib.Core.List.{List, [], ◌∷◌, append-nil}
use mathlib.Core.Logic.{◌↔◌, ◌⊎◌, inl, inr, ⊎_elim, ⊎_map}
use Prim.Native.Nat.{ℕ, suc, ◌+◌, ◌-◌, ◌≤◌, ◌<◌}
use native.Mathlib.Omega.{arith}
use native.Mathlib.Nat.{le_of_lt}
use lib.Dec.{eqb}
use lib.ListN.{length, get_or}
use borrow.Author.Tests.{eqb-true, eqb-false}
use Rattle.bpa.specs.Plans.{Table, over}
use Rattle.bpa.proofs.Basics.Cases.{by_test}
use Rattle.rules.specs.Places.{rule_at, rule_count, table_of}
use Rattle.rules.specs.Lists.{GoodList}
use Rattle.rules.proofs.ListLaws.{rule_of, place_of_rule, table_closed}
use Rattle.replay.specs.Ends.{last, Ends, Gets}
use Rattle.replay.proofs.EndsLaws.{last_rest, last_more, length_last, no_log_ends, ends_rule, gets_rule, rule_ends, rule_gets, gets_all, gets_few}
use Rattle.reach.specs.Reaches.{CellReaches}
use Rattle.reach.proofs.ReachLaws.{reaches_none, reaches_joined, reaches_as}
use Rattle.following.proofs.WordWalk.{last_or}
use Rattle.following.specs.Followed.{cell_of, KnownCells}
use Rattle.levels.specs.Levels.{LevelCleared, RuleAdded, RuleFor, EndsBy, GetsBy, LevelBy}
use Rattle.levels.proofs.CellChanges.{level_apart, job_apart, known_kept}

no_moves : (log : List ℕ) → last 0 log ≡ []
no_moves log = last_rest log [] log (sym (append-nil log))

module _ (n : ℕ) (rs : List ℕ) (good : GoodList n rs) where
  abbrev t : Table
  t = table_of n rs

  own_jobs : t.jobs ≡ n
  unfolding table_of
  own_jobs = refl

  row_over : (i : ℕ) → i < rule_count rs → over t (rule_at rs i).after ≡ true
  row_over i h = table_closed n rs good _ _ _ (rule_of n rs i h)

  module _ (log : List ℕ) (d a : ℕ) where
    -- a rule that is not for the job and the move adds nothing
    module _ (i j : ℕ) (no_rule : RuleFor rs j a i → ⊥) where
      ends_passed : (e : ℕ) → EndsBy t rs log d a i j e ↔ EndsBy t rs log d a (i + 1) j e
      ends_passed e = (
        (λ w. let (k, h, f, m) = w in (k, omega (arith, h), f, m)),
        (λ w.
            let (k, h, f, m) = w in
            last_or k i (omega (arith, h)) (λ l. (k, l, f, m)) (λ l. absurd (no_rule (subst (RuleFor rs j a) l f)))),
      )

      gets_passed : (e : ℕ) → GetsBy t rs log d a i j e ↔ GetsBy t rs log d a (i + 1) j e
      gets_passed e = (
        (λ w. ⊎_map (λ x. x) (λ v. let (k, h, f, m) = v in (k, omega (arith, h), f, m)) w),
        (λ w.
            ⊎_map (λ x. x)
            (λ v.
            let (k, h, f, m) = v in
            last_or k i (omega (arith, h)) (λ l. (k, l, f, m)) (λ l. absurd (no_rule (subst (RuleFor rs j a) l f)))) w),
      )

    -- one that is adds what its row reaches
    module _ (i j : ℕ) (r : RuleFor rs j a i) where
      ends_added : (e : ℕ) → (EndsBy t rs log d a i j e ⊎ Ends t (rule_at rs i).after (last d log) e) ↔ EndsBy t rs log d a (i + 1) j e
      ends_added e = (
        (λ w. ⊎_elim (λ v. let (k, h, f, m) = v in (k, omega (arith, h), f, m)) (λ m. (i, omega arith, r, m)) w),
        (λ w.
            let (k, h, f, m) = w in
            last_or k i (omega (arith, h)) (λ l. inl (k, l, f, m)) (λ l. inr (subst (λ (x : ℕ). Ends t (rule_at rs x).after (last d log) e) l m))),
      )

      gets_added : (e : ℕ) → (GetsBy t rs log d a i j e ⊎ Gets t (rule_at rs i).after (last d log) e) ↔ GetsBy t rs log d a (i + 1) j e
      gets_added e = (
        (λ w.
            ⊎_elim (λ v. ⊎_map (λ x. x) (λ u. let (k, h, f, m) = u in (k, omega (arith, h), f, m)) v) (λ m. inr (i, omega arith, r, m)) w),
        (λ w.
            ⊎_elim (λ x. inl (inl x))
            (λ v.
            let (k, h, f, m) = v in
            last_or k i (omega (arith, h)) (λ l. inl (inr (k, l, f, m)))
            (λ l. inr (subst (λ (x : ℕ). Gets t (rule_at rs x).after (last d log) e) l m))) w),
      )

    -- no rule yet: a level that was cleared
    pub level_none : (s u : List ℕ) → d < 128 → LevelCleared n (suc d) s u → KnownCells t log d s → LevelBy n rs log d a 0 u
    level_none s u low f known = record {
      known = known_kept t log s u d (λ j k h. f.others j k (omega (arith, h)) (λ e. omega (arith, e, h))) known;
      level = λ j h.
          rw (f.none j h)
          (reaches_as
          (λ e. ((λ x. absurd x), (λ w. let (k, l, g, m) = w in omega (arith, l))))
          (λ e. ((λ x. inl x), (λ w. ⊎_elim (λ x. x) (λ v. let (k, l, g, m) = v in absurd (omega (arith, l))) w)))
          (reaches_none (suc d) (omega arith)));
    }

    -- a rule for another move
    pub level_passed : (i : ℕ) (s : List ℕ) → ((rule_at rs i).move ≡ a → ⊥) → LevelBy n rs log d a i s → LevelBy n rs log d a (i + 1) s
    level_passed i s other b = record {
      known = b.known;
      level = λ j h. reaches_as (ends_passed i j (λ r. other r.makes)) (gets_passed i j (λ r. other r.makes)) (b.level j h);
    }

    -- a rule for the move
    module _ (i : ℕ) (s u : List ℕ) (here : i < rule_count rs) (low : d < 128) (is : (rule_at rs i).move ≡ a) (f : RuleAdded rs i d s u)
        (b : LevelBy n rs log d a i s) where
      own_cell : (j : ℕ) → j < n → (rule_at rs i).job ≡ j →
          CellReaches (cell_of j (suc d)) u (EndsBy t rs log d a (i + 1) j) (GetsBy t rs log d a (i + 1) j)
      own_cell j h e =
          let r : RuleFor rs j a i = record { own = e; makes = is } in
          let row = f.follows.reached t log b.known (row_over i here) in
          let old = b.level j h in
          let cells = subst (λ (x : ℕ). CellReaches (cell_of x (suc d)) s (EndsBy t rs log d a i j) (GetsBy t rs log d a i j)) (sym e) old in
          subst (λ (x : ℕ). CellReaches (cell_of x (suc d)) u (EndsBy t rs log d a (i + 1) j) (GetsBy t rs log d a (i + 1) j)) e
          (reaches_as (ends_added i j r) (gets_added i j r) (reaches_joined cells row f.joins))

      other_cell : (j : ℕ) → j < n → ((rule_at rs i).job ≡ j → ⊥) →
          CellReaches (cell_of j (suc d)) u (EndsBy t rs log d a (i + 1) j) (GetsBy t rs log d a (i + 1) j)
      other_cell j h no_rule =
          rw (f.others (cell_of j (suc d)) (job_apart j (rule_at rs i).job (suc d) (λ e. no_rule (sym e))))
          (reaches_as (ends_passed i j (λ r. no_rule r.own)) (gets_passed i j (λ r. no_rule r.own)) (b.level j h))

      pub level_added : LevelBy n rs log d a (i + 1) u
      level_added = record {
        known = known_kept t log s u d
            (λ j k h. f.others (cell_of j k) (level_apart j k (rule_at rs i).job (suc d) (omega (arith, h)) (omega arith) (λ e. omega (arith, e, h)))) b.known;
        level = λ j h.
            by_test (eqb (rule_at rs i).job j) (λ e. own_cell j h (eqb-true (rule_at rs i).job j e)) (λ e. other_cell j h (eqb-false (rule_at rs i).job j e));
      }

    -- ALL RULES
    module _ (s : List ℕ) (b : LevelBy n rs log d a (rule_count rs) s) (inside : d < length log) (move : get_or log (length log - suc d) 0 ≡ a) where
      abbrev l : List ℕ
      l = last d log

      next : last (suc d) log ≡ a ∷ l
      next = last_more d log inside ∙ ap (λ (x : ℕ). x ∷ l) move

      ends_all : (j e : ℕ) → EndsBy t rs log d a (rule_count rs) j e ↔ Ends t (j ∷ []) (last (suc d) log) e
      ends_all j e = (
        (λ w.
            let (k, h, r, m) = w in
            rw next
            (ends_rule t j a l (rule_at rs k).after e
            (rw (r.own, r.makes) at (rule_of n rs k h)) m)),
        (λ w.
            let (v, h, m) = rule_ends t j a l e (rw next at w) in
            let (k, i, f) = place_of_rule n rs j a v h in
            (k, i, record { own = ap (λ x. x.job) f; makes = ap (λ x. x.move) f }, subst (λ (x : List ℕ). Ends t x l e) (sym (ap (λ x. x.after) f)) m)),
      )

      gets_every : (j e : ℕ) → GetsBy t rs log d a (rule_count rs) j e ↔ Gets t (j ∷ []) (last (suc d) log) e
      gets_every j e = (
        (λ w.
            rw next
            (⊎_elim
            (λ x. subst (Gets t (j ∷ []) (a ∷ l)) (ap suc (length_last d log (le_of_lt inside)) ∙ sym x) (gets_all t (j ∷ []) (a ∷ l)))
            (λ v.
            let (k, h, r, m) = v in
            gets_rule t j a l (rule_at rs k).after e (rw (r.own, r.makes) at (rule_of n rs k h)) m) w)),
        (λ w.
            ⊎_map (λ x. x ∙ ap suc (length_last d log (le_of_lt inside)))
            (λ v.
            let (u, h, m) = v in
            let (k, i, f) = place_of_rule n rs j a u h in
            (k, i, record { own = ap (λ x. x.job) f; makes = ap (λ x. x.move) f }, subst (λ (x : List ℕ). Gets t x l e) (sym (ap (λ x. x.after) f)) m))
            (rule_gets t j a l e (rw next at w))),
      )

      pub level_known : KnownCells t log (suc d) s
      level_known = record {
        inside = inside;
        log_short = b.known.log_short;
        known = λ j k h m.
            by_test (eqb k (suc d))
            (λ e.
            subst (λ (x : ℕ). CellReaches (cell_of j x) s (Ends t (j ∷ []) (last x log)) (Gets t (j ∷ []) (last x log))) (sym (eqb-true k (suc d) e))
            (reaches_as (ends_all j) (gets_every j) (b.level j (subst (λ (x : ℕ). j < x) own_jobs h))))
            (λ e. b.known.known j k h (fewer k d m (eqb-false k (suc d) e)));
      }
        where
          fewer : (k d : ℕ) → k ≤ suc d → (k ≡ suc d → ⊥) → k ≤ d
          fewer k d h n = last_or k (suc d) (omega arith) (λ l. omega (arith, l)) (λ e. absurd (n e))

  -- THE FIRST LEVEL: with no move left nothing is reached
  pub level_first : (log s u : List ℕ) → length log ≤ 128 → LevelCleared n 0 s u → KnownCells t log 0 u
  level_first log s u short f = record {
    inside = omega arith;
    log_short = short;
    known = λ j k h m.
        let z : k ≡ 0 = omega (arith, m) in
        let own = subst (λ (x : ℕ). j < x) own_jobs h in
        subst (λ (x : ℕ). CellReaches (cell_of j x) u (Ends t (j ∷ []) (last x log)) (Gets t (j ∷ []) (last x log))) (sym z)
        (rw (no_moves log, f.none j own)
        (reaches_as
        (λ e. ((λ x. absurd x), (λ w. no_log_ends t j e w)))
        (λ e. ((λ x. subst (Gets t (j ∷ []) []) (sym x) (gets_all t (j ∷ []) [])), (λ w. let g = gets_few t (j ∷ []) [] e w in omega (arith, g))))
        (reaches_none 0 (omega arith))));
  }
