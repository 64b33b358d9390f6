-- `earliest_rule::first_rule` meets its contract: of two runs the one whose bytes come first as numbers is the earlier one. Assumes nothing.
use Rattle.std.proofs.Common.{◌≡◌, ◌∙◌, ◌*◌, ◌-◌, ◌<◌, ◌≤◌, ℕ, List, arith, refl, ap, ap₂, sym, subst, length, get_or, take, drop, length-append, length-take, length-drop, length-take-le}
use Rattle.std.proofs.lemmas.List.{take_at}
use Rattle.rules.specs.Places.{rule_at, rule_count}
use Rattle.first_run.specs.FirstRun.{Before}
use Rattle.area.specs.Areas.{IsPut}
use Rattle.area.specs.Numbers.{all_low_first, numbers_in}
use Rattle.area.proofs.Numbers.{all_length}
use Rattle.lowering.specs.Lowering.{Lowers, run_by}
use Rattle.lowering.proofs.LoweringRules.{run_by_length}
use Rattle.lowering.proofs.SmallMoves.{run_back}
use Rattle.lowering.proofs.ShortRows.{made_front}
use Rattle.rule_runs.specs.declared.Kept.{Kept}
use Rattle.rule_runs.proofs.KeptRuns.{good}
use Rattle.earliest_rule.proofs.EarliestRule.{Choosing, picks_only, choosing_start, choosing_end, choosing_kept, choosing_better}
use Rattle.earliest_rule.proofs.first_rule.Goals.{After-make_run, then-comes_before, else-comes_before}
use Rattle.earliest_rule.proofs.first_rule.Goals as goal

-- a run that was made at the front of an area
whole : {bytes area made : List ℕ} {r : ℕ} → IsPut 0 bytes area r made → take r made ≡ bytes
whole {made = made} {r = r} p = let k : r ≡ r - 0 = omega arith in ap (λ (m : ℕ). take m made) k ∙ made_front p

pub returns-then-total-i : goal.returns-then-total-i
returns-then-total-i c =
    let kept = c.args.kept.now in
    let rs = kept.table.rules.now in
    let total : rule_count rs ≤ get_or c.args.next.now c.args.start 0 = omega (arith, ap rule_count c.list.ensures.1) in
    picks_only kept.table.jobs rs kept.table.norms.now (rule_at rs c.args.start).job c.args.next.now c.args.start c.requires.chain_from total

-- what is given
module _ (kept : Kept) (next : List ℕ) (start : ℕ) where
  abbrev n : ℕ
  n = kept.table.jobs

  abbrev rs : List ℕ
  rs = kept.table.rules.now

  abbrev ns : List ℕ
  ns = kept.table.norms.now

  abbrev job : ℕ
  job = (rule_at rs start).job

  -- the run by each rule of the job is as long as the norm
  bytes_are : (k : ℕ) → Lowers rs ns job k → length (all_low_first (run_by n rs k)) ≡ 2 * get_or ns job 0
  bytes_are k low = all_length (run_by n rs k) ∙ ap (λ (m : ℕ). 2 * m) (run_by_length n rs ns (good kept) k low.place ∙ sym low.falls)

pub loop-i-init : goal.loop-i-init
loop-i-init c =
    let kept = c.args.kept.now in
    let next = c.args.next.now in
    let start = c.args.start in
    let m = c.make_run-n in
    let long = bytes_are kept next start start c.requires.chain_from.own.lowers in
    record {
      choosing = subst (Choosing (n kept next start) (rs kept next start) (ns kept next start) (job kept next start) m.result m.new.made start) (sym c.from-i.ensures)
          (choosing_start (n kept next start) (rs kept next start) (ns kept next start) (job kept next start) next start c.requires.chain_from m.result m.new.made
          m.auto.made (whole m.ensures));
      made_room = refl;
      best_room = m.auto.made;
      room = omega (arith, m.ensures.next, long, (good kept).exact.few (job kept next start));
    }

-- a turn
module _ (c : After-make_run) where
  abbrev kept : Kept
  kept = c.args.kept.now

  abbrev next : List ℕ
  next = c.args.next.now

  abbrev start : ℕ
  start = c.args.start

  abbrev size : ℕ
  size = c.make_run-n.result

  abbrev i : ℕ
  i = c.loop-i.i

  abbrev made : List ℕ
  made = c.make_run.new.made

  choosing : Choosing (n kept next start) (rs kept next start) (ns kept next start) (job kept next start) size c.loop-i.best c.loop-i.rule i
  choosing = c.loop-i.invariant.choosing

  inside : i < rule_count (rs kept next start)
  inside = omega (arith, c.loop-i-test.true, ap rule_count c.list.ensures.1)

  low : Lowers (rs kept next start) (ns kept next start) (job kept next start) i
  low = (choosing.ahead inside).lowers

  same_size : c.make_run.result ≡ size
  same_size =
      omega (arith, c.make_run.ensures.next, bytes_are kept next start i low, c.make_run-n.ensures.next, bytes_are kept next start start c.requires.chain_from.own.lowers)

  new : take size made ≡ all_low_first (run_by (n kept next start) (rs kept next start) i)
  new = ap (λ (k : ℕ). take k made) (sym same_size) ∙ whole c.make_run.ensures

  -- as bytes and as runs, the order is the same
  same_order : Before (numbers_in (take size made)) (numbers_in (take size c.loop-i.best))
      ≡ Before (run_by (n kept next start) (rs kept next start) i) (run_by (n kept next start) (rs kept next start) c.loop-i.rule)
  same_order =
      let back = run_back (n kept next start) (rs kept next start) (ns kept next start) (good kept) c.two_byte_moves.ensures in
      ap₂ Before (ap numbers_in new ∙ back i low.place) (ap numbers_in choosing.run ∙ back c.loop-i.rule choosing.own.lowers.place)

  kept_on : (Before (run_by (n kept next start) (rs kept next start) i) (run_by (n kept next start) (rs kept next start) c.loop-i.rule) → ⊥) →
      Choosing (n kept next start) (rs kept next start) (ns kept next start) (job kept next start) size c.loop-i.best c.loop-i.rule (get_or next i 0)
  kept_on =
      choosing_kept (n kept next start) (rs kept next start) (ns kept next start) (job kept next start) next start c.requires.chain_from size c.loop-i.best
      c.loop-i.rule i choosing inside

  better : Before (run_by (n kept next start) (rs kept next start) i) (run_by (n kept next start) (rs kept next start) c.loop-i.rule) → (best : List ℕ) →
      length best ≡ 1024 → take size best ≡ take size made →
      Choosing (n kept next start) (rs kept next start) (ns kept next start) (job kept next start) size best i (get_or next i 0)
  better b best l e =
      choosing_better (n kept next start) (rs kept next start) (ns kept next start) (job kept next start) next start c.requires.chain_from size c.loop-i.best
      c.loop-i.rule i choosing inside best b l (e ∙ new)

-- a fact of a run, a rule and a place, said of others that are equal to them
carried : (P : List ℕ → ℕ → ℕ → Type 0) {b b' : List ℕ} {r r' i i' : ℕ} → b ≡ b' → r ≡ r' → i ≡ i' → P b' r' i' → P b r i
carried P {b} {b'} {r} {r'} {i} {i'} e f g p = subst (λ (x : List ℕ). P x r i) (sym e) (subst (λ (x : ℕ). P b' x i) (sym f) (subst (P b' r') (sym g) p))

pub loop-i-preserved : goal.loop-i-preserved
loop-i-preserved c =
    let t = (goal.at.loop-i-preserved c).After-make_run in
    let same = same_order t in
    let Q = Choosing (n (kept t) (next t) (start t)) (rs (kept t) (next t) (start t)) (ns (kept t) (next t) (start t)) (job (kept t) (next t) (start t)) (size t) in
    let v = c.loop-i.invariant in
    elim c.if-comes_before.branch [
      | then-comes_before w ↦
          let copied = w.copy_from_slice.ensures in
          let long : length c.if-comes_before.best ≡ 1024 = simp (w.best-is, copied.after, length-append, length-take, length-drop) (omega arith) in
          let front : take (size t) c.if-comes_before.best ≡ take (size t) (made t) =
          ap (take (size t)) w.best-is ∙ take_at w.copy_from_slice.new.self (drop (size t) c.loop-i.best) (size t)
          (ap length copied.after ∙ length-take-le (size t) (made t) (omega (arith, c.make_run.auto.made))) ∙ copied.after in
          let before = w.if-comes_before.ensures.0 refl in
          record {
            choosing = carried Q refl w.rule-is c.from-i-in-loop-i.ensures (better t (subst (λ (A : Type 0). A) same before) c.if-comes_before.best long front);
            made_room = c.make_run.auto.made ∙ v.made_room;
            best_room = long;
            room = v.room;
          }
      | else-comes_before w ↦
          let not = w.if-comes_before.ensures.1 in
          record {
            choosing = carried Q w.best-is w.rule-is c.from-i-in-loop-i.ensures (kept_on t (λ b. let e = not (subst (λ (A : Type 0). A) (sym same) b) in cc));
            made_room = c.make_run.auto.made ∙ v.made_room;
            best_room = ap length w.best-is ∙ v.best_room;
            room = v.room;
          }
    ]

pub returns : goal.returns
returns c =
    let kept = c.args.kept.now in
    let rs = kept.table.rules.now in
    let v = c.loop-i in
    let all : rule_count rs ≤ v.i = omega (arith, c.loop-i-test.false, ap rule_count c.list.ensures.1) in
    choosing_end kept.table.jobs rs kept.table.norms.now (rule_at rs c.args.start).job c.args.next.now c.args.start c.requires.chain_from _ v.best v.rule v.i
    v.invariant.choosing all
