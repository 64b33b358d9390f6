-- The promises about the first shortest run, each with its proved term. Assumes nothing.
use mathlib.Core.Path.{◌≡◌, refl, sym, ap, ◌∙◌, subst}
use mathlib.Core.Bool.{true, cond}
use mathlib.Core.List.{List}
use Prim.Native.Nat.{ℕ, zero, suc, ◌*◌}
use lib.Dec.{leb}
use lib.IntN.{ℤ}
use lib.ListN.{length, take}
use Rattle.bpa.specs.Plans.{Table, all_below, over}
use Rattle.bpa.specs.Norms.{norm}
use Rattle.bpa.proofs.Norm.NormFewest.{norm_fewest}
use Rattle.area.specs.Numbers.{all_low_first, numbers_in}
use Rattle.area.proofs.Numbers.{all_length, numbers_back}
use Rattle.answer.specs.Refusals.{room_refusal}
use Rattle.answer.specs.Answer.{signed, with_room, output_after, Writes}
use Rattle.answer.proofs.RefusalChains.{chain, neither}
use Rattle.answer.proofs.Results.{written_result}
use Rattle.refusal.specs.Refusals.{jobs_refusal, sum_refusal, plan_refusal}
use Rattle.refusal.proofs.PlanRefusals.{passed}
use Rattle.image.specs.Image.{table_in}
use Rattle.first_run.specs.FirstRun.{First, first_run}
use Rattle.first_run.proofs.FirstRuns as first
use Rattle.table.specs.CallRefusals.{one_plan}
use Rattle.table.proofs.ImageTables.{image_table}
use Rattle.promises.specs.Promises.{all_bytes}
use Rattle.promises.specs.FirstRuns as promised
use Rattle.promises.proofs.SmallMoves.{run_small}
use Rattle.promises.proofs.AcceptedCalls.{accepted_both}

pub run_first : promised.RunFirst
unfolding promised.RunFirst
run_first t p a o = first.first_run_first t a.good p o

pub run_count : promised.RunCount
unfolding promised.RunCount
run_count t p a o = first.first_run_length t a.good p o

pub run_single : promised.RunSingle
unfolding promised.RunSingle
run_single = first.first_only

-- a plan over one of two tables with as many jobs is over the other
over_same : (t u : Table) (p : List ℕ) → t.jobs ≡ u.jobs → over t p ≡ true → over u p ≡ true
unfolding over
over_same t u p e o = rw (sym e) o

pub rules_reordered : promised.RulesReordered
unfolding promised.RulesReordered
rules_reordered t u p a b e s o = first.same_first_run t u s a.good b.good p o (over_same t u p e o)

pub run_written : promised.RunWritten
unfolding promised.RunWritten all_bytes
run_written bs p o o' n b w =
    let t = table_in bs in
    let run = first_run t p in
    let s = written_result (one_plan bs p) (all_low_first run) o o' n w in
    let a = accepted_both bs p s.passed in
    let f = first.first_run_first t a.table.good p a.plan.over_table in
    let moves_are : numbers_in (take n o') ≡ run = ap numbers_in s.bytes ∙ numbers_back run (run_small bs b f.runs) in (
      subst (First t p) (sym moves_are) f,
      ap length s.bytes ∙ sym s.count,
      (
        norm t p,
        s.count ∙ all_length run ∙ ap (λ (m : ℕ). 2 * m) (first.first_run_length t a.table.good p a.plan.over_table),
        norm_fewest t a.table.good p a.plan.over_table,
      ),
    )

-- an answer that is refused does not depend on the bytes
signed_same : (f v w : ℕ) → (f ≡ 0 → v ≡ w) → signed f v ≡ signed f w
unfolding signed
signed_same zero v w e = ap (signed zero) (e refl)
signed_same (suc f) v w e = refl

output_same : (f : ℕ) (bs cs o : List ℕ) → (f ≡ 0 → bs ≡ cs) → output_after f bs o ≡ output_after f cs o
unfolding output_after
output_same zero bs cs o e = ap (λ (x : List ℕ). output_after zero x o) (e refl)
output_same (suc f) bs cs o e = refl

-- two calls with one chain of refusals that write the same once it is past
alike : {f g : ℕ} {bs cs o o' o'' : List ℕ} {r s : ℤ} → f ≡ g → (f ≡ 0 → bs ≡ cs) → Writes f bs o r o' → Writes g cs o s o'' → (r ≡ s) × (o' ≡ o'')
unfolding with_room
alike {f} {g} {bs} {cs} {o} e h v w =
    let k : with_room f bs o ≡ with_room g cs o = chain e (λ z. ap (λ (x : List ℕ). room_refusal x o) (h z)) in
    let passed : with_room f bs o ≡ 0 → bs ≡ cs = λ z. h (neither f (room_refusal bs o) z).0 in (
      v.answer ∙ signed_same (with_room f bs o) (length bs) (length cs) (λ z. ap length (passed z)) ∙ ap (λ (x : ℕ). signed x (length cs)) k ∙ sym w.answer,
      v.output ∙ output_same (with_room f bs o) bs cs o passed ∙ ap (λ (x : ℕ). output_after x cs o) k ∙ sym w.output,
    )

pub reordered_written : promised.ReorderedWritten
unfolding promised.ReorderedWritten plan_refusal sum_refusal jobs_refusal over norm
reordered_written bs cs p o o' o'' r s a b e rules v w =
    let t = table_in bs in
    let u = table_in cs in
    let good = (image_table bs a).good in
    let other = (image_table cs b).good in
    let sums : over t p ≡ true → norm t p ≡ norm u p = λ k. first.same_norm t u rules good other p k (over_same t u p e k) in
    let plans : plan_refusal t p ≡ plan_refusal u p =
    chain (ap (λ (n : ℕ). jobs_refusal n p) e) (λ z. ap (λ (x : ℕ). cond (leb x 4096) 0 9) (sums (passed (all_below t.jobs p) 7 z))) in
    alike (chain (a ∙ sym b) (λ z. plans))
    (λ z.
    let k = (accepted_both bs p z).plan.over_table in
    ap all_low_first (first.same_first_run t u rules good other p k (over_same t u p e k))) v w
