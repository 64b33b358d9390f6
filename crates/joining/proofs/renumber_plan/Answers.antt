-- `joining::renumber_plan` meets its contract. Assumes nothing.
use Rattle.std.proofs.Common.{◌≡◌, ℕ, suc, ◌+◌, ◌-◌, ◌≤◌, ◌<◌, List, [], ◌∷◌, length, get_or, take, sym, ap, ◌∙◌, arith}
use lib.ListN.{set}
use lib.Seq.{length-take-le, take-suc, take_all}
use Rattle.area.specs.Areas.{put}
use Rattle.area.proofs.Puts.{put_length}
use Rattle.area.proofs.PutLaws.{put_none, put_one, put_put}
use Rattle.bpa.proofs.Basics.JobsBelow.{below_at}
use Rattle.joined.specs.Joined.{renumbered}
use Rattle.joined.proofs.RenumberedPlans.{renumbered_append, renumbered_length}
use Rattle.joining.proofs.renumber_plan.Goals as goal

-- the jobs so far, and one more
module _ (n : ℕ) (plan out₀ out : List ℕ) (i : ℕ) (room : length plan ≤ length out₀) (few : i ≤ length plan) (e : out ≡ put 0 (renumbered n (take i plan)) out₀) where
  abbrev done : List ℕ
  done = renumbered n (take i plan)

  many : length done ≡ i
  many = renumbered_length n (take i plan) ∙ length-take-le i plan few

  same_size : length out ≡ length out₀
  same_size = ap length e ∙ put_length 0 done out₀ (omega (arith, many, few))

  next_job : i < length plan → set out i (n + get_or plan i 0) ≡ put 0 (renumbered n (take (i + 1) plan)) out₀
  unfolding renumbered
  next_job h =
      let v = n + get_or plan i 0 in
      let at : 0 + length done ≡ i = omega (arith, many) in
      let one : suc i ≡ i + 1 = omega arith in
      sym (put_one i v out (omega (arith, same_size)))
      ∙ ap (put i (v ∷ [])) e ∙ ap (λ (k : ℕ). put k (v ∷ []) (put 0 done out₀)) (sym at)
      ∙ put_put 0 done (v ∷ []) out₀ (omega arith)
      ∙ ap (λ (l : List ℕ). put 0 l out₀)
      (sym (renumbered_append n (take i plan) (get_or plan i 0 ∷ [])) ∙ ap (renumbered n) (sym (take-suc plan i 0 h) ∙ ap (λ (k : ℕ). take k plan) one))

pub loop-i-init : goal.loop-i-init
unfolding renumbered
loop-i-init c = sym (put_none 0 c.args.out.now)

pub overflow_add-out : goal.overflow_add-out
overflow_add-out c = record { fits = omega (arith, below_at (256 - c.args.jobs) c.args.plan.now c.loop-i.i c.requires.1 (omega arith)) }

pub loop-i-preserved : goal.loop-i-preserved
loop-i-preserved c =
    next_job c.args.jobs c.args.plan.now c.args.out.now c.loop-i.out c.loop-i.i c.requires.0 (omega arith) c.loop-i.invariant (omega arith)

pub returns : goal.returns
returns c =
    c.loop-i.invariant
    ∙ ap (λ (l : List ℕ). put 0 (renumbered c.args.jobs l) c.args.out.now) (take_all c.loop-i.i c.args.plan.now (omega arith))
