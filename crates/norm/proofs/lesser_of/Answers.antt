-- `norm::lesser_of` meets its contract. Assumes nothing.
use Rattle.std.proofs.Common.{ℕ, sym, ap, ◌∙◌}
use Rattle.bpa.specs.Norms.{lesser}
use Rattle.norm.proofs.Lesser.{lesser_left, lesser_right}
use Rattle.norm.proofs.lesser_of.Goals as goal

pub returns-in-0-default : goal.returns-in-0-default
returns-in-0-default c = sym (ap (λ (x : ℕ). lesser x c.args.b) c.in-0-default.is-0 ∙ lesser_left c.args.b)

pub returns-in_default-eq0 : goal.returns-in_default-eq0
returns-in_default-eq0 c = sym (ap (lesser c.args.a) c.in_default-eq0.is-1 ∙ lesser_right c.args.a)
