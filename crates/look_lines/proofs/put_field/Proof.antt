-- `look_lines::put_field` meets its contract. Assumes nothing.
use mathlib.Core.Path.{◌≡◌, ap, ◌∙◌}
use mathlib.Core.List.{List, ◌++◌}
use Prim.Native.Nat.{ℕ, ◌-◌}
use native.Mathlib.Nat.{sub-zero}
use native.Mathlib.Omega.{arith}
use borrow.Author.Rules.{rules}
use lib.ListN.{length, take}
use Rattle.look_lines.specs.Numbers.{number}
use Rattle.look_lines.specs.Lines.{field}
use Rattle.look_lines.proofs.Numbers.{number_is, number_few}
use Rattle.look_lines.proofs.Puts.{put_both, put_as}
use Rattle.look_lines.proofs.put_field.Statement.{statement}
use Rattle.look_lines.proofs.put_field.Tie as tie

-- what is put behind the word
digits_put : (c : tie.After-decimal-size) → take (c.decimal-size.result - 0) c.decimal-size.new.out ≡ number c.args.value
digits_put c =
    let d = c.decimal-size in
    ap (λ (k : ℕ). take k d.new.out) (sub-zero d.result) ∙ d.ensures.1.1.0
    ∙ number_is c.args.value d.result d.ensures.1.0 c.ranges.value.fits

put_requires_2 : tie.Need-put-requires
put_requires_2 c κs =
    omega (arith, ap length (digits_put c.before.before.before.before.before.before), number_few c.args.value c.ranges.value.fits, c.put-next.ensures.next, c.put-next.auto.area, c.requires)

returns : tie.Need-returns
unfolding field
returns c = (
  omega (arith, c.put-next.ensures.next, c.put.ensures.next, ap length (digits_put c.before.before.before.before.before.before.before.before.before), number_few c.args.value c.ranges.value.fits),
  put_as (ap (λ (l : List ℕ). c.args.word.now ++ l) (digits_put c.before.before.before.before.before.before.before.before.before))
      (put_both (omega (arith, c.requires)) c.put-next.ensures c.put.ensures),
)

pub put_field_spec : {M : Type 1} → statement M
put_field_spec =
    tie.close
    (tie.spec
    (λ c κs. search rules)
    (λ c κs. search rules)
    (λ c. search rules)
    (λ c. search rules)
    (λ c. search rules)
    put_requires_2
    (λ c. search rules)
    returns)
