-- `repeated::stands` meets its contract. Assumes nothing.
use Rattle.std.proofs.Common.{◌≡◌, ◌∙◌, ap, sym, subst, ℕ, arith, rules}
use mathlib.Core.Bool.{true≢false}
use Rattle.repeated.specs.Repeated.{place_at, Leads}
use Rattle.repeated.proofs.EqualPlaces.{same_place}
use Rattle.repeated.proofs.Links.{leads_on, leads_nowhere}
use Rattle.repeated.proofs.stands.Goals as goal

pub loop-k-init : goal.loop-k-init
loop-k-init c = λ l. (l, λ e h s. h)

pub returns-then-eq : goal.returns-then-eq
returns-then-eq c =
    let same : c.place.result.now ≡ c.place-in-loop-k.result.now = search rules in
    record {
      yes = λ h. record {
        earlier = c.loop-k.k;
        before = c.loop-k-test.true;
        same = same_place c.args.rules.now c.loop-k.k c.args.i (sym c.place.ensures ∙ same ∙ c.place-in-loop-k.ensures);
      };
      no = λ h. absurd (true≢false h);
    }

pub returns-then-k-before : goal.returns-then-k-before
returns-then-k-before c =
    let links = c.args.links.now in
    let apart : c.place.result.now ≡ c.place-in-loop-k.result.now → ⊥ = search rules in
    record {
      yes = λ h. absurd (true≢false (sym h));
      no = λ h l e m s.
          let other : c.loop-k.k ≡ e → ⊥ = λ f.
          apart (c.place.ensures ∙ ap (place_at c.args.rules.now) f ∙ s ∙ sym c.place-in-loop-k.ensures) in
          other (leads_nowhere links c.loop-k.k e (omega (arith, c.from-before.ensures)) ((c.loop-k.invariant l).1 e m s));
    }

pub loop-k-preserved : goal.loop-k-preserved
loop-k-preserved c =
    let links = c.args.links.now in
    let apart : c.place.result.now ≡ c.place-in-loop-k.result.now → ⊥ = search rules in
    λ l. (
      omega arith,
      λ e m s.
          let other : c.loop-k.k ≡ e → ⊥ = λ f.
          apart (c.place.ensures ∙ ap (place_at c.args.rules.now) f ∙ s ∙ sym c.place-in-loop-k.ensures) in
          subst (λ (x : ℕ). Leads links x e) (sym c.from-before.ensures)
          (leads_on links c.loop-k.k e other ((c.loop-k.invariant l).1 e m s)),
    )

pub returns : goal.returns
returns c = record {
  yes = λ h. absurd (true≢false (sym h));
  no = λ h l e m s. absurd (omega (arith, (c.loop-k.invariant l).0));
}
