-- `moves::find_in` meets its contract. Assumes nothing.
use Rattle.std.proofs.Common.{◌∙◌, refl, sym, ap, subst, ◌<◌, ℕ, false, get_or, arith}
use native.Mathlib.Numerals.{add-one}
use Rattle.rules.specs.Places.{rule_count}
use Rattle.repeated.specs.Repeated.{bucket_of, Stands}
use Rattle.moves.proofs.NthRule.{found_none}
use Rattle.moves.proofs.PassOverRules.{passing_start, passing_other, passing_again, passing_new, passing_ends}
use Rattle.moves.proofs.find_in.Goals as goal

pub loop-at-init : goal.loop-at-init
loop-at-init c = passing_start c.args.bytes.now c.args.job c.args.index

pub loop-at-preserved-then-job : goal.loop-at-preserved-then-job
loop-at-preserved-then-job c =
    let rs = c.args.bytes.now in
    let l = c.loop-at in
    let bytes : (k : ℕ) → get_or rs k 0 < 256 = λ k. omega (arith, c.type_inv.bytes k) in
    rw add-one
    (passing_other c.args.jobs rs c.requires bytes c.args.job c.args.index l.left l.links l.last l.at
    (omega (arith, c.count-at-end.ensures)) l.invariant (λ e. c.if-job.true (c.job.ensures.0 ∙ e)))

pub loop-at-preserved-then-stands : goal.loop-at-preserved-then-stands
loop-at-preserved-then-stands c =
    let rs = c.args.bytes.now in
    let l = c.loop-at in
    let bytes : (k : ℕ) → get_or rs k 0 < 256 = λ k. omega (arith, c.type_inv.bytes k) in
    rw add-one
    (passing_again c.args.jobs rs c.requires bytes c.args.job c.args.index l.left l.links l.last l.at
    (omega (arith, c.count-at-end.ensures)) l.invariant (sym c.job.ensures.0 ∙ c.if-job.false) (c.stands.ensures.yes c.if-stands.true))

pub returns-then-left-eq0-clause-found : goal.returns-then-left-eq0-clause-found
returns-then-left-eq0-clause-found c =
    let rs = c.args.bytes.now in
    let l = c.loop-at in
    let bytes : (k : ℕ) → get_or rs k 0 < 256 = λ k. omega (arith, c.type_inv.bytes k) in
    let denied : Stands rs l.links (get_or l.last c.bucket-b.result 0) l.at false =
    subst (Stands rs l.links (get_or l.last c.bucket-b.result 0) l.at) c.if-stands.false
    (subst (λ (x : ℕ). Stands rs l.links x l.at c.stands.result) c.from.ensures c.stands.ensures) in
    passing_ends c.args.jobs rs c.requires bytes c.args.job c.args.index l.left l.links l.last l.at
    (omega (arith, c.count-at-end.ensures)) l.invariant (sym c.job.ensures.0 ∙ c.if-job.false) c.bucket-b.result
    (c.bucket-b.ensures.is ∙ ap bucket_of c.place.ensures) denied c.if-left-eq0.true

pub loop-at-preserved : goal.loop-at-preserved
loop-at-preserved c =
    let rs = c.args.bytes.now in
    let l = c.loop-at in
    let bytes : (k : ℕ) → get_or rs k 0 < 256 = λ k. omega (arith, c.type_inv.bytes k) in
    let denied : Stands rs l.links (get_or l.last c.bucket-b.result 0) l.at false =
    subst (Stands rs l.links (get_or l.last c.bucket-b.result 0) l.at) c.if-stands.false
    (subst (λ (x : ℕ). Stands rs l.links x l.at c.stands.result) c.from.ensures c.stands.ensures) in
    rw add-one
    (passing_new c.args.jobs rs c.requires bytes c.args.job c.args.index l.left l.links l.last l.at
    (omega (arith, c.count-at-end.ensures)) l.invariant (sym c.job.ensures.0 ∙ c.if-job.false) c.bucket-b.result
    (c.bucket-b.ensures.is ∙ ap bucket_of c.place.ensures) denied c.bucket-b.ensures.small (omega arith))

pub returns-clause-none : goal.returns-clause-none
returns-clause-none c = λ _.
    let rs = c.args.bytes.now in
    let l = c.loop-at in
    found_none rs c.args.job c.args.index l.left l.at (rule_count rs) refl (omega (arith, c.count-at-end.ensures)) l.invariant.ahead
