-- The rules that a pass keeps in buckets: each stays, and the one that is added is kept. Assumes nothing.
use mathlib.Core.Path.{◌≡◌, sym, ap, ◌∙◌, subst}
use mathlib.Core.List.{List}
use Prim.Native.Nat.{ℕ, suc, ◌<◌}
use native.Mathlib.Omega.{arith}
use lib.Dec.{eqb}
use lib.ListN.{length, get_or, set}
use lib.Seq.{get_or-set_same, get_or-set_other}
use borrow.Author.Tests.{eqb-true, eqb-false}
use Rattle.bpa.proofs.Basics.Cases.{by_test}
use Rattle.repeated.specs.Repeated.{place_at, bucket_of, Leads, here, back, Kept}
use Rattle.repeated.proofs.Links.{leads_still}

module _ (rs links last : List ℕ) (i : ℕ) where
  pub kept_later : (e : ℕ) → Kept rs links last i e → Kept rs links last (suc i) e
  kept_later e k = record { first = omega (arith, k.first); leads = k.leads }

  -- rule i becomes the last of its bucket, and its link leads to the one that was
  module _ (b : ℕ) (small : i < 252) (size : length links ≡ 252) (bucket : b < length last) where
    abbrev links' : List ℕ
    links' = set links i (get_or last b 0)

    abbrev last' : List ℕ
    last' = set last b i

    pub kept_added : b ≡ bucket_of (place_at rs i) → Kept rs links' last' (suc i) i
    kept_added is =
        let same : get_or last' (bucket_of (place_at rs i)) 0 ≡ i = ap (λ (x : ℕ). get_or last' x 0) (sym is) ∙ get_or-set_same last b i 0 bucket in
        record { first = omega (arith, same); leads = subst (λ (x : ℕ). Leads links' x i) (sym same) (here i) }

    pub kept_still : (e : ℕ) → Kept rs links last i e → Kept rs links' last' (suc i) e
    kept_still e k =
        let c = bucket_of (place_at rs e) in
        let still = leads_still links i (get_or last b 0) (get_or last c 0) e k.first k.leads in
        by_test (eqb b c)
        (λ t.
        let is : b ≡ c = eqb-true b c t in
        let same : get_or last' c 0 ≡ i = ap (λ (x : ℕ). get_or last' x 0) (sym is) ∙ get_or-set_same last b i 0 bucket in
        let link : get_or links' i 0 ≡ get_or last c 0 = get_or-set_same links i (get_or last b 0) 0 (omega arith) ∙ ap (λ (x : ℕ). get_or last x 0) is in
        record {
          first = omega (arith, same);
          leads = subst (λ (x : ℕ). Leads links' x e) (sym same)
              (back i e small (omega (arith, link, k.first)) (subst (λ (x : ℕ). Leads links' x e) (sym link) still));
        })
        (λ f.
        let same : get_or last' c 0 ≡ get_or last c 0 = get_or-set_other last b c i 0 (λ q. eqb-false b c f (sym q)) in
        record { first = omega (arith, same, k.first); leads = subst (λ (x : ℕ). Leads links' x e) (sym same) still })
