-- Ways down the trees: a slot further, what a slot leads to, and an empty slot that is filled. Assumes nothing.
use mathlib.Core.Path.{◌≡◌, sym, ap, ◌∙◌, subst}
use mathlib.Core.List.{List}
use mathlib.Core.Logic.{◌⊎◌, inl, inr}
use Prim.Native.Nat.{ℕ, ◌/◌, ◌≤◌, ◌<◌}
use native.Mathlib.Omega.{arith}
use lib.ListN.{length, get_or, set}
use lib.Seq.{get_or-set_same, get_or-set_other}
use Rattle.outcome_check.specs.RuleTrees.{slot_below, Way, here, down, Leads}

module _ (slots : List ℕ) where
  pub way_further : {s b s' b' : ℕ} → Way slots s b s' b' → get_or slots s' 0 < 252 →
      Way slots s b (slot_below (get_or slots s' 0) b') (b' / 2)
  way_further (here s b) l = down s b (slot_below (get_or slots s 0) b) (b / 2) l (here (slot_below (get_or slots s 0) b) (b / 2))
  way_further (down s b s' b' h w) l = down s b (slot_below (get_or slots s' 0) b') (b' / 2) h (way_further w l)

  -- a slot leads to the rule that it holds, and to those that the slots below that rule lead to
  pub leads_on : {s b e : ℕ} → Leads slots s b e →
      (get_or slots s 0 ≡ e) ⊎ ((get_or slots s 0 < 252) × Leads slots (slot_below (get_or slots s 0) b) (b / 2) e)
  leads_on {e = e} l = by_way l.way l.holds
    where
      by_way : {s b s' b' : ℕ} → Way slots s b s' b' → get_or slots s' 0 ≡ e →
          (get_or slots s 0 ≡ e) ⊎ ((get_or slots s 0 < 252) × Leads slots (slot_below (get_or slots s 0) b) (b / 2) e)
      by_way (here s b) h = inl h
      by_way (down s b s' b' k w) h = inr (k, record { last = s'; last_rest = b'; way = w; holds = h; small = l.small })

  -- an empty slot is filled: what slots led to they still lead to, and where the way ended it leads to what was put there
  module _ (at v : ℕ) (empty : 252 ≤ get_or slots at 0) where
    other : (s : ℕ) → get_or slots s 0 < 252 → get_or (set slots at v) s 0 ≡ get_or slots s 0
    other s h = get_or-set_other slots at s v 0 (λ q. omega (arith, ap (λ (x : ℕ). get_or slots x 0) q, h, empty))

    way_filled : {s b s' b' : ℕ} → Way slots s b s' b' → Way (set slots at v) s b s' b'
    way_filled (here s b) = here s b
    way_filled (down s b s' b' h w) =
        let same = other s h in
        down s b s' b' (omega (arith, same, h)) (subst (λ (x : ℕ). Way (set slots at v) (slot_below x b) (b / 2) s' b') (sym same) (way_filled w))

    pub leads_filled : {s b e : ℕ} → Leads slots s b e → Leads (set slots at v) s b e
    leads_filled l = record {
      last = l.last;
      last_rest = l.last_rest;
      way = way_filled l.way;
      holds = other l.last (omega (arith, l.holds, l.small)) ∙ l.holds;
      small = l.small;
    }

    pub leads_new : {s b b' : ℕ} → at < length slots → v < 252 → Way slots s b at b' → Leads (set slots at v) s b v
    leads_new {b' = b'} inside small w = record {
      last = at;
      last_rest = b';
      way = way_filled w;
      holds = get_or-set_same slots at v 0 inside;
      small = small;
    }
