-- Laws of plans whose jobs all have a norm so far. Assumes nothing.
use mathlib.Core.Path.{◌≡◌, refl}
use mathlib.Core.Bool.{true}
use mathlib.Core.List.{List, [], ◌∷◌, ◌++◌}
use Prim.Native.Nat.{ℕ, ◌<◌}
use lib.Dec.{ltb}
use lib.ListN.{get_or}
use borrow.Author.Tests.{ltb-true, lt-ltb}
use Rattle.bpa.specs.Norms.{all_known}
use Rattle.bpa.proofs.Basics.Cases.{and_left, and_right, and_both}

pub known_parts : (ns : List ℕ) (j : ℕ) (js : List ℕ) → all_known ns (j ∷ js) ≡ true → (0 < get_or ns j 0) × (all_known ns js ≡ true)
unfolding all_known
known_parts ns j js h =
    let b = ltb 0 (get_or ns j 0) in
    (ltb-true 0 (get_or ns j 0) (and_left b (all_known ns js) h), and_right b (all_known ns js) h)

pub known_cons : (ns : List ℕ) (j : ℕ) (js : List ℕ) → 0 < get_or ns j 0 → all_known ns js ≡ true → all_known ns (j ∷ js) ≡ true
unfolding all_known
known_cons ns j js h k = and_both (ltb 0 (get_or ns j 0)) (all_known ns js) (lt-ltb 0 (get_or ns j 0) h) k

pub known_append : (ns p q : List ℕ) → all_known ns p ≡ true → all_known ns q ≡ true → all_known ns (p ++ q) ≡ true
known_append ns [] q h k = k
known_append ns (j ∷ p) q h k =
    let (a, b) = known_parts ns j p h in
    known_cons ns j (p ++ q) a (known_append ns p q b k)

pub known_split : (ns p q : List ℕ) → all_known ns (p ++ q) ≡ true → (all_known ns p ≡ true) × (all_known ns q ≡ true)
unfolding all_known
known_split ns [] q h = (refl, h)
known_split ns (j ∷ p) q h =
    let (a, b) = known_parts ns j (p ++ q) h in
    let (c, d) = known_split ns p q b in
    (known_cons ns j p a c, d)
