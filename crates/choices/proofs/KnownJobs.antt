-- Jobs by rising norm: those passed are known, and so is each whose norm is lower than that of the next one. Assumes nothing.
use mathlib.Core.Path.{◌≡◌, sym, ap, ◌∙◌, subst}
use mathlib.Core.List.{List}
use Prim.Native.Nat.{ℕ, ◌+◌, ◌≤◌, ◌<◌}
use native.Mathlib.Omega.{arith}
use lib.ListN.{length, get_or, take, set, length-set}
use lib.Seq.{get_or-set_same, get_or-set_other}
use borrow.Author.Count.{below_more}
use Rattle.bpa.proofs.Basics.Order.{less_precedes, precedes_distinct}
use Rattle.rules.specs.Places.{table_of}
use Rattle.norm.specs.NormArrays.{GoodNorms}
use Rattle.order.specs.Order.{ordered}
use Rattle.order.proofs.OrderedJobs.{place_below, place_complete, place_rising, place_earlier}
use Rattle.first_run.specs.FirstRun.{run_of}
use Rattle.area.specs.Numbers.{all_low_first}
use Rattle.lowering.specs.Lowering.{Picks, short_row, Chosen}
use Rattle.least_moves.specs.Chains.{LeastChains, ChainFrom}
use Rattle.choices.specs.Choices.{Keeps}
use Rattle.lowering.proofs.LoweringRules.{one_lowers, picked}

pub record KnownJob (n : ℕ) (rs ns low rows : List ℕ) (j : ℕ) : Type 0 where
  pub picks : Picks n rs ns j (get_or low j 0)
  pub row : get_or ns j 0 ≤ 85 → short_row ns rows j ≡ all_low_first (run_of (table_of n rs) j)

-- the jobs at the places before k are known
pub record Known (n : ℕ) (rs ns ord low rows : List ℕ) (k : ℕ) : Type 0 where
  pub size : length rows ≡ 4080
  pub table : length low ≡ 24
  pub job : (i : ℕ) → i < k → KnownJob n rs ns low rows (get_or ord i 0)

-- what is known up to a norm is known up to a lower one
pub chosen_less : (n : ℕ) (rs ns low rows : List ℕ) (a b : ℕ) → a ≤ b → Chosen n rs ns low rows b → Chosen n rs ns low rows a
chosen_less n rs ns low rows a b h c = record {
  size = c.size;
  picks = λ j l m. c.picks j l (omega arith);
  row = λ j l m s. c.row j l (omega arith) s;
}

module _ (n : ℕ) (rs ns : List ℕ) (g : GoodNorms n rs ns) where
  -- the chain of a job is not empty
  pub chain_of : (bound : ℕ) (first next : List ℕ) → LeastChains rs ns bound first next → (j : ℕ) → j < n → get_or ns j 0 ≤ bound →
      ChainFrom rs ns next j (get_or first j 0)
  chain_of bound first next c j h w =
      let start = c.starts j (omega (arith, g.list.jobs)) w in
      let (i, low) = one_lowers n rs ns g j h in
      record {
        own = start.own (start.some i (omega arith) low);
        none = λ k l m. omega (arith, start.before k m);
        goes_on = λ k m. c.goes_on j k w m;
      }

  module _ (ord : List ℕ) (o : take n ord ≡ ordered ns n) (low rows : List ℕ) (k : ℕ) (v : Known n rs ns ord low rows k) where
    pub chosen_all : (bound : ℕ) → n ≤ k → Chosen n rs ns low rows bound
    chosen_all bound h =
        let known : (j : ℕ) → j < n → KnownJob n rs ns low rows j =
        λ j l. let (i, m, e) = place_complete ns ord n o j l in subst (KnownJob n rs ns low rows) e (v.job i (omega arith)) in
        record { size = v.size; picks = λ j l m. (known j l).picks; row = λ j l m s. (known j l).row s }

    -- the job at place k
    module _ (h : k < n) where
      pub chosen_below : Chosen n rs ns low rows (get_or ns (get_or ord k 0) 0)
      chosen_below =
          let known : (j : ℕ) → j < n → get_or ns j 0 < get_or ns (get_or ord k 0) 0 → KnownJob n rs ns low rows j =
          λ j l m.
          let (i, b, e) = place_earlier ns ord n o k j h l (less_precedes ns j (get_or ord k 0) m) in
          subst (KnownJob n rs ns low rows) e (v.job i b) in
          record { size = v.size; picks = λ j l m. (known j l m).picks; row = λ j l m s. (known j l m).row s }

      pub known_more : (rule : ℕ) (rows' : List ℕ) → Picks n rs ns (get_or ord k 0) rule → Keeps n rs ns (get_or ord k 0) rule rows rows' →
          length rows' ≡ length rows → Known n rs ns ord (set low (get_or ord k 0) rule) rows' (k + 1)
      known_more rule rows' p q e =
          let x = get_or ord k 0 in
          let below : x < n = place_below ns ord n o k h in
          let here : get_or (set low x rule) x 0 ≡ rule = get_or-set_same low x rule 0 (omega (arith, v.table, g.list.jobs)) in
          record {
            size = e ∙ v.size;
            table = length-set low x rule ∙ v.table;
            job = below_more (λ (i : ℕ). KnownJob n rs ns (set low x rule) rows' (get_or ord i 0)) k
                (λ i l.
                let other : get_or ord i 0 ≡ x → ⊥ = precedes_distinct ns (get_or ord i 0) x (place_rising ns ord n o i k l h) in
                record {
                  picks = subst (Picks n rs ns (get_or ord i 0)) (sym (get_or-set_other low x (get_or ord i 0) rule 0 other)) (v.job i l).picks;
                  row = λ s. q.others (get_or ord i 0) other s ∙ (v.job i l).row s;
                })
                (record {
                  picks = subst (Picks n rs ns x) (sym here) p;
                  row = λ s. q.row s ∙ ap all_low_first (sym (picked n rs ns g x rule below p));
                });
          }
