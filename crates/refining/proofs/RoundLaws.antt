-- Rounds of new rows: they begin with the first rows, each keeps what the next one asks, and the one that makes no new prime ends them.
-- Assumes nothing.
use mathlib.Core.Path.{◌≡◌, refl, sym, subst, ap, ◌∙◌}
use mathlib.Core.Bool.{Bool, true, false}
use mathlib.Core.List.{List, ◌++◌}
use Prim.Native.Nat.{ℕ, ◌+◌, ◌*◌, ◌<◌}
use native.Mathlib.Omega.{arith}
use lib.ListN.{length, take, drop, replicate, length-append}
use lib.Seq.{take_at}
use Rattle.bpa.specs.Norms.{norms, Good}
use Rattle.bpa.specs.Method as method
use Rattle.rules.specs.Places.{table_of}
use Rattle.norm.proofs.NormedTables.{good_norms}
use Rattle.rows.specs.Region.{row, Within, old_half}
use Rattle.facts.specs.Columns.{norms_in, jobs_in, table_by}
use Rattle.facts.specs.declared.Facts.{Facts}
use Rattle.facts.proofs.TableFacts.{tables}
use Rattle.decompositions.specs.Decompositions.{Alone, Decomposition, Refines, Covers, Final}
use Rattle.decompositions.proofs.NoNewPrime.{primes_stay, same_rows, composite, composite_falls}
use Rattle.decompositions.proofs.FirstRows.{first_decomposition, first_covers}
use Rattle.decompositions.proofs.Complete.{refinement_covers}
use Rattle.decompositions.proofs.FinalRows.{final_rows}
use Rattle.settled.specs.SettledJobs.{History}
use Rattle.fingerprints.specs.Fingerprints.{KnownPrints}
use Rattle.fingerprints.specs.declared.Prints.{Prints}
use Rattle.halves.specs.HalvesWritten.{FirstIn, CanKeep, Kept}
use Rattle.new_rows.specs.NewRows.{RowsReady}
use Rattle.refining.specs.Rounds.{Rounded, FinalIn}
use Rattle.new_rows.proofs.KnownRows.{all_moved, known_none, known_agree}
use Rattle.refining.proofs.AgreeingRows.{first_agree, decomposition_agree, refines_agree}

-- BETWEEN THE ROUNDS: the old rows are a decomposition, and plans that match for every number of rounds are equal by them
pub record BetweenRounds (facts : Facts) (lens old : List ℕ) (moved : List Bool) (new : List ℕ) (prints : Prints) : Type 0 where
  pub ready : RowsReady facts lens old lens moved new
  pub cover : Covers (table_by facts) (row lens old)
  pub known : KnownPrints (jobs_in facts) (row lens old) moved prints

-- BEFORE THE COPY of the new rows over the old ones
pub record BeforeCopy (facts : Facts) (lens old : List ℕ) (moved : List Bool) (new : List ℕ) (prints : Prints) : Type 0 where
  pub can_keep : CanKeep (jobs_in facts) lens new moved old
  pub next : (after : List ℕ) → Kept (jobs_in facts) lens new old after → BetweenRounds facts lens after moved new prints

-- the new rows, copied over the old ones
module _ (facts : Facts) (lens new : List ℕ) (moved : List Bool) (prints : Prints) (before after : List ℕ)
    (kept : Kept (jobs_in facts) lens new before after) (size : length before ≡ 12288) where
  rows_copied : length moved ≡ 24 → Within (jobs_in facts) lens new → Decomposition (table_by facts) (norms_in facts) (row lens after) →
      Covers (table_by facts) (row lens after) → History facts (row lens after) moved → KnownPrints (jobs_in facts) (row lens new) moved prints →
      BetweenRounds facts lens after moved new prints
  rows_copied flags w d c h k = record {
    ready = record {
      flags = flags;
      old_within = record { few = w.few; table = w.table; size = kept.size ∙ size; some = w.some; short = w.short };
      new_within = w;
      decomposition = d;
      same = λ j l. sym (kept.old_are j l);
      same_length = λ j l. refl;
      history = h;
    };
    cover = c;
    known = known_agree (jobs_in facts) (row lens new) (row lens after) moved prints k kept.old_are;
  }

-- THE FIRST ROWS
pub rounds_begin : (facts : Facts) (lens new old : List ℕ) (prints : Prints) → length old ≡ 12288 → FirstIn facts lens new →
    BeforeCopy facts lens old (replicate 24 true) new prints
unfolding table_of
rounds_begin facts lens new old prints size f = record {
  can_keep = record {
    size = size;
    within = f.within;
    others = λ j h z. absurd (all_moved j (omega (arith, f.within.few)) z);
  };
  next = λ after kept.
      let t = table_by facts in
      let ns = norms_in facts in
      let g = (tables facts).good in
      let d = row lens after in
      let first = first_agree t ns (row lens new) d kept.old_are f.first in
      rows_copied facts lens new (replicate 24 true) prints old after kept size refl f.within (first_decomposition t ns g d first)
      (first_covers t ns g d first)
      (record {
        before = d;
        decomposition = λ j h z. absurd (all_moved j (omega (arith, f.within.few)) z);
        refines = λ j h z. absurd (all_moved j (omega (arith, f.within.few)) z);
        same = λ j h z. refl;
      })
      (known_none (jobs_in facts) (row lens new) prints f.within.few);
}

-- A ROUND from old rows d to new rows e
module _ {facts : Facts} {old_lens old : List ℕ} {flags : List Bool} {new₀ lens new : List ℕ} {moved : List Bool} {prints₀ : Prints} {out : Bool}
    (r : BetweenRounds facts old_lens old flags new₀ prints₀) (w : Rounded facts old_lens old lens moved new out) where
  pub rounds_go_on : (prints : Prints) → KnownPrints (jobs_in facts) (row lens new) moved prints → BeforeCopy facts lens old moved new prints
  unfolding row table_of
  rounds_go_on prints known =
      let t = table_by facts in
      let ns = norms_in facts in
      let g = (tables facts).good in
      let d = row old_lens old in
      record {
        can_keep = record {
          size = r.ready.old_within.size;
          within = w.rows.within;
          others = λ j h z.
              ap (λ (n : ℕ). take n (drop (512 * j) old)) (w.rows.others_length j h z) ∙ sym (w.rows.others j h z);
        };
        next = λ after kept.
            let e = row lens after in
            let again : Decomposition t ns e = decomposition_agree t ns (row lens new) e kept.old_are w.rows.decomposition in
            let refined : Refines t ns d e = refines_agree t ns (row lens new) e kept.old_are g d w.rows.decomposition w.rows.refines in
            rows_copied facts lens new moved prints old after kept r.ready.old_within.size w.rows.flags w.rows.within again
            (refinement_covers t ns g d e r.ready.decomposition again r.cover refined)
            (record {
              before = d;
              decomposition = λ j h z. r.ready.decomposition;
              refines = λ j h z. refined;
              same = λ j h z. sym (kept.old_are j h ∙ w.rows.others j h z);
            })
            known;
      }

  -- THE MEASURE FALLS if a prime is new: the old rows are copies of the new ones of the round before
  pub rounds_fall : out ≡ true → composite (table_by facts) (row lens new) < composite (table_by facts) (row old_lens new₀)
  unfolding table_of
  rounds_fall h =
      let t = table_by facts in
      let ns = norms_in facts in
      let d = row old_lens old in
      let e = row lens new in
      let (j, l, p, q) = w.primes.found h in
      composite_falls t (row old_lens new₀) e
      (λ i k a. primes_stay t ns (tables facts).good d e r.ready.decomposition i (w.rows.refines i k) (sym (r.ready.same i k) ∙ a)) j l p
      (λ a. q (sym (r.ready.same j l) ∙ a))

  -- THE END if none is
  pub rounds_end : out ≡ false → FinalIn facts old_lens (old ++ new)
  unfolding table_of old_half
  rounds_end h =
      let t = table_by facts in
      let ns = norms_in facts in
      let table = facts.table in
      let good : Good t (norms t) = (good_norms (jobs_in facts) table.rules.now (norms_in facts) table.list table.exact table.finite).good in
      let d = row old_lens old in
      let e = row lens new in
      let front : take 12288 (old ++ new) ≡ old = take_at old new 12288 r.ready.old_within.size in
      let final : Final t ns d =
      final_rows t ns (tables facts).good good d e r.ready.decomposition w.rows.decomposition r.cover w.rows.refines
      (same_rows t ns d e w.rows.decomposition w.rows.refines (w.primes.none h)) in
      record {
        size = length-append old new ∙ omega (arith, r.ready.old_within.size, w.rows.within.size);
        within = subst (Within (jobs_in facts) old_lens) (sym front) r.ready.old_within;
        final = subst (λ (l : List ℕ). Final t ns (row old_lens l)) (sym front) final;
      }
