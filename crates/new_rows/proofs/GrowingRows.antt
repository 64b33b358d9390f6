-- The new rows, job by job in order beside the old rows: written if they differ from these. Assumes nothing.
use mathlib.Core.Path.{◌≡◌, refl, sym, subst, ◌∙◌}
use mathlib.Core.Bool.{Bool, true, false}
use mathlib.Core.List.{List}
use Prim.Native.Nat.{ℕ, ◌+◌, ◌*◌, ◌-◌, ◌≤◌, ◌<◌}
use native.Mathlib.Omega.{arith}
use lib.ListN.{length, get_or, set, replicate, length-set, get_or-replicate}
use lib.Seq.{slice, length-slice, get_or-set_other}
use Rattle.area.specs.Areas.{put}
use Rattle.area.proofs.Puts.{put_length}
use Rattle.bpa.specs.Method as method
use Rattle.bpa.proofs.Basics.Order.{precedes_distinct}
use Rattle.decompositions.specs.Decompositions.{Decomposed, Refined, NewRow}
use Rattle.decompositions.proofs.NewRows.{Earlier}
use Rattle.rules.specs.Places.{table_of}
use Rattle.rows.specs.Region.{row, Within}
use Rattle.rows.specs.Rows.{rows_of}
use Rattle.rows.specs.declared.Rows.{Rows}
use Rattle.rows.proofs.OneRow.{row_new, row_old}
use Rattle.facts.specs.Columns.{norms_in, order_in, jobs_in, bytes_in, table_by}
use Rattle.facts.specs.declared.Facts.{Facts}
use Rattle.facts.proofs.TableFacts.{tables, jobs_few, place_job, place_rises}
use Rattle.fingerprints.specs.Fingerprints.{AllPrinted}
use Rattle.fingerprints.specs.declared.Prints.{Prints}
use Rattle.settled.specs.SettledJobs.{History, Settling, EarlierRefined, Settles}
use Rattle.decomposing.specs.Decomposing.{Decomposable, RowWritten}
use Rattle.new_rows.specs.NewRows.{RowsReady, NewRows}
use Rattle.halves.proofs.Lengths.{length_set_each}
use Rattle.new_rows.proofs.Flags.{low_other, low_before}
use Rattle.new_rows.proofs.InOrder.{RefinedBefore, earlier_places, decomposed_before, refined_more, refined_all, decomposed_all}

-- the new rows of the jobs before a place of the order are right. A job that has not moved has its old row, and so has each job from that place
-- on. One that is not stale has not moved in this round or the last one, of which `flags` tells.
pub record Growing (facts : Facts) (old : Rows) (flags : List Bool) (lens : List ℕ) (stale moved : List Bool) (region : List ℕ) (place : ℕ) : Type 0 where
  pub within : Within (jobs_in facts) lens region
  pub refined : RefinedBefore (table_by facts) (norms_in facts) (order_in facts) (rows_of old) (row lens region) place
  pub stale_size : length stale ≡ 24
  pub moved_size : length moved ≡ 24
  pub others : (j : ℕ) → j < jobs_in facts → get_or moved j false ≡ false → row lens region j ≡ rows_of old j
  pub others_length : (j : ℕ) → j < jobs_in facts → get_or moved j false ≡ false → get_or lens j 0 ≡ get_or old.lens.now j 0
  pub older : (j : ℕ) → j < jobs_in facts → get_or stale j false ≡ false → get_or flags j false ≡ false
  pub newer : (j : ℕ) → j < jobs_in facts → get_or stale j false ≡ false → get_or moved j false ≡ false
  pub later : (k : ℕ) → place ≤ k → k < jobs_in facts → get_or moved (get_or (order_in facts) k 0) false ≡ false

-- the round before, if fewer jobs have not moved
history_less : (facts : Facts) (d : method.Rows) (flags stale : List Bool) →
    ((j : ℕ) → j < jobs_in facts → get_or stale j false ≡ false → get_or flags j false ≡ false) → History facts d flags → History facts d stale
history_less facts d flags stale less h = record {
  before = h.before;
  decomposition = λ j l e. h.decomposition j l (less j l e);
  refines = λ j l e. h.refines j l (less j l e);
  same = λ j l e. h.same j l (less j l e);
}

-- one more row in a region keeps all rows within it
within_more : (n : ℕ) (lens region v : List ℕ) (y r : ℕ) → Within n lens region → y < 24 → length v ≡ r → 1 ≤ r → r ≤ 512 →
    Within n (set lens y r) (put (512 * y) v region)
within_more n lens region v y r w h e a b =
    let inside : y < length lens = omega (arith, w.table) in
    record {
      few = w.few;
      table = length-set lens y r ∙ w.table;
      size = put_length (512 * y) v region (omega (arith, w.size)) ∙ w.size;
      some = λ j l. length_set_each (λ m. 1 ≤ m) lens y r inside a j (w.some j l);
      short = λ j l. length_set_each (λ m. m ≤ 512) lens y r inside b j (w.short j l);
    }

none : (facts : Facts) (j : ℕ) → j < jobs_in facts → get_or (replicate 24 false) j false ≡ false
none facts j h = get_or-replicate 24 j false false (omega (arith, jobs_few facts))

module _ (old : Rows) {facts : Facts} {lens₀ : List ℕ} {flags : List Bool} {region₀ : List ℕ} (ready : RowsReady facts old.lens.now old.bytes.now lens₀ flags region₀) where
  pub growing_first : Growing facts old flags lens₀ flags (replicate 24 false) region₀ 0
  growing_first = record {
    within = ready.new_within;
    refined = λ k h. absurd (omega arith);
    stale_size = ready.flags;
    moved_size = refl;
    others = λ j h e. ready.same j h;
    others_length = λ j h e. ready.same_length j h;
    older = λ j h e. e;
    newer = λ j h e. none facts j h;
    later = λ k a h. none facts (get_or (order_in facts) k 0) (place_job facts k h);
  }

  module _ {lens : List ℕ} {stale moved : List Bool} {region : List ℕ} {place : ℕ} (w : Growing facts old flags lens stale moved region place)
      (h : place < jobs_in facts) {y : ℕ} (is : y ≡ get_or (order_in facts) place 0) where
    abbrev e : method.Rows
    e = row lens region

    pub job_here : y < jobs_in facts
    job_here = omega (arith, is, place_job facts place h)

    pub job_small : y < 24
    job_small = omega (arith, job_here, jobs_few facts)

    -- the rows of earlier jobs are decomposed
    earlier_decomposed : Earlier (table_by facts) (norms_in facts) (get_or (order_in facts) place 0) (Decomposed (table_by facts) (norms_in facts) e)
    unfolding table_of
    earlier_decomposed =
        let t = table_by facts in
        let ns = norms_in facts in
        let ord = order_in facts in
        let g = (tables facts).good in
        earlier_places t ns g ord facts.ordered_by (Decomposed t ns e) place h
        (decomposed_before t ns g ord facts.ordered_by (rows_of old) e place (omega arith) w.refined)

    -- and right
    earlier_refined : Earlier (table_by facts) (norms_in facts) (get_or (order_in facts) place 0) (Refined (table_by facts) (norms_in facts) (rows_of old) e)
    unfolding table_of
    earlier_refined =
        let t = table_by facts in
        let ns = norms_in facts in
        earlier_places t ns (tables facts).good (order_in facts) facts.ordered_by (Refined t ns (rows_of old) e) place h w.refined

    -- what the question whether the job is settled asks
    pub growing_settling : Settling facts old stale y
    growing_settling = record {
      is_job = job_here;
      within = ready.old_within;
      decomposition = ready.decomposition;
      history = history_less facts (rows_of old) flags stale w.older ready.history;
    }

    -- what the next new row asks
    pub growing_asks : (prints : Prints) → AllPrinted (bytes_in facts) (jobs_in facts) (rows_of old) prints → (new : Rows) → rows_of new ≡ e →
        Within (jobs_in facts) new.lens.now new.bytes.now → Decomposable facts prints old new place
    unfolding table_of
    growing_asks prints printed new new_is within = record {
      old_within = ready.old_within;
      new_within = within;
      printed = printed.jobs_printed;
      rule_printed = printed.rules_printed;
      inside = h;
      decomposition = ready.decomposition;
      earlier = λ j l p. rw new_is (earlier_refined j l p, earlier_decomposed j l p);
    }

    -- THE NEW ROW IS THE OLD ONE: nothing is written
    pub growing_kept : NewRow (table_by facts) (norms_in facts) (rows_of old) e y ((rows_of old) y) → Growing facts old flags lens stale moved region (place + 1)
    unfolding table_of
    growing_kept k =
        let t = table_by facts in
        let ns = norms_in facts in
        let ord = order_in facts in
        let z = get_or ord place 0 in
        record {
          within = w.within;
          refined = refined_more t ns (tables facts).good ord facts.ordered_by (rows_of old) e e place h w.refined (λ j l q. refl) ((rows_of old) z)
              (subst (λ (i : ℕ). NewRow t ns (rows_of old) e i ((rows_of old) i)) is k)
              (w.others z (place_job facts place h) (w.later place (omega arith) h));
          stale_size = w.stale_size;
          moved_size = w.moved_size;
          others = w.others;
          others_length = w.others_length;
          older = w.older;
          newer = w.newer;
          later = λ i a b. w.later i (omega arith) b;
        }

    -- the job is settled
    pub growing_settled : {out : Bool} → Settles facts (rows_of old) stale y out → out ≡ true → Growing facts old flags lens stale moved region (place + 1)
    unfolding table_of
    growing_settled s told =
        growing_kept
        (s.row_kept told e
        (rw is
        (record { decomposed = earlier_decomposed; same = λ j l p z. w.others j l (w.newer j l z); refined = earlier_refined })))

    -- THE ROW THAT WAS WORKED OUT
    module _ {out : List ℕ} {from to : ℕ} (written : RowWritten facts (rows_of old) e (get_or (order_in facts) place 0) out from to) where
      abbrev v : List ℕ
      v = slice from to out

      right : NewRow (table_by facts) (norms_in facts) (rows_of old) e y v
      right = subst (λ (i : ℕ). NewRow (table_by facts) (norms_in facts) (rows_of old) e i v) (sym is) written.is

      -- is the old one
      pub growing_same : v ≡ (rows_of old) y → Growing facts old flags lens stale moved region (place + 1)
      growing_same same = growing_kept (subst (NewRow (table_by facts) (norms_in facts) (rows_of old) e y) same right)

      -- or is written
      pub row_long : length v ≡ to - from
      row_long = length-slice from to out (omega (arith, written.short, written.size))

      pub row_fits : 512 * y + length v ≤ length region
      row_fits = omega (arith, row_long, written.short, job_small, w.within.size)

      -- no later job is this one
      later_other : (k : ℕ) → place < k → k < jobs_in facts → get_or (order_in facts) k 0 ≡ y → ⊥
      later_other k a b q =
          precedes_distinct (norms_in facts) (get_or (order_in facts) place 0) (get_or (order_in facts) k 0) (place_rises facts place k a b)
          (sym is ∙ sym q)

      pub growing_more : (r : ℕ) → r ≡ to - from →
          Growing facts old flags (set lens y r) (set stale y true) (set moved y true) (put (512 * y) v region) (place + 1)
      unfolding table_of
      growing_more r r_is =
          let t = table_by facts in
          let ns = norms_in facts in
          let ord = order_in facts in
          let long : length v ≡ r = row_long ∙ sym r_is in
          let some : 1 ≤ r = omega (arith, written.some) in
          let short : r ≤ 512 = omega (arith, written.short) in
          let inside : y < length lens = omega (arith, job_small, w.within.table) in
          let stale_inside : y < length stale = omega (arith, job_small, w.stale_size) in
          let moved_inside : y < length moved = omega (arith, job_small, w.moved_size) in
          let f = row (set lens y r) (put (512 * y) v region) in
          let beside : (j : ℕ) → j < jobs_in facts → (j ≡ y → ⊥) → f j ≡ e j =
          λ j l q. row_old lens region v y r row_fits long j q (w.within.short j l) short in
          record {
            within = within_more (jobs_in facts) lens region v y r w.within job_small long some short;
            refined = refined_more t ns (tables facts).good ord facts.ordered_by (rows_of old) e f place h w.refined
                (λ j l q. beside j l (λ s. q (s ∙ is))) v written.is
                (subst (λ (i : ℕ). f i ≡ v) is (row_new lens region v y r row_fits long inside));
            stale_size = length-set stale y true ∙ w.stale_size;
            moved_size = length-set moved y true ∙ w.moved_size;
            others = λ j l z.
                beside j l (low_other moved y moved_inside j z) ∙ w.others j l (low_before moved y moved_inside j z);
            others_length = λ j l z.
                get_or-set_other lens y j r 0 (low_other moved y moved_inside j z)
                ∙ w.others_length j l (low_before moved y moved_inside j z);
            older = λ j l z. w.older j l (low_before stale y stale_inside j z);
            newer = λ j l z.
                get_or-set_other moved y j true false (low_other stale y stale_inside j z)
                ∙ w.newer j l (low_before stale y stale_inside j z);
            later = λ k a b.
                get_or-set_other moved y (get_or ord k 0) true false (later_other k (omega arith) b) ∙ w.later k (omega arith) b;
          }

  pub growing_last : {lens : List ℕ} {stale moved : List Bool} {region : List ℕ} {place : ℕ} → place ≡ jobs_in facts →
      Growing facts old flags lens stale moved region place → NewRows facts old.lens.now old.bytes.now lens moved region
  unfolding table_of
  growing_last {lens} {stale} {moved} {region} {place} all w =
      let t = table_by facts in
      let ns = norms_in facts in
      let e = row lens region in
      record {
        flags = w.moved_size;
        within = w.within;
        refines = refined_all t ns (tables facts).good (order_in facts) facts.ordered_by (rows_of old) e place all w.refined;
        decomposition = decomposed_all t ns (tables facts).good (order_in facts) facts.ordered_by (rows_of old) e place all w.refined;
        others = w.others;
        others_length = w.others_length;
      }
