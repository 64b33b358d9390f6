-- What the answers about a job say of its new row: a prime stays, and so does a job that has not moved, if no job after a rule of its own or
-- of the first job of its row has moved. Assumes nothing.
use Rattle.std.proofs.Common.{◌≡◌, true, false, Bool, List, [], ◌∷◌, ℕ, suc, ◌+◌, ◌*◌, ◌≤◌, ◌<◌, length, get_or, drop, refl, sym, ap, subst, ◌∙◌, arith}
use Rattle.std.proofs.Math.Seq.{get_or-take, get_or-drop}
use Rattle.bpa.specs.Plans.{Rule, Table, over, HasRule}
use Rattle.bpa.specs.Method as method
use Rattle.bpa.proofs.Basics.JobsBelow.{below_at}
use Rattle.bpa.proofs.Basics.EachJob.{Each, each_none, each_cons, each_over}
use Rattle.decompositions.specs.Decompositions.{Decomposed}
use Rattle.decompositions.proofs.NewRows.{decomposed_some}
use Rattle.decompositions.proofs.SettledRows.{Keeps, prime_kept, row_kept}
use Rattle.rules.specs.Places.{table_of}
use Rattle.rules.proofs.ListLaws.{place_of_rule}
use Rattle.rows.specs.Region.{row}
use Rattle.rows.specs.Rows.{rows_of}
use Rattle.rows.specs.declared.Rows.{Rows}
use Rattle.facts.specs.declared.Facts.{Facts}
use Rattle.facts.specs.Columns.{norms_in, jobs_in, bytes_in, table_by}
use Rattle.facts.proofs.TableFacts.{tables}
use Rattle.settled.specs.SettledJobs.{Unmoved, Untouched, Settling, EarlierRefined, Settles}

each_place : (P : ℕ → Type 0) (l : List ℕ) → ((i : ℕ) → i < length l → P (get_or l i 0)) → Each P l
each_place P [] h = each_none P
each_place P (j ∷ js) h = each_cons P j js (h 0 (omega arith)) (each_place P js (λ i l. h (suc i) (omega arith)))

-- a row of one job or more begins with the byte at its start
first_byte : (lens region : List ℕ) (j : ℕ) → 1 ≤ get_or lens j 0 → get_or (row lens region j) 0 0 ≡ get_or region (512 * j) 0
unfolding row
first_byte lens region j h =
    let e : 512 * j + 0 ≡ 512 * j = omega arith in
    get_or-take (get_or lens j 0) (drop (512 * j) region) 0 0 h ∙ get_or-drop (512 * j) region 0 0 ∙ ap (λ (n : ℕ). get_or region n 0) e

module _ (facts : Facts) (old : Rows) (moved : List Bool) (y : ℕ) (s : Settling facts old moved y) where
  abbrev t : Table
  t = table_by facts

  abbrev ns : List ℕ
  ns = norms_in facts

  abbrev d : method.Rows
  d = rows_of old

  table_jobs : t.jobs ≡ jobs_in facts
  unfolding table_of
  table_jobs = refl

  is_table_job : y < t.jobs
  is_table_job = omega (arith, table_jobs, s.is_job)

  -- the first job of the old row
  first_is : (x : ℕ) → x ≡ get_or old.bytes.now (512 * y) 0 → get_or (d y) 0 0 ≡ x
  first_is x q = first_byte old.lens.now old.bytes.now y (s.within.some y s.is_job) ∙ sym q

  pub first_below : (x : ℕ) → x ≡ get_or old.bytes.now (512 * y) 0 → x < jobs_in facts
  unfolding over
  first_below x q =
      let k : Decomposed t ns d y = s.decomposition y is_table_job in
      let some : 1 ≤ length (d y) = decomposed_some t ns d (tables facts).good y is_table_job k in
      omega (arith, below_at t.jobs (d y) 0 k.inside (omega arith), first_is x q, table_jobs)

  -- a job none of whose rules leads to a job that has moved
  unmoved_after : (z a : ℕ) (w : List ℕ) → Untouched (bytes_in facts) moved z → HasRule t z a w → Each (λ j. get_or moved j false ≡ false) w
  unmoved_after z a w u r =
      let (i, l, q) = place_of_rule (jobs_in facts) (bytes_in facts) z a w r in
      each_place (λ j. get_or moved j false ≡ false) w
      (subst (Unmoved moved) (ap (λ (p : Rule). p.after) q) (u i l (ap (λ (p : Rule). p.job) q)))

  module _ (e : method.Rows) (earlier : EarlierRefined facts d e moved y) where
    keeps : (z : ℕ) → Untouched (bytes_in facts) moved z → Keeps t ns s.history.before d e y z
    keeps z u a w r j m =
        let still : get_or moved j false ≡ false = unmoved_after z a w u r j m in
        let h : j < jobs_in facts = omega (arith, each_over t w ((tables facts).good.closed z a w r) j m, table_jobs) in
        (s.history.same j h still, λ p. sym (earlier.same j h p still))

  -- THE ANSWERS
  pub settles_prime : d y ≡ y ∷ [] → Settles facts d moved y true
  settles_prime h = record { row_kept = λ yes e earlier. prime_kept t ns (tables facts).good d e s.decomposition y h }

  pub settles_kept : (out : Bool) (x : ℕ) → get_or moved y false ≡ false → x ≡ get_or old.bytes.now (512 * y) 0 →
      (out ≡ true → Untouched (bytes_in facts) moved y) → (out ≡ true → Untouched (bytes_in facts) moved x) → Settles facts d moved y out
  settles_kept out x still q own first = record {
    row_kept = λ yes e earlier.
        row_kept t ns (tables facts).good s.history.before d e (s.history.decomposition y s.is_job still) s.decomposition
        (s.history.refines y s.is_job still) y is_table_job (s.history.same y s.is_job still)
        (λ j l p. earlier.refined j (omega (arith, table_jobs)) p)
        (keeps e earlier y (own yes)) (subst (Keeps t ns s.history.before d e y) (sym (first_is x q)) (keeps e earlier x (first yes)));
  }
