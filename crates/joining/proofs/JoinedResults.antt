-- TWO JOINED SOURCES ARE A SOURCE OF TABLES: refused as the first is, as the second is, then by 15, and else it holds the joined table. Assumes nothing.
use Rattle.std.proofs.Common.{◌≡◌, ℕ, sym, ap₂, ◌∙◌, Result, Ok, Err}
use Rattle.bpa.specs.Plans.{Table}
use Rattle.answer.specs.declared.Refusal.{Refusal}
use Rattle.answer.specs.Refusals.{refusal_of, or_else}
use Rattle.answer.proofs.ResultChains.{err_stops, ok_passes, ok_goes_on}
use Rattle.table.specs.Sources.{Source, table_held}
use Rattle.table.specs.declared.held.HeldTable.{HeldTable}
use Rattle.table.proofs.SourceTables.{refused, same_held}
use Rattle.joined.specs.Joined.{joined}
use Rattle.joining.specs.JoinedBytes.{tables_refusal}
use Rattle.joining.specs.JoinedResults.{Joins, first_refused, second_refused, both_held}

-- two tables that are held, of which the check of 15 came to w: refused, or joined
module _ (h k : HeldTable) {B : Type 0} (w : Result B Refusal) (sizes : refusal_of w ≡ tables_refusal (table_held h) (table_held k)) where
  pub too_large : (r : Refusal) → w ≡ Err r → {z : Result HeldTable Refusal} → z ≡ Err r →
      Source (tables_refusal (table_held h) (table_held k)) (joined (table_held h) (table_held k)) z
  too_large r p {z} q = refused w z r p q sizes

  pub both_joined : (b : B) → w ≡ Ok b → (l : HeldTable) → table_held l ≡ joined (table_held h) (table_held k) →
      Source (tables_refusal (table_held h) (table_held k)) (joined (table_held h) (table_held k)) (Ok l)
  unfolding refusal_of
  both_joined b p l e = record { refusal_is = sym (ok_passes w b p sizes); holds = λ m d. same_held l m d ∙ e }

-- TWO SOURCES, whatever they are
pub joined_loads : {f o : ℕ} {t u : Table} {x z : Result HeldTable Refusal} → Source f t x → Joins o u x z →
    Source (or_else f (or_else o (tables_refusal t u))) (joined t u) z
joined_loads {x = x} {z = z} s (first_refused r p q) = record {
  refusal_is = err_stops x z r _ p q s.refusal_is;
  holds = λ l d. let e : Ok l ≡ Err r = sym d ∙ q in cc;
}
joined_loads {x = x} {z = z} s (second_refused h y r p v d q) = record {
  refusal_is = ok_goes_on x h z p s.refusal_is (err_stops y z r _ d q v.refusal_is);
  holds = λ l e. let n : Ok l ≡ Err r = sym e ∙ q in cc;
}
joined_loads {x = x} {z = z} s (both_held h k y p v d w) = record {
  refusal_is = ok_goes_on x h z p s.refusal_is (ok_goes_on y k z d v.refusal_is (w.refusal_is ∙ ap₂ tables_refusal (s.holds h p) (v.holds k d)));
  holds = λ l e. w.holds l e ∙ ap₂ joined (s.holds h p) (v.holds k d);
}
