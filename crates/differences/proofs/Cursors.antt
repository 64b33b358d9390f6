-- The state of the comparison of two expanded plans: what is left of each has the same leftmost difference. Assumes nothing.
use mathlib.Core.Path.{◌≡◌, refl, sym, ap, ◌∙◌, subst}
use mathlib.Core.Bool.{Bool, true, false, true≢false}
use mathlib.Core.List.{List, [], ◌∷◌, ◌++◌, append_assoc, append-nil}
use Prim.Native.Nat.{ℕ, suc, ◌+◌, ◌*◌, ◌≤◌, ◌<◌}
use native.Mathlib.Numerals.{add-one}
use native.Mathlib.Omega.{arith}
use lib.Dec.{ltb}
use lib.ListN.{length, get_or, drop}
use lib.Seq.{take-length, slice, slice_empty, slice-cons}
use borrow.Author.Tests.{ltb-true, ltb-false}
use Rattle.bpa.specs.Method.{Rows, expand, first_difference, equal, ends, differ}
use Rattle.bpa.proofs.Basics.Cases.{by_test, is_false}
use Rattle.bpa.proofs.Basics.JobsBelow.{below_at}
use Rattle.rows.specs.Region.{row, Comparable}
use Rattle.rows.specs.Answers.{Leaps}
use Rattle.differences.specs.Sides.{side, RightEnds}
use Rattle.rows.proofs.Heads.{heads_equal, fronts_equal, heads_differ, both_end, left_ends, right_ends}
use Rattle.rows.proofs.Parts.{expand_at, expand_end, slice_split, row_inside, enter, enter_cons}
use Rattle.differences.proofs.RightSides.{side_behind, side_in_rows, ends_behind}

-- what is left of the right side: the rest of the row that it is in, the expansion behind it, and the row behind that, if it is not yet begun
abbrev pub right_left : (e : Rows) (region q rest : List ℕ) (behind : Bool) (t at end : ℕ) → List ℕ
right_left e region q rest behind t at end = slice at end (side behind region rest) ++ (expand e (drop t q) ++ side behind rest [])

pub record At (e : Rows) (region p q rest left : List ℕ) (behind : Bool) (t at end : ℕ) : Type 0 where
  pub begun : t ≤ length q
  -- the row behind is begun only when the plan is used up
  pub over : behind ≡ true → length q ≤ t
  pub start : at ≤ end
  pub inside : end ≤ length (side behind region rest)
  pub same : first_difference (expand e p) (expand e q ++ rest) ≡ first_difference left (right_left e region q rest behind t at end)

-- the same within a row of the left plan
pub record Between (e : Rows) (region p q rest : List ℕ) (i : ℕ) (behind : Bool) (t at end k stop : ℕ) : Type 0 where
  pub passed : i ≤ length p
  pub within : k ≤ stop
  pub reach : stop ≤ length region
  pub cursor : At e region p q rest (slice k stop region ++ expand e (drop i p)) behind t at end

-- a row with a first job
abbrev Some : List ℕ → Type 0
Some l = (x : ℕ) × (xs : List ℕ) × (l ≡ x ∷ xs)

some_left : (l : List ℕ) → (length l ≡ 0 → ⊥) → Some l
some_left [] n = absurd (n refl)
some_left (x ∷ xs) n = (x, xs, refl)

none : (l : List ℕ) → length l ≡ 0 → l ≡ []
none [] e = refl
none (x ∷ l) e = absurd (omega arith)

module _ {lens region p q : List ℕ} (asks : Comparable lens region p q) where
  -- the rows of the job x at a place of the left plan, and of the job y at a place of the right one
  row_fits : (j : ℕ) → j < asks.jobs → (j < 24) × (get_or lens j 0 ≤ 512)
  row_fits j h = (omega (arith, asks.within.few), asks.within.short j h)

  pub left_row : (i : ℕ) → i < length p → (x : ℕ) → x ≡ get_or p i 0 → (x < 24) × (get_or lens x 0 ≤ 512)
  left_row i l x e = row_fits x (rw e (below_at asks.jobs p i asks.left l))

  pub right_row : (t : ℕ) → t < length q → (y : ℕ) → y ≡ get_or q t 0 → (y < 24) × (get_or lens y 0 ≤ 512)
  right_row t m y e = row_fits y (rw e (below_at asks.jobs q t asks.right m))

  pub at_first : (rest : List ℕ) → At (row lens region) region p q rest (expand (row lens region) (drop 0 p)) false 0 0 0
  unfolding side
  at_first rest = record { begun = omega arith; over = λ b. absurd (true≢false (sym b)); start = omega arith; inside = omega arith; same = refl }

  module _ {rest : List ℕ} (i : ℕ) {behind : Bool} {t at end : ℕ}
      (c : At (row lens region) region p q rest (expand (row lens region) (drop i p)) behind t at end) where
    pub enter_left : i < length p → (x : ℕ) → x ≡ get_or p i 0 →
        Between (row lens region) region p q rest (i + 1) behind t at end (512 * x) (512 * x + get_or lens x 0)
    enter_left l x e = record {
      passed = omega arith;
      within = omega arith;
      reach = row_inside asks.jobs lens region asks.within x (rw e (below_at asks.jobs p i asks.left l));
      cursor = subst (λ (s : List ℕ). At (row lens region) region p q rest s behind t at end)
          (enter asks.jobs lens region asks.within p i l x e) c;
    }

    -- both plans begin the same job
    pub pass_job : i < length p → at ≡ end → t < length q → get_or q t 0 ≡ get_or p i 0 →
        At (row lens region) region p q rest (expand (row lens region) (drop (i + 1) p)) behind (t + 1) at end
    pass_job l h m j =
        let r = row lens region (get_or p i 0) in
        let s = expand (row lens region) (drop (t + 1) q) in
        record {
          begun = omega arith;
          over = λ b. omega (arith, c.over b);
          start = c.start;
          inside = c.inside;
          same = c.same
              ∙ rw (
                h,
                slice_empty end (side behind region rest),
                expand_at (row lens region) p i l,
                expand_at (row lens region) q t m,
                j,
                append_assoc r s (side behind rest []),
              )
              (fronts_equal r (expand (row lens region) (drop (i + 1) p)) (s ++ side behind rest []));
        }

    row_left : at < end → Some (right_left (row lens region) region q rest behind t at end)
    row_left h =
        let s = side behind region rest in (
          get_or s at 0,
          slice (suc at) end s ++ (expand (row lens region) (drop t q) ++ side behind rest []),
          rw (slice-cons at end s 0 h c.inside),
        )

    rows_left : at ≡ end → t < length q → Some (right_left (row lens region) region q rest behind t at end)
    rows_left h m =
        let (x, xs, f) = enter_cons asks.jobs lens region asks.within q t asks.right m in
        (x, xs ++ side behind rest [], rw (h, slice_empty end (side behind region rest), f))

    rest_left : at ≡ end → length q ≤ t → behind ≡ false → (length rest ≡ 0 → ⊥) →
        Some (right_left (row lens region) region q rest behind t at end)
    rest_left h m b n =
        let (x, xs, f) = some_left rest n in (
          x,
          xs,
          rw (h, slice_empty end (side behind region rest), expand_end (row lens region) q t m, side_in_rows behind rest [] b) f,
        )

    right_some : (RightEnds behind q rest t at end → ⊥) → Some (right_left (row lens region) region q rest behind t at end)
    right_some n =
        by_test (ltb at end) (λ g. row_left (ltb-true at end g))
        (λ g.
        let h : at ≡ end = omega (arith, ltb-false at end g, c.start) in
        by_test (ltb t (length q)) (λ m. rows_left h (ltb-true t (length q) m))
        (λ m.
        let over : length q ≤ t = ltb-false t (length q) m in
        rest_left h over (is_false behind (λ b. n (ends_behind behind q rest t at end (omega arith) over b)))
        (λ z. n (record { row_ends = omega arith; rows_end = over; rest_ends = λ _. z }))))

    pub left_ends_first : length p ≤ i → (RightEnds behind q rest t at end → ⊥) →
        first_difference (expand (row lens region) p) (expand (row lens region) q ++ rest) ≡ ends
    left_ends_first l n =
        let (x, xs, f) = right_some n in
        c.same ∙ rw (expand_end (row lens region) p i l, f) (left_ends x xs)

    right_none : at ≡ end → length q ≤ t → (behind ≡ false → length rest ≡ 0) → right_left (row lens region) region q rest behind t at end ≡ []
    right_none h m z =
        rw (h, slice_empty end (side behind region rest), expand_end (row lens region) q t m)
        (by_test behind (side_behind behind rest []) (λ b. side_in_rows behind rest [] b ∙ none rest (z b)))

    pub plans_end : length p ≤ i → RightEnds behind q rest t at end →
        first_difference (expand (row lens region) p) (expand (row lens region) q ++ rest) ≡ equal
    plans_end l r =
        let h : at ≡ end = omega (arith, r.row_ends, c.start) in
        c.same ∙ rw (expand_end (row lens region) p i l, right_none h r.rows_end r.rest_ends) both_end

  module _ {rest : List ℕ} {i : ℕ} {behind : Bool} {t at end k stop : ℕ}
      (c : Between (row lens region) region p q rest i behind t at end k stop) where
    pub leave_left : k ≡ stop → At (row lens region) region p q rest (expand (row lens region) (drop i p)) behind t at end
    leave_left h =
        let empty : slice k stop region ≡ [] = rw h (slice_empty stop region) in
        subst (λ (s : List ℕ). At (row lens region) region p q rest (s ++ expand (row lens region) (drop i p)) behind t at end)
        empty c.cursor

    in_rows : t < length q → behind ≡ false
    in_rows m = is_false behind (λ b. omega (arith, c.cursor.over b))

    pub enter_right : at ≡ end → t < length q → (y : ℕ) → y ≡ get_or q t 0 →
        Between (row lens region) region p q rest i behind (t + 1) (512 * y) (512 * y + get_or lens y 0) k stop
    enter_right h m y e =
        let s = side behind region rest in
        let in_region : s ≡ region = side_in_rows behind region rest (in_rows m) in
        record {
          passed = c.passed;
          within = c.within;
          reach = c.reach;
          cursor = record {
            begun = omega arith;
            over = λ b. omega (arith, c.cursor.over b);
            start = omega arith;
            inside = rw in_region (row_inside asks.jobs lens region asks.within y (rw e (below_at asks.jobs q t asks.right m)));
            same = c.cursor.same
                ∙ rw (h, slice_empty end s, enter asks.jobs lens region asks.within q t m y e, in_region)
                (ap (first_difference (slice k stop region ++ expand (row lens region) (drop i p)))
                (append_assoc (slice (512 * y) (512 * y + get_or lens y 0) region) (expand (row lens region) (drop (t + 1) q)) (side behind rest [])));
          };
        }

    -- the rows of the right side are used up
    pub enter_rest : at ≡ end → length q ≤ t → behind ≡ false → Between (row lens region) region p q rest i true t 0 (length rest) k stop
    enter_rest h m b = record {
      passed = c.passed;
      within = c.within;
      reach = c.reach;
      cursor = record {
        begun = c.cursor.begun;
        over = λ _. m;
        start = omega arith;
        inside = rw (side_behind true region rest refl) (omega arith);
        same = c.cursor.same
            ∙ rw (
              h,
              slice_empty end (side behind region rest),
              expand_end (row lens region) q t m,
              side_in_rows behind rest [] b,
              side_behind true region rest refl,
              side_behind true rest [] refl,
              take-length rest,
              append-nil rest,
            );
      };
    }

    pub right_ends_first : k < stop → at ≡ end → length q ≤ t → behind ≡ true →
        first_difference (expand (row lens region) p) (expand (row lens region) q ++ rest) ≡ ends
    right_ends_first g h m b =
        c.cursor.same
        ∙ rw (
          h,
          slice_empty end (side behind region rest),
          expand_end (row lens region) q t m,
          side_behind behind rest [] b,
          slice-cons k stop region 0 g c.reach,
        )
        (right_ends (get_or region k 0) (slice (suc k) stop region ++ expand (row lens region) (drop i p)))

    heads : k < stop → at < end →
        first_difference (expand (row lens region) p) (expand (row lens region) q ++ rest)
        ≡ first_difference (get_or region k 0 ∷ (slice (suc k) stop region ++ expand (row lens region) (drop i p)))
        (get_or (side behind region rest) at 0
        ∷ (slice (suc at) end (side behind region rest) ++ (expand (row lens region) (drop t q) ++ side behind rest [])))
    heads g h =
        c.cursor.same
        ∙ rw (slice-cons k stop region 0 g c.reach, slice-cons at end (side behind region rest) 0 h c.cursor.inside)

    -- by the jobs x and y at the two places
    module _ (g : k < stop) (h : at < end) (x y : ℕ) (f : x ≡ get_or region k 0) (e : y ≡ get_or (side behind region rest) at 0) where
      pub places_differ : (x ≡ y → ⊥) → first_difference (expand (row lens region) p) (expand (row lens region) q ++ rest) ≡ differ x y
      places_differ d =
          heads g h
          ∙ rw (sym f, sym e)
          (heads_differ x y (slice (suc k) stop region ++ expand (row lens region) (drop i p))
          (slice (suc at) end (side behind region rest) ++ (expand (row lens region) (drop t q) ++ side behind rest [])) d)

      pub places_equal : x ≡ y → Between (row lens region) region p q rest i behind t (at + 1) end (k + 1) stop
      places_equal d = record {
        passed = c.passed;
        within = omega arith;
        reach = c.reach;
        cursor = record {
          begun = c.cursor.begun;
          over = c.cursor.over;
          start = omega arith;
          inside = c.cursor.inside;
          same = heads g h
              ∙ heads_equal (get_or region k 0) (get_or (side behind region rest) at 0)
              (slice (suc k) stop region ++ expand (row lens region) (drop i p))
              (slice (suc at) end (side behind region rest) ++ (expand (row lens region) (drop t q) ++ side behind rest [])) (sym f ∙ d ∙ e)
              ∙ rw (add-one k, add-one at);
        };
      }

    -- many places are passed over at once
    pub places_passed : (n : ℕ) → Leaps region k stop (side behind region rest) at end n →
        Between (row lens region) region p q rest i behind t (at + n) end (k + n) stop
    places_passed n l =
        let s = side behind region rest in
        let front = slice at (at + n) s in
        let p' = expand (row lens region) (drop i p) in
        let q' = expand (row lens region) (drop t q) ++ side behind rest [] in
        record {
          passed = c.passed;
          within = l.left_inside;
          reach = c.reach;
          cursor = record {
            begun = c.cursor.begun;
            over = c.cursor.over;
            start = l.right_inside;
            inside = c.cursor.inside;
            same = c.cursor.same
                ∙ rw (
                  slice_split k n stop region l.left_inside,
                  slice_split at n end s l.right_inside,
                  l.equal,
                  append_assoc front (slice (k + n) stop region) p',
                  append_assoc front (slice (at + n) end s) q',
                )
                (fronts_equal front (slice (k + n) stop region ++ p') (slice (at + n) end s ++ q'));
          };
        }
