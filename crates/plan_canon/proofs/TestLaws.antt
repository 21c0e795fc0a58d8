-- Tests of rows: one over another, and over concatenated, ordered and distinct rows.
use Rattle.std.proofs.Common.{◌≡◌, refl, sym, ap, ◌∙◌, Bool, true, false, ◌&&◌, ◌||◌, not, cond, List, [], ◌∷◌, ◌++◌, Result, Ok, Err}
use Rattle.std.specs.List.{filter, list_any, AllByRecursion}
use Rattle.std.specs.Ordering.{is_le, ordering_reverse}
use Rattle.std.specs.declared.cmp.Ordering.{Ordering}
use Rattle.std.specs.declared.cmp.Ordering.TheVariants.{Less, Equal, Greater}
use Rattle.std.specs.Cmp.{IsTotalOrder}
use Rattle.std.proofs.lemmas.List.Folds.{list_any-append}
use Rattle.std.proofs.lemmas.List.Elements.{filter-append}
use Rattle.rows_core.specs.declared.order.Key.{Key}
use Rattle.rows_core.specs.declared.overflow.Overflow.{Overflow}
use Rattle.rows_core.specs.RowOrder.{row_cmp}
use Rattle.rows_core.specs.Value.{row_eq}
use Rattle.scalar_ops.specs.declared.cell.Cell.{Cell}
use Rattle.scalar_ops.specs.declared.cell.Cell.TheVariants as cell
use Rattle.plan_core.specs.PlainExpr.{PlainExpr, And}
use Rattle.plan_core.specs.Columns.{Row, Rows}
use Rattle.plan_core.specs.Distinct.{distinct_rows}
use Rattle.plan_core.specs.ExpressionValue.{◌>>=◌, expression_value}
use Rattle.plan_core.specs.ExpressionValue.{is_true as holds}
use Rattle.plan_core.specs.Filter.{overflows, passes, is_true_value, filter_rows}
use Rattle.plan_core.specs.StableOrder.{insert_row, order_rows}
use Rattle.scalar_ops.specs.Meaning.{overflow}
use Rattle.std.specs.Result.{is_err}
use Rattle.plan_canon.specs.ExprRules.{truth}

-- ---- the same test

-- two tests with the same values at each of these rows
pub same_test : (a b : PlainExpr) (rows : Rows) → AllByRecursion (λ row. expression_value a row ≡ expression_value b row) rows → filter_rows a rows ≡ filter_rows b rows
same_test a b rows h = λ i. cond (anys rows h i) (Err overflow) (Ok (kept rows h i))
  where
    anys : (rows : Rows) → AllByRecursion (λ row. expression_value a row ≡ expression_value b row) rows → list_any (overflows a) rows ≡ list_any (overflows b) rows
    anys [] h = refl
    anys (row ∷ rows) h = λ i. is_err (h.0 i) || anys rows h.1 i

    kept : (rows : Rows) → AllByRecursion (λ row. expression_value a row ≡ expression_value b row) rows → filter (passes a) rows ≡ filter (passes b) rows
    kept [] h = refl
    kept (row ∷ rows) h = λ i. cond (is_true_value (h.0 i)) (row ∷ kept rows h.1 i) (kept rows h.1 i)

-- ---- the test `true`

pub all_pass : (rows : Rows) → filter_rows (truth true) rows ≡ Ok rows
all_pass rows = λ i. cond (none rows i) (Err overflow) (Ok (all rows i))
  where
    none : (rows : Rows) → list_any (overflows (truth true)) rows ≡ false
    none [] = refl
    none (row ∷ rows) = none rows

    all : (rows : Rows) → filter (passes (truth true)) rows ≡ rows
    all [] = refl
    all (row ∷ rows) = ap (λ l. row ∷ l) (all rows)

-- ---- a test over a test

and_overflows : (a b : PlainExpr) (row : Row) → overflows (And a b) row ≡ (overflows a row || (passes a row && overflows b row))
and_overflows a b row = by (expression_value a row)
  where
    inner : (t : Bool) → is_err (cond t (expression_value b row) (Ok (cell.Bool false))) ≡ (t && is_err (expression_value b row))
    inner true = refl
    inner false = refl

    by : (v : Result Cell Overflow) → is_err (v >>= λ c. cond (holds c) (expression_value b row) (Ok (cell.Bool false))) ≡ (is_err v || (is_true_value v && is_err (expression_value b row)))
    by (Err e) = refl
    by (Ok c) = inner (holds c)

and_passes : (a b : PlainExpr) (row : Row) → passes (And a b) row ≡ (passes a row && passes b row)
and_passes a b row = by (expression_value a row)
  where
    inner : (t : Bool) → is_true_value (cond t (expression_value b row) (Ok (cell.Bool false))) ≡ (t && is_true_value (expression_value b row))
    inner true = refl
    inner false = refl

    by : (v : Result Cell Overflow) → is_true_value (v >>= λ c. cond (holds c) (expression_value b row) (Ok (cell.Bool false))) ≡ (is_true_value v && is_true_value (expression_value b row))
    by (Err e) = refl
    by (Ok c) = inner (holds c)

pub one_test : (a b : PlainExpr) (rows : Rows) → filter_rows (And a b) rows ≡ (filter_rows a rows >>= filter_rows b)
one_test a b rows = (λ i. cond (anys rows i) (Err overflow) (Ok (kept rows i))) ∙ by (list_any (overflows a) rows)
  where
    swap : (o p q u v : Bool) → (o || (p && q)) || (u || v) ≡ (o || u) || (cond p (q || v) v)
    swap true p q u v = refl
    swap false true true u v = by u
      where
        by : (u : Bool) → true ≡ (u || true)
        by true = refl
        by false = refl
    swap false true false u v = refl
    swap false false q u v = refl

    anys : (rows : Rows) → list_any (overflows (And a b)) rows ≡ (list_any (overflows a) rows || list_any (overflows b) (filter (passes a) rows))
    anys [] = refl
    anys (row ∷ rows) =
        (λ i. and_overflows a b row i || anys rows i)
        ∙ swap (overflows a row) (passes a row) (overflows b row) (list_any (overflows a) rows) (list_any (overflows b) (filter (passes a) rows))
        ∙ ap (λ t. (overflows a row || list_any (overflows a) rows) || t) (inner (passes a row))
      where
        inner : (p : Bool) → cond p (overflows b row || list_any (overflows b) (filter (passes a) rows)) (list_any (overflows b) (filter (passes a) rows)) ≡ list_any (overflows b) (cond p (row ∷ filter (passes a) rows) (filter (passes a) rows))
        inner true = refl
        inner false = refl

    kept : (rows : Rows) → filter (passes (And a b)) rows ≡ filter (passes b) (filter (passes a) rows)
    kept [] = refl
    kept (row ∷ rows) = (λ i. cond (and_passes a b row i) (row ∷ kept rows i) (kept rows i)) ∙ inner (passes a row)
      where
        inner : (p : Bool) → cond (p && passes b row) (row ∷ filter (passes b) (filter (passes a) rows)) (filter (passes b) (filter (passes a) rows)) ≡ filter (passes b) (cond p (row ∷ filter (passes a) rows) (filter (passes a) rows))
        inner true = refl
        inner false = refl

    by : (o : Bool) → cond (o || list_any (overflows b) (filter (passes a) rows)) (Err overflow) (Ok (filter (passes b) (filter (passes a) rows))) ≡ (cond o (Err overflow) (Ok (filter (passes a) rows)) >>= filter_rows b)
    by true = refl
    by false = refl

-- ---- over a concatenation

pub of_both_parts : (a : PlainExpr) (xs ys : Rows) → filter_rows a (xs ++ ys) ≡ (filter_rows a xs >>= λ us. filter_rows a ys >>= λ vs. Ok (us ++ vs))
of_both_parts a xs ys =
    (λ i. cond (list_any-append (overflows a) xs ys i) (Err overflow) (Ok (filter-append (passes a) xs ys i)))
    ∙ by (list_any (overflows a) xs) (list_any (overflows a) ys)
  where
    by : (s t : Bool) → cond (s || t) (Err overflow) (Ok (filter (passes a) xs ++ filter (passes a) ys))
        ≡ (cond s (Err overflow) (Ok (filter (passes a) xs)) >>= λ us. cond t (Err overflow) (Ok (filter (passes a) ys)) >>= λ vs. Ok (us ++ vs))
    by true t = refl
    by false true = refl
    by false false = refl

-- ---- over an order

module _ (keys : List Key) (total : IsTotalOrder (row_cmp keys)) where
  abbrev at_most : Row → Row → Bool
  at_most x y = is_le (row_cmp keys x y)

  turned : (r : Ordering) → is_le r ≡ false → is_le (ordering_reverse r) ≡ true
  turned Less e = absurd cc
  turned Equal e = absurd cc
  turned Greater e = refl

  other_way : (x y : Row) → at_most x y ≡ false → at_most y x ≡ true
  other_way x y e = ap is_le (total.antisymm y x) ∙ turned (row_cmp keys x y) e

  further : (x y z : Row) → at_most x y ≡ true → at_most y z ≡ true → at_most x z ≡ true
  further x y z p q = by (row_cmp keys x y) (row_cmp keys y z) refl refl p q
    where
      by : (r s : Ordering) → row_cmp keys x y ≡ r → row_cmp keys y z ≡ s → is_le r ≡ true → is_le s ≡ true → at_most x z ≡ true
      by Equal s e f p q = ap is_le (total.congr x y z e ∙ f) ∙ q
      by Less Less e f p q = ap is_le (total.trans x y z e f)
      by Less Equal e f p q =
          let back : row_cmp keys z y ≡ Equal = total.antisymm z y ∙ ap ordering_reverse f in
          ap is_le (total.antisymm x z ∙ ap ordering_reverse (total.congr z y x back ∙ total.antisymm y x ∙ ap ordering_reverse e))
      by Less Greater e f p q = absurd cc
      by Greater s e f p q = absurd cc

  abbrev Bounds : Row → Rows → Type 0
  Bounds x rows = AllByRecursion (λ y. at_most x y ≡ true) rows

  abbrev Ascends : Rows → Type 0
  Ascends [] = Unit {0}
  Ascends (x ∷ rows) = Bounds x rows × Ascends rows

  bounds_further : (x y : Row) (rows : Rows) → at_most x y ≡ true → Bounds y rows → Bounds x rows
  bounds_further x y [] p h = tt
  bounds_further x y (z ∷ rows) p h = (further x y z p h.0, bounds_further x y rows p h.1)

  bounds_inserted : (x row : Row) (rows : Rows) → at_most x row ≡ true → Bounds x rows → Bounds x (insert_row keys row rows)
  bounds_inserted x row [] p h = (p, tt)
  bounds_inserted x row (first ∷ others) p h = by (at_most row first) (bounds_inserted x row others p h.1)
    where
      by : (b : Bool) → Bounds x (insert_row keys row others) → Bounds x (cond b (row ∷ first ∷ others) (first ∷ insert_row keys row others))
      by true rest = (p, h)
      by false rest = (h.0, rest)

  inserted_ascends : (row : Row) (rows : Rows) → Ascends rows → Ascends (insert_row keys row rows)
  inserted_ascends row [] h = (tt, tt)
  inserted_ascends row (first ∷ others) h = by (at_most row first) refl (inserted_ascends row others h.1)
    where
      by : (b : Bool) → at_most row first ≡ b → Ascends (insert_row keys row others) → Ascends (cond b (row ∷ first ∷ others) (first ∷ insert_row keys row others))
      by true e rest = ((e, bounds_further row first others e h.0), h)
      by false e rest = (bounds_inserted first row others (other_way row first e) h.0, rest)

  ascends : (rows : Rows) → Ascends (order_rows keys rows)
  ascends [] = tt
  ascends (row ∷ rows) = inserted_ascends row (order_rows keys rows) (ascends rows)

  -- a row that is at most each of these stands in front of them
  in_front : (row : Row) (rows : Rows) → Bounds row rows → insert_row keys row rows ≡ row ∷ rows
  in_front row [] h = refl
  in_front row (first ∷ others) h = ap (λ b. cond b (row ∷ first ∷ others) (first ∷ insert_row keys row others)) h.0

  bounds_kept : (p : Row → Bool) (x : Row) (rows : Rows) → Bounds x rows → Bounds x (filter p rows)
  bounds_kept p x [] h = tt
  bounds_kept p x (y ∷ rows) h = by (p y) (bounds_kept p x rows h.1)
    where
      by : (b : Bool) → Bounds x (filter p rows) → Bounds x (cond b (y ∷ filter p rows) (filter p rows))
      by true rest = (h.0, rest)
      by false rest = rest

  kept_inserted : (p : Row → Bool) (row : Row) (rows : Rows) → Ascends rows → filter p (insert_row keys row rows) ≡ cond (p row) (insert_row keys row (filter p rows)) (filter p rows)
  kept_inserted p row [] h = refl
  kept_inserted p row (first ∷ others) h = by (at_most row first) refl (kept_inserted p row others h.1)
    where
      swapped : (s t : Bool) → at_most row first ≡ false → cond t (first ∷ cond s (insert_row keys row (filter p others)) (filter p others)) (cond s (insert_row keys row (filter p others)) (filter p others)) ≡ cond s (insert_row keys row (cond t (first ∷ (filter p others)) (filter p others))) (cond t (first ∷ (filter p others)) (filter p others))
      swapped true true e = sym (ap (λ b. cond b (row ∷ first ∷ (filter p others)) (first ∷ insert_row keys row (filter p others))) e)
      swapped true false e = refl
      swapped false true e = refl
      swapped false false e = refl

      by : (b : Bool) → at_most row first ≡ b → filter p (insert_row keys row others) ≡ cond (p row) (insert_row keys row (filter p others)) (filter p others)
          → filter p (cond b (row ∷ first ∷ others) (first ∷ insert_row keys row others)) ≡ cond (p row) (insert_row keys row (filter p (first ∷ others))) (filter p (first ∷ others))
      by true e rest =
          ap (λ l. cond (p row) l (filter p (first ∷ others))) (sym (in_front row (filter p (first ∷ others)) (bounds_kept p row (first ∷ others) (e, bounds_further row first others e h.0))))
      by false e rest = ap (λ l. cond (p first) (first ∷ l) l) rest ∙ swapped (p row) (p first) e

  kept_ordered : (p : Row → Bool) (rows : Rows) → filter p (order_rows keys rows) ≡ order_rows keys (filter p rows)
  kept_ordered p [] = refl
  kept_ordered p (row ∷ rows) =
      kept_inserted p row (order_rows keys rows) (ascends rows)
      ∙ ap (λ l. cond (p row) (insert_row keys row l) l) (kept_ordered p rows) ∙ by (p row)
    where
      by : (b : Bool) → cond b (insert_row keys row (order_rows keys (filter p rows))) (order_rows keys (filter p rows)) ≡ order_rows keys (cond b (row ∷ filter p rows) (filter p rows))
      by true = refl
      by false = refl

  any_inserted : (p : Row → Bool) (row : Row) (rows : Rows) → list_any p (insert_row keys row rows) ≡ (p row || list_any p rows)
  any_inserted p row [] = refl
  any_inserted p row (first ∷ others) = by (at_most row first) (any_inserted p row others)
    where
      swapped : (s t u : Bool) → (t || (s || u)) ≡ (s || (t || u))
      swapped true true u = refl
      swapped true false u = refl
      swapped false t u = refl

      by : (b : Bool) → list_any p (insert_row keys row others) ≡ (p row || list_any p others) → list_any p (cond b (row ∷ first ∷ others) (first ∷ insert_row keys row others)) ≡ (p row || (p first || list_any p others))
      by true rest = refl
      by false rest = ap (λ t. p first || t) rest ∙ swapped (p row) (p first) (list_any p others)

  any_ordered : (p : Row → Bool) (rows : Rows) → list_any p (order_rows keys rows) ≡ list_any p rows
  any_ordered p [] = refl
  any_ordered p (row ∷ rows) = any_inserted p row (order_rows keys rows) ∙ ap (λ t. p row || t) (any_ordered p rows)

  pub below_order : (a : PlainExpr) (rows : Rows) → filter_rows a (order_rows keys rows) ≡ (filter_rows a rows >>= λ kept. Ok (order_rows keys kept))
  below_order a rows = (λ i. cond (any_ordered (overflows a) rows i) (Err overflow) (Ok (kept_ordered (passes a) rows i))) ∙ by (list_any (overflows a) rows)
    where
      by : (o : Bool) → cond o (Err overflow) (Ok (order_rows keys (filter (passes a) rows))) ≡ (cond o (Err overflow) (Ok (filter (passes a) rows)) >>= λ kept. Ok (order_rows keys kept))
      by true = refl
      by false = refl

-- ---- over distinct rows

module _ (equal : (a b : Row) → row_eq a b ≡ true → a ≡ b) where
  abbrev differs : Row → Row → Bool
  differs first row = not (row_eq first row)

  swapped_filters : (p q : Row → Bool) (rows : Rows) → filter p (filter q rows) ≡ filter q (filter p rows)
  swapped_filters p q [] = refl
  swapped_filters p q (row ∷ rows) = by (p row) (q row) refl refl (swapped_filters p q rows)
    where
      by : (s t : Bool) → p row ≡ s → q row ≡ t → filter p (filter q rows) ≡ filter q (filter p rows)
          → filter p (cond t (row ∷ filter q rows) (filter q rows)) ≡ filter q (cond s (row ∷ filter p rows) (filter p rows))
      by true true e f rest = ap (λ b. cond b (row ∷ filter p (filter q rows)) (filter p (filter q rows))) e ∙ ap (λ l. row ∷ l) rest ∙ sym (ap (λ b. cond b (row ∷ filter q (filter p rows)) (filter q (filter p rows))) f)
      by true false e f rest = rest ∙ sym (ap (λ b. cond b (row ∷ filter q (filter p rows)) (filter q (filter p rows))) f)
      by false true e f rest = ap (λ b. cond b (row ∷ filter p (filter q rows)) (filter p (filter q rows))) e ∙ rest
      by false false e f rest = rest

  -- what doesn't pass isn't among what passes
  passed_differ : (p : Row → Bool) (first : Row) → p first ≡ false → (rows : Rows) → filter p (filter (differs first) rows) ≡ filter p rows
  passed_differ p first no_pass [] = refl
  passed_differ p first no_pass (row ∷ rows) = by (row_eq first row) refl (passed_differ p first no_pass rows)
    where
      by : (b : Bool) → row_eq first row ≡ b → filter p (filter (differs first) rows) ≡ filter p rows
          → filter p (cond (not b) (row ∷ filter (differs first) rows) (filter (differs first) rows)) ≡ cond (p row) (row ∷ filter p rows) (filter p rows)
      by true e rest = rest ∙ sym (ap (λ b. cond b (row ∷ filter p rows) (filter p rows)) (ap p (sym (equal first row e)) ∙ no_pass))
      by false e rest = ap (λ l. cond (p row) (row ∷ l) l) rest

  kept_distinct : (p : Row → Bool) (rows : Rows) → filter p (distinct_rows rows) ≡ distinct_rows (filter p rows)
  kept_distinct p [] = refl
  kept_distinct p (first ∷ others) = by (p first) refl (kept_distinct p others)
    where
      by : (b : Bool) → p first ≡ b → filter p (distinct_rows others) ≡ distinct_rows (filter p others)
          → cond b (first ∷ filter p (filter (differs first) (distinct_rows others))) (filter p (filter (differs first) (distinct_rows others))) ≡ distinct_rows (cond b (first ∷ filter p others) (filter p others))
      by true e rest = ap (λ l. first ∷ l) (swapped_filters p (differs first) (distinct_rows others) ∙ ap (filter (differs first)) rest)
      by false e rest = passed_differ p first e (distinct_rows others) ∙ rest

  -- what is equal to a row that doesn't pass isn't looked for
  any_differ : (p : Row → Bool) (first : Row) (rows : Rows) → (p first || list_any p (filter (differs first) rows)) ≡ (p first || list_any p rows)
  any_differ p first rows = by (p first) refl
    where
      others : p first ≡ false → (rows : Rows) → list_any p (filter (differs first) rows) ≡ list_any p rows
      others e [] = refl
      others e (row ∷ rows) = one (row_eq first row) refl (others e rows)
        where
          one : (b : Bool) → row_eq first row ≡ b → list_any p (filter (differs first) rows) ≡ list_any p rows
              → list_any p (cond (not b) (row ∷ filter (differs first) rows) (filter (differs first) rows)) ≡ (p row || list_any p rows)
          one true f rest = rest ∙ sym (ap (λ t. t || list_any p rows) (ap p (sym (equal first row f)) ∙ e))
          one false f rest = ap (λ t. p row || t) rest

      by : (b : Bool) → p first ≡ b → (b || list_any p (filter (differs first) rows)) ≡ (b || list_any p rows)
      by true e = refl
      by false e = others e rows

  any_distinct : (p : Row → Bool) (rows : Rows) → list_any p (distinct_rows rows) ≡ list_any p rows
  any_distinct p [] = refl
  any_distinct p (first ∷ others) = any_differ p first (distinct_rows others) ∙ ap (λ t. p first || t) (any_distinct p others)

  pub below_distinct : (a : PlainExpr) (rows : Rows) → filter_rows a (distinct_rows rows) ≡ (filter_rows a rows >>= λ kept. Ok (distinct_rows kept))
  below_distinct a rows = (λ i. cond (any_distinct (overflows a) rows i) (Err overflow) (Ok (kept_distinct (passes a) rows i))) ∙ by (list_any (overflows a) rows)
    where
      by : (o : Bool) → cond o (Err overflow) (Ok (distinct_rows (filter (passes a) rows))) ≡ (cond o (Err overflow) (Ok (filter (passes a) rows)) >>= λ kept. Ok (distinct_rows kept))
      by true = refl
      by false = refl
