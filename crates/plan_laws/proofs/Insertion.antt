-- Rows that are inserted one by one in front of the first row that isn't below them.
use Rattle.std.proofs.Common.{◌≡◌, refl, sym, ap, ◌∙◌, subst, Bool, true, false, cond, not, ◌&&◌, List, [], ◌∷◌}
use Rattle.std.specs.Cmp.{IsTotalOrder, IsStrictWeakOrder}
use Rattle.std.specs.List.{filter}
use Rattle.std.specs.List.Sorted.{IsPermutation, ties}
use Rattle.std.specs.Ordering.{is_le, is_lt, ordering_reverse}
use Rattle.std.specs.declared.cmp.Ordering.{Ordering}
use Rattle.std.specs.declared.cmp.Ordering.TheVariants.{Less, Equal, Greater}
use Rattle.std.proofs.lemmas.List.Sorted.{ranks_by, IsPermutation-refl, IsPermutation-sym, IsPermutation-cons, IsPermutation-trans, IsPermutation-middle}
use Rattle.rows_core.specs.declared.order.Key.{Key}
use Rattle.rows_core.specs.RowOrder.{row_cmp}
use Rattle.plan_core.specs.Columns.{Row, Rows}
use Rattle.plan_core.specs.StableOrder.{IsOrderedBy, insert_row, order_rows}
use Rattle.plan_laws.proofs.StableLists.{Ascends, NoneBelow, ascends_from_sorted, sorted_from_ascends, one_list}

abbrev pub below : List Key → Row → Row → Bool
below keys a b = is_lt (row_cmp keys a b)

module _ (keys : List Key) (total : IsTotalOrder (row_cmp keys)) where
  pub weak : IsStrictWeakOrder (below keys)
  weak = ranks_by total (λ row. row)

  -- a row is at most another one where the other isn't below it
  not_below : (a b : Row) → is_le (row_cmp keys a b) ≡ not (below keys b a)
  not_below a b = by (row_cmp keys a b) ∙ ap (λ r. not (is_lt r)) (sym (total.antisymm b a))
    where
      by : (r : Ordering) → is_le r ≡ not (is_lt (ordering_reverse r))
      by Less = refl
      by Equal = refl
      by Greater = refl

  -- ---- the same rows

  same_rows : (row : Row) (rows : Rows) → IsPermutation (row ∷ rows) (insert_row keys row rows)
  same_rows row [] = IsPermutation-refl (row ∷ [])
  same_rows row (first ∷ others) = by (same_rows row others) (is_le (row_cmp keys row first))
    where
      by : IsPermutation (row ∷ others) (insert_row keys row others) → (b : Bool) → IsPermutation (row ∷ first ∷ others) (cond b (row ∷ first ∷ others) (first ∷ insert_row keys row others))
      by rest true = IsPermutation-refl _
      by rest false = IsPermutation-trans _ (first ∷ row ∷ others) _ (IsPermutation-sym _ _ (IsPermutation-middle (first ∷ []) row others)) (IsPermutation-cons first _ _ rest)

  pub permutes : (rows : Rows) → IsPermutation rows (order_rows keys rows)
  permutes [] = IsPermutation-refl []
  permutes (row ∷ rows) = IsPermutation-trans _ (row ∷ order_rows keys rows) _ (IsPermutation-cons row _ _ (permutes rows)) (same_rows row (order_rows keys rows))

  -- ---- in order

  -- a row that isn't below x isn't below it behind the insertion either
  none_below_inserted : (x row : Row) (rows : Rows) → below keys row x ≡ false → NoneBelow (below keys) x rows → NoneBelow (below keys) x (insert_row keys row rows)
  none_below_inserted x row [] here none = (here, tt)
  none_below_inserted x row (first ∷ others) here none = by (none_below_inserted x row others here none.1) (is_le (row_cmp keys row first))
    where
      by : NoneBelow (below keys) x (insert_row keys row others) → (b : Bool) → NoneBelow (below keys) x (cond b (row ∷ first ∷ others) (first ∷ insert_row keys row others))
      by rest true = (here, none)
      by rest false = (none.0, rest)

  -- what isn't below y isn't below what y isn't below
  none_below_further : (x y : Row) (rows : Rows) → below keys y x ≡ false → NoneBelow (below keys) y rows → NoneBelow (below keys) x rows
  none_below_further x y [] first none = tt
  none_below_further x y (row ∷ rows) first none = (weak.chain row y x none.0 first, none_below_further x y rows first none.1)

  inserted_ascends : (row : Row) (rows : Rows) → Ascends (below keys) rows → Ascends (below keys) (insert_row keys row rows)
  inserted_ascends row [] h = (tt, tt)
  inserted_ascends row (first ∷ others) h = by (inserted_ascends row others h.1) (below keys first row) refl
    where
      by : Ascends (below keys) (insert_row keys row others) → (b : Bool) → below keys first row ≡ b → Ascends (below keys) (insert_row keys row (first ∷ others))
      by rest true e =
          subst (λ b. Ascends (below keys) (cond b (row ∷ first ∷ others) (first ∷ insert_row keys row others))) (sym (not_below row first ∙ ap not e))
          (none_below_inserted first row others (weak.one_way first row e) h.0, rest)
      by rest false e =
          subst (λ b. Ascends (below keys) (cond b (row ∷ first ∷ others) (first ∷ insert_row keys row others))) (sym (not_below row first ∙ ap not e))
          ((e, none_below_further row first others e h.0), h)

  pub ascends : (rows : Rows) → Ascends (below keys) (order_rows keys rows)
  ascends [] = tt
  ascends (row ∷ rows) = inserted_ascends row (order_rows keys rows) (ascends rows)

  -- ---- rows with equal keys as they were

  -- of two rows of which one is below the other at most one ties with x
  one_ties : (x a b : Row) → below keys a b ≡ true → ties (below keys) x b ≡ true → ties (below keys) x a ≡ false
  one_ties x a b less tie = by (below keys x a) (below keys a x) refl refl
    where
      parts : (p q : Bool) → not p && not q ≡ true → (p ≡ false) × (q ≡ false)
      parts true q h = absurd (cc)
      parts false true h = absurd (cc)
      parts false false h = (refl, refl)

      by : (p q : Bool) → below keys x a ≡ p → below keys a x ≡ q → not p && not q ≡ false
      by true q e f = refl
      by false true e f = refl
      by false false e f = let with_b = parts (below keys x b) (below keys b x) tie in sym less ∙ weak.chain a x b f with_b.0

  swapped : (p q : Bool) (a b : Row) (rows : Rows) → (p ≡ true → q ≡ false) → cond q (a ∷ cond p (b ∷ rows) rows) (cond p (b ∷ rows) rows) ≡ cond p (b ∷ cond q (a ∷ rows) rows) (cond q (a ∷ rows) rows)
  swapped true true a b rows one = absurd (let h : true ≡ false = one refl in cc)
  swapped true false a b rows one = refl
  swapped false q a b rows one = refl

  insertion_keeps : (x row : Row) (rows : Rows) → filter (ties (below keys) x) (insert_row keys row rows) ≡ filter (ties (below keys) x) (row ∷ rows)
  insertion_keeps x row [] = refl
  insertion_keeps x row (first ∷ others) = by (insertion_keeps x row others) (below keys first row) refl
    where
      kept : Rows → Rows
      kept rows = filter (ties (below keys) x) rows

      by : kept (insert_row keys row others) ≡ kept (row ∷ others) → (b : Bool) → below keys first row ≡ b → kept (insert_row keys row (first ∷ others)) ≡ kept (row ∷ first ∷ others)
      by rest true e =
          ap (λ b. kept (cond b (row ∷ first ∷ others) (first ∷ insert_row keys row others))) (not_below row first ∙ ap not e)
          ∙ ap (λ l. cond (ties (below keys) x first) (first ∷ l) l) rest
          ∙ swapped (ties (below keys) x row) (ties (below keys) x first) first row (kept others) (one_ties x first row e)
      by rest false e = ap (λ b. kept (cond b (row ∷ first ∷ others) (first ∷ insert_row keys row others))) (not_below row first ∙ ap not e)

  pub keeps : (rows : Rows) (x : Row) → filter (ties (below keys) x) (order_rows keys rows) ≡ filter (ties (below keys) x) rows
  keeps [] x = refl
  keeps (row ∷ rows) x =
      insertion_keeps x row (order_rows keys rows) ∙ ap (λ l. cond (ties (below keys) x row) (row ∷ l) l) (keeps rows x)

  pub ordered : (rows : Rows) → IsOrderedBy keys rows (order_rows keys rows)
  ordered rows = record {
    permutation = permutes rows;
    ascends = sorted_from_ascends (below keys) (order_rows keys rows) (ascends rows);
    stable = keeps rows;
  }

  pub only : (rows sorted : Rows) → IsOrderedBy keys rows sorted → sorted ≡ order_rows keys rows
  only rows sorted h =
      one_list (below keys) weak sorted (order_rows keys rows) (ascends_from_sorted (below keys) weak sorted h.ascends) (ascends rows)
      (λ x. h.stable x ∙ sym (keeps rows x))
