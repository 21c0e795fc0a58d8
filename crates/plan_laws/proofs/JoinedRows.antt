-- What an operator gives of one list of rows and then another one.
use Rattle.std.proofs.Common.{◌≡◌, refl, sym, ap, ◌∙◌, Bool, true, false, cond, not, ◌&&◌, ◌||◌, List, [], ◌∷◌, ◌++◌, Result, Ok, Err}
use Rattle.std.specs.Cmp.{IsTotalOrder}
use Rattle.std.specs.List.{filter, list_any}
use Rattle.std.specs.List.Sorted.{IsSorted, ties}
use Rattle.std.specs.Ordering.{is_le}
use Rattle.std.proofs.lemmas.List.Elements.{filter-append, filter_agree}
use Rattle.std.proofs.lemmas.List.Folds.{list_any-append}
use Rattle.std.proofs.lemmas.List.Sorted.{IsPermutation-append, IsPermutation-trans}
use Rattle.plan_laws.specs.Merge.{merge_by}
use Rattle.rows_core.specs.declared.order.Key.{Key}
use Rattle.rows_core.specs.declared.overflow.Overflow.{Overflow}
use Rattle.rows_core.specs.RowOrder.{row_cmp}
use Rattle.rows_core.specs.Value.{row_eq}
use Rattle.scalar_ops.specs.Meaning.{overflow}
use Rattle.plan_core.specs.Columns.{Row, Rows}
use Rattle.plan_core.specs.Distinct.{distinct_rows}
use Rattle.plan_core.specs.ExpressionValue.{◌>>=◌}
use Rattle.plan_core.specs.Filter.{filter_rows, overflows, passes}
use Rattle.plan_core.specs.PlainExpr.{PlainExpr}
use Rattle.plan_core.specs.Project.{project_row, project_rows}
use Rattle.plan_core.specs.StableOrder.{order_rows}
use Rattle.plan_laws.specs.GrowthOfRows.{joined, has_row, new_rows}
use Rattle.plan_laws.proofs.FirstOfEqual.{either_way, others_than, same_members}
use Rattle.plan_laws.proofs.Insertion.{below, keeps, only, ordered, permutes}
use Rattle.plan_laws.proofs.Merging.{one_merged}

-- ---- tests

pub filter_joined : (test : PlainExpr) (a b : Rows) → filter_rows test (a ++ b) ≡ joined (filter_rows test a) (filter_rows test b)
filter_joined test a b =
    ap (λ any. cond any (Err overflow) (Ok (filter (passes test) (a ++ b)))) (list_any-append (overflows test) a b)
    ∙ by (list_any (overflows test) a) (list_any (overflows test) b)
  where
    kept : Rows → Result Rows Overflow
    kept rows = Ok (filter (passes test) rows)

    by : (p q : Bool) → cond (p || q) (Err overflow) (kept (a ++ b)) ≡ joined (cond p (Err overflow) (kept a)) (cond q (Err overflow) (kept b))
    by true q = refl
    by false true = refl
    by false false = ap Ok (filter-append (passes test) a b)

-- ---- columns

with_none : (rows : Result Rows Overflow) → rows ≡ joined (Ok []) rows
with_none (Ok rows) = refl
with_none (Err e) = refl

pub project_joined : (columns : List PlainExpr) (a b : Rows) → project_rows columns (a ++ b) ≡ joined (project_rows columns a) (project_rows columns b)
project_joined columns [] b = with_none (project_rows columns b)
project_joined columns (row ∷ rows) b =
    ap (λ r. project_row columns row >>= λ first. r >>= λ others. Ok (first ∷ others)) (project_joined columns rows b)
    ∙ by (project_row columns row) (project_rows columns rows) (project_rows columns b)
  where
    by : (r : Result Row Overflow) (s t : Result Rows Overflow) → (r >>= λ first. joined s t >>= λ others. Ok (first ∷ others)) ≡ joined (r >>= λ first. s >>= λ others. Ok (first ∷ others)) t
    by (Ok x) (Ok xs) (Ok ys) = refl
    by (Ok x) (Ok xs) (Err e) = refl
    by (Ok x) (Err e) t = refl
    by (Err e) s t = refl

-- ---- the first of equal rows

module _ {X : Type 0} (p q : X → Bool) where
  pub filter_twice : (xs : List X) → filter p (filter q xs) ≡ filter (λ x. q x && p x) xs
  filter_twice [] = refl
  filter_twice (x ∷ xs) = by (q x) (filter_twice xs)
    where
      by : (b : Bool) → filter p (filter q xs) ≡ filter (λ y. q y && p y) xs → filter p (cond b (x ∷ filter q xs) (filter q xs)) ≡ cond (b && p x) (x ∷ filter (λ y. q y && p y) xs) (filter (λ y. q y && p y) xs)
      by true rest = ap (λ l. cond (p x) (x ∷ l) l) rest
      by false rest = rest

all_kept : {X : Type 0} (xs : List X) → xs ≡ filter (λ x. true) xs
all_kept [] = refl
all_kept (x ∷ xs) = ap (λ l. x ∷ l) (all_kept xs)

not_in_both : (first : Row) (others : Rows) (row : Row) → (not (has_row others row) && others_than first row) ≡ not (has_row (first ∷ others) row)
not_in_both first others row = ap (λ b. not (has_row others row) && not b) (either_way first row) ∙ by (row_eq row first) (has_row others row)
  where
    by : (p q : Bool) → (not q && not p) ≡ not (p || q)
    by true true = refl
    by true false = refl
    by false true = refl
    by false false = refl

pub distinct_joined : (a b : Rows) → distinct_rows (a ++ b) ≡ distinct_rows a ++ new_rows a b
distinct_joined [] b = all_kept (distinct_rows b)
distinct_joined (first ∷ others) b =
    let p : Row → Bool = others_than first in
    ap (λ l. first ∷ filter p l) (distinct_joined others b)
    ∙ ap (λ l. first ∷ l) (filter-append p (distinct_rows others) (new_rows others b)
    ∙ ap (λ l. filter p (distinct_rows others) ++ l) (filter_twice p (λ row. not (has_row others row)) (distinct_rows b) ∙ filter_agree _ _ (not_in_both first others) (distinct_rows b)))

pub new_to_distinct : (a b : Rows) → new_rows (distinct_rows a) b ≡ new_rows a b
new_to_distinct a b = filter_agree _ _ (λ row. ap not (same_members row a)) (distinct_rows b)

-- ---- orders

module _ (keys : List Key) (total : IsTotalOrder (row_cmp keys)) where
  pub order_joined : (a b : Rows) → order_rows keys (order_rows keys a ++ order_rows keys b) ≡ order_rows keys (a ++ b)
  order_joined a b =
      let both = order_rows keys a ++ order_rows keys b in
      only keys total (a ++ b) (order_rows keys both) (record {
        permutation = IsPermutation-trans (a ++ b) both (order_rows keys both) (IsPermutation-append a (order_rows keys a) b (order_rows keys b) (permutes keys total a) (permutes keys total b)) (permutes keys total both);
        ascends = (ordered keys total both).ascends;
        stable = λ x. keeps keys total both x ∙ filter-append (ties (below keys) x) (order_rows keys a) (order_rows keys b)
            ∙ ap (λ l. l ++ filter (ties (below keys) x) (order_rows keys b)) (keeps keys total a x) ∙ ap (λ l. filter (ties (below keys) x) a ++ l) (keeps keys total b x)
            ∙ sym (filter-append (ties (below keys) x) a b);
      })

  pub merge_ordered : (a b : Rows) → IsSorted (row_cmp keys) a → IsSorted (row_cmp keys) b → merge_by (λ x y. is_le (row_cmp keys x y)) a b ≡ order_rows keys (a ++ b)
  merge_ordered a b up_left up_right =
      let both = ordered keys total (a ++ b) in
      one_merged (row_cmp keys) total a b (order_rows keys (a ++ b)) up_left up_right both.ascends both.stable
