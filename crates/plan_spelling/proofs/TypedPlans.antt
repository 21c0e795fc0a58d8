-- A plan with a typing has a spelling: its lists are no longer than rows may be wide, its columns are there, and its
-- operations have their arguments.
use Rattle.std.proofs.Common.{◌≡◌, refl, sym, ap, subst, ℕ, suc, ◌+◌, ◌^◌, ◌<◌, ◌≤◌, Bool, true, false, ◌&&◌, ◌||◌, cond, List, [], ◌∷◌, ◌++◌, map, length, get_or, slice_get, Option, None, Some, Ok, Err, unwrap_or, length-append, arith}
use Rattle.std.specs.Cmp.Lexicographic.{pointwise}
use Rattle.std.specs.List.{AllByRecursion, list_all}
use Rattle.std.specs.Option.{option_map, option_and_then}
use Rattle.std.specs.Prelude.{nat_lt, not}
use Rattle.std.proofs.lemmas.Option.{slice_get_within, cond_some}
use Rattle.std.proofs.lemmas.Bool.{or_parts, and_parts}
use Rattle.rows_core.specs.declared.kind.Kind.{Kind}
use Rattle.rows_core.specs.declared.kind.Kind.TheVariants as kind
use Rattle.rows_core.specs.declared.order.Key.{Key}
use Rattle.scalar_ops.specs.declared.cell.CellKind.{CellKind}
use Rattle.scalar_ops.specs.declared.cell.CellKind.TheVariants as cell_kind
use Rattle.scalar_ops.specs.declared.table.OpRow.{OpRow}
use Rattle.scalar_ops.specs.Cells.{same_cell_kind}
use Rattle.scalar_ops.specs.Meaning.{row_at, op_at}
use Rattle.scalar_ops.specs.Table.{kinds_of_args}
use Rattle.plan_core.specs.declared.agg.Agg.{Agg}
use Rattle.plan_core.specs.declared.agg.Agg.TheVariants as agg
use Rattle.plan_core.specs.declared.refusal.PlanRefusal.TheVariants.{TooMany}
use Rattle.plan_core.specs.ExpressionKind.{of_both, call_kind, cell_kind_of, is_division, is_divisor, both_truths, choice_kind, expression_kind}
use Rattle.plan_core.specs.Literals.{HasCells, HaveCells, HasValidLiterals}
use Rattle.plan_core.specs.PlainExpr.{PlainExpr, Column, Literal, Call1, Call2, And, Or, If}
use Rattle.plan_core.specs.PlainPlan.{PlainPlan, Scan, Filter, Project, Distinct, Group, Join, Concat, Order, leaves}
use Rattle.plan_core.specs.PlanTyping.{Kinds, all_there, column_kind, column_kind_of, is_empty, is_truth, filter_kinds, project_kinds, number_kind, agg_kind, group_kinds, are_one_kind, pair_agrees, join_kinds, concat_kinds, order_kinds, plan_kinds, column_count, is_above_limit, has_too_many, absent_stream, present_or, typed_or, same_kind}
use Rattle.plan_core.specs.TypedPlan.{TypedPlan, IsTypedPlan}
use Rattle.plan_core.proofs.ValueKinds.{unless_some}
use Rattle.plan_spelling.specs.Spelling.{HasExprSpelling, HasAggSpelling, HasPlanSpelling}

-- ---- what is there

mapped : {A B : Type 0} (f : A → B) (o : Option A) (y : B) → option_map f o ≡ Some y → (x : A) × (o ≡ Some x)
mapped f (Some x) y is = (x, refl)
mapped f None y is = absurd cc

and_then : {A B : Type 0} (f : A → Option B) (o : Option A) (y : B) → option_and_then f o ≡ Some y → (x : A) × (o ≡ Some x) × (f x ≡ Some y)
and_then f (Some x) y is = (x, refl, is)
and_then f None y is = absurd cc

both_some : {A B C : Type 0} (f : A → B → Option C) (x : Option A) (y : Option B) (c : C) → of_both f x y ≡ Some c → (a : A) × (b : B) × (x ≡ Some a) × (y ≡ Some b) × (f a b ≡ Some c)
both_some f (Some a) (Some b) c is = (a, b, refl, refl, is)
both_some f (Some a) None c is = absurd cc
both_some f None y c is = absurd cc

there_front : {A : Type 0} (x : Option A) (xs : List (Option A)) (ys : List A) → all_there (x ∷ xs) ≡ Some ys → (a : A) × (others : List A) × (x ≡ Some a) × (all_there xs ≡ Some others) × (a ∷ others ≡ ys)
there_front None xs ys is = absurd cc
there_front {A = A} (Some a) xs ys is = by (all_there xs) refl is
  where
    by : (o : Option (List A)) → all_there xs ≡ o → option_and_then (λ others. Some (a ∷ others)) o ≡ Some ys → (b : A) × (others : List A) × (Some a ≡ Some b) × (all_there xs ≡ Some others) × (b ∷ others ≡ ys)
    by None e h = absurd cc
    by (Some others) e h = (a, others, refl, e, cc)

-- each of them is there
each_there : {X A : Type 0} (f : X → Option A) (P : X → Type 0) → ((x : X) (a : A) → f x ≡ Some a → P x) → (xs : List X) (ys : List A) → all_there (map f xs) ≡ Some ys → AllByRecursion P xs
each_there f P gives [] ys is = tt
each_there f P gives (x ∷ xs) ys is = let front = there_front (f x) (map f xs) ys is in (gives x front.0 front.2, each_there f P gives xs front.1 front.3)

there_length : {X A : Type 0} (f : X → Option A) (xs : List X) (ys : List A) → all_there (map f xs) ≡ Some ys → length ys ≡ length xs
there_length f [] ys is = let same : [] ≡ ys = cc in sym (ap length same)
there_length f (x ∷ xs) ys is = let front = there_front (f x) (map f xs) ys is in omega (arith, ap length front.4, there_length f xs front.1 front.3)

each_passes : {X : Type 0} (f : X → Bool) (P : X → Type 0) → ((x : X) → f x ≡ true → P x) → (xs : List X) → list_all f xs ≡ true → AllByRecursion P xs
each_passes f P gives [] is = tt
each_passes f P gives (x ∷ xs) is = let parts = and_parts (f x) (list_all f xs) is in (gives x parts.0, each_passes f P gives xs parts.1)

is_less : (a b : ℕ) → nat_lt a b ≡ true → a < b
is_less a b is = grind arith

within_limit : (count : ℕ) → is_above_limit count ≡ false → count ≤ 32
within_limit count is = grind arith

-- ---- operations

same_length : (xs ys : List CellKind) → pointwise same_cell_kind xs ys ≡ true → length ys ≡ length xs
same_length [] [] is = refl
same_length [] (y ∷ ys) is = absurd cc
same_length (x ∷ xs) [] is = absurd cc
same_length (x ∷ xs) (y ∷ ys) is = omega (arith, same_length xs ys (and_parts (same_cell_kind x y) (pointwise same_cell_kind xs ys) is).1)

arguments : (args : List CellKind) (k : CellKind) (row : Option OpRow) → option_and_then (λ r. cond (pointwise same_cell_kind args (kinds_of_args r.args)) (Some r.result) None) row ≡ Some k
    → length (unwrap_or (option_map (λ r. kinds_of_args r.args) row) []) ≡ length args
arguments args k None is = absurd cc
arguments args k (Some r) is = same_length args (kinds_of_args r.args) (cond_some (pointwise same_cell_kind args (kinds_of_args r.args)) r.result k is).0

truths : (x y : Option CellKind) (k : CellKind) → both_truths x y ≡ Some k → (x ≡ Some cell_kind.Bool) × (y ≡ Some cell_kind.Bool)
truths (Some cell_kind.Bool) (Some cell_kind.Bool) k is = (refl, refl)
truths _ _ k is = absurd cc

truth_is : (o : Option CellKind) → is_truth o ≡ true → o ≡ Some cell_kind.Bool
truth_is (Some cell_kind.Bool) is = refl
truth_is _ is = absurd cc

choice : (x y z : Option CellKind) (k : CellKind) → choice_kind x y z ≡ Some k → (x ≡ Some cell_kind.Bool) × ((i : CellKind) × (y ≡ Some i)) × ((j : CellKind) × (z ≡ Some j))
choice (Some cell_kind.Bool) (Some i) (Some j) k is = (refl, (i, refl), (j, refl))
choice _ _ _ k is = absurd cc

number_there : (o : Option Kind) (k : Kind) → number_kind o ≡ Some k → (j : Kind) × (o ≡ Some j)
number_there (Some kind.Int) k is = (kind.Int, refl)
number_there _ k is = absurd cc

agreeing : (x y : Option Kind) → are_one_kind x y ≡ true → ((j : Kind) × (x ≡ Some j)) × ((k : Kind) × (y ≡ Some k))
agreeing (Some j) (Some k) is = ((j, refl), (k, refl))
agreeing _ _ is = absurd cc

-- ---- over columns of which there are few

abbrev IsFew : Kinds → Type 0
IsFew kinds = length kinds ≤ 32

abbrev IsColumn : ℕ → Type 0
IsColumn column = column < 2 ^ 32

column_spelled : (kinds : Kinds) → IsFew kinds → (column : ℕ) (k : Kind) → slice_get kinds column ≡ Some k → IsColumn column
column_spelled kinds few column k is = omega (arith, slice_get_within kinds column k is)

expr_spelled : (kinds : Kinds) → IsFew kinds → (e : PlainExpr) (k : CellKind) → expression_kind kinds e ≡ Some k → HasCells e → HasExprSpelling e
expr_spelled kinds few (Column column) k is cells = let there = mapped cell_kind_of (slice_get kinds column) k is in column_spelled kinds few column there.0 there.1
expr_spelled kinds few (Literal c) k is cells = cells
expr_spelled kinds few (Call1 row a) k is cells =
    let arg = and_then (λ j. call_kind row (j ∷ [])) (expression_kind kinds a) k is in
    (arguments (arg.0 ∷ []) k (row_at row) arg.2, expr_spelled kinds few a arg.0 arg.1 cells)
expr_spelled kinds few (Call2 row a b) k is cells =
    let of_two : CellKind → CellKind → Option CellKind = λ i j. call_kind row (i ∷ j ∷ []) in
    let args = both_some of_two (expression_kind kinds a) (expression_kind kinds b) k (unless_some (is_division (op_at row) && not (is_divisor b)) (of_both of_two (expression_kind kinds a) (expression_kind kinds b)) k is) in
    (arguments (args.0 ∷ args.1 ∷ []) k (row_at row) args.4, expr_spelled kinds few a args.0 args.2 cells.0, expr_spelled kinds few b args.1 args.3 cells.1)
expr_spelled kinds few (And a b) k is cells =
    let parts = truths (expression_kind kinds a) (expression_kind kinds b) k is in
    (expr_spelled kinds few a cell_kind.Bool parts.0 cells.0, expr_spelled kinds few b cell_kind.Bool parts.1 cells.1)
expr_spelled kinds few (Or a b) k is cells =
    let parts = truths (expression_kind kinds a) (expression_kind kinds b) k is in
    (expr_spelled kinds few a cell_kind.Bool parts.0 cells.0, expr_spelled kinds few b cell_kind.Bool parts.1 cells.1)
expr_spelled kinds few (If test a b) k is cells =
    let parts = choice (expression_kind kinds test) (expression_kind kinds a) (expression_kind kinds b) k is in
    (expr_spelled kinds few test cell_kind.Bool parts.0 cells.0, expr_spelled kinds few a parts.1.0 parts.1.1 cells.1.0, expr_spelled kinds few b parts.2.0 parts.2.1 cells.1.1)

exprs_spelled : (kinds : Kinds) → IsFew kinds → (es : List PlainExpr) (out : Kinds) → all_there (map (column_kind_of kinds) es) ≡ Some out → HaveCells es → AllByRecursion HasExprSpelling es
exprs_spelled kinds few [] out is cells = tt
exprs_spelled kinds few (e ∷ es) out is cells =
    let front = there_front (column_kind_of kinds e) (map (column_kind_of kinds) es) out is in
    let own = mapped column_kind (expression_kind kinds e) front.0 front.2 in
    (expr_spelled kinds few e own.0 own.1 cells.0, exprs_spelled kinds few es front.1 front.3 cells.1)

agg_spelled : (kinds : Kinds) → IsFew kinds → (a : Agg) (k : Kind) → agg_kind kinds a ≡ Some k → HasAggSpelling a
agg_spelled kinds few agg.Count k is = tt
agg_spelled kinds few (agg.Sum column) k is = let there = number_there (slice_get kinds column) k is in column_spelled kinds few column there.0 there.1
agg_spelled kinds few (agg.Min column) k is = column_spelled kinds few column k is
agg_spelled kinds few (agg.Max column) k is = column_spelled kinds few column k is
agg_spelled kinds few (agg.First column) k is = column_spelled kinds few column k is
agg_spelled kinds few (agg.Last column) k is = column_spelled kinds few column k is
agg_spelled kinds few (agg.Avg column) k is = let there = number_there (slice_get kinds column) k is in column_spelled kinds few column there.0 there.1

pair_spelled : (left right : Kinds) → IsFew left → IsFew right → (p : ℕ × ℕ) → pair_agrees left right p ≡ true → IsColumn p.0 × IsColumn p.1
pair_spelled left right few_left few_right p is =
    let there = agreeing (slice_get left p.0) (slice_get right p.1) is in
    (column_spelled left few_left p.0 there.0.0 there.0.1, column_spelled right few_right p.1 there.1.0 there.1.1)

-- ---- plans

of_both_lists : {A : Type 0} (P : A → Type 0) (xs ys : List A) → AllByRecursion P (xs ++ ys) → AllByRecursion P xs × AllByRecursion P ys
of_both_lists P [] ys all = (tt, all)
of_both_lists P (x ∷ xs) ys all = let rest = of_both_lists P xs ys all.1 in ((all.0, rest.0), rest.1)

-- the kinds of a group's keys, and those of its aggregates
group_parts : (kinds : Kinds) (keys : List ℕ) (aggs : List Agg) (out : Kinds) → group_kinds keys aggs kinds ≡ Some out
    → (ks : Kinds) × (js : Kinds) × (all_there (map (slice_get kinds) keys) ≡ Some ks) × (all_there (map (agg_kind kinds) aggs) ≡ Some js) × (ks ++ js ≡ out)
group_parts kinds keys aggs out is =
    let appended = λ (ks : Kinds) (js : Kinds). Some (ks ++ js) in
    let both = both_some appended (all_there (map (slice_get kinds) keys)) (all_there (map (agg_kind kinds) aggs)) out
    (unless_some (is_empty keys || is_empty aggs) (of_both appended (all_there (map (slice_get kinds) keys)) (all_there (map (agg_kind kinds) aggs))) out is) in
    (both.0, both.1, both.2, both.3, (let same : Some (both.0 ++ both.1) ≡ Some out = both.4 in cc))

joined : (left right : Kinds) (on : List (ℕ × ℕ)) (out : Kinds) → join_kinds on left right ≡ Some out → (list_all (pair_agrees left right) on ≡ true) × (left ++ right ≡ out)
joined left right on out is =
    cond_some (list_all (pair_agrees left right) on) (left ++ right) out (unless_some (is_empty on) (cond (list_all (pair_agrees left right) on) (Some (left ++ right)) None) out is)

ordered : (kinds : Kinds) (keys : List Key) (out : Kinds) → order_kinds keys kinds ≡ Some out → (list_all (λ key. nat_lt key.column (length kinds)) keys ≡ true) × (kinds ≡ out)
ordered kinds keys out is =
    let there = list_all (λ (key : Key). nat_lt key.column (length kinds)) keys in
    cond_some there kinds out (unless_some (is_empty keys) (cond there (Some kinds) None) out is)

module _ (schemas : List Kinds) where
  -- what typing gives of a plan
  abbrev FitsTyping : PlainPlan → Kinds → Type 0
  FitsTyping p kinds = (plan_kinds schemas p ≡ Some kinds) × (has_too_many schemas p ≡ false)

  counted_columns : (p : PlainPlan) (kinds : Kinds) → plan_kinds schemas p ≡ Some kinds → column_count schemas p ≡ length kinds
  counted_columns p kinds is = ap (λ o. length (unwrap_or o [])) is

  join_parts : (left right : PlainPlan) (on : List (ℕ × ℕ)) → has_too_many schemas (Join left right on) ≡ false
      → (is_above_limit (column_count schemas left + column_count schemas right) ≡ false) × (is_above_limit (length on) ≡ false) × (has_too_many schemas left ≡ false) × (has_too_many schemas right ≡ false)
  join_parts left right on is =
      let three = or_parts (is_above_limit (column_count schemas left + column_count schemas right) || is_above_limit (length on) || has_too_many schemas left) (has_too_many schemas right) is in
      let two = or_parts (is_above_limit (column_count schemas left + column_count schemas right) || is_above_limit (length on)) (has_too_many schemas left) three.0 in
      let one = or_parts (is_above_limit (column_count schemas left + column_count schemas right)) (is_above_limit (length on)) two.0 in
      (one.0, one.1, two.1, three.1)

  few_columns : (p : PlainPlan) (kinds : Kinds) → FitsTyping p kinds → IsFew kinds
  few_columns (Scan stream) kinds fits = omega (arith, counted_columns (Scan stream) kinds fits.0, within_limit (column_count schemas (Scan stream)) fits.1)
  few_columns (Filter child test) kinds fits =
      let below = and_then (filter_kinds test) (plan_kinds schemas child) kinds fits.0 in
      subst IsFew (cond_some (is_truth (expression_kind below.0 test)) below.0 kinds below.2).1 (few_columns child below.0 (below.1, fits.1))
  few_columns (Project child columns) kinds fits =
      let below = and_then (project_kinds columns) (plan_kinds schemas child) kinds fits.0 in
      let few = or_parts (is_above_limit (length columns)) (has_too_many schemas child) fits.1 in
      omega (
        arith,
        within_limit (length columns) few.0,
        there_length (column_kind_of below.0) columns kinds (unless_some (is_empty columns) (all_there (map (column_kind_of below.0) columns)) kinds below.2),
      )
  few_columns (Distinct child) kinds fits = few_columns child kinds fits
  few_columns (Group child keys aggs) kinds fits =
      let below = and_then (group_kinds keys aggs) (plan_kinds schemas child) kinds fits.0 in
      let few = or_parts (is_above_limit (length keys + length aggs)) (has_too_many schemas child) fits.1 in
      let parts = group_parts below.0 keys aggs kinds below.2 in
      omega (
        arith,
        within_limit (length keys + length aggs) few.0,
        length-append parts.0 parts.1,
        ap length parts.4,
        there_length (slice_get below.0) keys parts.0 parts.2,
        there_length (agg_kind below.0) aggs parts.1 parts.3,
      )
  few_columns (Join left right on) kinds fits =
      let below = both_some (join_kinds on) (plan_kinds schemas left) (plan_kinds schemas right) kinds fits.0 in
      let few = join_parts left right on fits.1 in
      omega (
        arith,
        within_limit (column_count schemas left + column_count schemas right) few.0,
        counted_columns left below.0 below.2,
        counted_columns right below.1 below.3,
        length-append below.0 below.1,
        ap length (joined below.0 below.1 on kinds below.4).1,
      )
  few_columns (Concat left right) kinds fits =
      let below = both_some concat_kinds (plan_kinds schemas left) (plan_kinds schemas right) kinds fits.0 in
      let few = or_parts (has_too_many schemas left) (has_too_many schemas right) fits.1 in
      subst IsFew (cond_some (pointwise same_kind below.0 below.1) below.0 kinds below.4).1 (few_columns left below.0 (below.2, few.0))
  few_columns (Order child keys) kinds fits =
      let below = and_then (order_kinds keys) (plan_kinds schemas child) kinds fits.0 in
      let few = or_parts (is_above_limit (length keys)) (has_too_many schemas child) fits.1 in
      subst IsFew (ordered below.0 keys kinds below.2).1 (few_columns child below.0 (below.1, few.1))

  -- the streams of its leaves are numbers of four bytes
  abbrev HaveNumbers : PlainPlan → Type 0
  HaveNumbers p = AllByRecursion IsColumn (leaves p)

  plan_spelled : (p : PlainPlan) (kinds : Kinds) → FitsTyping p kinds → HaveNumbers p → HasValidLiterals p → HasPlanSpelling p
  plan_spelled (Scan stream) kinds fits numbers cells = numbers.0
  plan_spelled (Filter child test) kinds fits numbers cells =
      let below = and_then (filter_kinds test) (plan_kinds schemas child) kinds fits.0 in
      let truth = truth_is (expression_kind below.0 test) (cond_some (is_truth (expression_kind below.0 test)) below.0 kinds below.2).0 in (
        plan_spelled child below.0 (below.1, fits.1) numbers cells.0,
        expr_spelled below.0 (few_columns child below.0 (below.1, fits.1)) test cell_kind.Bool truth cells.1,
      )
  plan_spelled (Project child columns) kinds fits numbers cells =
      let below = and_then (project_kinds columns) (plan_kinds schemas child) kinds fits.0 in
      let few = or_parts (is_above_limit (length columns)) (has_too_many schemas child) fits.1 in (
        plan_spelled child below.0 (below.1, few.1) numbers cells.0,
        (
          omega (arith, within_limit (length columns) few.0),
          exprs_spelled below.0 (few_columns child below.0 (below.1, few.1)) columns kinds (unless_some (is_empty columns) (all_there (map (column_kind_of below.0) columns)) kinds below.2) cells.1,
        ),
      )
  plan_spelled (Distinct child) kinds fits numbers cells = plan_spelled child kinds fits numbers cells
  plan_spelled (Group child keys aggs) kinds fits numbers cells =
      let below = and_then (group_kinds keys aggs) (plan_kinds schemas child) kinds fits.0 in
      let few = or_parts (is_above_limit (length keys + length aggs)) (has_too_many schemas child) fits.1 in
      let parts = group_parts below.0 keys aggs kinds below.2 in
      let narrow = few_columns child below.0 (below.1, few.1) in (
        plan_spelled child below.0 (below.1, few.1) numbers cells,
        (
          omega (arith, within_limit (length keys + length aggs) few.0),
          each_there (slice_get below.0) IsColumn (column_spelled below.0 narrow) keys parts.0 parts.2,
        ),
        (
          omega (arith, within_limit (length keys + length aggs) few.0),
          each_there (agg_kind below.0) HasAggSpelling (agg_spelled below.0 narrow) aggs parts.1 parts.3,
        ),
      )
  plan_spelled (Join left right on) kinds fits numbers cells =
      let below = both_some (join_kinds on) (plan_kinds schemas left) (plan_kinds schemas right) kinds fits.0 in
      let few = join_parts left right on fits.1 in
      let streams = of_both_lists IsColumn (leaves left) (leaves right) numbers in (
        plan_spelled left below.0 (below.2, few.2) streams.0 cells.0,
        plan_spelled right below.1 (below.3, few.3) streams.1 cells.1,
        (
          omega (arith, within_limit (length on) few.1),
          each_passes (pair_agrees below.0 below.1) (λ (p : ℕ × ℕ). IsColumn p.0 × IsColumn p.1)
              (pair_spelled below.0 below.1 (few_columns left below.0 (below.2, few.2)) (few_columns right below.1 (below.3, few.3))) on
              (joined below.0 below.1 on kinds below.4).0,
        ),
      )
  plan_spelled (Concat left right) kinds fits numbers cells =
      let below = both_some concat_kinds (plan_kinds schemas left) (plan_kinds schemas right) kinds fits.0 in
      let few = or_parts (has_too_many schemas left) (has_too_many schemas right) fits.1 in
      let streams = of_both_lists IsColumn (leaves left) (leaves right) numbers in
      (plan_spelled left below.0 (below.2, few.0) streams.0 cells.0, plan_spelled right below.1 (below.3, few.1) streams.1 cells.1)
  plan_spelled (Order child keys) kinds fits numbers cells =
      let below = and_then (order_kinds keys) (plan_kinds schemas child) kinds fits.0 in
      let few = or_parts (is_above_limit (length keys)) (has_too_many schemas child) fits.1 in
      let narrow = few_columns child below.0 (below.1, few.1) in (
        plan_spelled child below.0 (below.1, few.1) numbers cells,
        (
          omega (arith, within_limit (length keys) few.0),
          each_passes (λ (key : Key). nat_lt key.column (length below.0)) (λ (key : Key). IsColumn key.column)
              (λ key is. omega (arith, is_less key.column (length below.0) is)) keys (ordered below.0 keys kinds below.2).0,
        ),
      )

-- ---- typed plans

typing_parts : (o : Option ℕ) (k : Option Kinds) (many : Bool) (kinds : Kinds)
    → present_or o (typed_or k (λ l. cond many (Err TooMany) (Ok l))) ≡ Ok kinds → (k ≡ Some kinds) × (many ≡ false)
typing_parts None (Some l) false kinds is = (cc, refl)
typing_parts None (Some l) true kinds is = absurd cc
typing_parts None None many kinds is = absurd cc
typing_parts (Some stream) k many kinds is = absurd cc

pub each_number : (numbers : List ℕ) → ((i : ℕ) → get_or numbers i 0 < 2 ^ 32) → AllByRecursion IsColumn numbers
each_number [] small = tt
each_number (n ∷ numbers) small = (small 0, each_number numbers (λ i. small (suc i)))

pub typed_spelled : (typed : TypedPlan) → IsTypedPlan typed → AllByRecursion (λ (stream : ℕ). stream < 2 ^ 32) typed.leaves → HasPlanSpelling typed.plan
typed_spelled typed is small =
    let schemas = is.0.0 in
    plan_spelled schemas typed.plan typed.kinds
    (typing_parts (absent_stream schemas typed.plan) (plan_kinds schemas typed.plan) (has_too_many schemas typed.plan) typed.kinds is.0.1) (subst (AllByRecursion IsColumn) is.1 small) is.2
