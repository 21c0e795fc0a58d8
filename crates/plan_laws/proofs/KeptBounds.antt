-- What is kept of a typed plan's result is a kept form of the plan's shape, within the bounds of a file.
use Rattle.std.proofs.Common.{suc, ◌≡◌, ◌||◌, refl, sym, ap, ◌∙◌, subst, ℕ, ◌^◌, ◌<◌, ◌≤◌, Bool, true, false, not, cond, List, [], ◌∷◌, ◌++◌, map, length, take, drop, Result, Ok, Err, Some, unwrap_or, IfOk, arith}
use Rattle.std.specs.Cmp.{IsTotalOrder}
use Rattle.std.specs.List.{AllByRecursion, filter, list_any, slice_get, Contains}
use Rattle.std.specs.Ordering.{is_le}
use Rattle.std.proofs.lemmas.List.{length-append, length-map}
use Rattle.std.proofs.lemmas.List.Elements.{All-from_recursion, recursion_from_All, All-contains, All-contains_itself}
use Rattle.rows_core.specs.declared.order.Key.{Key}
use Rattle.rows_core.specs.declared.overflow.Overflow.{Overflow}
use Rattle.rows_core.specs.RowOrder.{row_cmp}
use Rattle.rows_core.specs.Value.{kind_of, row_eq}
use Rattle.rows_core.specs.Equality.{row_eq-Decides}
use Rattle.scalar_ops.specs.Meaning.{overflow}
use Rattle.row_blob.specs.declared.kept.Kept.{Kept}
use Rattle.row_blob.specs.declared.kept.Kept.TheVariants as kept
use Rattle.row_blob.specs.declared.shape.Shape.TheVariants as shape
use Rattle.row_blob.specs.Kept.{IsRow, AreEach, IsAcc, AreInOrder, IsKept}
use Rattle.plan_core.specs.declared.agg.Agg.{Agg}
use Rattle.plan_core.specs.Columns.{Row, Rows, columns_of}
use Rattle.plan_core.specs.Distinct.{distinct_rows}
use Rattle.plan_core.specs.ExpressionValue.{◌>>=◌, all_of}
use Rattle.plan_core.specs.Filter.{filter_rows, overflows, passes}
use Rattle.plan_core.specs.Group.{keys_of}
use Rattle.plan_core.specs.Literals.{HasValidLiterals}
use Rattle.plan_core.specs.MachineTime.{machine_time}
use Rattle.plan_core.specs.PlainExpr.{PlainExpr}
use Rattle.plan_core.specs.PlainPlan.{PlainPlan, Scan, Filter, Project, Distinct, Group, Join, Concat, Order, leaves, leaf_count}
use Rattle.plan_core.specs.PlanMeaning.{plan_meaning}
use Rattle.plan_core.specs.PlanTyping.{Kinds, plan_kinds, all_there, agg_kind, group_kinds, join_kinds, is_empty}
use Rattle.plan_core.specs.Project.{project_row, project_rows}
use Rattle.plan_core.specs.StableOrder.{insert_row, order_rows}
use Rattle.plan_core.specs.TypedRows.{HaveKinds, AreOfStreams}
use Rattle.plan_core.proofs.ValueKinds.{unless_some}
use Rattle.plan_laws.specs.KeptForm.{acc_of, kept_group, tagged_from, kept_form}
use Rattle.plan_laws.specs.PlanShape.{kinds_given, kind_at, acc_kind_of, plan_shape}
use Rattle.plan_laws.specs.ValidRows.{IsValid, IsValidRow, AreValidRows, AreValidLists, AreShortLists}
use Rattle.plan_laws.proofs.Answers.{both_ok, both_some, all_front}
use Rattle.plan_laws.proofs.FirstOfEqual.{has_no_more}
use Rattle.plan_laws.proofs.KeptParts.{row_is, rows_are, in_order, kinds_there, accs_are, IsGroup, fresh_distinct, groups_in_order, tagged_in_order, tagged_count, few_pairs}
use Rattle.plan_laws.proofs.Members.{kept as kept_member, mapped_from}
use Rattle.plan_laws.proofs.TypedOperators.{HasKinds, keys_typed, pair_typed}
use Rattle.plan_laws.proofs.TypedPlans.{and_then, lists_of_parts, gives_typed}
use Rattle.plan_laws.proofs.ValidPlans.{all-append, all-filter, all-take, all-drop, filter_shorter, count_of, IsBelow, input_below, inputs_below, gives_valid}
use Rattle.plan_laws.proofs.ValidValues.{GivesCells, columns_valid}

-- ---- how many rows operators give

filter_fewer : (test : PlainExpr) (rows out : Rows) → filter_rows test rows ≡ Ok out → length out ≤ length rows
filter_fewer test rows out is = by (list_any (overflows test) rows) is
  where
    by : (b : Bool) → cond b (Err overflow) (Ok (filter (passes test) rows)) ≡ Ok out → length out ≤ length rows
    by true h = absurd cc
    by false h = let same : filter (passes test) rows ≡ out = cc in subst (λ (l : Rows). length l ≤ length rows) same (filter_shorter (passes test) rows)

all_as_many : {X A : Type 0} (f : X → Result A Overflow) (xs : List X) (out : List A) → all_of (map f xs) ≡ Ok out → length out ≡ length xs
all_as_many f [] out is = let same : [] ≡ out = cc in sym (ap length same)
all_as_many f (x ∷ xs) out is =
    let got = all_front f x xs out is in
    sym (ap length got.4) ∙ ap suc (all_as_many f xs got.1 got.3)

distinct_fewer : (rows : Rows) → length (distinct_rows rows) ≤ length rows
distinct_fewer [] = omega arith
distinct_fewer (first ∷ others) = omega (arith, filter_shorter (λ row. not (row_eq first row)) (distinct_rows others), distinct_fewer others)

insert_more : (keys : List Key) (row : Row) (rows : Rows) → length (insert_row keys row rows) ≡ suc (length rows)
insert_more keys row [] = refl
insert_more keys row (first ∷ others) = go (is_le (row_cmp keys row first)) (insert_more keys row others)
  where
    go : (b : Bool) → length (insert_row keys row others) ≡ suc (length others) → length (cond b (row ∷ first ∷ others) (first ∷ insert_row keys row others)) ≡ suc (suc (length others))
    go true e = refl
    go false e = ap suc e

order_as_many : (keys : List Key) (rows : Rows) → length (order_rows keys rows) ≡ length rows
order_as_many keys [] = refl
order_as_many keys (row ∷ rows) = insert_more keys row (order_rows keys rows) ∙ ap suc (order_as_many keys rows)

-- ---- kept forms

after_one : (r : Result Rows Overflow) (f : Rows → Kept) (Q : Kept → Type 0) → ((rows : Rows) → r ≡ Ok rows → Q (f rows)) → IfOk (r >>= λ rows. Ok (f rows)) Q
after_one (Ok rows) f Q h = h rows refl
after_one (Err e) f Q h = tt

after_two : (r s : Result Rows Overflow) (f : Rows → Rows → Kept) (Q : Kept → Type 0) → ((lefts rights : Rows) → r ≡ Ok lefts → s ≡ Ok rights → Q (f lefts rights))
    → IfOk (r >>= λ lefts. s >>= λ rights. Ok (f lefts rights)) Q
after_two (Ok lefts) s f Q h = after_one s (f lefts) Q (λ rights e. h lefts rights refl e)
after_two (Err o) s f Q h = tt

rows_kept : (given kinds : Kinds) (rows : Rows) → given ≡ kinds → length rows < 2 ^ 64 → HaveKinds kinds rows → AreValidRows rows → IsKept (shape.Rows given) (kept.Rows rows)
rows_kept given kinds rows same few typed valid = (
  few,
  subst (λ (k : Kinds). AreInOrder (λ before. IsRow k) [] rows) (sym same)
      (in_order (IsRow kinds) [] rows (rows_are kinds rows (recursion_from_All (HasKinds kinds) rows typed) valid)),
)

pub given_as : (schemas : List Kinds) (plan : PlainPlan) (kinds : Kinds) → plan_kinds schemas plan ≡ Some kinds → kinds_given schemas plan ≡ kinds
given_as schemas plan kinds there = ap (λ o. unwrap_or o []) there

module _ (kinds : Kinds) (keys : List ℕ) (aggs : List Agg) (key_kinds agg_kinds : Kinds) (rows : Rows) (keys_there : all_there (map (slice_get kinds) keys) ≡ Some key_kinds) (aggs_there : all_there (map (agg_kind kinds) aggs) ≡ Some agg_kinds) (typed : HaveKinds kinds rows) (valid : AreValidRows rows) (few : length rows < 4294967296) where
  accs_of_members : (members : Rows) → length members ≤ 4294967295 → (row : Row) → Contains members row → AllByRecursion (HasKinds kinds) members → AreValidRows members
      → AreEach IsAcc (map (acc_kind_of kinds) aggs) (map (acc_of members) aggs)
  accs_of_members [] fewer row has m_typed m_valid = absurd (omega (arith, has.1))
  accs_of_members (first ∷ others) fewer row has m_typed m_valid = accs_are kinds first others m_typed m_valid fewer aggs agg_kinds aggs_there

  group_is : (key : Row) → Contains (keys_of keys rows) key → IsGroup (kept_group keys aggs rows) (λ key. refl) (map (kind_at kinds) keys) (map (acc_kind_of kinds) aggs) key
  group_is key has =
      let found = mapped_from (columns_of keys) rows key (has_no_more (map (columns_of keys) rows) key has) in
      let row = found.0 in
      let p : Row → Bool = λ r. row_eq key (columns_of keys r) in
      let row_valid = All-contains IsValidRow rows row (All-from_recursion IsValidRow rows valid) found.1 in
      let key_valid = subst IsValidRow found.2 (columns_valid row keys row_valid) in
      let key_typed = ap (map kind_of) (sym found.2) ∙ keys_typed kinds row (All-contains (HasKinds kinds) rows row typed found.1) keys key_kinds keys_there in
      let same_kinds : map (kind_at kinds) keys ≡ key_kinds = kinds_there (slice_get kinds) keys key_kinds keys_there in
      let fewer : length (filter p rows) ≤ 4294967295 = omega (arith, filter_shorter p rows) in (
        subst (λ (k : Kinds). IsRow k key) (key_typed ∙ sym same_kinds) (row_is key key_valid),
        accs_of_members (filter p rows) fewer row (kept_member p rows row found.1 ((row_eq-Decides key (columns_of keys row)).1 (sym found.2)))
            (all-filter (HasKinds kinds) p rows (recursion_from_All (HasKinds kinds) rows typed)) (all-filter IsValidRow p rows valid),
      )

  all_groups : (ks : List Row) → AllByRecursion (Contains (keys_of keys rows)) ks
      → AllByRecursion (IsGroup (kept_group keys aggs rows) (λ key. refl) (map (kind_at kinds) keys) (map (acc_kind_of kinds) aggs)) ks
  all_groups [] all = tt
  all_groups (k ∷ ks) all = (group_is k all.0, all_groups ks all.1)

  pub groups_kept : IsKept (shape.Groups (map (kind_at kinds) keys) (map (acc_kind_of kinds) aggs)) (kept.Groups (map (kept_group keys aggs rows) (keys_of keys rows)))
  groups_kept =
      let all_keys = keys_of keys rows in (
        omega (arith, length-map all_keys (kept_group keys aggs rows), distinct_fewer (map (columns_of keys) rows), length-map rows (columns_of keys)),
        groups_in_order (kept_group keys aggs rows) (λ key. refl) (map (kind_at kinds) keys) (map (acc_kind_of kinds) aggs) [] all_keys (fresh_distinct (map (columns_of keys) rows))
            (all_groups all_keys (recursion_from_All (Contains all_keys) all_keys (All-contains_itself all_keys))),
      )

pair_rows : (left_kinds right_kinds : Kinds) (left : Row) (rights : Rows) → HasKinds left_kinds left → IsValidRow left → AllByRecursion (HasKinds right_kinds) rights → AreValidRows rights
    → AllByRecursion (λ right. IsRow (left_kinds ++ right_kinds) (left ++ right)) rights
pair_rows left_kinds right_kinds left [] typed valid r_typed r_valid = tt
pair_rows left_kinds right_kinds left (right ∷ rights) typed valid r_typed r_valid = (
  subst (λ (k : Kinds). IsRow k (left ++ right)) (pair_typed left_kinds right_kinds left right typed r_typed.0) (row_is (left ++ right) (all-append IsValid left right valid r_valid.0)),
  pair_rows left_kinds right_kinds left rights typed valid r_typed.1 r_valid.1,
)

all_pairs : (left_kinds right_kinds : Kinds) (lefts rights : Rows) → AllByRecursion (HasKinds left_kinds) lefts → AreValidRows lefts → AllByRecursion (HasKinds right_kinds) rights → AreValidRows rights
    → AllByRecursion (λ left. AllByRecursion (λ right. IsRow (left_kinds ++ right_kinds) (left ++ right)) rights) lefts
all_pairs left_kinds right_kinds [] rights l_typed l_valid r_typed r_valid = tt
all_pairs left_kinds right_kinds (left ∷ lefts) rights l_typed l_valid r_typed r_valid =
    (pair_rows left_kinds right_kinds left rights l_typed.0 l_valid.0 r_typed r_valid, all_pairs left_kinds right_kinds lefts rights l_typed.1 l_valid.1 r_typed r_valid)

join_kept : (on : List (ℕ × ℕ)) (left_kinds right_kinds : Kinds) (lefts rights : Rows) → length lefts < 4294967296 → length rights < 4294967296
    → HaveKinds left_kinds lefts → AreValidRows lefts → HaveKinds right_kinds rights → AreValidRows rights
    → IsKept (shape.Tagged (left_kinds ++ right_kinds)) (kept.Tagged (length lefts) (tagged_from 0 on lefts rights))
join_kept on left_kinds right_kinds lefts rights l_few r_few l_typed l_valid r_typed r_valid = (
  omega (arith, tagged_count (left_kinds ++ right_kinds) (length lefts) on rights 0 lefts, few_pairs (length lefts) (length rights) l_few r_few),
  omega arith,
  tagged_in_order (left_kinds ++ right_kinds) (length lefts) on rights 0 lefts (omega arith)
      (all_pairs left_kinds right_kinds lefts rights (recursion_from_All (HasKinds left_kinds) lefts l_typed) l_valid (recursion_from_All (HasKinds right_kinds) rights r_typed) r_valid)
      [] (omega arith),
)

-- ---- plans

module _ (total : (keys : List Key) → IsTotalOrder (row_cmp keys)) (cells_are : GivesCells) (schemas : List Kinds) where
  abbrev IsBounded : PlainPlan → List Rows → Type 0
  IsBounded plan lists = AreOfStreams schemas (leaves plan) lists × (AreValidLists lists × (machine_time plan lists < 4294967296))

  soon : (n : ℕ) → n < 4294967296 → n < 2 ^ 63
  soon n few = omega arith

  -- the rows of a plan within the bounds
  plain : (plan : PlainPlan) (kinds : Kinds) (lists : List Rows) → plan_kinds schemas plan ≡ Some kinds → HasValidLiterals plan → IsBounded plan lists
      → ((rows : Rows) → plan_meaning plan lists ≡ Ok rows → length rows < 2 ^ 64)
      → (rows : Rows) → plan_meaning plan lists ≡ Ok rows → IsKept (shape.Rows (kinds_given schemas plan)) (kept.Rows rows)
  plain plan kinds lists there literals bounded few rows is =
      rows_kept (kinds_given schemas plan) kinds rows (given_as schemas plan kinds there) (few rows is)
      (gives_typed total schemas plan kinds lists rows there bounded.0 is)
      (gives_valid cells_are schemas plan kinds lists rows there literals bounded.1.0 (soon (machine_time plan lists) bounded.1.1) is)

  -- how many rows an input has
  few_of : (child : PlainPlan) (lists : List Rows) (rows : Rows) → IsBelow child lists 4294967296 → plan_meaning child lists ≡ Ok rows → length rows < 4294967296
  few_of child lists rows below is = count_of (plan_meaning child lists) rows 4294967296 is below.given

  pub kept_within : (plan : PlainPlan) (kinds : Kinds) (lists : List Rows) → plan_kinds schemas plan ≡ Some kinds → HasValidLiterals plan → AreShortLists lists → IsBounded plan lists
      → IfOk (kept_form plan lists) (IsKept (plan_shape schemas plan))
  kept_within (Scan stream) kinds lists there literals short bounded =
      after_one (plan_meaning (Scan stream) lists) (λ rows. kept.Rows rows) (IsKept (plan_shape schemas (Scan stream)))
      (plain (Scan stream) kinds lists there literals bounded (λ rows is. first_short lists short rows is))
    where
      first_short : (lists : List Rows) → AreShortLists lists → (rows : Rows) → plan_meaning (Scan stream) lists ≡ Ok rows → length rows < 2 ^ 64
      first_short [] s rows is = let same : [] ≡ rows = cc in subst (λ (l : Rows). length l < 2 ^ 64) same (omega arith)
      first_short (list ∷ lists) s rows is = let same : list ≡ rows = cc in subst (λ (l : Rows). length l < 2 ^ 64) same s.0
  kept_within (Filter child test) kinds lists there literals short bounded =
      after_one (plan_meaning (Filter child test) lists) (λ rows. kept.Rows rows) (IsKept (plan_shape schemas (Filter child test)))
      (plain (Filter child test) kinds lists there literals bounded (λ rows is.
      let r = both_ok (plan_meaning child lists) (filter_rows test) rows is in
      let fewer = few_of child lists r.0 (input_below child lists 4294967296 bounded.1.1) r.1 in
      omega (arith, filter_fewer test r.0 rows r.2)))
  kept_within (Project child columns) kinds lists there literals short bounded =
      after_one (plan_meaning (Project child columns) lists) (λ rows. kept.Rows rows) (IsKept (plan_shape schemas (Project child columns)))
      (plain (Project child columns) kinds lists there literals bounded (λ rows is.
      let r = both_ok (plan_meaning child lists) (project_rows columns) rows is in
      let fewer = few_of child lists r.0 (input_below child lists 4294967296 bounded.1.1) r.1 in
      omega (arith, all_as_many (project_row columns) r.0 rows r.2)))
  kept_within (Distinct child) kinds lists there literals short bounded =
      after_one (plan_meaning (Distinct child) lists) (λ rows. kept.Rows rows) (IsKept (plan_shape schemas (Distinct child)))
      (plain (Distinct child) kinds lists there literals bounded (λ rows is.
      let r = both_ok (plan_meaning child lists) (λ rows. Ok (distinct_rows rows)) rows is in
      let same : distinct_rows r.0 ≡ rows = let h = r.2 in cc in
      let fewer = few_of child lists r.0 (input_below child lists 4294967296 bounded.1.1) r.1 in
      subst (λ (l : Rows). length l < 2 ^ 64) same (omega (arith, distinct_fewer r.0))))
  kept_within (Order child keys) kinds lists there literals short bounded =
      after_one (plan_meaning (Order child keys) lists) (λ rows. kept.Rows rows) (IsKept (plan_shape schemas (Order child keys)))
      (plain (Order child keys) kinds lists there literals bounded (λ rows is.
      let r = both_ok (plan_meaning child lists) (λ rows. Ok (order_rows keys rows)) rows is in
      let same : order_rows keys r.0 ≡ rows = let h = r.2 in cc in
      let fewer = few_of child lists r.0 (input_below child lists 4294967296 bounded.1.1) r.1 in
      subst (λ (l : Rows). length l < 2 ^ 64) same (omega (arith, order_as_many keys r.0))))
  kept_within (Concat left right) kinds lists there literals short bounded =
      let lefts = take (leaf_count left) lists in
      let rights = drop (leaf_count left) lists in
      after_one (plan_meaning (Concat left right) lists) (λ rows. kept.Rows rows) (IsKept (plan_shape schemas (Concat left right)))
      (plain (Concat left right) kinds lists there literals bounded (λ rows is.
      let l = both_ok (plan_meaning left lefts) (λ xs. plan_meaning right rights >>= λ ys. Ok (xs ++ ys)) rows is in
      let r = both_ok (plan_meaning right rights) (λ ys. Ok (l.0 ++ ys)) rows l.2 in
      let same : l.0 ++ r.0 ≡ rows = let h = r.2 in cc in
      let below = inputs_below left right lefts rights 4294967296 bounded.1.1 in
      let l_few = few_of left lefts l.0 below.0 l.1 in
      let r_few = few_of right rights r.0 below.1 r.1 in
      subst (λ (l : Rows). length l < 2 ^ 64) same (omega (arith, length-append l.0 r.0))))
  kept_within (Group child keys aggs) kinds lists there literals short bounded =
      let k = and_then (group_kinds keys aggs) (plan_kinds schemas child) kinds there in
      let both = both_some (λ key_kinds agg_kinds. Some (key_kinds ++ agg_kinds)) (all_there (map (slice_get k.0) keys)) (all_there (map (agg_kind k.0) aggs)) kinds
      (unless_some (is_empty keys || is_empty aggs) _ kinds k.2) in
      let below = input_below child lists 4294967296 bounded.1.1 in
      after_one (plan_meaning child lists) (λ rows. kept.Groups (map (kept_group keys aggs rows) (keys_of keys rows))) (IsKept (plan_shape schemas (Group child keys aggs)))
      (λ rows is. subst (λ (j : Kinds). IsKept (shape.Groups (map (kind_at j) keys) (map (acc_kind_of j) aggs)) (kept.Groups (map (kept_group keys aggs rows) (keys_of keys rows))))
      (sym (given_as schemas child k.0 k.1))
      (groups_kept k.0 keys aggs both.0 both.1 rows both.2 both.3
      (gives_typed total schemas child k.0 lists rows k.1 bounded.0 is)
      (gives_valid cells_are schemas child k.0 lists rows k.1 literals bounded.1.0 (soon (machine_time child lists) below.time) is)
      (few_of child lists rows below is)))
  kept_within (Join left right on) kinds lists there literals short bounded =
      let lefts = take (leaf_count left) lists in
      let rights = drop (leaf_count left) lists in
      let k = both_some (join_kinds on) (plan_kinds schemas left) (plan_kinds schemas right) kinds there in
      let parts = lists_of_parts schemas (leaves left) (leaves right) lists bounded.0 in
      let below = inputs_below left right lefts rights 4294967296 bounded.1.1 in
      after_two (plan_meaning left lefts) (plan_meaning right rights) (λ xs ys. kept.Tagged (length xs) (tagged_from 0 on xs ys)) (IsKept (plan_shape schemas (Join left right on)))
      (λ xs ys l_is r_is. subst (λ (j : Kinds). IsKept (shape.Tagged j) (kept.Tagged (length xs) (tagged_from 0 on xs ys)))
      (λ i. sym (given_as schemas left k.0 k.2) i ++ sym (given_as schemas right k.1 k.3) i)
      (join_kept on k.0 k.1 xs ys (few_of left lefts xs below.0 l_is) (few_of right rights ys below.1 r_is)
      (gives_typed total schemas left k.0 lefts xs k.2 parts.0 l_is)
      (gives_valid cells_are schemas left k.0 lefts xs k.2 literals.0 (all-take AreValidRows (leaf_count left) lists bounded.1.0) (soon (machine_time left lefts) below.0.time) l_is)
      (gives_typed total schemas right k.1 rights ys k.3 parts.1 r_is)
      (gives_valid cells_are schemas right k.1 rights ys k.3 literals.1 (all-drop AreValidRows (leaf_count left) lists bounded.1.0) (soon (machine_time right rights) below.1.time) r_is)))

  pub kept_of : (plan : PlainPlan) (kinds : Kinds) (lists : List Rows) → plan_kinds schemas plan ≡ Some kinds → HasValidLiterals plan → AreOfStreams schemas (leaves plan) lists
      → AreValidLists lists → AreShortLists lists → machine_time plan lists ≤ 4294967295 → IfOk (kept_form plan lists) (IsKept (plan_shape schemas plan))
  kept_of plan kinds lists there literals of valid short time = kept_within plan kinds lists there literals short (of, (valid, omega arith))
