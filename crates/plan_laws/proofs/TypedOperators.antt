-- Each operator gives rows of its kinds where it takes in rows of theirs.
use Rattle.std.proofs.Common.{zero, suc, ◌≡◌, ◌||◌, refl, sym, ap, ◌∙◌, subst, ℕ, ◌-◌, ℤ, pos, Bool, true, false, cond, List, [], ◌∷◌, ◌++◌, map, length, get_or, Result, Ok, Err, Option, None, Some, arith}
use Rattle.std.specs.Bool.{Decides}
use Rattle.std.specs.Cmp.Lexicographic.{pointwise, pointwise_decides}
use Rattle.std.specs.List.{AllByRecursion, Contains, filter, list_all, list_any, slice_get}
use Rattle.std.specs.Option.{option_map}
use Rattle.std.specs.Ordering.{is_le, is_ge}
use Rattle.std.proofs.lemmas.Bool.{false≢true}
use Rattle.std.proofs.lemmas.List.Elements.{All-from_recursion, recursion_from_All, All-filter, All-append, All-map, All-contains, All-contains_itself}
use Rattle.std.proofs.lemmas.List.{map-append}
use Rattle.std.proofs.lemmas.Option.{unwrap_or-slice_get, cond_some}
use Rattle.rows_core.specs.declared.kind.Kind.{Kind}
use Rattle.rows_core.specs.declared.kind.Kind.TheVariants as kind
use Rattle.rows_core.specs.declared.overflow.Overflow.{Overflow}
use Rattle.rows_core.specs.declared.value.Value.{Value}
use Rattle.rows_core.specs.declared.value.Value.TheVariants.{Int}
use Rattle.rows_core.specs.Value.{kind_of, value_cmp}
use Rattle.scalar_ops.specs.declared.cell.Cell.{Cell}
use Rattle.scalar_ops.specs.declared.cell.Cell.TheVariants as cell
use Rattle.scalar_ops.specs.declared.cell.CellKind.{CellKind}
use Rattle.scalar_ops.specs.Cells.{kind_of_cell}
use Rattle.scalar_ops.specs.Division.{floor_div}
use Rattle.scalar_ops.specs.Meaning.{fits_i64, overflow}
use Rattle.plan_core.specs.declared.agg.Agg.{Agg}
use Rattle.plan_core.specs.declared.agg.Agg.TheVariants as agg
use Rattle.plan_core.specs.Aggregate.{aggregate_value, values_of, whole_value, exact_sum, least_value, greatest_value, first_value, last_value}
use Rattle.rows_core.specs.Value.{row_eq}
use Rattle.plan_core.specs.Columns.{Row, Rows, column_of, columns_of, no_value}
use Rattle.plan_core.specs.Distinct.{distinct_rows}
use Rattle.plan_core.specs.ExpressionKind.{expression_kind}
use Rattle.plan_core.specs.ExpressionValue.{all_of, expression_value, value_of_cell}
use Rattle.plan_core.specs.Filter.{filter_rows, overflows, passes}
use Rattle.plan_core.specs.Group.{keys_of, members_of, group_row, group_rows}
use Rattle.plan_core.specs.Join.{join_rows, rows_agree}
use Rattle.plan_core.specs.PlainExpr.{PlainExpr}
use Rattle.plan_core.specs.PlanTyping.{Kinds, same_kind, is_empty, all_there, column_kind, is_truth, filter_kinds, project_kinds, number_kind, agg_kind, group_kinds, pair_agrees, join_kinds, concat_kinds}
use Rattle.plan_core.specs.Project.{column_value, project_row, project_rows}
use Rattle.plan_core.specs.TypedRows.{HaveKinds}
use Rattle.plan_core.proofs.ValueKinds.{typed_value, unless_some}
use Rattle.plan_laws.proofs.Answers.{both_ok, both_some, there_front, each_of, zipped}
use Rattle.plan_laws.proofs.FirstOfEqual.{has_no_more}
use Rattle.rows_core.specs.Equality.{row_eq-Decides}
use Rattle.plan_laws.proofs.Members.{kept, mapped_from}

abbrev pub HasKinds : Kinds → Row → Type 0
HasKinds kinds row = map kind_of row ≡ kinds

column_has_kind : (row : Row) (i : ℕ) (k : Kind) → slice_get (map kind_of row) i ≡ Some k → kind_of (column_of row i) ≡ k
column_has_kind [] i k is = absurd (cc)
column_has_kind (v ∷ row) zero k is = cc
column_has_kind (v ∷ row) (suc i) k is = column_has_kind row i k is

-- ---- tests

pub filter_typed : (test : PlainExpr) (kinds : Kinds) (rows out : Rows) → HaveKinds kinds rows → filter_rows test rows ≡ Ok out → HaveKinds kinds out
filter_typed test kinds rows out typed is = by (list_any (overflows test) rows) is
  where
    by : (b : Bool) → cond b (Err overflow) (Ok (filter (passes test) rows)) ≡ Ok out → HaveKinds kinds out
    by true h = absurd (cc)
    by false h = let same : filter (passes test) rows ≡ out = cc in subst (HaveKinds kinds) same (All-filter (passes test) (HasKinds kinds) rows typed)

pub filter_same_kinds : (test : PlainExpr) (kinds out : Kinds) → filter_kinds test kinds ≡ Some out → kinds ≡ out
filter_same_kinds test kinds out is = (cond_some (is_truth (expression_kind kinds test)) kinds out is).1

-- ---- columns

kind_of_its_value : (c : Cell) → kind_of (value_of_cell c) ≡ column_kind (kind_of_cell c)
kind_of_its_value (cell.Int n) = refl
kind_of_its_value (cell.Text t) = refl
kind_of_its_value (cell.Bool b) = refl

value_typed : (c : Cell) (k : CellKind) (j : Kind) → kind_of_cell c ≡ k → ◌≡◌ {A = Option Kind} (Some (column_kind k)) (Some j) → kind_of (value_of_cell c) ≡ j
value_typed c k j same is = let its : column_kind k ≡ j = cc in kind_of_its_value c ∙ ap column_kind same ∙ its

column_typed : (kinds : Kinds) (row : Row) → HasKinds kinds row → (e : PlainExpr) (v : Value) (j : Kind) → column_value e row ≡ Ok v → option_map column_kind (expression_kind kinds e) ≡ Some j → kind_of v ≡ j
column_typed kinds row typed e v j is there =
    let c = both_ok (expression_value e row) (λ c. Ok (value_of_cell c)) v is in
    let value : value_of_cell c.0 ≡ v = let h = c.2 in cc in
    ap kind_of (sym value) ∙ by c.0 c.1 (expression_kind kinds e) refl there
  where
    by : (c : Cell) → expression_value e row ≡ Ok c → (o : Option CellKind) → expression_kind kinds e ≡ o → option_map column_kind o ≡ Some j → kind_of (value_of_cell c) ≡ j
    by c v None h k = absurd (cc)
    by c v (Some i) h k = value_typed c i j (typed_value e row i c (ap (λ l. expression_kind l e) typed ∙ h) v) k

pub project_typed : (columns : List PlainExpr) (kinds out_kinds : Kinds) (rows out : Rows) → HaveKinds kinds rows
    → project_kinds columns kinds ≡ Some out_kinds → project_rows columns rows ≡ Ok out → HaveKinds out_kinds out
project_typed columns kinds out_kinds rows out typed there is =
    All-from_recursion (HasKinds out_kinds) out
    (each_of (project_row columns) (HasKinds kinds) (HasKinds out_kinds)
    (λ row r has gives. zipped (λ e. column_value e row) (λ e. option_map column_kind (expression_kind kinds e)) (column_typed kinds row has) columns out_kinds r (unless_some (is_empty columns) _ out_kinds there) gives)
    rows out (recursion_from_All (HasKinds kinds) rows typed) is)

-- ---- the first of equal rows

pub distinct_typed : (kinds : Kinds) (rows : Rows) → HaveKinds kinds rows → HaveKinds kinds (distinct_rows rows)
distinct_typed kinds rows typed = λ k d within. All-contains (HasKinds kinds) rows _ typed (has_no_more rows _ (All-contains_itself (distinct_rows rows) k d within))

-- ---- groups

pub keys_typed : (kinds : Kinds) (row : Row) → HasKinds kinds row → (keys : List ℕ) (out : Kinds) → all_there (map (slice_get kinds) keys) ≡ Some out → HasKinds out (columns_of keys row)
keys_typed kinds row typed [] out there = let same : [] ≡ out = cc in same
keys_typed kinds row typed (key ∷ keys) out there =
    let front = there_front (slice_get kinds key) (map (slice_get kinds) keys) out there in
    ap (λ k. k ∷ map kind_of (columns_of keys row)) (column_has_kind row key front.0 (ap (λ l. slice_get l key) typed ∙ front.2))
    ∙ ap (λ l. front.0 ∷ l) (keys_typed kinds row typed keys front.1 front.3) ∙ front.4

abbrev IsOf : Kind → Value → Type 0
IsOf k v = kind_of v ≡ k

values_typed : (kinds : Kinds) (column : ℕ) (k : Kind) (rows : Rows) → slice_get kinds column ≡ Some k → AllByRecursion (HasKinds kinds) rows → AllByRecursion (IsOf k) (values_of column rows)
values_typed kinds column k [] there typed = tt
values_typed kinds column k (row ∷ rows) there typed =
    (column_has_kind row column k (ap (λ l. slice_get l column) typed.0 ∙ there), values_typed kinds column k rows there typed.1)

either_of : (k : Kind) (b : Bool) (u v : Value) → IsOf k u → IsOf k v → IsOf k (cond b u v)
either_of k true u v p q = p
either_of k false u v p q = q

least_typed : (k : Kind) (v : Value) (vs : List Value) → AllByRecursion (IsOf k) (v ∷ vs) → IsOf k (least_value (v ∷ vs))
least_typed k v [] all = all.0
least_typed k v (u ∷ vs) all = either_of k (is_le (value_cmp v (least_value (u ∷ vs)))) v (least_value (u ∷ vs)) all.0 (least_typed k u vs all.1)

greatest_typed : (k : Kind) (v : Value) (vs : List Value) → AllByRecursion (IsOf k) (v ∷ vs) → IsOf k (greatest_value (v ∷ vs))
greatest_typed k v [] all = all.0
greatest_typed k v (u ∷ vs) all = either_of k (is_ge (value_cmp v (greatest_value (u ∷ vs)))) v (greatest_value (u ∷ vs)) all.0 (greatest_typed k u vs all.1)

last_typed : (k : Kind) (v : Value) (vs : List Value) → AllByRecursion (IsOf k) (v ∷ vs) → IsOf k (last_value (v ∷ vs))
last_typed k v vs all =
    ap kind_of (unwrap_or-slice_get (v ∷ vs) (length (v ∷ vs) - 1) no_value) ∙ All-from_recursion (IsOf k) (v ∷ vs) all (length (v ∷ vs) - 1) no_value (omega arith)

whole_typed : (z : ℤ) (v : Value) → whole_value z ≡ Ok v → kind_of v ≡ kind.Int
whole_typed z v is = by (fits_i64 z) is
  where
    by : (b : Bool) → cond b (Ok (Int z)) (Err overflow) ≡ Ok v → kind_of v ≡ kind.Int
    by true h = let same : Int z ≡ v = cc in ap kind_of (sym same)
    by false h = absurd (cc)

number_typed : (z : ℤ) (r : Result Value Overflow) (v : Value) → r ≡ Ok (Int z) → r ≡ Ok v → kind_of v ≡ kind.Int
number_typed z r v whole is = let same : Int z ≡ v = cc in ap kind_of (sym same)

pub number_only : (o : Option Kind) (k : Kind) → number_kind o ≡ Some k → kind.Int ≡ k
number_only (Some kind.Int) k is = cc
number_only (Some kind.Text) k is = absurd (cc)
number_only (Some kind.Bool) k is = absurd (cc)
number_only None k is = absurd (cc)

pub agg_typed : (kinds : Kinds) (row : Row) (rows : Rows) → AllByRecursion (HasKinds kinds) (row ∷ rows) → (a : Agg) (v : Value) (k : Kind) → aggregate_value a (row ∷ rows) ≡ Ok v → agg_kind kinds a ≡ Some k → kind_of v ≡ k
agg_typed kinds row rows typed agg.Count v k is there = number_typed (pos (length (row ∷ rows))) _ v refl is ∙ (let end : kind.Int ≡ k = cc in end)
agg_typed kinds row rows typed (agg.Sum c) v k is there = whole_typed (exact_sum (values_of c (row ∷ rows))) v is ∙ number_only (slice_get kinds c) k there
agg_typed kinds row rows typed (agg.Min c) v k is there = let same : least_value (values_of c (row ∷ rows)) ≡ v = cc in ap kind_of (sym same) ∙ least_typed k _ _ (values_typed kinds c k (row ∷ rows) there typed)
agg_typed kinds row rows typed (agg.Max c) v k is there = let same : greatest_value (values_of c (row ∷ rows)) ≡ v = cc in ap kind_of (sym same) ∙ greatest_typed k _ _ (values_typed kinds c k (row ∷ rows) there typed)
agg_typed kinds row rows typed (agg.First c) v k is there = let same : first_value (values_of c (row ∷ rows)) ≡ v = cc in ap kind_of (sym same) ∙ (values_typed kinds c k (row ∷ rows) there typed).0
agg_typed kinds row rows typed (agg.Last c) v k is there = let same : last_value (values_of c (row ∷ rows)) ≡ v = cc in ap kind_of (sym same) ∙ last_typed k _ _ (values_typed kinds c k (row ∷ rows) there typed)
agg_typed kinds row rows typed (agg.Avg c) v k is there = number_typed (floor_div (exact_sum (values_of c (row ∷ rows))) (pos (length (row ∷ rows)))) _ v refl is ∙ number_only (slice_get kinds c) k there

-- a group has a row
group_typed : (keys : List ℕ) (aggs : List Agg) (kinds key_kinds agg_kinds : Kinds) (rows : Rows) (key out : Row) → HaveKinds kinds rows
    → all_there (map (slice_get kinds) keys) ≡ Some key_kinds → all_there (map (agg_kind kinds) aggs) ≡ Some agg_kinds
    → (row : Row) → Contains rows row → columns_of keys row ≡ key → group_row keys aggs rows key ≡ Ok out → HasKinds (key_kinds ++ agg_kinds) out
group_typed keys aggs kinds key_kinds agg_kinds rows key out typed keys_there aggs_there row at key_is is =
    let values = both_ok (all_of (map (λ a. aggregate_value a (members_of keys rows key)) aggs)) (λ values. Ok (key ++ values)) out is in
    let whole : key ++ values.0 ≡ out = let h = values.2 in cc in
    ap (map kind_of) (sym whole) ∙ map-append kind_of key values.0
    ∙ ap (λ l. l ++ map kind_of values.0) (ap (map kind_of) (sym key_is) ∙ keys_typed kinds row (All-contains (HasKinds kinds) rows row typed at) keys key_kinds keys_there)
    ∙ ap (λ l. key_kinds ++ l) (by (members_of keys rows key) refl
    (kept (λ r. row_eq key (columns_of keys r)) rows row at ((row_eq-Decides key (columns_of keys row)).1 (sym key_is)))
    (recursion_from_All (HasKinds kinds) (members_of keys rows key) (All-filter (λ r. row_eq key (columns_of keys r)) (HasKinds kinds) rows typed)) values.0 values.1)
  where
    by : (members : Rows) → members_of keys rows key ≡ members → Contains members row → AllByRecursion (HasKinds kinds) members → (values : Row) → all_of (map (λ a. aggregate_value a members) aggs) ≡ Ok values → map kind_of values ≡ agg_kinds
    by [] e has all values v = absurd (omega (arith, has.1))
    by (first ∷ others) e has all values v =
        zipped (λ a. aggregate_value a (first ∷ others)) (agg_kind kinds) (agg_typed kinds first others all) aggs agg_kinds values aggs_there v

pub groups_typed : (keys : List ℕ) (aggs : List Agg) (kinds out_kinds : Kinds) (rows out : Rows) → HaveKinds kinds rows
    → group_kinds keys aggs kinds ≡ Some out_kinds → group_rows keys aggs rows ≡ Ok out → HaveKinds out_kinds out
groups_typed keys aggs kinds out_kinds rows out typed there is =
    let both = both_some (λ key_kinds agg_kinds. Some (key_kinds ++ agg_kinds)) (all_there (map (slice_get kinds) keys)) (all_there (map (agg_kind kinds) aggs)) out_kinds (unless_some (is_empty keys || is_empty aggs) _ out_kinds there) in
    let kinds_are : both.0 ++ both.1 ≡ out_kinds = let h = both.4 in cc in
    All-from_recursion (HasKinds out_kinds) out
    (each_of (group_row keys aggs rows) (Contains (keys_of keys rows)) (HasKinds out_kinds)
    (λ key r has gives. let found = mapped_from (columns_of keys) rows key (has_no_more (map (columns_of keys) rows) key has) in
    group_typed keys aggs kinds both.0 both.1 rows key r typed both.2 both.3 found.0 found.1 found.2 gives ∙ kinds_are)
    (keys_of keys rows) out (recursion_from_All (Contains (keys_of keys rows)) (keys_of keys rows) (All-contains_itself (keys_of keys rows))) is)

-- ---- joins and concatenations

pub pair_typed : (left_kinds right_kinds : Kinds) (left right : Row) → HasKinds left_kinds left → HasKinds right_kinds right → HasKinds (left_kinds ++ right_kinds) (left ++ right)
pair_typed left_kinds right_kinds left right l r = map-append kind_of left right ∙ ap (λ ks. ks ++ map kind_of right) l ∙ ap (λ ks. left_kinds ++ ks) r

pub join_typed : (on : List (ℕ × ℕ)) (left_kinds right_kinds : Kinds) (lefts rights : Rows) → AllByRecursion (HasKinds left_kinds) lefts → HaveKinds right_kinds rights → HaveKinds (left_kinds ++ right_kinds) (join_rows on lefts rights)
join_typed on left_kinds right_kinds [] rights lefts_typed rights_typed = All-from_recursion (HasKinds (left_kinds ++ right_kinds)) [] tt
join_typed on left_kinds right_kinds (left ∷ lefts) rights lefts_typed rights_typed =
    All-append (HasKinds (left_kinds ++ right_kinds)) (map (λ right. left ++ right) (filter (rows_agree on left) rights)) (join_rows on lefts rights)
    (All-map (HasKinds (left_kinds ++ right_kinds)) (λ right. left ++ right) (filter (rows_agree on left) rights)
    (λ k d within. pair_typed left_kinds right_kinds left (get_or (filter (rows_agree on left) rights) k d) lefts_typed.0 (All-filter (rows_agree on left) (HasKinds right_kinds) rights rights_typed k d within)))
    (join_typed on left_kinds right_kinds lefts rights lefts_typed.1 rights_typed)

pub join_kinds_are : (on : List (ℕ × ℕ)) (left right out : Kinds) → join_kinds on left right ≡ Some out → left ++ right ≡ out
join_kinds_are on left right out is = (cond_some (list_all (pair_agrees left right) on) (left ++ right) out (unless_some (is_empty on) _ out is)).1

same_kind-Decides : (a b : Kind) → Decides (same_kind a b) (a ≡ b)
same_kind-Decides kind.Int kind.Int = (λ e. refl, λ e. refl)
same_kind-Decides kind.Text kind.Text = (λ e. refl, λ e. refl)
same_kind-Decides kind.Bool kind.Bool = (λ e. refl, λ e. refl)
same_kind-Decides _ _ = (λ e. absurd (false≢true e), λ e. cc)

-- both lists have the kinds of the whole
pub concat_kinds_are : (left right out : Kinds) → concat_kinds left right ≡ Some out → (left ≡ out) × (right ≡ out)
concat_kinds_are left right out is =
    let both = cond_some (pointwise same_kind left right) left out is in
    (both.1, sym ((pointwise_decides same_kind-Decides left right).0 both.0) ∙ both.1)
