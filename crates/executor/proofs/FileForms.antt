-- What a file of a typed plan's result holds is fit, where its groups have averages in i64.
use Rattle.std.proofs.Common.{◌≡◌, refl, sym, ap, ◌∙◌, subst, ℕ, ◌-◌, ◌≤◌, false, ◌||◌, List, [], ◌∷◌, ◌++◌, map, All, IsSome, Option, None, Some, unwrap_or, slice_get, arith}
use Rattle.std.specs.List.{AllByRecursion}
use Rattle.std.proofs.lemmas.Bool.{le-ltb}
use Rattle.std.proofs.lemmas.List.Elements.{All-from_recursion}
use Rattle.rows_core.specs.declared.kind.Kind.{Kind}
use Rattle.rows_core.specs.declared.kind.Kind.TheVariants as kind
use Rattle.rows_core.specs.declared.value.Value.{Value}
use Rattle.rows_core.specs.declared.value.Value.TheVariants as value
use Rattle.rows_core.specs.Value.{kind_of}
use Rattle.row_blob.specs.declared.kept.Acc.{Acc}
use Rattle.row_blob.specs.declared.kept.Acc.TheVariants as acc
use Rattle.row_blob.specs.declared.kept.GroupRow.{GroupRow}
use Rattle.row_blob.specs.declared.kept.TaggedRow.{TaggedRow}
use Rattle.row_blob.specs.declared.kept.Kept.{Kept}
use Rattle.row_blob.specs.declared.kept.Kept.TheVariants as kept
use Rattle.row_blob.specs.declared.shape.Shape.{Shape}
use Rattle.row_blob.specs.declared.shape.Shape.TheVariants as shape
use Rattle.std.specs.Option.{IfSome}
use Rattle.result_ops.specs.declared.made.Made.{Made}
use Rattle.executor.specs.Reads.{IsOfForm}
use Rattle.row_blob.specs.Kept.{IsValue, IsRow, AreEach, IsAcc, AreInOrder, IsNextGroup, IsNextTagged, IsKept, last_left}
use Rattle.plan_core.specs.declared.agg.Agg.{Agg}
use Rattle.plan_core.specs.declared.agg.Agg.TheVariants as agg
use Rattle.plan_core.specs.Columns.{Row, Rows}
use Rattle.plan_core.specs.PlainPlan.{PlainPlan, Scan, Filter, Project, Distinct, Group, Join, Concat, Order}
use Rattle.plan_core.specs.PlanTyping.{Kinds, plan_kinds, all_there, agg_kind, is_empty, group_kinds, join_kinds}
use Rattle.plan_core.specs.TypedRows.{HaveKinds}
use Rattle.plan_core.proofs.ValueKinds.{unless_some}
use Rattle.plan_laws.specs.GrowthOfJoins.{is_earlier}
use Rattle.plan_laws.specs.PlanShape.{kinds_given, kind_at, acc_kind_of, plan_shape}
use Rattle.plan_laws.proofs.Answers.{both_some, there_front}
use Rattle.plan_laws.proofs.KeptParts.{kinds_there, last_of}
use Rattle.plan_laws.proofs.StableLists.{Ascends, sorted_from_ascends}
use Rattle.plan_laws.proofs.TypedOperators.{HasKinds, join_kinds_are, number_only}
use Rattle.plan_laws.proofs.TypedPlans.{and_then}
use Rattle.plan_laws.proofs.KeptBounds.{given_as}
use Rattle.plan_laws.proofs.TypedParts.{there}
use Rattle.growth_laws.specs.Making.{IsFormOf}
use Rattle.result_ops.specs.Bounds.{IsBounded}
use Rattle.result_ops.specs.Fitting.{kind_of_acc, kinds_of_group, IsFit, StandsInOrder}

-- ---- rows

value_kind : (k : Kind) (v : Value) → IsValue k v → kind_of v ≡ k
value_kind kind.Int (value.Int n) is = refl
value_kind kind.Text (value.Text t) is = refl
value_kind kind.Bool (value.Bool b) is = refl
value_kind _ _ is = absurd is

row_kinds : (kinds : Kinds) (row : Row) → IsRow kinds row → HasKinds kinds row
row_kinds [] [] is = refl
row_kinds [] (v ∷ row) is = absurd is
row_kinds (k ∷ kinds) [] is = absurd is
row_kinds (k ∷ kinds) (v ∷ row) is = ap (λ j. j ∷ map kind_of row) (value_kind k v is.0) ∙ ap (λ l. k ∷ l) (row_kinds kinds row is.1)

-- what holds of each that fits behind those before it
each_in : {A : Type 0} (Before : List A → A → Type 0) (P : A → Type 0) → ((before : List A) (x : A) → Before before x → P x) → (before xs : List A) → AreInOrder Before before xs → AllByRecursion P xs
each_in Before P gives before [] order = tt
each_in Before P gives before (x ∷ xs) order = (gives before x order.0, each_in Before P gives (before ++ x ∷ []) xs order.1)

pub rows_kinds : (kinds : Kinds) (rows : Rows) → IsKept (shape.Rows kinds) (kept.Rows rows) → HaveKinds kinds rows
rows_kinds kinds rows is =
    All-from_recursion (HasKinds kinds) rows
    (each_in (λ before. IsRow kinds) (HasKinds kinds) (λ before row. row_kinds kinds row) [] rows is.1)

-- ---- groups

column_kind : (kinds : Kinds) (column : ℕ) (k : Kind) (v : Value) → slice_get kinds column ≡ Some k → IsValue (kind_at kinds column) v → kind_of v ≡ k
column_kind kinds column k v there is = value_kind (kind_at kinds column) v is ∙ ap (λ o. unwrap_or o kind.Int) there

count_kind : (kinds : Kinds) (k : Kind) → agg_kind kinds agg.Count ≡ Some k → kind.Int ≡ k
count_kind kinds k is = let h : Some kind.Int ≡ Some k = is in cc

acc_kind : (kinds : Kinds) (a : Agg) (k : Kind) (x : Acc) → agg_kind kinds a ≡ Some k → IsAcc (acc_kind_of kinds a) x → kind_of_acc x ≡ k
acc_kind kinds agg.Count k (acc.Count n) there is = count_kind kinds k there
acc_kind kinds (agg.Sum c) k (acc.Sum s) there is = number_only (slice_get kinds c) k there
acc_kind kinds (agg.Avg c) k (acc.Avg s n) there is = number_only (slice_get kinds c) k there
acc_kind kinds (agg.Min c) k (acc.Pick v) there is = column_kind kinds c k v there is
acc_kind kinds (agg.Max c) k (acc.Pick v) there is = column_kind kinds c k v there is
acc_kind kinds (agg.First c) k (acc.Pick v) there is = column_kind kinds c k v there is
acc_kind kinds (agg.Last c) k (acc.Pick v) there is = column_kind kinds c k v there is
acc_kind kinds _ k _ there is = absurd is

acc_kinds : (kinds : Kinds) (aggs : List Agg) (ks : Kinds) (xs : List Acc) → all_there (map (agg_kind kinds) aggs) ≡ Some ks → AreEach IsAcc (map (acc_kind_of kinds) aggs) xs
    → map kind_of_acc xs ≡ ks
acc_kinds kinds [] ks [] there is = let none : Some [] ≡ Some ks = there in cc
acc_kinds kinds [] ks (x ∷ xs) there is = absurd is
acc_kinds kinds (a ∷ aggs) ks [] there is = absurd is
acc_kinds kinds (a ∷ aggs) ks (x ∷ xs) there is =
    let front = there_front (agg_kind kinds a) (map (agg_kind kinds) aggs) ks there in
    ap (λ k. k ∷ map kind_of_acc xs) (acc_kind kinds a front.0 x front.2 is.0)
    ∙ ap (λ l. front.0 ∷ l) (acc_kinds kinds aggs front.1 xs front.3 is.1) ∙ front.4

module _ (schemas : List Kinds) (child : PlainPlan) (keys : List ℕ) (aggs : List Agg) (typed : IsSome (plan_kinds schemas (Group child keys aggs))) where
  whole : (out : Kinds) × (plan_kinds schemas (Group child keys aggs) ≡ Some out)
  whole = there (plan_kinds schemas (Group child keys aggs)) typed

  input : (kinds : Kinds) × (plan_kinds schemas child ≡ Some kinds) × (group_kinds keys aggs kinds ≡ Some whole.0)
  input = and_then (group_kinds keys aggs) (plan_kinds schemas child) whole.0 whole.1

  columns : (k : Kinds) × (a : Kinds) × (all_there (map (slice_get input.0) keys) ≡ Some k) × (all_there (map (agg_kind input.0) aggs) ≡ Some a) × (Some (k ++ a) ≡ Some whole.0)
  columns =
      both_some (λ key_kinds agg_kinds. Some (key_kinds ++ agg_kinds)) (all_there (map (slice_get input.0) keys)) (all_there (map (agg_kind input.0) aggs)) whole.0
      (unless_some (is_empty keys || is_empty aggs) _ whole.0 input.2)

  same : input.0 ≡ kinds_given schemas child
  same = sym (given_as schemas child input.0 input.1)

  group_kinds_are : (group : GroupRow) → IsRow (map (kind_at (kinds_given schemas child)) keys) group.key
      → AreEach IsAcc (map (acc_kind_of (kinds_given schemas child)) aggs) group.accs → kinds_of_group group ≡ kinds_given schemas (Group child keys aggs)
  group_kinds_are group key accs =
      let keys_there : all_there (map (slice_get (kinds_given schemas child)) keys) ≡ Some columns.0 =
      subst (λ (k : Kinds). all_there (map (slice_get k) keys) ≡ Some columns.0) same columns.2 in
      let aggs_there : all_there (map (agg_kind (kinds_given schemas child)) aggs) ≡ Some columns.1 =
      subst (λ (k : Kinds). all_there (map (agg_kind k) aggs) ≡ Some columns.1) same columns.3 in
      let of_key : map kind_of group.key ≡ columns.0 =
      row_kinds (map (kind_at (kinds_given schemas child)) keys) group.key key ∙ kinds_there (slice_get (kinds_given schemas child)) keys columns.0 keys_there in
      let of_accs : map kind_of_acc group.accs ≡ columns.1 = acc_kinds (kinds_given schemas child) aggs columns.1 group.accs aggs_there accs in
      let all : columns.0 ++ columns.1 ≡ whole.0 = let h = columns.4 in cc in
      ap (λ l. l ++ map kind_of_acc group.accs) of_key ∙ ap (λ l. columns.0 ++ l) of_accs ∙ all
      ∙ sym (given_as schemas (Group child keys aggs) whole.0 whole.1)

  pub groups_kinds : (groups : List GroupRow) → IsKept (plan_shape schemas (Group child keys aggs)) (kept.Groups groups)
      → All (λ group. kinds_of_group group ≡ kinds_given schemas (Group child keys aggs)) groups
  groups_kinds groups is =
      All-from_recursion (λ group. kinds_of_group group ≡ kinds_given schemas (Group child keys aggs)) groups
      (each_in (IsNextGroup (map (kind_at (kinds_given schemas child)) keys) (map (acc_kind_of (kinds_given schemas child)) aggs))
      (λ group. kinds_of_group group ≡ kinds_given schemas (Group child keys aggs)) (λ before group next. group_kinds_are group next.0 next.1) [] groups is.1)

-- ---- joins

module _ (lefts : ℕ) (kinds : Kinds) where
  none_below : (low : TaggedRow) (before rows : List TaggedRow) → low.left ≤ last_left before → AreInOrder (IsNextTagged lefts kinds) before rows
      → AllByRecursion (λ row. is_earlier row low ≡ false) rows
  none_below low before [] from order = tt
  none_below low before (row ∷ rows) from order =
      let here : last_left (before ++ row ∷ []) ≡ row.left = last_of before row in
      let next : last_left before ≤ row.left = order.0.0 in
      (le-ltb row.left low.left (omega arith), none_below low (before ++ row ∷ []) rows (omega arith) order.1)

  pub ascends : (before rows : List TaggedRow) → AreInOrder (IsNextTagged lefts kinds) before rows → Ascends is_earlier rows
  ascends before [] order = tt
  ascends before (row ∷ rows) order =
      let here : last_left (before ++ row ∷ []) ≡ row.left = last_of before row in
      (none_below row (before ++ row ∷ []) rows (omega arith) order.1, ascends (before ++ row ∷ []) rows order.1)

  pub tagged_kinds : (rows : List TaggedRow) → AreInOrder (IsNextTagged lefts kinds) [] rows → All (λ tagged. map kind_of tagged.row ≡ kinds) rows
  tagged_kinds rows order =
      All-from_recursion (λ tagged. map kind_of tagged.row ≡ kinds) rows
      (each_in (IsNextTagged lefts kinds) (λ tagged. map kind_of tagged.row ≡ kinds) (λ before tagged next. row_kinds kinds tagged.row next.2) [] rows order)

joined_kinds : (schemas : List Kinds) (left right : PlainPlan) (on : List (ℕ × ℕ)) → IsSome (plan_kinds schemas (Join left right on))
    → kinds_given schemas left ++ kinds_given schemas right ≡ kinds_given schemas (Join left right on)
joined_kinds schemas left right on typed =
    let whole = there (plan_kinds schemas (Join left right on)) typed in
    let both = both_some (join_kinds on) (plan_kinds schemas left) (plan_kinds schemas right) whole.0 whole.1 in
    ap (λ k. k ++ kinds_given schemas right) (given_as schemas left both.0 both.2)
    ∙ ap (λ k. both.0 ++ k) (given_as schemas right both.1 both.3) ∙ join_kinds_are on both.0 both.1 whole.0 both.4
    ∙ sym (given_as schemas (Join left right on) whole.0 whole.1)

-- ---- every plan

abbrev Fits : List Kinds → PlainPlan → Kept → Type 0
Fits schemas plan form = IsFit schemas plan form × StandsInOrder form

of_rows : (schemas : List Kinds) (plan : PlainPlan) (rows : Rows) → IsFormOf plan (kept.Rows rows) → IsBounded plan (kept.Rows rows)
    → IsKept (shape.Rows (kinds_given schemas plan)) (kept.Rows rows) → Fits schemas plan (kept.Rows rows)
of_rows schemas plan rows form bounded is = (record { form_is = form; kinds_are = rows_kinds (kinds_given schemas plan) rows is; bounded = bounded }, tt)

pub file_fits : (schemas : List Kinds) (plan : PlainPlan) (form : Kept) → IsSome (plan_kinds schemas plan) → IsKept (plan_shape schemas plan) form → IsBounded plan form → Fits schemas plan form
file_fits schemas (Group child keys aggs) (kept.Groups groups) typed is bounded =
    (record { form_is = tt; kinds_are = groups_kinds schemas child keys aggs typed groups is; bounded = bounded }, tt)
file_fits schemas (Group child keys aggs) (kept.Rows rows) typed is bounded = absurd is
file_fits schemas (Group child keys aggs) (kept.Tagged lefts rows) typed is bounded = absurd is
file_fits schemas (Join left right on) (kept.Tagged lefts rows) typed is bounded =
    let kinds : Kinds = kinds_given schemas left ++ kinds_given schemas right in (
      record {
        form_is = tt;
        kinds_are = subst (λ (k : Kinds). All (λ (tagged : TaggedRow). map kind_of tagged.row ≡ k) rows) (joined_kinds schemas left right on typed)
            (tagged_kinds lefts (kinds_given schemas left ++ kinds_given schemas right) rows is.2);
        bounded = bounded;
      },
      sorted_from_ascends is_earlier rows (ascends lefts (kinds_given schemas left ++ kinds_given schemas right) [] rows is.2),
    )
file_fits schemas (Join left right on) (kept.Rows rows) typed is bounded = absurd is
file_fits schemas (Join left right on) (kept.Groups groups) typed is bounded = absurd is
file_fits schemas (Scan stream) (kept.Rows rows) typed is bounded = of_rows schemas (Scan stream) rows tt tt is
file_fits schemas (Scan stream) (kept.Groups groups) typed is bounded = absurd is
file_fits schemas (Scan stream) (kept.Tagged lefts rows) typed is bounded = absurd is
file_fits schemas (Filter child test) (kept.Rows rows) typed is bounded = of_rows schemas (Filter child test) rows tt tt is
file_fits schemas (Filter child test) (kept.Groups groups) typed is bounded = absurd is
file_fits schemas (Filter child test) (kept.Tagged lefts rows) typed is bounded = absurd is
file_fits schemas (Project child columns) (kept.Rows rows) typed is bounded = of_rows schemas (Project child columns) rows tt tt is
file_fits schemas (Project child columns) (kept.Groups groups) typed is bounded = absurd is
file_fits schemas (Project child columns) (kept.Tagged lefts rows) typed is bounded = absurd is
file_fits schemas (Distinct child) (kept.Rows rows) typed is bounded = of_rows schemas (Distinct child) rows tt tt is
file_fits schemas (Distinct child) (kept.Groups groups) typed is bounded = absurd is
file_fits schemas (Distinct child) (kept.Tagged lefts rows) typed is bounded = absurd is
file_fits schemas (Concat left right) (kept.Rows rows) typed is bounded = of_rows schemas (Concat left right) rows tt tt is
file_fits schemas (Concat left right) (kept.Groups groups) typed is bounded = absurd is
file_fits schemas (Concat left right) (kept.Tagged lefts rows) typed is bounded = absurd is
file_fits schemas (Order child keys) (kept.Rows rows) typed is bounded = of_rows schemas (Order child keys) rows tt tt is
file_fits schemas (Order child keys) (kept.Groups groups) typed is bounded = absurd is
file_fits schemas (Order child keys) (kept.Tagged lefts rows) typed is bounded = absurd is

-- so what is loaded of it is
pub loaded_fits : (schemas : List Kinds) (plan : PlainPlan) (shape : Shape) (form : Kept) (machine : ℕ) (o : Option Made) → IsSome (plan_kinds schemas plan) → shape ≡ plan_shape schemas plan → IsKept shape form
    → IsOfForm plan form machine o → IfSome o (λ made. IsBounded plan made.kept) → IfSome o (λ made. IsFit schemas plan made.kept × StandsInOrder made.kept)
loaded_fits schemas plan shape form machine None typed shape_is is made bounded = tt
loaded_fits schemas plan shape form machine (Some m) typed shape_is is made bounded =
    file_fits schemas plan m.kept typed (subst (λ (x : Kept). IsKept (plan_shape schemas plan) x) (sym made.0) (subst (λ (s : Shape). IsKept s form) shape_is is)) bounded
