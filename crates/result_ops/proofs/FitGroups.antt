-- Groups whose keys and accumulators have the kinds of the grouping's columns.
use Rattle.std.proofs.Common.{◌≡◌, refl, sym, ap, ◌∙◌, subst, ℕ, pos, Bool, true, false, cond, ◌||◌, List, [], ◌∷◌, ◌++◌, map, All, Ok, Err, Some, get_or, arith}
use Rattle.std.specs.List.{AllByRecursion, Contains, slice_get}
use Rattle.std.proofs.lemmas.List.Elements.{All-from_recursion, recursion_from_All, All-filter, All-map, All-contains, All-contains_itself}
use Rattle.std.proofs.lemmas.List.{map-append}
use Rattle.rows_core.specs.declared.kind.Kind.{Kind}
use Rattle.rows_core.specs.declared.kind.Kind.TheVariants as kind
use Rattle.rows_core.specs.declared.value.Value.{Value}
use Rattle.rows_core.specs.declared.value.Value.TheVariants.{Int}
use Rattle.rows_core.specs.Equality.{row_eq-Decides}
use Rattle.rows_core.specs.Value.{kind_of, row_eq}
use Rattle.scalar_ops.specs.Meaning.{fits_i64, overflow}
use Rattle.row_blob.specs.declared.kept.Acc.{Acc}
use Rattle.row_blob.specs.declared.kept.Acc.TheVariants as acc
use Rattle.row_blob.specs.declared.kept.GroupRow.{GroupRow}
use Rattle.plan_core.specs.declared.agg.Agg.{Agg}
use Rattle.plan_core.specs.declared.agg.Agg.TheVariants as agg
use Rattle.plan_core.specs.Columns.{Row, Rows, columns_of}
use Rattle.plan_core.specs.ExpressionValue.{◌>>=◌, all_of}
use Rattle.plan_core.specs.Group.{keys_of, members_of}
use Rattle.plan_core.specs.PlanTyping.{Kinds, is_empty, all_there, agg_kind, group_kinds}
use Rattle.plan_core.specs.TypedRows.{HaveKinds}
use Rattle.plan_core.proofs.ValueKinds.{unless_some}
use Rattle.plan_laws.specs.GrowthOfGroups.{groups_of}
use Rattle.plan_laws.specs.KeptForm.{acc_of, kept_group, value_of_acc, row_of_group}
use Rattle.plan_laws.proofs.Answers.{both_ok, both_some, there_front, each_of}
use Rattle.plan_laws.proofs.FirstOfEqual.{has_no_more}
use Rattle.plan_laws.proofs.Members.{kept, mapped_from}
use Rattle.plan_laws.proofs.TypedOperators.{HasKinds, keys_typed, agg_typed}
use Rattle.result_ops.specs.Fitting.{kind_of_acc, kinds_of_group}

abbrev AreOfKinds : Kinds → List GroupRow → Type 0
AreOfKinds kinds groups = All (λ group. kinds_of_group group ≡ kinds) groups

-- ---- the rows of groups

value_kind : (x : Acc) (v : Value) → value_of_acc x ≡ Ok v → kind_of v ≡ kind_of_acc x
value_kind (acc.Count n) v is = let same : Int (pos n) ≡ v = cc in ap kind_of (sym same)
value_kind (acc.Sum s) v is = by (fits_i64 s) is
  where
    by : (b : Bool) → cond b (Ok (Int s)) (Err overflow) ≡ Ok v → kind_of v ≡ kind.Int
    by true h = let same : Int s ≡ v = cc in ap kind_of (sym same)
    by false h = absurd (cc)
value_kind (acc.Avg s n) v is = let h : value_of_acc (acc.Avg s n) ≡ Ok v = is in cc
value_kind (acc.Pick w) v is = let same : w ≡ v = cc in ap kind_of (sym same)

value_kinds : (xs : List Acc) (vs : List Value) → all_of (map value_of_acc xs) ≡ Ok vs → map kind_of vs ≡ map kind_of_acc xs
value_kinds [] vs is = let none : [] ≡ vs = cc in ap (map kind_of) (sym none)
value_kinds (x ∷ xs) vs is =
    let front = both_ok (value_of_acc x) (λ v. all_of (map value_of_acc xs) >>= λ others. Ok (v ∷ others)) vs is in
    let behind = both_ok (all_of (map value_of_acc xs)) (λ others. Ok (front.0 ∷ others)) vs front.2 in
    let whole : front.0 ∷ behind.0 ≡ vs = let h = behind.2 in cc in
    ap (map kind_of) (sym whole) ∙ ap (λ k. k ∷ map kind_of behind.0) (value_kind x front.0 front.1) ∙ ap (λ l. kind_of_acc x ∷ l) (value_kinds xs behind.0 behind.1)

row_kinds : (kinds : Kinds) (group : GroupRow) (row : Row) → kinds_of_group group ≡ kinds → row_of_group group ≡ Ok row → HasKinds kinds row
row_kinds kinds group row has is =
    let values = both_ok (all_of (map value_of_acc group.accs)) (λ values. Ok (group.key ++ values)) row is in
    let whole : group.key ++ values.0 ≡ row = let h = values.2 in cc in
    ap (map kind_of) (sym whole) ∙ map-append kind_of group.key values.0 ∙ ap (λ l. map kind_of group.key ++ l) (value_kinds group.accs values.0 values.1) ∙ has

pub rows_of_groups_kinds : (kinds : Kinds) (groups : List GroupRow) (rows : Rows) → AreOfKinds kinds groups → all_of (map row_of_group groups) ≡ Ok rows → HaveKinds kinds rows
rows_of_groups_kinds kinds groups rows have is =
    All-from_recursion (HasKinds kinds) rows
    (each_of row_of_group (λ group. kinds_of_group group ≡ kinds) (HasKinds kinds) (λ group row. row_kinds kinds group row) groups rows (recursion_from_All (λ group. kinds_of_group group ≡ kinds) groups have) is)

-- ---- the groups of rows

module _ (kinds : Kinds) (first : Row) (others : Rows) (typed : AllByRecursion (HasKinds kinds) (first ∷ others)) where
  acc_kind : (a : Agg) (k : Kind) → agg_kind kinds a ≡ Some k → kind_of_acc (acc_of (first ∷ others) a) ≡ k
  acc_kind agg.Count k there = agg_typed kinds first others typed agg.Count _ k refl there
  acc_kind (agg.Sum c) k there = agg_typed kinds first others typed (agg.Avg c) _ k refl there
  acc_kind (agg.Avg c) k there = agg_typed kinds first others typed (agg.Avg c) _ k refl there
  acc_kind (agg.Min c) k there = agg_typed kinds first others typed (agg.Min c) _ k refl there
  acc_kind (agg.Max c) k there = agg_typed kinds first others typed (agg.Max c) _ k refl there
  acc_kind (agg.First c) k there = agg_typed kinds first others typed (agg.First c) _ k refl there
  acc_kind (agg.Last c) k there = agg_typed kinds first others typed (agg.Last c) _ k refl there

  acc_kinds : (aggs : List Agg) (ks : Kinds) → all_there (map (agg_kind kinds) aggs) ≡ Some ks → map kind_of_acc (map (acc_of (first ∷ others)) aggs) ≡ ks
  acc_kinds [] ks there = let none : [] ≡ ks = cc in none
  acc_kinds (a ∷ aggs) ks there =
      let front = there_front (agg_kind kinds a) (map (agg_kind kinds) aggs) ks there in
      ap (λ k. k ∷ map kind_of_acc (map (acc_of (first ∷ others)) aggs)) (acc_kind a front.0 front.2) ∙ ap (λ l. front.0 ∷ l) (acc_kinds aggs front.1 front.3) ∙ front.4

module _ (kinds : Kinds) (keys : List ℕ) (aggs : List Agg) (key_kinds agg_kinds : Kinds) (rows : Rows) (typed : HaveKinds kinds rows)
    (keys_there : all_there (map (slice_get kinds) keys) ≡ Some key_kinds) (aggs_there : all_there (map (agg_kind kinds) aggs) ≡ Some agg_kinds) where
  group_kinds_are : (key row : Row) → Contains rows row → columns_of keys row ≡ key → kinds_of_group (kept_group keys aggs rows key) ≡ key_kinds ++ agg_kinds
  group_kinds_are key row at key_is =
      ap (λ l. l ++ map kind_of_acc (map (acc_of (members_of keys rows key)) aggs)) (ap (map kind_of) (sym key_is) ∙ keys_typed kinds row (All-contains (HasKinds kinds) rows row typed at) keys key_kinds keys_there)
      ∙ ap (λ l. key_kinds ++ l) (by (members_of keys rows key)
      (kept (λ r. row_eq key (columns_of keys r)) rows row at ((row_eq-Decides key (columns_of keys row)).1 (sym key_is)))
      (recursion_from_All (HasKinds kinds) (members_of keys rows key) (All-filter (λ r. row_eq key (columns_of keys r)) (HasKinds kinds) rows typed)))
    where
      by : (members : Rows) → Contains members row → AllByRecursion (HasKinds kinds) members → map kind_of_acc (map (acc_of members) aggs) ≡ agg_kinds
      by [] has all = absurd (omega (arith, has.1))
      by (first ∷ others) has all = acc_kinds kinds first others all aggs agg_kinds aggs_there

  all_groups : AreOfKinds (key_kinds ++ agg_kinds) (groups_of keys aggs rows)
  all_groups = All-map (λ group. kinds_of_group group ≡ key_kinds ++ agg_kinds) (kept_group keys aggs rows) (keys_of keys rows) at
    where
      at : All (λ key. kinds_of_group (kept_group keys aggs rows key) ≡ key_kinds ++ agg_kinds) (keys_of keys rows)
      at i d within =
          let key = get_or (keys_of keys rows) i d in
          let found = mapped_from (columns_of keys) rows key (has_no_more (map (columns_of keys) rows) key (All-contains_itself (keys_of keys rows) i d within)) in
          group_kinds_are key found.0 found.1 found.2

pub groups_of_kinds : (keys : List ℕ) (aggs : List Agg) (kinds out_kinds : Kinds) (rows : Rows) → HaveKinds kinds rows → group_kinds keys aggs kinds ≡ Some out_kinds → AreOfKinds out_kinds (groups_of keys aggs rows)
groups_of_kinds keys aggs kinds out_kinds rows typed there =
    let both = both_some (λ key_kinds agg_kinds. Some (key_kinds ++ agg_kinds)) (all_there (map (slice_get kinds) keys)) (all_there (map (agg_kind kinds) aggs)) out_kinds (unless_some (is_empty keys || is_empty aggs) _ out_kinds there) in
    let kinds_are : both.0 ++ both.1 ≡ out_kinds = let h = both.4 in cc in
    subst (λ ks. AreOfKinds ks (groups_of keys aggs rows)) kinds_are (all_groups kinds keys aggs both.0 both.1 rows typed both.2 both.3)
