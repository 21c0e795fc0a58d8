-- What is kept of groups and of a join is within the bounds of a file.
use Rattle.std.proofs.Common.{◌≡◌, refl, sym, ap, ◌∙◌, subst, ℕ, ◌+◌, ◌-◌, ◌*◌, ◌^◌, ◌<◌, ◌≤◌, ℤ, pos, negsuc, Bool, true, false, not, cond, List, [], ◌∷◌, ◌++◌, map, length, append-nil, Option, Some, unwrap_or, arith}
use Rattle.std.specs.List.{AllByRecursion, filter, list_any, slice_get}
use Rattle.std.proofs.lemmas.Bool.{not-true, or_parts, or_from}
use Rattle.std.proofs.lemmas.Int.{ints}
use Rattle.std.proofs.lemmas.List.{length-append, length-map, map-append}
use Rattle.std.proofs.lemmas.List.Elements.{filter-append}
use Rattle.std.proofs.Math.Nat.{mul-le-mul}
use Rattle.rows_core.specs.declared.kind.Kind.{Kind}
use Rattle.rows_core.specs.declared.kind.Kind.TheVariants as kind
use Rattle.rows_core.specs.declared.value.Value.{Value}
use Rattle.rows_core.specs.declared.value.Value.TheVariants as value
use Rattle.rows_core.specs.Value.{kind_of, row_eq}
use Rattle.row_blob.specs.declared.kept.GroupRow.{GroupRow}
use Rattle.row_blob.specs.declared.kept.TaggedRow.{TaggedRow}
use Rattle.row_blob.specs.declared.shape.AccKind.{AccKind}
use Rattle.row_blob.specs.Kept as bounds
use Rattle.row_blob.specs.Kept.{IsValue, IsRow, AreEach, IsSum, IsAcc, AreInOrder, IsNextGroup, IsNextTagged, last_left, left_or_zero}
use Rattle.plan_core.specs.declared.agg.Agg.{Agg}
use Rattle.plan_core.specs.declared.agg.Agg.TheVariants as agg
use Rattle.plan_core.specs.Aggregate.{exact_sum, values_of}
use Rattle.plan_core.specs.Columns.{Row, Rows}
use Rattle.plan_core.specs.Distinct.{distinct_rows}
use Rattle.plan_core.specs.Join.{rows_agree}
use Rattle.plan_core.specs.PlanTyping.{Kinds, all_there, agg_kind}
use Rattle.plan_laws.specs.KeptForm.{acc_of, tagged_from}
use Rattle.plan_laws.specs.PlanShape.{kind_at, acc_kind_of}
use Rattle.plan_laws.specs.ValidRows.{IsValid, IsValidRow, AreValidRows}
use Rattle.plan_laws.proofs.Answers.{there_front}
use Rattle.plan_laws.proofs.FirstOfEqual.{either_way}
use Rattle.plan_laws.proofs.TypedOperators.{HasKinds, agg_typed}
use Rattle.plan_laws.proofs.ValidPlans.{all-filter, filter_shorter}
use Rattle.plan_laws.proofs.ValidValues.{IsWithin, aggregate_valid, length-values_of, sum_within, values_valid}

-- ---- rows

value_is : (v : Value) → IsValid v → IsValue (kind_of v) v
value_is (value.Int n) valid = valid
value_is (value.Text t) valid = valid
value_is (value.Bool b) valid = valid

pub row_is : (row : Row) → IsValidRow row → IsRow (map kind_of row) row
row_is [] valid = tt
row_is (v ∷ row) valid = (value_is v valid.0, row_is row valid.1)

pub rows_are : (kinds : Kinds) (rows : Rows) → AllByRecursion (HasKinds kinds) rows → AreValidRows rows → AllByRecursion (IsRow kinds) rows
rows_are kinds [] typed valid = tt
rows_are kinds (row ∷ rows) typed valid = (subst (λ k. IsRow k row) typed.0 (row_is row valid.0), rows_are kinds rows typed.1 valid.1)

pub in_order : {A : Type 0} (P : A → Type 0) (before xs : List A) → AllByRecursion P xs → AreInOrder (λ b. P) before xs
in_order P before [] all = tt
in_order P before (x ∷ xs) all = (all.0, in_order P (before ++ x ∷ []) xs all.1)

-- ---- groups

pub kinds_there : {A : Type 0} (f : A → Option Kind) (xs : List A) (ks : Kinds) → all_there (map f xs) ≡ Some ks → map (λ x. unwrap_or (f x) kind.Int) xs ≡ ks
kinds_there f [] ks is = cc
kinds_there f (x ∷ xs) ks is =
    let front = there_front (f x) (map f xs) ks is in
    let head : unwrap_or (f x) kind.Int ≡ front.0 = ap (λ o. unwrap_or o kind.Int) front.2 in
    let tail : map (λ x. unwrap_or (f x) kind.Int) xs ≡ front.1 = kinds_there f xs front.1 front.3 in
    (λ i. head i ∷ tail i) ∙ front.4

pub sum_is : (n : ℕ) (z : ℤ) → n ≤ 4294967295 → IsWithin n z → IsSum z
sum_is n (pos a) few within = omega (arith, ints, within.high)
sum_is n (negsuc a) few within = omega (arith, ints, within.low)

module _ (kinds : Kinds) (first : Row) (others : Rows) (typed : AllByRecursion (HasKinds kinds) (first ∷ others)) (valid : AreValidRows (first ∷ others)) (few : length (first ∷ others) ≤ 4294967295) where
  fewer : length (first ∷ others) < 2 ^ 63
  fewer = omega arith

  picked : (column : ℕ) (v : Value) (k : Kind) → IsValid v → kind_of v ≡ k → slice_get kinds column ≡ Some k → IsValue (kind_at kinds column) v
  picked column v k v_valid v_kind there = subst (λ j. IsValue j v) (v_kind ∙ sym (ap (λ o. unwrap_or o kind.Int) there)) (value_is v v_valid)

  sum_of : (column : ℕ) → IsSum (exact_sum (values_of column (first ∷ others)))
  sum_of column =
      subst (λ n. n ≤ 4294967295 → IsSum (exact_sum (values_of column (first ∷ others)))) (length-values_of column (first ∷ others))
      (λ count. sum_is (length (values_of column (first ∷ others))) (exact_sum (values_of column (first ∷ others))) count
      (sum_within (values_of column (first ∷ others)) (values_valid column (first ∷ others) valid))) few

  count_is : bounds.IsCount (length (first ∷ others))
  count_is = (omega arith, few)

  acc_is : (a : Agg) (k : Kind) → agg_kind kinds a ≡ Some k → IsAcc (acc_kind_of kinds a) (acc_of (first ∷ others) a)
  acc_is agg.Count k there = count_is
  acc_is (agg.Sum c) k there = sum_of c
  acc_is (agg.Avg c) k there = (sum_of c, count_is)
  acc_is (agg.Min c) k there = picked c _ k (aggregate_valid (first ∷ others) valid fewer (agg.Min c) _ refl) (agg_typed kinds first others typed (agg.Min c) _ k refl there) there
  acc_is (agg.Max c) k there = picked c _ k (aggregate_valid (first ∷ others) valid fewer (agg.Max c) _ refl) (agg_typed kinds first others typed (agg.Max c) _ k refl there) there
  acc_is (agg.First c) k there = picked c _ k (aggregate_valid (first ∷ others) valid fewer (agg.First c) _ refl) (agg_typed kinds first others typed (agg.First c) _ k refl there) there
  acc_is (agg.Last c) k there = picked c _ k (aggregate_valid (first ∷ others) valid fewer (agg.Last c) _ refl) (agg_typed kinds first others typed (agg.Last c) _ k refl there) there

  pub accs_are : (aggs : List Agg) (agg_kinds : Kinds) → all_there (map (agg_kind kinds) aggs) ≡ Some agg_kinds
      → AreEach IsAcc (map (acc_kind_of kinds) aggs) (map (acc_of (first ∷ others)) aggs)
  accs_are [] agg_kinds there = tt
  accs_are (a ∷ aggs) agg_kinds there =
      let front = there_front (agg_kind kinds a) (map (agg_kind kinds) aggs) agg_kinds there in
      (acc_is a front.0 front.2, accs_are aggs front.1 front.3)

-- none of these is equal to one before it
abbrev pub AreFresh : List Row → List Row → Type 0
AreFresh before [] = Unit {0}
AreFresh before (row ∷ rows) = (list_any (row_eq row) before ≡ false) × AreFresh (before ++ row ∷ []) rows

none_in_filter : (q p : Row → Bool) (rows : List Row) → list_any q rows ≡ false → list_any q (filter p rows) ≡ false
none_in_filter q p [] none = refl
none_in_filter q p (row ∷ rows) none = go (p row) (none_in_filter q p rows (or_parts (q row) (list_any q rows) none).1)
  where
    go : (b : Bool) → list_any q (filter p rows) ≡ false → list_any q (cond b (row ∷ filter p rows) (filter p rows)) ≡ false
    go true rest = or_from (q row) (list_any q (filter p rows)) (or_parts (q row) (list_any q rows) none).0 rest
    go false rest = rest

module _ (first : Row) where
  abbrev is_other : Row → Bool
  is_other row = not (row_eq first row)

  not_first : (row : Row) → is_other row ≡ true → row_eq row first ≡ false
  not_first row e = either_way row first ∙ not-true (row_eq first row) e

  fresh_others : (before rows : List Row) → AreFresh before rows → AreFresh (first ∷ filter is_other before) (filter is_other rows)
  fresh_others before [] fresh = tt
  fresh_others before (row ∷ rows) fresh = go (is_other row) refl (fresh_others (before ++ row ∷ []) rows fresh.1)
    where
      grown : (b : Bool) → is_other row ≡ b → filter is_other (before ++ row ∷ []) ≡ filter is_other before ++ cond b (row ∷ []) []
      grown b e = filter-append is_other before (row ∷ []) ∙ ap (λ t. filter is_other before ++ cond t (row ∷ []) []) e

      go : (b : Bool) → is_other row ≡ b → AreFresh (first ∷ filter is_other (before ++ row ∷ [])) (filter is_other rows)
          → AreFresh (first ∷ filter is_other before) (cond b (row ∷ filter is_other rows) (filter is_other rows))
      go true e rest = (
        or_from (row_eq row first) (list_any (row_eq row) (filter is_other before)) (not_first row e) (none_in_filter (row_eq row) is_other before fresh.0),
        subst (λ (l : List Row). AreFresh (first ∷ l) (filter is_other rows)) (grown true e) rest,
      )
      go false e rest =
          subst (λ (l : List Row). AreFresh (first ∷ l) (filter is_other rows)) (grown false e ∙ append-nil (filter is_other before)) rest

pub fresh_distinct : (rows : Rows) → AreFresh [] (distinct_rows rows)
fresh_distinct [] = tt
fresh_distinct (first ∷ others) = (refl, fresh_others first [] (distinct_rows others) (fresh_distinct others))

module _ (g : Row → GroupRow) (same : (key : Row) → (g key).key ≡ key) (kinds : Kinds) (accs : List AccKind) where
  keys_are : (keys : List Row) → bounds.keys_of (map g keys) ≡ keys
  keys_are [] = refl
  keys_are (key ∷ keys) = λ i. same key i ∷ keys_are keys i

  abbrev pub IsGroup : Row → Type 0
  IsGroup key = IsRow kinds key × AreEach IsAcc accs (g key).accs

  pub groups_in_order : (before keys : List Row) → AreFresh before keys → AllByRecursion IsGroup keys → AreInOrder (IsNextGroup kinds accs) (map g before) (map g keys)
  groups_in_order before [] fresh all = tt
  groups_in_order before (key ∷ keys) fresh all = (
    (
      subst (IsRow kinds) (sym (same key)) all.0.0,
      all.0.1,
      subst (λ (k : Row). list_any (row_eq k) (bounds.keys_of (map g before)) ≡ false) (sym (same key)) (ap (list_any (row_eq key)) (keys_are before) ∙ fresh.0),
    ),
    subst (λ (l : List GroupRow). AreInOrder (IsNextGroup kinds accs) l (map g keys)) (map-append g before (key ∷ [])) (groups_in_order (before ++ key ∷ []) keys fresh.1 all.1),
  )

-- ---- joins

last_there : (rows : List TaggedRow) (row : TaggedRow) → slice_get (rows ++ row ∷ []) (length rows) ≡ Some row
last_there [] row = refl
last_there (first ∷ rows) row = last_there rows row

pub last_of : (rows : List TaggedRow) (row : TaggedRow) → last_left (rows ++ row ∷ []) ≡ row.left
last_of rows row =
    let at : length (rows ++ row ∷ []) - 1 ≡ length rows = omega (arith, length-append rows (row ∷ [])) in
    ap (λ n. left_or_zero (slice_get (rows ++ row ∷ []) n)) at ∙ ap left_or_zero (last_there rows row)

module _ (kinds : Kinds) (total : ℕ) (on : List (ℕ × ℕ)) (rights : Rows) where
  abbrev tag : ℕ → Row → Row → TaggedRow
  tag position left right = record { left = position; row = left ++ right }

  abbrev InOrder : List TaggedRow → List TaggedRow → Type 0
  InOrder = AreInOrder (IsNextTagged total kinds)

  one_left : (position : ℕ) (left : Row) → position < total → (agree : Rows) → AllByRecursion (λ right. IsRow kinds (left ++ right)) agree → (rest before : List TaggedRow)
      → last_left before ≤ position → ((next : List TaggedRow) → last_left next ≤ position → InOrder next rest) → InOrder before (map (tag position left) agree ++ rest)
  one_left position left within [] all rest before low then = then before low
  one_left position left within (right ∷ agree) all rest before low then =
      let here : last_left (before ++ tag position left right ∷ []) ≡ position = last_of before (tag position left right) in
      let next_low : last_left (before ++ tag position left right ∷ []) ≤ position = omega arith in
      ((low, within, all.0), one_left position left within agree all.1 rest (before ++ tag position left right ∷ []) next_low then)

  pub tagged_in_order : (position : ℕ) (lefts : Rows) → position + length lefts ≤ total → AllByRecursion (λ left. AllByRecursion (λ right. IsRow kinds (left ++ right)) rights) lefts
      → (before : List TaggedRow) → last_left before ≤ position → InOrder before (tagged_from position on lefts rights)
  tagged_in_order position [] within all before low = tt
  tagged_in_order position (left ∷ lefts) within all before low =
      one_left position left (omega arith) (filter (rows_agree on left) rights) (all-filter (λ right. IsRow kinds (left ++ right)) (rows_agree on left) rights all.0)
      (tagged_from (position + 1) on lefts rights) before low
      (λ next next_low. tagged_in_order (position + 1) lefts (omega arith) all.1 next (omega arith))

  pub tagged_count : (position : ℕ) (lefts : Rows) → length (tagged_from position on lefts rights) ≤ length lefts * length rights
  tagged_count position [] = omega arith
  tagged_count position (left ∷ lefts) =
      let agree = filter (rows_agree on left) rights in
      omega (
        arith,
        tagged_count (position + 1) lefts,
        filter_shorter (rows_agree on left) rights,
        length-map agree (tag position left),
        length-append (map (tag position left) agree) (tagged_from (position + 1) on lefts rights),
      )

pub few_pairs : (l r : ℕ) → l < 4294967296 → r < 4294967296 → l * r < 2 ^ 64
few_pairs l r left right =
    let l_most : l ≤ 4294967295 = omega arith in
    let r_most : r ≤ 4294967295 = omega arith in
    let most : l * r ≤ 4294967295 * 4294967295 = mul-le-mul l_most r_most in
    omega (arith, most)
