-- Typed expressions with valid literals have valid values at valid rows, and so do the columns and aggregates of rows.
use Rattle.std.proofs.Common.{zero, suc, ◌≡◌, refl, sym, subst, ℕ, ◌-◌, ◌*◌, ◌/◌, ◌^◌, ◌<◌, ◌≤◌, ℤ, pos, negsuc, neg_ℤ, ◌+ℤ◌, ◌≤ℤ◌, Bool, true, false, ◌&&◌, not, cond, List, [], ◌∷◌, map, length, Result, Ok, Err, Option, None, Some, FitsSigned, w64, arith}
use Rattle.std.specs.List.{AllByRecursion}
use Rattle.std.specs.Option.{option_map}
use Rattle.std.specs.Ordering.{is_le, is_ge}
use Rattle.std.proofs.lemmas.Int.{ints}
use Rattle.std.proofs.lemmas.List.{length-map}
use Rattle.std.proofs.lemmas.List.Elements.{All-from_recursion}
use Rattle.std.proofs.lemmas.Option.{unwrap_or-slice_get}
use Rattle.std.proofs.Math.Nat.{div-le_of_le-mul, div-lt_iff_lt-mul}
use Rattle.rows_core.specs.declared.kind.Kind.{Kind}
use Rattle.rows_core.specs.declared.overflow.Overflow.{Overflow}
use Rattle.rows_core.specs.declared.value.Value.{Value}
use Rattle.rows_core.specs.declared.value.Value.TheVariants as value
use Rattle.rows_core.specs.Value.{value_cmp}
use Rattle.scalar_ops.specs.declared.cell.Cell.{Cell}
use Rattle.scalar_ops.specs.declared.cell.Cell.TheVariants as cell
use Rattle.scalar_ops.specs.declared.cell.CellKind.{CellKind}
use Rattle.scalar_ops.specs.declared.cell.CellKind.TheVariants as kind
use Rattle.scalar_ops.specs.declared.table.Op.{Op}
use Rattle.scalar_ops.specs.declared.table.Op.TheVariants as op
use Rattle.scalar_ops.specs.Cells.{IsCell, AreCells}
use Rattle.scalar_ops.specs.Division.{floor_div}
use Rattle.scalar_ops.specs.Meaning.{op_at, meaning, Divides, fits_i64, overflow}
use Rattle.scalar_ops.proofs.FitsI64.{fits_i64-true}
use Rattle.plan_core.specs.declared.agg.Agg.{Agg}
use Rattle.plan_core.specs.declared.agg.Agg.TheVariants as agg
use Rattle.plan_core.specs.Aggregate.{aggregate_value, values_of, number_of, whole_value, exact_sum, least_value, greatest_value, first_value, last_value}
use Rattle.plan_core.specs.Columns.{Row, Rows, column_of, columns_of, no_value}
use Rattle.plan_core.specs.ExpressionKind.{expression_kind, call_kind, both_truths, choice_kind, is_division, is_divisor}
use Rattle.plan_core.specs.ExpressionValue.{◌>>=◌, expression_value, cell_of_value, value_of_cell, is_true}
use Rattle.plan_core.specs.Literals.{HasCells, HaveCells}
use Rattle.plan_core.specs.PlainExpr.{PlainExpr, Column, Literal, Call1, Call2, And, Or, If}
use Rattle.plan_core.specs.PlanTyping.{Kinds, all_there, column_kind}
use Rattle.plan_core.specs.Project.{column_value}
use Rattle.plan_core.proofs.ExprLaws.{divides}
use Rattle.plan_core.proofs.ValueKinds.{bind_ok, then_some, both_some, unless_some}
use Rattle.plan_laws.specs.ValidRows.{IsValid, IsValidRow, AreValidRows}
use Rattle.plan_laws.proofs.Answers.{both_ok, there_front}

-- ---- columns

nothing_valid : IsValid no_value
nothing_valid = fits_i64-true (pos 0) refl

pub column_valid : (row : Row) (i : ℕ) → IsValidRow row → IsValid (column_of row i)
column_valid [] i valid = nothing_valid
column_valid (v ∷ row) zero valid = valid.0
column_valid (v ∷ row) (suc i) valid = column_valid row i valid.1

pub columns_valid : (row : Row) (columns : List ℕ) → IsValidRow row → IsValidRow (columns_of columns row)
columns_valid row [] valid = tt
columns_valid row (i ∷ columns) valid = (column_valid row i valid, columns_valid row columns valid)

cell_of-valid : (v : Value) → IsValid v → IsCell (cell_of_value v)
cell_of-valid (value.Int n) valid = valid
cell_of-valid (value.Text t) valid = valid
cell_of-valid (value.Bool b) valid = valid

value_of-valid : (c : Cell) → IsCell c → IsValid (value_of_cell c)
value_of-valid (cell.Int n) valid = valid
value_of-valid (cell.Text t) valid = valid
value_of-valid (cell.Bool b) valid = valid

-- ---- expressions

one_divides : (o : Op) (x : Cell) → Divides o (x ∷ [])
one_divides op.Div x = tt
one_divides op.Mod x = tt
one_divides _ x = tt

is_refused : {A : Type 0} (refused : Bool) (o : Option A) (k : A) → cond refused None o ≡ Some k → refused ≡ false
is_refused true o k e = absurd cc
is_refused false o k e = refl

truths : (o p : Option CellKind) (k : CellKind) → both_truths o p ≡ Some k → (o ≡ Some kind.Bool) × (p ≡ Some kind.Bool)
truths (Some kind.Bool) (Some kind.Bool) k e = (refl, refl)
truths _ _ k e = absurd cc

record AreThree (o p q : Option CellKind) : Type 0 where
  then : CellKind
  other : CellKind
  test_there : o ≡ Some kind.Bool
  then_there : p ≡ Some then
  other_there : q ≡ Some other

three : (o p q : Option CellKind) (k : CellKind) → choice_kind o p q ≡ Some k → AreThree o p q
three (Some kind.Bool) (Some j) (Some l) k e =
    record { then = j; other = l; test_there = refl; then_there = refl; other_there = refl }
three _ _ _ k e = absurd cc

ok_valid : (x c : Cell) → IsCell x → ◌≡◌ {A = Result Cell Overflow} (Ok x) (Ok c) → IsCell c
ok_valid x c valid is = let same : x ≡ c = cc in subst IsCell same valid

either_valid : (taken : Bool) (one other : Result Cell Overflow) (c : Cell) → ((d : Cell) → one ≡ Ok d → IsCell d) → ((d : Cell) → other ≡ Ok d → IsCell d)
    → cond taken one other ≡ Ok c → IsCell c
either_valid true one other c first second is = first c is
either_valid false one other c first second is = second c is

abbrev pub GivesCells : Type 0
GivesCells = (row : ℕ) (cells : List Cell) (cell : Cell) → AreCells cells → Divides (op_at row) cells → meaning row cells ≡ Ok cell → IsCell cell

module _ (cells_are : GivesCells) (kinds : Kinds) (row : Row) (valid : IsValidRow row) where
  pub valid_value : (e : PlainExpr) (k : CellKind) (c : Cell) → HasCells e → expression_kind kinds e ≡ Some k → expression_value e row ≡ Ok c → IsCell c
  valid_value (Column i) k c has typed is = ok_valid (cell_of_value (column_of row i)) c (cell_of-valid (column_of row i) (column_valid row i valid)) is
  valid_value (Literal x) k c has typed is = ok_valid x c has is
  valid_value (Call1 o a) k c has typed is =
      let arg = bind_ok (expression_value a row) (λ x. meaning o (x ∷ [])) c is in
      let its = then_some (λ j. call_kind o (j ∷ [])) (expression_kind kinds a) k typed in
      cells_are o (arg.0 ∷ []) c (valid_value a its.0 arg.0 has its.1.0 arg.1.0, tt) (one_divides (op_at o) arg.0) arg.1.1
  valid_value (Call2 o a b) k c has typed is =
      let first = bind_ok (expression_value a row) (λ x. expression_value b row >>= λ y. meaning o (x ∷ y ∷ [])) c is in
      let second = bind_ok (expression_value b row) (λ y. meaning o (first.0 ∷ y ∷ [])) c first.1.1 in
      let both = both_some (λ j l. call_kind o (j ∷ l ∷ [])) (expression_kind kinds a) (expression_kind kinds b) k
      (unless_some (is_division (op_at o) && not (is_divisor b)) _ k typed) in
      cells_are o (first.0 ∷ second.0 ∷ []) c
      (valid_value a both.left first.0 has.0 both.left_there first.1.0, (valid_value b both.right second.0 has.1 both.right_there second.1.0, tt))
      (divides (op_at o) b row first.0 second.0 (is_refused (is_division (op_at o) && not (is_divisor b)) _ k typed) second.1.0) second.1.1
  valid_value (And a b) k c has typed is =
      let first = bind_ok (expression_value a row) (λ x. cond (is_true x) (expression_value b row) (Ok (cell.Bool false))) c is in
      let both = truths (expression_kind kinds a) (expression_kind kinds b) k typed in
      either_valid (is_true first.0) (expression_value b row) (Ok (cell.Bool false)) c
      (λ d p. valid_value b kind.Bool d has.1 both.1 p) (λ d p. ok_valid (cell.Bool false) d tt p) first.1.1
  valid_value (Or a b) k c has typed is =
      let first = bind_ok (expression_value a row) (λ x. cond (is_true x) (Ok (cell.Bool true)) (expression_value b row)) c is in
      let both = truths (expression_kind kinds a) (expression_kind kinds b) k typed in
      either_valid (is_true first.0) (Ok (cell.Bool true)) (expression_value b row) c
      (λ d p. ok_valid (cell.Bool true) d tt p) (λ d p. valid_value b kind.Bool d has.1 both.1 p) first.1.1
  valid_value (If t a b) k c has typed is =
      let test = bind_ok (expression_value t row) (λ x. cond (is_true x) (expression_value a row) (expression_value b row)) c is in
      let parts = three (expression_kind kinds t) (expression_kind kinds a) (expression_kind kinds b) k typed in
      either_valid (is_true test.0) (expression_value a row) (expression_value b row) c
      (λ d p. valid_value a parts.then d has.1.0 parts.then_there p) (λ d p. valid_value b parts.other d has.1.1 parts.other_there p) test.1.1

  pub valid_column : (e : PlainExpr) (k : CellKind) (v : Value) → HasCells e → expression_kind kinds e ≡ Some k → column_value e row ≡ Ok v → IsValid v
  valid_column e k v has typed is =
      let c = both_ok (expression_value e row) (λ c. Ok (value_of_cell c)) v is in
      let same : value_of_cell c.0 ≡ v = let h = c.2 in cc in
      subst IsValid same (value_of-valid c.0 (valid_value e k c.0 has typed c.1))

-- the columns of a projection have a kind
abbrev pub HasKindAndCells : Kinds → PlainExpr → Type 0
HasKindAndCells kinds e = HasCells e × ((k : CellKind) × (expression_kind kinds e ≡ Some k))

kind_there : (o : Option CellKind) (k : Kind) → option_map column_kind o ≡ Some k → (c : CellKind) × (o ≡ Some c)
kind_there (Some c) k is = (c, refl)
kind_there None k is = absurd cc

pub columns_there : (kinds : Kinds) (columns : List PlainExpr) (out : Kinds) → HaveCells columns
    → all_there (map (λ e. option_map column_kind (expression_kind kinds e)) columns) ≡ Some out → AllByRecursion (HasKindAndCells kinds) columns
columns_there kinds [] out have is = tt
columns_there kinds (e ∷ columns) out have is =
    let front = there_front _ (map (λ e. option_map column_kind (expression_kind kinds e)) columns) out is in
    ((have.0, kind_there (expression_kind kinds e) front.0 front.2), columns_there kinds columns front.1 have.1 front.3)

-- ---- aggregates

pub values_valid : (column : ℕ) (rows : Rows) → AreValidRows rows → AllByRecursion IsValid (values_of column rows)
values_valid column [] valid = tt
values_valid column (row ∷ rows) valid = (column_valid row column valid.0, values_valid column rows valid.1)

either_of : (b : Bool) (u v : Value) → IsValid u → IsValid v → IsValid (cond b u v)
either_of true u v p q = p
either_of false u v p q = q

least_valid : (vs : List Value) → AllByRecursion IsValid vs → IsValid (least_value vs)
least_valid [] all = nothing_valid
least_valid (v ∷ []) all = all.0
least_valid (v ∷ u ∷ vs) all = either_of (is_le (value_cmp v (least_value (u ∷ vs)))) v (least_value (u ∷ vs)) all.0 (least_valid (u ∷ vs) all.1)

greatest_valid : (vs : List Value) → AllByRecursion IsValid vs → IsValid (greatest_value vs)
greatest_valid [] all = nothing_valid
greatest_valid (v ∷ []) all = all.0
greatest_valid (v ∷ u ∷ vs) all = either_of (is_ge (value_cmp v (greatest_value (u ∷ vs)))) v (greatest_value (u ∷ vs)) all.0 (greatest_valid (u ∷ vs) all.1)

first_valid : (vs : List Value) → AllByRecursion IsValid vs → IsValid (first_value vs)
first_valid [] all = nothing_valid
first_valid (v ∷ vs) all = all.0

last_valid : (vs : List Value) → AllByRecursion IsValid vs → IsValid (last_value vs)
last_valid [] all = nothing_valid
last_valid (v ∷ vs) all =
    subst IsValid (sym (unwrap_or-slice_get (v ∷ vs) (length (v ∷ vs) - 1) no_value)) (All-from_recursion IsValid (v ∷ vs) all (length (v ∷ vs) - 1) no_value (omega arith))

whole_valid : (z : ℤ) (v : Value) → whole_value z ≡ Ok v → IsValid v
whole_valid z v is = go (fits_i64 z) refl is
  where
    go : (b : Bool) → fits_i64 z ≡ b → cond b (Ok (value.Int z)) (Err overflow) ≡ Ok v → IsValid v
    go true fits h = let same : value.Int z ≡ v = cc in subst IsValid same (fits_i64-true z fits)
    go false fits h = absurd cc

-- n numbers in i64 have a sum from -n * 2^63 to n * (2^63 - 1)
pub record IsWithin (n : ℕ) (z : ℤ) : Type 0 where
  pub low : neg_ℤ (pos (n * 2 ^ 63)) ≤ℤ z
  pub high : z ≤ℤ pos (n * (2 ^ 63 - 1))

pub number_within : (v : Value) → IsValid v → IsWithin 1 (number_of v)
number_within (value.Int (pos n)) valid = record { low = omega (arith, ints, valid.sfits); high = omega (arith, ints, valid.sfits) }
number_within (value.Int (negsuc n)) valid = record { low = omega (arith, ints, valid.sfits); high = omega (arith, ints, valid.sfits) }
number_within (value.Text t) valid = record { low = omega (arith, ints); high = omega (arith, ints) }
number_within (value.Bool b) valid = record { low = omega (arith, ints); high = omega (arith, ints) }

pub added_within : (n : ℕ) (z s : ℤ) → IsWithin 1 z → IsWithin n s → IsWithin (suc n) (z +ℤ s)
added_within n z s one others =
    record { low = omega (arith, ints, one.low, others.low); high = omega (arith, ints, one.high, others.high) }

pub sum_within : (vs : List Value) → AllByRecursion IsValid vs → IsWithin (length vs) (exact_sum vs)
sum_within [] all = record { low = omega (arith, ints); high = omega (arith, ints) }
sum_within (v ∷ vs) all = added_within (length vs) (number_of v) (exact_sum vs) (number_within v all.0) (sum_within vs all.1)

pub floor_valid : (z : ℤ) (n : ℕ) → IsWithin n z → FitsSigned w64 (floor_div z (pos n))
floor_valid (pos a) n within =
    let most : a ≤ n * (2 ^ 63 - 1) = omega (arith, ints, within.high) in
    let quotient : a / n ≤ 2 ^ 63 - 1 = div-le_of_le-mul n most in
    record { sfits = omega (arith, quotient) }
floor_valid (negsuc a) n within =
    let most : suc a ≤ n * 2 ^ 63 = omega (arith, ints, within.low) in
    let quotient : a / n ≤ 2 ^ 63 - 1 = negative a n most in
    record { sfits = omega (arith, quotient) }
  where
    negative : (a n : ℕ) → suc a ≤ n * 2 ^ 63 → a / n ≤ 2 ^ 63 - 1
    negative a zero most = absurd (omega arith)
    negative a (suc n) most =
        let positive : zero < suc n = omega arith in
        let below : a < 2 ^ 63 * suc n = omega arith in
        let quotient : a / suc n < 2 ^ 63 = (div-lt_iff_lt-mul positive).1 below in
        omega arith

members_valid : (rows : Rows) → length rows < 2 ^ 63 → IsValid (value.Int (pos (length rows)))
members_valid rows few = record { sfits = omega arith }

ok_value : (x v : Value) → IsValid x → ◌≡◌ {A = Result Value Overflow} (Ok x) (Ok v) → IsValid v
ok_value x v valid is = let same : x ≡ v = cc in subst IsValid same valid

pub length-values_of : (column : ℕ) (rows : Rows) → length (values_of column rows) ≡ length rows
length-values_of column rows = length-map rows (λ row. column_of row column)

pub aggregate_valid : (rows : Rows) → AreValidRows rows → length rows < 2 ^ 63 → (a : Agg) (v : Value) → aggregate_value a rows ≡ Ok v → IsValid v
aggregate_valid rows valid few agg.Count v is = ok_value _ v (members_valid rows few) is
aggregate_valid rows valid few (agg.Sum c) v is = whole_valid (exact_sum (values_of c rows)) v is
aggregate_valid rows valid few (agg.Min c) v is = ok_value _ v (least_valid (values_of c rows) (values_valid c rows valid)) is
aggregate_valid rows valid few (agg.Max c) v is = ok_value _ v (greatest_valid (values_of c rows) (values_valid c rows valid)) is
aggregate_valid rows valid few (agg.First c) v is = ok_value _ v (first_valid (values_of c rows) (values_valid c rows valid)) is
aggregate_valid rows valid few (agg.Last c) v is = ok_value _ v (last_valid (values_of c rows) (values_valid c rows valid)) is
aggregate_valid rows valid few (agg.Avg c) v is =
    ok_value _ v (floor_valid (exact_sum (values_of c rows)) (length rows)
    (subst (λ n. IsWithin n (exact_sum (values_of c rows))) (length-values_of c rows) (sum_within (values_of c rows) (values_valid c rows valid)))) is
