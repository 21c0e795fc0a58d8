-- The value of a typed expression has its kind: a lemma, which the crates above cite.
use Rattle.std.proofs.Common.{◌≡◌, refl, sym, ap, ◌∙◌, ℕ, zero, suc, pos, Bool, true, false, cond, List, [], ◌∷◌, map, slice_get, Option, None, Some, unwrap_or, Result, Ok, Err}
use Rattle.std.specs.Option.{option_map, option_and_then}
use Rattle.std.specs.List.{list_all}
use Rattle.std.specs.Cmp.Lexicographic.{pointwise, pointwise_decides}
use Rattle.rows_core.specs.declared.overflow.Overflow.{Overflow}
use Rattle.rows_core.specs.declared.value.Value.{Value}
use Rattle.rows_core.specs.declared.value.Value.TheVariants as value
use Rattle.rows_core.specs.Value.{kind_of}
use Rattle.scalar_ops.specs.declared.cell.Cell.{Cell}
use Rattle.scalar_ops.specs.declared.cell.Cell.TheVariants.{Int, Text}
use Rattle.scalar_ops.specs.declared.cell.Cell.TheVariants as cell
use Rattle.scalar_ops.specs.declared.cell.CellKind.{CellKind}
use Rattle.scalar_ops.specs.declared.cell.CellKind.TheVariants as kind
use Rattle.scalar_ops.specs.declared.table.Op.{Op}
use Rattle.scalar_ops.specs.declared.table.Op.TheVariants as op
use Rattle.scalar_ops.specs.declared.table.OpRow.{OpRow}
use Rattle.scalar_ops.specs.declared.table.TheConstants.{OPS}
use Rattle.scalar_ops.specs.Cells.{kind_of_cell}
use Rattle.scalar_ops.specs.Table.{kinds_of_args}
use Rattle.scalar_ops.specs.Meaning.{Exact, Whole, Truth, exact_value, fits_i64, overflow, cell_of, exact_cell, row_at, op_at, overflows_at, meaning}
use Rattle.scalar_ops.proofs.RowLaws.{same_cell_kind-Decides, list_all-get}
use Rattle.plan_core.specs.PlainExpr.{Column, Literal, Call1, Call2, And, Or, If}
use Rattle.plan_core.specs.Columns.{no_value}
use Rattle.plan_core.specs.ExpressionValue.{◌>>=◌, expression_value, cell_of_value, is_true}
use Rattle.plan_core.specs.ExpressionKind.{expression_kind, cell_kind_of, same_cell_kind, of_both, call_kind, both_truths, choice_kind}
use Rattle.plan_core.specs.KindLaw.{ValuesHaveTheirKinds}

-- ---- columns

pub kind_of_cell-cell_of_value : (v : Value) → kind_of_cell (cell_of_value v) ≡ cell_kind_of (kind_of v)
kind_of_cell-cell_of_value (value.Int n) = refl
kind_of_cell-cell_of_value (value.Text t) = refl
kind_of_cell-cell_of_value (value.Bool b) = refl

pub slice_get-map : {A B : Type 0} (f : A → B) (xs : List A) (i : ℕ) → slice_get (map f xs) i ≡ option_map f (slice_get xs i)
slice_get-map f [] i = refl
slice_get-map f (x ∷ xs) zero = refl
slice_get-map f (x ∷ xs) (suc i) = slice_get-map f xs i

-- ---- the table: its rows give their kinds

abbrev exact_kind : Exact → CellKind
exact_kind (Whole z) = kind.Int
exact_kind (Truth b) = kind.Bool

-- some cell of a kind
abbrev sample : CellKind → Cell
sample kind.Int = Int (pos 0)
sample kind.Text = Text []
sample kind.Bool = cell.Bool false

one_by_kind : (o : Op) (x : Cell) → exact_kind (exact_value o (x ∷ [])) ≡ exact_kind (exact_value o (sample (kind_of_cell x) ∷ []))
one_by_kind op.Neg (Int a) = refl
one_by_kind _ (Int a) = refl
one_by_kind op.Neg (Text t) = refl
one_by_kind _ (Text t) = refl
one_by_kind op.Neg (cell.Bool b) = refl
one_by_kind _ (cell.Bool b) = refl

two_by_kind : (o : Op) (x y : Cell)
    → exact_kind (exact_value o (x ∷ y ∷ [])) ≡ exact_kind (exact_value o (sample (kind_of_cell x) ∷ sample (kind_of_cell y) ∷ []))
two_by_kind op.Add (Int a) (Int b) = refl
two_by_kind _ (Int a) (Int b) = refl
two_by_kind op.Add (Int a) (Text t) = refl
two_by_kind _ (Int a) (Text t) = refl
two_by_kind op.Add (Int a) (cell.Bool b) = refl
two_by_kind _ (Int a) (cell.Bool b) = refl
two_by_kind op.Add (Text s) (Int b) = refl
two_by_kind _ (Text s) (Int b) = refl
two_by_kind op.Add (Text s) (Text t) = refl
two_by_kind _ (Text s) (Text t) = refl
two_by_kind op.Add (Text s) (cell.Bool b) = refl
two_by_kind _ (Text s) (cell.Bool b) = refl
two_by_kind op.Add (cell.Bool a) (Int b) = refl
two_by_kind _ (cell.Bool a) (Int b) = refl
two_by_kind op.Add (cell.Bool a) (Text t) = refl
two_by_kind _ (cell.Bool a) (Text t) = refl
two_by_kind op.Add (cell.Bool a) (cell.Bool b) = refl
two_by_kind _ (cell.Bool a) (cell.Bool b) = refl

abbrev agrees : OpRow → Bool
agrees r = same_cell_kind (exact_kind (exact_value r.op (map sample (kinds_of_args r.args)))) r.result

all_agree : list_all agrees OPS.rows ≡ true
all_agree = refl

-- the row of a call that has a kind
record IsCall (row : ℕ) (kinds : List CellKind) (k : CellKind) : Type 0 where
  op_row : OpRow
  there : row_at row ≡ Some op_row
  args : kinds ≡ kinds_of_args op_row.args
  result : op_row.result ≡ k

call_at : (row : ℕ) (kinds : List CellKind) (k : CellKind) (r : OpRow) (fits : Bool) → pointwise same_cell_kind kinds (kinds_of_args r.args) ≡ fits
    → row_at row ≡ Some r → cond fits (Some r.result) None ≡ Some k → IsCall row kinds k
call_at row kinds k r true fits there e =
    record { op_row = r; there = there; args = (pointwise_decides same_cell_kind-Decides kinds (kinds_of_args r.args)).0 fits; result = cc }
call_at row kinds k r false fits there e = absurd cc

call_of : (row : ℕ) (kinds : List CellKind) (k : CellKind) → call_kind row kinds ≡ Some k → IsCall row kinds k
call_of row kinds k e = go (row_at row) refl e
  where
    go : (o : Option OpRow) → row_at row ≡ o
        → option_and_then (λ r. cond (pointwise same_cell_kind kinds (kinds_of_args r.args)) (Some r.result) None) o ≡ Some k → IsCall row kinds k
    go None there h = absurd cc
    go (Some r) there h = call_at row kinds k r _ refl there h

cell_of-kind : (value : Exact) (c : Cell) → cell_of value ≡ Ok c → kind_of_cell c ≡ exact_kind value
cell_of-kind (Whole z) c e = go (fits_i64 z) e
  where
    go : (fits : Bool) → cond fits (Ok (Int z)) (Err overflow) ≡ Ok c → kind_of_cell c ≡ kind.Int
    go true h = let same : Int z ≡ c = cc in sym (ap kind_of_cell same)
    go false h = absurd cc
cell_of-kind (Truth b) c e = let same : cell.Bool b ≡ c = cc in sym (ap kind_of_cell same)

exact_cell-kind : (value : Exact) (c : Cell) → ◌≡◌ {A = Result Cell Overflow} (Ok (exact_cell value)) (Ok c) → kind_of_cell c ≡ exact_kind value
exact_cell-kind (Whole z) c e = let same : Int z ≡ c = cc in sym (ap kind_of_cell same)
exact_cell-kind (Truth b) c e = let same : cell.Bool b ≡ c = cc in sym (ap kind_of_cell same)

given-kind : (may : Bool) (value : Exact) (c : Cell) → cond may (cell_of value) (Ok (exact_cell value)) ≡ Ok c → kind_of_cell c ≡ exact_kind value
given-kind true value c e = cell_of-kind value c e
given-kind false value c e = exact_cell-kind value c e

call_value : (row : ℕ) (cells : List Cell) (k : CellKind) (c : Cell)
    → exact_kind (exact_value (op_at row) cells) ≡ exact_kind (exact_value (op_at row) (map sample (map kind_of_cell cells)))
    → call_kind row (map kind_of_cell cells) ≡ Some k → meaning row cells ≡ Ok c → kind_of_cell c ≡ k
call_value row cells k c by_kind typed is =
    let call = call_of row (map kind_of_cell cells) k typed in
    let its_op : op_at row ≡ call.op_row.op = rw call.there refl in
    let agreed = (same_cell_kind-Decides _ _).0 (list_all-get agrees OPS.rows row call.op_row all_agree call.there) in
    given-kind (overflows_at row) (exact_value (op_at row) cells) c is ∙ by_kind
    ∙ ap (λ o. exact_kind (exact_value o (map sample (map kind_of_cell cells)))) its_op
    ∙ ap (λ ks. exact_kind (exact_value call.op_row.op (map sample ks))) call.args
    ∙ agreed ∙ call.result

-- ---- expressions

pub bind_ok : {A B : Type 0} (v : Result A Overflow) (f : A → Result B Overflow) (c : B) → (v >>= f) ≡ Ok c → (x : A) × ((v ≡ Ok x) × (f x ≡ Ok c))
bind_ok (Ok x) f c e = (x, (refl, e))
bind_ok (Err o) f c e = absurd cc

pub then_some : {A B : Type 0} (f : A → Option B) (o : Option A) (k : B) → option_and_then f o ≡ Some k → (j : A) × ((o ≡ Some j) × (f j ≡ Some k))
then_some f (Some j) k e = (j, (refl, e))
then_some f None k e = absurd cc

pub map_some : {A B : Type 0} (f : A → B) (o : Option A) (y : B) → option_map f o ≡ Some y → (x : A) × ((o ≡ Some x) × (f x ≡ y))
map_some f (Some x) y e = (x, (refl, cc))
map_some f None y e = absurd cc

-- two that are both there
pub record AreBoth {A B C : Type 0} (f : A → B → Option C) (o : Option A) (p : Option B) (k : C) : Type 0 where
  pub left : A
  pub right : B
  pub left_there : o ≡ Some left
  pub right_there : p ≡ Some right
  pub gives : f left right ≡ Some k

pub both_some : {A B C : Type 0} (f : A → B → Option C) (o : Option A) (p : Option B) (k : C) → of_both f o p ≡ Some k → AreBoth f o p k
both_some f (Some j) (Some l) k e = record { left = j; right = l; left_there = refl; right_there = refl; gives = e }
both_some f (Some j) None k e = absurd cc
both_some f None p k e = absurd cc

pub unless_some : {A : Type 0} (refused : Bool) (o : Option A) (k : A) → cond refused None o ≡ Some k → o ≡ Some k
unless_some true o k e = absurd cc
unless_some false o k e = e

pub where_some : {A : Type 0} (kept : Bool) (x y : A) → cond kept (Some x) None ≡ Some y → x ≡ y
where_some true x y e = cc
where_some false x y e = absurd cc

both_truths-some : (o p : Option CellKind) (k : CellKind) → both_truths o p ≡ Some k → (p ≡ Some k) × (kind.Bool ≡ k)
both_truths-some (Some kind.Bool) (Some kind.Bool) k e = (e, cc)
both_truths-some _ _ k e = absurd cc

chosen_kind : (j l k : CellKind) (same : Bool) → same_cell_kind j l ≡ same → cond same (Some j) None ≡ Some k → (Some j ≡ Some k) × (Some l ≡ Some k)
chosen_kind j l k true same e = (e, ap Some (sym ((same_cell_kind-Decides j l).0 same)) ∙ e)
chosen_kind j l k false same e = absurd cc

choice_kind-some : (o p q : Option CellKind) (k : CellKind) → choice_kind o p q ≡ Some k → (p ≡ Some k) × (q ≡ Some k)
choice_kind-some (Some kind.Bool) (Some j) (Some l) k e = chosen_kind j l k _ refl e
choice_kind-some _ _ _ k e = absurd cc

ok_kind : (x : Cell) (k : CellKind) (c : Cell) → kind_of_cell x ≡ k → ◌≡◌ {A = Result Cell Overflow} (Ok x) (Ok c) → kind_of_cell c ≡ k
ok_kind x k c e is = let same : x ≡ c = cc in sym (ap kind_of_cell same) ∙ e

-- a part that is taken, or a truth value
part_kind : (taken : Bool) (part : Result Cell Overflow) (b : Bool) (k : CellKind) (c : Cell)
    → ((d : Cell) → part ≡ Ok d → kind_of_cell d ≡ k) → kind.Bool ≡ k → cond taken part (Ok (cell.Bool b)) ≡ Ok c → kind_of_cell c ≡ k
part_kind true part b k c has e is = has c is
part_kind false part b k c has e is = ok_kind (cell.Bool b) k c e is

other_kind : (taken : Bool) (part : Result Cell Overflow) (b : Bool) (k : CellKind) (c : Cell)
    → ((d : Cell) → part ≡ Ok d → kind_of_cell d ≡ k) → kind.Bool ≡ k → cond taken (Ok (cell.Bool b)) part ≡ Ok c → kind_of_cell c ≡ k
other_kind true part b k c has e is = ok_kind (cell.Bool b) k c e is
other_kind false part b k c has e is = has c is

either_kind : (taken : Bool) (one other : Result Cell Overflow) (k : CellKind) (c : Cell)
    → ((d : Cell) → one ≡ Ok d → kind_of_cell d ≡ k) → ((d : Cell) → other ≡ Ok d → kind_of_cell d ≡ k)
    → cond taken one other ≡ Ok c → kind_of_cell c ≡ k
either_kind true one other k c has_one has_other is = has_one c is
either_kind false one other k c has_one has_other is = has_other c is

column_kind_at : (o : Option Value) (k : CellKind) (c : Cell) → option_map cell_kind_of (option_map kind_of o) ≡ Some k
    → ◌≡◌ {A = Result Cell Overflow} (Ok (cell_of_value (unwrap_or o no_value))) (Ok c) → kind_of_cell c ≡ k
column_kind_at None k c e is = absurd cc
column_kind_at (Some v) k c e is = ok_kind (cell_of_value v) k c (kind_of_cell-cell_of_value v ∙ cc) is

pub typed_value : ValuesHaveTheirKinds
typed_value (Column i) row k c typed is =
    column_kind_at (slice_get row i) k c (ap (option_map cell_kind_of) (sym (slice_get-map kind_of row i)) ∙ typed) is
typed_value (Literal x) row k c typed is = let same : kind_of_cell x ≡ k = cc in ok_kind x k c same is
typed_value (Call1 op a) row k c typed is =
    let arg = bind_ok (expression_value a row) _ c is in
    let its = then_some (λ j. call_kind op (j ∷ [])) (expression_kind (map kind_of row) a) k typed in
    let same = typed_value a row its.0 arg.0 its.1.0 arg.1.0 in
    call_value op (arg.0 ∷ []) k c (one_by_kind (op_at op) arg.0) (ap (λ j. call_kind op (j ∷ [])) same ∙ its.1.1) arg.1.1
typed_value (Call2 op a b) row k c typed is =
    let first = bind_ok (expression_value a row) _ c is in
    let second = bind_ok (expression_value b row) _ c first.1.1 in
    let both = both_some (λ j l. call_kind op (j ∷ l ∷ [])) (expression_kind (map kind_of row) a) (expression_kind (map kind_of row) b) k (unless_some _ _ k typed) in
    let same_first = typed_value a row both.left first.0 both.left_there first.1.0 in
    let same_second = typed_value b row both.right second.0 both.right_there second.1.0 in
    call_value op (first.0 ∷ second.0 ∷ []) k c (two_by_kind (op_at op) first.0 second.0)
    (ap (λ j. call_kind op (j ∷ kind_of_cell second.0 ∷ [])) same_first ∙ ap (λ l. call_kind op (both.left ∷ l ∷ [])) same_second ∙ both.gives) second.1.1
typed_value (And a b) row k c typed is =
    let first = bind_ok (expression_value a row) _ c is in
    let both = both_truths-some (expression_kind (map kind_of row) a) (expression_kind (map kind_of row) b) k typed in
    part_kind (is_true first.0) (expression_value b row) false k c (λ d p. typed_value b row k d both.0 p) both.1 first.1.1
typed_value (Or a b) row k c typed is =
    let first = bind_ok (expression_value a row) _ c is in
    let both = both_truths-some (expression_kind (map kind_of row) a) (expression_kind (map kind_of row) b) k typed in
    other_kind (is_true first.0) (expression_value b row) true k c (λ d p. typed_value b row k d both.0 p) both.1 first.1.1
typed_value (If t a b) row k c typed is =
    let test = bind_ok (expression_value t row) _ c is in
    let parts = choice_kind-some (expression_kind (map kind_of row) t) (expression_kind (map kind_of row) a) (expression_kind (map kind_of row) b) k typed in
    either_kind (is_true test.0) (expression_value a row) (expression_value b row) k c
    (λ d p. typed_value a row k d parts.0 p) (λ d p. typed_value b row k d parts.1 p) test.1.1
