-- The one spelling of a plan. Numbers are big-endian, signed ones in two's complement.
use Rattle.std.specs.Prelude.{◌≡◌, ℕ, ◌^◌, ◌<◌, List, [], ◌∷◌, ◌++◌, length}
use Rattle.std.specs.Int.{w32, w64, to_be_bytes}
use Rattle.std.specs.List.{flat_map, AllByRecursion}
use Rattle.rows_core.specs.declared.order.Key.{Key}
use Rattle.scalar_ops.specs.declared.cell.Cell.{Cell}
use Rattle.scalar_ops.specs.declared.cell.Cell.TheVariants as cell
use Rattle.scalar_ops.specs.Cells.{IsCell}
use Rattle.scalar_ops.specs.Meaning.{kinds_at}
use Rattle.plan_core.specs.declared.agg.Agg.{Agg}
use Rattle.plan_core.specs.declared.agg.Agg.TheVariants.{Count, Sum, Min, Max, First, Last, Avg}
use Rattle.plan_core.specs.PlainExpr.{PlainExpr, Column, Literal, Call1, Call2, And, Or, If}
use Rattle.plan_core.specs.PlainPlan.{PlainPlan, Scan, Filter, Project, Distinct, Group, Join, Concat, Order}
use Rattle.byte_formats.specs.Format.{signed, text_spelling, byte_of_flag}

-- a count in one byte, and the items
abbrev pub counted : {A : Type 0} → (A → List ℕ) → List A → List ℕ
counted spell items = (length items ∷ []) ++ flat_map spell items

abbrev pub cell_spelling : Cell → List ℕ
cell_spelling (cell.Int n) = 0x12 ∷ signed w64 n
cell_spelling (cell.Text t) = 0x13 ∷ text_spelling t
cell_spelling (cell.Bool b) = 0x14 ∷ byte_of_flag b ∷ []

abbrev pub expr_spelling : PlainExpr → List ℕ
expr_spelling (Column column) = 0x11 ∷ to_be_bytes w32 column
expr_spelling (Literal c) = cell_spelling c
expr_spelling (Call1 row a) = 0x15 ∷ row ∷ expr_spelling a
expr_spelling (Call2 row a b) = 0x15 ∷ row ∷ (expr_spelling a ++ expr_spelling b)
expr_spelling (And a b) = 0x16 ∷ (expr_spelling a ++ expr_spelling b)
expr_spelling (Or a b) = 0x17 ∷ (expr_spelling a ++ expr_spelling b)
expr_spelling (If test a b) = 0x18 ∷ (expr_spelling test ++ (expr_spelling a ++ expr_spelling b))

-- an aggregate and its column, which is 0 for a count
abbrev pub agg_spelling : Agg → List ℕ
agg_spelling Count = 1 ∷ to_be_bytes w32 0
agg_spelling (Sum column) = 2 ∷ to_be_bytes w32 column
agg_spelling (Min column) = 3 ∷ to_be_bytes w32 column
agg_spelling (Max column) = 4 ∷ to_be_bytes w32 column
agg_spelling (First column) = 5 ∷ to_be_bytes w32 column
agg_spelling (Last column) = 6 ∷ to_be_bytes w32 column
agg_spelling (Avg column) = 7 ∷ to_be_bytes w32 column

abbrev pub pair_spelling : ℕ × ℕ → List ℕ
pair_spelling pair = to_be_bytes w32 pair.0 ++ to_be_bytes w32 pair.1

abbrev pub key_spelling : Key → List ℕ
key_spelling key = to_be_bytes w32 key.column ++ byte_of_flag key.down ∷ []

abbrev pub plan_spelling : PlainPlan → List ℕ
plan_spelling (Scan stream) = 0x01 ∷ to_be_bytes w32 stream
plan_spelling (Filter child test) = 0x02 ∷ (plan_spelling child ++ expr_spelling test)
plan_spelling (Project child columns) = 0x03 ∷ (plan_spelling child ++ counted expr_spelling columns)
plan_spelling (Distinct child) = 0x04 ∷ plan_spelling child
plan_spelling (Group child keys aggs) = 0x05 ∷ (plan_spelling child ++ (counted (to_be_bytes w32) keys ++ counted agg_spelling aggs))
plan_spelling (Join left right on) = 0x06 ∷ (plan_spelling left ++ (plan_spelling right ++ counted pair_spelling on))
plan_spelling (Concat left right) = 0x07 ∷ (plan_spelling left ++ plan_spelling right)
plan_spelling (Order child keys) = 0x08 ∷ (plan_spelling child ++ counted key_spelling keys)

-- ---- which plans have a spelling: numbers are of the code's types, a call names a row of the table with as many
-- arguments, and a count fits its byte

abbrev pub AreCounted : {A : Type 0} → (A → Type 0) → List A → Type 0
AreCounted P items = (length items < 256) × AllByRecursion P items

abbrev pub HasExprSpelling : PlainExpr → Type 0
HasExprSpelling (Column column) = column < 2 ^ 32
HasExprSpelling (Literal c) = IsCell c
HasExprSpelling (Call1 row a) = (length (kinds_at row) ≡ 1) × HasExprSpelling a
HasExprSpelling (Call2 row a b) = (length (kinds_at row) ≡ 2) × HasExprSpelling a × HasExprSpelling b
HasExprSpelling (And a b) = HasExprSpelling a × HasExprSpelling b
HasExprSpelling (Or a b) = HasExprSpelling a × HasExprSpelling b
HasExprSpelling (If test a b) = HasExprSpelling test × HasExprSpelling a × HasExprSpelling b

abbrev pub HasAggSpelling : Agg → Type 0
HasAggSpelling Count = Unit {0}
HasAggSpelling (Sum column) = column < 2 ^ 32
HasAggSpelling (Min column) = column < 2 ^ 32
HasAggSpelling (Max column) = column < 2 ^ 32
HasAggSpelling (First column) = column < 2 ^ 32
HasAggSpelling (Last column) = column < 2 ^ 32
HasAggSpelling (Avg column) = column < 2 ^ 32

abbrev pub HasPlanSpelling : PlainPlan → Type 0
HasPlanSpelling (Scan stream) = stream < 2 ^ 32
HasPlanSpelling (Filter child test) = HasPlanSpelling child × HasExprSpelling test
HasPlanSpelling (Project child columns) = HasPlanSpelling child × AreCounted HasExprSpelling columns
HasPlanSpelling (Distinct child) = HasPlanSpelling child
HasPlanSpelling (Group child keys aggs) = HasPlanSpelling child × AreCounted (λ column. column < 2 ^ 32) keys × AreCounted HasAggSpelling aggs
HasPlanSpelling (Join left right on) = HasPlanSpelling left × HasPlanSpelling right × AreCounted (λ (p : ℕ × ℕ). (p.0 < 2 ^ 32) × (p.1 < 2 ^ 32)) on
HasPlanSpelling (Concat left right) = HasPlanSpelling left × HasPlanSpelling right
HasPlanSpelling (Order child keys) = HasPlanSpelling child × AreCounted (λ (key : Key). key.column < 2 ^ 32) keys
