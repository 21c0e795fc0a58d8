-- What a row of the table is for, and the table as it is stated.
use Rattle.std.specs.Prelude.{◌≡◌, Bool, true, false, ◌&&◌, List, [], ◌∷◌}
use Rattle.std.specs.Cmp.Lexicographic.{pointwise}
use Rattle.scalar_ops.specs.declared.cell.CellKind.{CellKind}
use Rattle.scalar_ops.specs.declared.cell.CellKind.TheVariants.{Int, Text}
use Rattle.scalar_ops.specs.declared.cell.CellKind.TheVariants as kind
use Rattle.scalar_ops.specs.declared.table.Args.{Args}
use Rattle.scalar_ops.specs.declared.table.Args.TheVariants.{One, Two}
use Rattle.scalar_ops.specs.declared.table.Op.{Op}
use Rattle.scalar_ops.specs.declared.table.Op.TheVariants as op
use Rattle.scalar_ops.specs.declared.table.OpRow.{OpRow}
use Rattle.scalar_ops.specs.Cells.{same_cell_kind}

abbrev pub kinds_of_args : Args → List CellKind
kinds_of_args (One kind) = kind ∷ []
kinds_of_args (Two first second) = first ∷ second ∷ []

-- the row has this operation and these kinds
abbrev pub IsRowFor : Op → List CellKind → OpRow → Type 0
IsRowFor op kinds row = (row.op ≡ op) × (kinds_of_args row.args ≡ kinds)

abbrev pub same_op : Op → Op → Bool
same_op op.Add op.Add = true
same_op op.Sub op.Sub = true
same_op op.Mul op.Mul = true
same_op op.Neg op.Neg = true
same_op op.Abs op.Abs = true
same_op op.Div op.Div = true
same_op op.Mod op.Mod = true
same_op op.Least op.Least = true
same_op op.Most op.Most = true
same_op op.Eq op.Eq = true
same_op op.Ne op.Ne = true
same_op op.Lt op.Lt = true
same_op op.Le op.Le = true
same_op op.Gt op.Gt = true
same_op op.Ge op.Ge = true
same_op op.Len op.Len = true
same_op op.Starts op.Starts = true
same_op op.Not op.Not = true
same_op _ _ = false

-- the same as a test
abbrev pub is_row_for : Op → List CellKind → OpRow → Bool
is_row_for op kinds row = same_op row.op op && pointwise same_cell_kind (kinds_of_args row.args) kinds

-- ---- the table as it is stated

-- an operation of one argument and one of two: the arguments' kinds, the value's, and whether it may overflow
abbrev pub one : Op → CellKind → CellKind → Bool → OpRow
one op first result overflows = record { op = op; args = One first; result = result; overflows = overflows }

abbrev pub two : Op → CellKind → CellKind → CellKind → Bool → OpRow
two op first second result overflows = record { op = op; args = Two first second; result = result; overflows = overflows }

-- The rows in order. Plans, in memory and in files, name a row by its place, counted from 0.
abbrev pub stated_rows : List OpRow
stated_rows =
    two op.Add Int Int Int true
    ∷ two op.Sub Int Int Int true
    ∷ two op.Mul Int Int Int true
    ∷ one op.Neg Int Int true
    ∷ one op.Abs Int Int true
    ∷ two op.Div Int Int Int true
    ∷ two op.Mod Int Int Int false
    ∷ two op.Least Int Int Int false
    ∷ two op.Most Int Int Int false
    ∷ two op.Eq Int Int kind.Bool false
    ∷ two op.Eq Text Text kind.Bool false
    ∷ two op.Ne Int Int kind.Bool false
    ∷ two op.Ne Text Text kind.Bool false
    ∷ two op.Lt Int Int kind.Bool false
    ∷ two op.Lt Text Text kind.Bool false
    ∷ two op.Le Int Int kind.Bool false
    ∷ two op.Le Text Text kind.Bool false
    ∷ two op.Gt Int Int kind.Bool false
    ∷ two op.Gt Text Text kind.Bool false
    ∷ two op.Ge Int Int kind.Bool false
    ∷ two op.Ge Text Text kind.Bool false
    ∷ one op.Len Text Int false
    ∷ two op.Starts Text Text kind.Bool false
    ∷ one op.Not kind.Bool kind.Bool false
    ∷ two op.Eq kind.Bool kind.Bool kind.Bool false
    ∷ two op.Ne kind.Bool kind.Bool kind.Bool false
    ∷ two op.Lt kind.Bool kind.Bool kind.Bool false
    ∷ two op.Le kind.Bool kind.Bool kind.Bool false
    ∷ two op.Gt kind.Bool kind.Bool kind.Bool false
    ∷ two op.Ge kind.Bool kind.Bool kind.Bool false
    ∷ two op.Least kind.Bool kind.Bool kind.Bool false
    ∷ two op.Most kind.Bool kind.Bool kind.Bool false
    ∷ []
