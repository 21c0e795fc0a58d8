-- Which row of the table of operations a call means.
use Rattle.std.specs.Prelude.{ℕ, List, Option, unwrap_or}
use Rattle.std.specs.Option.{option_and_then}
use Rattle.std.specs.List.{position}
use Rattle.scalar_ops.specs.declared.cell.CellKind.{CellKind}
use Rattle.scalar_ops.specs.declared.table.Op.{Op}
use Rattle.scalar_ops.specs.declared.table.TheConstants.{OPS}
use Rattle.scalar_ops.specs.Table.{same_op, is_row_for}
use Rattle.plan_core.specs.PlanTyping.{all_there}

-- the first row of the table with this operation and these kinds
unfoldable pub row_with : Op → List CellKind → Option ℕ
row_with op kinds = position (is_row_for op kinds) OPS.rows

-- the first row of the table with this operation; the table has each
unfoldable pub first_row : Op → ℕ
first_row op = unwrap_or (position (λ row. same_op row.op op) OPS.rows) 0

-- The row for this operation at arguments of these kinds. Where an argument has no kind, or no row has them, it is the
-- operation's first row: then the call has no kind, and typing refuses the plan.
abbrev pub row_for : Op → List (Option CellKind) → ℕ
row_for op kinds = unwrap_or (option_and_then (row_with op) (all_there kinds)) (first_row op)
