-- What is given is the values so far, and then what the other columns give.
use Rattle.std.proofs.Common.{◌≡◌, ◌++◌, Ok, drop, map}
use Rattle.plan_core.specs.ExpressionValue.{◌>>=◌}
use Rattle.plan_core.specs.PlainExpr.{expr_of}
use Rattle.plan_core.specs.Project.{project_row}
use Rattle.row_ops.proofs.project.select_row.Given as goal

abbrev pub invariant-loop-column : goal.invariant-loop-column
invariant-loop-column l = project_row (map expr_of l.columns) l.row ≡ (project_row (map expr_of (drop l.column-index l.columns)) l.row >>= λ rest. Ok (l.values.items ++ rest))
