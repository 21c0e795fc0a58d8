-- What is given is the rows so far, and then what the other rows give.
use Rattle.std.proofs.Common.{◌≡◌, Ok, drop, map}
use Rattle.plan_core.specs.PlainExpr.{expr_of}
use Rattle.plan_core.specs.Project.{project_rows}
use Rattle.plan_laws.specs.GrowthOfRows.{joined}
use Rattle.row_ops.proofs.project.select_rows.Given as goal

abbrev pub invariant-loop-row : goal.invariant-loop-row
invariant-loop-row l = project_rows (map expr_of l.columns) l.rows ≡ joined (Ok l.selected.items) (project_rows (map expr_of l.columns) (drop l.row-index l.rows))
