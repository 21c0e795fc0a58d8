-- Literals that a program holds: numbers in i64 and texts of at most 1,000 bytes.
use Rattle.std.specs.Prelude.{List, [], ◌∷◌}
use Rattle.scalar_ops.specs.Cells.{IsCell}
use Rattle.plan_core.specs.PlainExpr.{PlainExpr, Column, Literal, Call1, Call2, And, Or, If}
use Rattle.plan_core.specs.PlainPlan.{PlainPlan, Scan, Filter, Project, Distinct, Group, Join, Concat, Order}

-- the literals of an expression are cells
abbrev pub HasCells : PlainExpr → Type 0
HasCells (Column i) = Unit {0}
HasCells (Literal c) = IsCell c
HasCells (Call1 row a) = HasCells a
HasCells (Call2 row a b) = HasCells a × HasCells b
HasCells (And a b) = HasCells a × HasCells b
HasCells (Or a b) = HasCells a × HasCells b
HasCells (If c a b) = HasCells c × (HasCells a × HasCells b)

abbrev pub HaveCells : List PlainExpr → Type 0
HaveCells [] = Unit {0}
HaveCells (e ∷ es) = HasCells e × HaveCells es

-- the literals of a plan are cells
abbrev pub HasValidLiterals : PlainPlan → Type 0
HasValidLiterals (Scan stream) = Unit {0}
HasValidLiterals (Filter child test) = HasValidLiterals child × HasCells test
HasValidLiterals (Project child columns) = HasValidLiterals child × HaveCells columns
HasValidLiterals (Distinct child) = HasValidLiterals child
HasValidLiterals (Group child keys aggs) = HasValidLiterals child
HasValidLiterals (Join left right on) = HasValidLiterals left × HasValidLiterals right
HasValidLiterals (Concat left right) = HasValidLiterals left × HasValidLiterals right
HasValidLiterals (Order child keys) = HasValidLiterals child
