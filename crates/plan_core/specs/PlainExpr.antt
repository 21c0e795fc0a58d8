-- An expression as plain data, with no word on memory: what all definitions and laws speak of.
use Rattle.std.specs.Prelude.{ℕ}
use Rattle.scalar_ops.specs.declared.cell.Cell.{Cell}
use Rattle.plan_core.specs.declared.expr.Expr as code

-- Columns are counted from 0, and so are the rows of the table of operations.
pub data PlainExpr : Type 0 where
  Column : ℕ → PlainExpr
  Literal : Cell → PlainExpr
  Call1 : ℕ → PlainExpr → PlainExpr
  Call2 : ℕ → PlainExpr → PlainExpr → PlainExpr
  And : PlainExpr → PlainExpr → PlainExpr
  Or : PlainExpr → PlainExpr → PlainExpr
  If : PlainExpr → PlainExpr → PlainExpr → PlainExpr

-- what an expression of the code says
abbrev pub expr_of : code.Expr → PlainExpr
expr_of (code.Column i) = Column i
expr_of (code.Literal c) = Literal c
expr_of (code.Call1' row p a) = Call1 row (expr_of a)
expr_of (code.Call2' row p a q b) = Call2 row (expr_of a) (expr_of b)
expr_of (code.And' p a q b) = And (expr_of a) (expr_of b)
expr_of (code.Or' p a q b) = Or (expr_of a) (expr_of b)
expr_of (code.If' p c q a r b) = If (expr_of c) (expr_of a) (expr_of b)
