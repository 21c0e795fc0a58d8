-- Expressions and plans with names as plain data, with no word on memory: what all definitions and laws speak of.
use Rattle.std.specs.Prelude.{ℕ, List, [], ◌∷◌, ◌++◌, map}
use Rattle.scalar_ops.specs.declared.cell.Cell.{Cell}
use Rattle.scalar_ops.specs.declared.table.Op.{Op}
use Rattle.plan_text.specs.declared.operator.Operator.{Operator}
use Rattle.plan_text.specs.declared.expr.NamedExpr as code
use Rattle.plan_text.specs.declared.plan.NamedColumn as code_column
use Rattle.plan_text.specs.declared.plan.NamedTree as code_tree
use Rattle.plan_text.specs.declared.plan.NamedResult.{NamedResult}
use Rattle.plan_text.specs.declared.plan.NamedPair.{NamedPair}
use Rattle.plan_text.specs.declared.plan.NamedKey.{NamedKey}

-- An expression; a name is its bytes.
pub data PlainExpr : Type 0 where
  Column : List ℕ → PlainExpr
  Literal : Cell → PlainExpr
  Call1 : Op → PlainExpr → PlainExpr
  Binary : Operator → PlainExpr → PlainExpr → PlainExpr
  If : PlainExpr → PlainExpr → PlainExpr → PlainExpr

-- a column of a projection
pub record PlainColumn : Type 0 where
  pub name : List ℕ
  pub expr : PlainExpr

-- A plan; its leaves are its `From`s, from the left.
pub data PlainTree : Type 0 where
  From : List ℕ → PlainTree
  Where : PlainTree → PlainExpr → PlainTree
  Select : PlainTree → List PlainColumn → PlainTree
  Distinct : PlainTree → PlainTree
  Group : PlainTree → List (List ℕ) → List NamedResult → PlainTree
  Join : PlainTree → PlainTree → List NamedPair → PlainTree
  Concat : PlainTree → PlainTree → PlainTree
  Order : PlainTree → List NamedKey → PlainTree

-- what an expression of the code says
abbrev pub expr_of : code.NamedExpr → PlainExpr
expr_of (code.Column name) = Column name
expr_of (code.Literal c) = Literal c
expr_of (code.Call1' op p a) = Call1 op (expr_of a)
expr_of (code.Binary' operator p a q b) = Binary operator (expr_of a) (expr_of b)
expr_of (code.If' p c q a r b) = If (expr_of c) (expr_of a) (expr_of b)

abbrev pub column_of : code_column.NamedColumn → PlainColumn
column_of column = record { name = column.name; expr = expr_of column.expr }

-- what a plan of the code says
abbrev pub tree_of : code_tree.NamedTree → PlainTree
tree_of (code_tree.From stream) = From stream
tree_of (code_tree.Where' p child test) = Where (tree_of child) (expr_of test)
tree_of (code_tree.Select' p child columns) = Select (tree_of child) (map column_of columns)
tree_of (code_tree.Distinct' p child) = Distinct (tree_of child)
tree_of (code_tree.Group' p child keys results) = Group (tree_of child) keys results
tree_of (code_tree.Join' p left q right on) = Join (tree_of left) (tree_of right) on
tree_of (code_tree.Concat' p left q right) = Concat (tree_of left) (tree_of right)
tree_of (code_tree.Order' p child keys) = Order (tree_of child) keys

-- the names of the streams of the leaves, from the left
abbrev pub streams_of : PlainTree → List (List ℕ)
streams_of (From stream) = stream ∷ []
streams_of (Where child test) = streams_of child
streams_of (Select child columns) = streams_of child
streams_of (Distinct child) = streams_of child
streams_of (Group child keys results) = streams_of child
streams_of (Join left right on) = streams_of left ++ streams_of right
streams_of (Concat left right) = streams_of left ++ streams_of right
streams_of (Order child keys) = streams_of child
