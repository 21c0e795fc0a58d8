-- Plain plans with names as values that a struct may be seen as: each is what a plan of the code says, one whose boxes lie
-- nowhere.
use Rattle.std.specs.Prelude.{◌≡◌, refl, List, [], ◌∷◌, map, Box}
use Rattle.std.specs.Coded.{Coded, code_by}
use Rattle.std.specs.declared.alloc.Global.{Global}
use Rattle.std.proofs.Common.{ap}
use denote.RawPtr.{null_ptr}
use Rattle.plan_text.specs.contracts.plan.NamedTree as a_tree
use Rattle.plan_text.specs.declared.expr.NamedExpr as expr
use Rattle.plan_text.specs.declared.plan.NamedColumn as column
use Rattle.plan_text.specs.declared.plan.NamedTree as tree
use Rattle.plan_text.specs.PlainNamed.{PlainExpr, Column, Literal, Call1, Binary, If, PlainColumn, PlainTree, From, Where, Select, Distinct, Group, Join, Concat, Order, expr_of, column_of, tree_of}

abbrev pub nowhere : Box (Unit {0}) Global
nowhere = record { ptr = null_ptr; alloc = record { memory = record { seal = tt } }; value = tt }

abbrev pub to_expr : PlainExpr → expr.NamedExpr
to_expr (Column name) = expr.Column name
to_expr (Literal c) = expr.Literal c
to_expr (Call1 op a) = expr.Call1' op nowhere (to_expr a)
to_expr (Binary operator a b) = expr.Binary' operator nowhere (to_expr a) nowhere (to_expr b)
to_expr (If c a b) = expr.If' nowhere (to_expr c) nowhere (to_expr a) nowhere (to_expr b)

pub expr_of-to_expr : (e : PlainExpr) → expr_of (to_expr e) ≡ e
expr_of-to_expr (Column name) = refl
expr_of-to_expr (Literal c) = refl
expr_of-to_expr (Call1 op a) = ap (Call1 op) (expr_of-to_expr a)
expr_of-to_expr (Binary operator a b) = λ i. Binary operator (expr_of-to_expr a i) (expr_of-to_expr b i)
expr_of-to_expr (If c a b) = λ i. If (expr_of-to_expr c i) (expr_of-to_expr a i) (expr_of-to_expr b i)

abbrev pub to_column : PlainColumn → column.NamedColumn
to_column c = record { name = c.name; expr = to_expr c.expr }

pub columns_of-to_columns : (cs : List PlainColumn) → map column_of (map to_column cs) ≡ cs
columns_of-to_columns [] = refl
columns_of-to_columns (c ∷ cs) = λ i. record { name = c.name; expr = expr_of-to_expr c.expr i } ∷ columns_of-to_columns cs i

abbrev pub to_tree : PlainTree → tree.NamedTree
to_tree (From stream) = tree.From stream
to_tree (Where child test) = tree.Where' nowhere (to_tree child) (to_expr test)
to_tree (Select child columns) = tree.Select' nowhere (to_tree child) (map to_column columns)
to_tree (Distinct child) = tree.Distinct' nowhere (to_tree child)
to_tree (Group child keys results) = tree.Group' nowhere (to_tree child) keys results
to_tree (Join left right on) = tree.Join' nowhere (to_tree left) nowhere (to_tree right) on
to_tree (Concat left right) = tree.Concat' nowhere (to_tree left) nowhere (to_tree right)
to_tree (Order child keys) = tree.Order' nowhere (to_tree child) keys

pub tree_of-to_tree : (p : PlainTree) → tree_of (to_tree p) ≡ p
tree_of-to_tree (From stream) = refl
tree_of-to_tree (Where child test) = λ i. Where (tree_of-to_tree child i) (expr_of-to_expr test i)
tree_of-to_tree (Select child columns) = λ i. Select (tree_of-to_tree child i) (columns_of-to_columns columns i)
tree_of-to_tree (Distinct child) = λ i. Distinct (tree_of-to_tree child i)
tree_of-to_tree (Group child keys results) = λ i. Group (tree_of-to_tree child i) keys results
tree_of-to_tree (Join left right on) = λ i. Join (tree_of-to_tree left i) (tree_of-to_tree right i) on
tree_of-to_tree (Concat left right) = λ i. Concat (tree_of-to_tree left i) (tree_of-to_tree right i)
tree_of-to_tree (Order child keys) = λ i. Order (tree_of-to_tree child i) keys

abbrev pub tree_code : Coded PlainTree
tree_code = code_by tree.NamedTree a_tree.the_row.coded to_tree tree_of tree_of-to_tree
