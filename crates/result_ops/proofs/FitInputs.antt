-- What the operators ask of the rows that they take in, where these have the kinds of the input's columns.
use Rattle.std.proofs.Common.{refl, subst, List, [], ◌∷◌, map, All, IsSome}
use Rattle.rows_core.specs.Value.{kind_of}
use Rattle.plan_core.specs.declared.expr.Expr as code
use Rattle.plan_core.specs.Columns.{Rows}
use Rattle.plan_core.specs.ExpressionKind.{IsTyped}
use Rattle.plan_core.specs.PlainExpr.{PlainExpr, expr_of}
use Rattle.plan_core.specs.PlainPlan.{PlainPlan, Scan, Filter, Project}
use Rattle.plan_core.specs.PlanTyping.{Kinds, plan_kinds, filter_kinds, project_kinds}
use Rattle.plan_core.specs.TypedRows.{HaveKinds}
use Rattle.plan_laws.specs.PlanShape.{kinds_given}
use Rattle.plan_laws.proofs.TypedParts.{GivesTypedRows, test_typed, columns_typed, there, some_of}
use Rattle.plan_laws.proofs.TypedPlans.{and_then}
use Rattle.plan_laws.proofs.KeptBounds.{given_as}

pub tests_typed : GivesTypedRows → (schemas : List Kinds) (child : PlainPlan) (test : PlainExpr) (rows : Rows) → IsSome (plan_kinds schemas (Filter child test))
    → HaveKinds (kinds_given schemas child) rows → All (λ row. IsTyped (map kind_of row) test) rows
tests_typed law schemas child test rows typed has =
    let whole = there (plan_kinds schemas (Filter child test)) typed in
    let k = and_then (filter_kinds test) (plan_kinds schemas child) whole.0 whole.1 in
    let rows_have : HaveKinds k.0 rows = subst (λ kinds. HaveKinds kinds rows) (given_as schemas child k.0 k.1) has in
    test_typed law (Scan 0) test (rows ∷ []) rows (k.0 ∷ [], some_of (filter_kinds test k.0) whole.0 k.2, (rows_have, tt)) refl

pub columns_typed_on : GivesTypedRows → (schemas : List Kinds) (child : PlainPlan) (columns : List code.Expr) (rows : Rows) → IsSome (plan_kinds schemas (Project child (map expr_of columns)))
    → HaveKinds (kinds_given schemas child) rows → All (λ row. All (λ column. IsTyped (map kind_of row) (expr_of column)) columns) rows
columns_typed_on law schemas child columns rows typed has =
    let whole = there (plan_kinds schemas (Project child (map expr_of columns))) typed in
    let k = and_then (project_kinds (map expr_of columns)) (plan_kinds schemas child) whole.0 whole.1 in
    let rows_have : HaveKinds k.0 rows = subst (λ kinds. HaveKinds kinds rows) (given_as schemas child k.0 k.1) has in
    columns_typed law (Scan 0) columns (rows ∷ []) rows (k.0 ∷ [], some_of (project_kinds (map expr_of columns) k.0) whole.0 k.2, (rows_have, tt)) refl
