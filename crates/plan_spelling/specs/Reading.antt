-- What is read behind the first byte of a node.
use Rattle.std.specs.Prelude.{ℕ, List}
use Rattle.plan_core.specs.PlainExpr.{PlainExpr}
use Rattle.plan_core.specs.PlainPlan.{PlainPlan}
use Rattle.byte_formats.specs.Reading.{Read}
use Rattle.byte_formats.specs.Format.{read_as, items_at}
use Rattle.plan_spelling.specs.declared.tag.ExprTag.{ExprTag}
use Rattle.plan_spelling.specs.declared.tag.PlanTag.{PlanTag}
use Rattle.plan_spelling.specs.Formats.{arity, call_of, expr_fields, expr_made, expr_format, plan_fields, plan_made, plan_format}

abbrev pub expr_behind : ℕ → ExprTag → List ℕ → Read PlainExpr
expr_behind depth tag bytes = read_as (expr_made tag) ((expr_fields (expr_format depth) tag).read bytes)

abbrev pub call_behind : ℕ → ℕ → List ℕ → Read PlainExpr
call_behind depth row bytes = read_as (call_of row) (items_at (expr_format depth).read (arity row) bytes)

abbrev pub plan_behind : ℕ → PlanTag → List ℕ → Read PlainPlan
plan_behind depth tag bytes = read_as (plan_made tag) ((plan_fields (plan_format depth) (expr_format depth) tag).read bytes)
