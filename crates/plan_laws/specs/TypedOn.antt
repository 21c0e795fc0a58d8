-- A plan and the rows that it is evaluated on.
use Rattle.std.specs.Prelude.{List, IsSome}
use Rattle.plan_core.specs.Columns.{Rows}
use Rattle.plan_core.specs.PlainPlan.{PlainPlan, leaves}
use Rattle.plan_core.specs.PlanTyping.{Kinds, plan_kinds}
use Rattle.plan_core.specs.TypedRows.{AreOfStreams}

-- over some streams the plan has a typing, and the lists have rows of the streams of its leaves
abbrev pub IsTypedOn : PlainPlan → List Rows → Type 0
IsTypedOn plan lists = (schemas : List Kinds) × IsSome (plan_kinds schemas plan) × AreOfStreams schemas (leaves plan) lists
