-- The new rows have the kinds of the input's columns; and what is made of groups.
use Rattle.std.proofs.Common.{sym, subst, ◌∙◌, ◌+◌, List, map, All, IsSome}
use Rattle.rows_core.specs.Value.{kind_of}
use Rattle.plan_core.specs.ExpressionKind.{IsTyped}
use Rattle.row_blob.specs.declared.kept.Kept.TheVariants as kept
use Rattle.plan_core.specs.PlainExpr.{expr_of}
use Rattle.plan_core.specs.PlainPlan.{plan_of}
use Rattle.plan_core.specs.PlanTyping.{Kinds, plan_kinds}
use Rattle.result_ops.specs.Fitting.{IsFit, OfGrown, FitRows}
use Rattle.result_ops.proofs.FitInputs.{columns_typed_on}
use Rattle.growth_laws.specs.Making.{taken_in_of, made_of_grown}
use Rattle.result_ops.specs.Steps.{added_of, MakesGrown}
use Rattle.result_ops.proofs.GrownGroups.{groups_grown}
use Rattle.result_ops.proofs.grown.made_of_grown.Goals as goal

pub select_rows-requires : goal.select_rows-requires
select_rows-requires c =
    let ready = subst (λ p. (schemas : List Kinds) × IsSome (plan_kinds schemas (plan_of p)) × IsFit schemas (plan_of p) c.args.old.kept × OfGrown (FitRows schemas c.args.added.rows.items) (plan_of p)) c.in-Project-Rows.is-0 c.requires in
    subst (λ columns. All (λ row. All (λ column. IsTyped (map kind_of row) (expr_of column)) columns) c.deref.result.now) (sym c.items.ensures)
    (subst (λ rows. All (λ row. All (λ column. IsTyped (map kind_of row) (expr_of column)) c.in-Project-Rows.columns) rows) (sym (c.deref.ensures.value ∙ c.in_ok-input.ensures.0))
    (columns_typed_on c.typed_plans_give_typed_rows.ensures ready.0 (plan_of c.in-Project-Rows.child-0.value) c.in-Project-Rows.columns c.args.added.rows.items ready.1 ready.3))

pub returns-in-Group-Groups : goal.returns-in-Group-Groups
returns-in-Group-Groups c =
    let before = c.args.old.taken_in in
    let added = added_of c.args.added in
    subst (λ form. MakesGrown (before + taken_in_of added) (plan_of c.args.plan.now) (made_of_grown (plan_of c.args.plan.now) (record { kept = form; taken_in = before }) added) c.grouped.result) (sym c.in-Group-Groups.is-1)
    (subst (λ p. MakesGrown (before + taken_in_of added) (plan_of p) (made_of_grown (plan_of p) (record { kept = kept.Groups c.in-Group-Groups.olds; taken_in = before }) added) c.grouped.result) (sym c.in-Group-Groups.is-0)
    (groups_grown (plan_of c.in-Group-Groups.child-0.value) c.in-Group-Groups.keys c.in-Group-Groups.aggs c.in-Group-Groups.olds before added c.in_ok-input.input.taken_in c.grouped.result
    c.in_ok-input.ensures.1 c.in_ok-input.ensures.2 _ _ _ c.items-in-Group-Groups.ensures c.items-in-Group-Groups-2.ensures c.in_ok-input.ensures.0 c.grouped.ensures))
