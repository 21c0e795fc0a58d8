use Rattle.std.proofs.Common.{rules, ◌≡◌, ◌∙◌, sym, subst, map}
use Rattle.plan_core.specs.PlainExpr as bound
use Rattle.plan_core.specs.PlainPlan.{Project, plan_of}
use Rattle.plan_core.specs.PlanTyping.{column_kind_of}
use Rattle.plan_binder.specs.Binding.{kind_or_int, with_columns}
use Rattle.plan_binder.specs.BoundPlan.{bound_of}
use Rattle.plan_binder.specs.Resolves.{Resolves}
use Rattle.std.proofs.lemmas.Simd.{map-map}
use Rattle.plan_binder.proofs.bound.select.Goals as goal

pub returns : goal.returns
returns c =
    let kinds = c.args.input.columns.kinds in
    let found = c.in_ok-columns.columns in
    let plan = Project (plan_of c.args.input.plan.value) (map bound.expr_of c.args.exprs.items) in
    let names : found.names ≡ map (λ column. column.name) c.args.columns.now = search rules in
    let typed : found.kinds ≡ map (λ e. kind_or_int (column_kind_of kinds (bound.expr_of e))) c.args.exprs.items = search rules in
    let named = subst (λ ns. Resolves bound_of c.project.result (with_columns plan ns found.kinds)) names c.project.ensures in
    subst (λ ks. Resolves bound_of c.project.result (with_columns plan (map (λ column. column.name) c.args.columns.now) ks))
    (typed ∙ sym (map-map (λ e. kind_or_int (column_kind_of kinds e)) bound.expr_of c.args.exprs.items)) named
