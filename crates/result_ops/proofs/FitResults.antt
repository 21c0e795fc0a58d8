-- The rows of what is kept of a result have the kinds of the plan's columns.
use Rattle.std.proofs.Common.{◌≡◌, subst, List, map, Ok}
use Rattle.row_blob.specs.declared.kept.Kept.{Kept}
use Rattle.row_blob.specs.declared.kept.Kept.TheVariants as kept
use Rattle.plan_core.specs.Columns.{Rows}
use Rattle.plan_core.specs.PlainPlan.{PlainPlan}
use Rattle.plan_core.specs.PlanTyping.{Kinds}
use Rattle.plan_core.specs.TypedRows.{HaveKinds}
use Rattle.plan_laws.specs.KeptForm.{rows_of_kept}
use Rattle.plan_laws.specs.PlanShape.{kinds_given}
use Rattle.result_ops.specs.Fitting.{IsOfKinds, IsFit}
use Rattle.result_ops.proofs.FitGroups.{rows_of_groups_kinds}
use Rattle.result_ops.proofs.FitJoins.{without_positions}

rows_of_kinds : (kinds : Kinds) (form : Kept) (rows : Rows) → IsOfKinds kinds form → rows_of_kept form ≡ Ok rows → HaveKinds kinds rows
rows_of_kinds kinds (kept.Rows given) rows have is = let same : given ≡ rows = cc in subst (HaveKinds kinds) same have
rows_of_kinds kinds (kept.Groups groups) rows have is = rows_of_groups_kinds kinds groups rows have is
rows_of_kinds kinds (kept.Tagged lefts tagged) rows have is = let same : map (λ t. t.row) tagged ≡ rows = cc in subst (HaveKinds kinds) same (without_positions kinds tagged have)

pub rows_fit : (schemas : List Kinds) (plan : PlainPlan) (form : Kept) (rows : Rows) → IsFit schemas plan form → rows_of_kept form ≡ Ok rows → HaveKinds (kinds_given schemas plan) rows
rows_fit schemas plan form rows fit is = rows_of_kinds (kinds_given schemas plan) form rows fit.kinds_are is
