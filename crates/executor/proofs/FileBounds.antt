-- Whether what a file of a typed plan's result holds lies within the bounds.
use Rattle.std.proofs.Common.{◌≡◌, sym, subst, ◌↔◌, ℕ, Bool, IsTrue, List, All}
use Rattle.row_blob.specs.declared.kept.GroupRow.{GroupRow}
use Rattle.row_blob.specs.declared.kept.TaggedRow.{TaggedRow}
use Rattle.row_blob.specs.declared.kept.Kept.{Kept}
use Rattle.row_blob.specs.declared.kept.Kept.TheVariants as kept
use Rattle.row_blob.specs.Kept.{AreEach, IsKept}
use Rattle.plan_core.specs.declared.agg.Agg.{Agg}
use Rattle.plan_core.specs.Columns.{Rows}
use Rattle.plan_core.specs.PlainPlan.{PlainPlan, Scan, Filter, Project, Distinct, Group, Join, Concat, Order}
use Rattle.plan_core.specs.PlanTyping.{Kinds}
use Rattle.plan_laws.specs.GroupBounds.{IsAccOf, HasAverage}
use Rattle.plan_laws.specs.PlanShape.{plan_shape}
use Rattle.plan_laws.proofs.GroupBounds.{kept_within_bounds}
use Rattle.result_ops.specs.Bounds.{IsBounded}
use Rattle.result_ops.proofs.BoundedGroups.{bounded_groups}

-- groups do exactly where their accumulators do
pub groups_do : (schemas : List Kinds) (child : PlainPlan) (keys : List ℕ) (aggs : List Agg) (groups : List GroupRow) (b : Bool) → IsKept (plan_shape schemas (Group child keys aggs)) (kept.Groups groups)
    → IsTrue b ↔ All (λ group. AreEach IsAccOf aggs group.accs × All HasAverage group.accs) groups → IsTrue b ↔ IsBounded (Group child keys aggs) (kept.Groups groups)
groups_do schemas child keys aggs groups b is test = (
  (λ yes. bounded_groups aggs groups (kept_within_bounds schemas child keys aggs groups is).0 (test.0 yes)),
  (λ bounded. test.1 (λ i d within. (bounded.0.1 i d within, bounded.1 i d within))),
)

-- rows always do
pub rows_do : (plan : PlainPlan) (rows : Rows) → IsBounded plan (kept.Rows rows)
rows_do (Scan stream) rows = tt
rows_do (Filter child test) rows = tt
rows_do (Project child columns) rows = tt
rows_do (Distinct child) rows = tt
rows_do (Group child keys aggs) rows = tt
rows_do (Join left right on) rows = tt
rows_do (Concat left right) rows = tt
rows_do (Order child keys) rows = tt

-- and so do rows of a join, whose left length a file bounds
pub tagged_do : (schemas : List Kinds) (plan : PlainPlan) (lefts : ℕ) (rows : List TaggedRow) → IsKept (plan_shape schemas plan) (kept.Tagged lefts rows) → IsBounded plan (kept.Tagged lefts rows)
tagged_do schemas (Scan stream) lefts rows is = tt
tagged_do schemas (Filter child test) lefts rows is = tt
tagged_do schemas (Project child columns) lefts rows is = tt
tagged_do schemas (Distinct child) lefts rows is = tt
tagged_do schemas (Group child keys aggs) lefts rows is = tt
tagged_do schemas (Join left right on) lefts rows is = is.1
tagged_do schemas (Concat left right) lefts rows is = tt
tagged_do schemas (Order child keys) lefts rows is = tt

-- the same of a plan and a form that are these
pub groups_do_at : (schemas : List Kinds) (p : PlainPlan) (k : Kept) (child : PlainPlan) (keys : List ℕ) (aggs those : List Agg) (groups gs : List GroupRow) (b : Bool) → p ≡ Group child keys aggs → k ≡ kept.Groups groups
    → those ≡ aggs → gs ≡ groups → IsKept (plan_shape schemas p) k → IsTrue b ↔ All (λ group. AreEach IsAccOf those group.accs × All HasAverage group.accs) gs → IsTrue b ↔ IsBounded p k
groups_do_at schemas p k child keys aggs those groups gs b p_is k_is those_are gs_are is test =
    subst (λ (x : PlainPlan). IsTrue b ↔ IsBounded x k) (sym p_is)
    (subst (λ (x : Kept). IsTrue b ↔ IsBounded (Group child keys aggs) x) (sym k_is)
    (groups_do schemas child keys aggs groups b
    (subst (λ (x : Kept). IsKept (plan_shape schemas (Group child keys aggs)) x) k_is (subst (λ (x : PlainPlan). IsKept (plan_shape schemas x) k) p_is is))
    (subst (λ (l : List GroupRow). IsTrue b ↔ All (λ (group : GroupRow). AreEach IsAccOf aggs group.accs × All HasAverage group.accs) l) gs_are
    (subst (λ (l : List Agg). IsTrue b ↔ All (λ (group : GroupRow). AreEach IsAccOf l group.accs × All HasAverage group.accs) gs) those_are test))))
