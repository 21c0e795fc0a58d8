-- What is kept of columns and of plans while they are read: of each operator, over what is kept of its inputs.
use Rattle.std.specs.Prelude.{ℕ, List, [], ◌∷◌, ◌++◌, map, Vec, Box}
use Rattle.std.specs.List.{sum_by}
use Rattle.std.specs.declared.alloc.Global.{Global}
use Rattle.plan_text.specs.declared.plan.NamedResult.{NamedResult}
use Rattle.plan_text.specs.declared.plan.NamedPair.{NamedPair}
use Rattle.plan_text.specs.declared.plan.NamedKey.{NamedKey}
use Rattle.plan_text.specs.declared.plan.NamedColumn as code_column
use Rattle.plan_text.specs.declared.plan.NamedTree as code
use Rattle.plan_text.specs.PlainNamed as plain
use Rattle.plan_text.specs.PlainNamed.{PlainColumn, PlainTree, tree_of, column_of}
use Rattle.plan_text.specs.Counts.{expr_nodes, nodes, wide_nodes, all_expr_nodes}
use Rattle.plan_text.specs.declared.counts.Counts.{Counts}
use Rattle.plan_text.specs.declared.draft.Draft.{Draft}
use Rattle.plan_text.specs.Draft.{counts, drafted, paired, mapped, stepped, PlainDraft}

abbrev pub ColumnsDraft : Type 0
ColumnsDraft = Draft (List PlainColumn)

abbrev pub PlanDraft : Type 0
PlanDraft = Draft PlainTree

-- what a draft of the code says
abbrev pub seen_columns : Draft (Vec code_column.NamedColumn Global) → ColumnsDraft
seen_columns d = mapped (λ columns. map column_of columns.items) d

abbrev pub seen_plan : Draft (Box code.NamedTree Global) → PlanDraft
seen_plan d = mapped (λ p. tree_of p.value) d

-- what is kept of the columns of a projection
abbrev pub columns_draft_of : Counts → List PlainColumn → ColumnsDraft
columns_draft_of most columns = drafted most columns (counts 0 0 (sum_by (λ column. expr_nodes column.expr) columns))

-- one column more
abbrev pub with_column : Counts → ColumnsDraft → List ℕ × PlainDraft → ColumnsDraft
with_column most d column = mapped (λ p. p.0 ++ record { name = column.0; expr = p.1 } ∷ []) (paired most d column.1)

-- what is kept of a plan
abbrev pub counts_of : PlainTree → Counts
counts_of p = counts (nodes p) (wide_nodes p) (all_expr_nodes p)

abbrev pub plan_draft_of : Counts → PlainTree → PlanDraft
plan_draft_of most p = drafted most p (counts_of p)

-- a narrow operator or a leaf, and a wide operator
abbrev pub narrow : Counts
narrow = counts 1 0 0

abbrev pub wide : Counts
wide = counts 1 1 0

abbrev pub from_draft : Counts → List ℕ → PlanDraft
from_draft most stream = drafted most (plain.From stream) narrow

abbrev pub where_draft : Counts → PlanDraft → PlainDraft → PlanDraft
where_draft most d test = stepped most narrow (λ p. plain.Where p.0 p.1) (paired most d test)

abbrev pub select_draft : Counts → PlanDraft → ColumnsDraft → PlanDraft
select_draft most d columns = stepped most narrow (λ p. plain.Select p.0 p.1) (paired most d columns)

abbrev pub distinct_draft : Counts → PlanDraft → PlanDraft
distinct_draft most d = stepped most wide plain.Distinct d

abbrev pub group_draft : Counts → PlanDraft → List (List ℕ) → List NamedResult → PlanDraft
group_draft most d keys results = stepped most narrow (λ p. plain.Group p keys results) d

abbrev pub join_draft : Counts → PlanDraft → PlanDraft → List NamedPair → PlanDraft
join_draft most d right on = stepped most wide (λ p. plain.Join p.0 p.1 on) (paired most d right)

abbrev pub concat_draft : Counts → PlanDraft → PlanDraft → PlanDraft
concat_draft most d right = stepped most wide (λ p. plain.Concat p.0 p.1) (paired most d right)

abbrev pub order_draft : Counts → PlanDraft → List NamedKey → PlanDraft
order_draft most d keys = stepped most narrow (λ p. plain.Order p keys) d
