-- The first byte of each node, aggregate and expression.
use Rattle.std.specs.Prelude.{ℕ, List, [], ◌∷◌, ◌==◌, if◌then◌else◌}
use Rattle.plan_spelling.specs.declared.tag.AggTag.{AggTag}
use Rattle.plan_spelling.specs.declared.tag.AggTag.TheVariants as agg
use Rattle.plan_spelling.specs.declared.tag.ExprTag.{ExprTag}
use Rattle.plan_spelling.specs.declared.tag.ExprTag.TheVariants as expr
use Rattle.plan_spelling.specs.declared.tag.PlanTag.{PlanTag}
use Rattle.plan_spelling.specs.declared.tag.PlanTag.TheVariants as plan

abbrev pub plan_tags : List (ℕ × PlanTag)
plan_tags =
    (0x01, plan.Scan) ∷ (0x02, plan.Filter) ∷ (0x03, plan.Project) ∷ (0x04, plan.Distinct)
    ∷ (0x05, plan.Group) ∷ (0x06, plan.Join) ∷ (0x07, plan.Concat) ∷ (0x08, plan.Order) ∷ []

-- a plan without parts
abbrev pub plan_leaves : List (ℕ × PlanTag)
plan_leaves = (0x01, plan.Scan) ∷ []

-- the plans whose parts have at most this nesting: where nothing may stand below, those without parts
abbrev pub plan_tags_above : ℕ → List (ℕ × PlanTag)
plan_tags_above depth = if depth == 0 then plan_leaves else plan_tags

abbrev pub byte_of_plan : PlanTag → ℕ
byte_of_plan plan.Scan = 0x01
byte_of_plan plan.Filter = 0x02
byte_of_plan plan.Project = 0x03
byte_of_plan plan.Distinct = 0x04
byte_of_plan plan.Group = 0x05
byte_of_plan plan.Join = 0x06
byte_of_plan plan.Concat = 0x07
byte_of_plan plan.Order = 0x08

abbrev pub expr_tags : List (ℕ × ExprTag)
expr_tags =
    (0x11, expr.Column) ∷ (0x12, expr.Int) ∷ (0x13, expr.Text) ∷ (0x14, expr.Bool)
    ∷ (0x15, expr.Call) ∷ (0x16, expr.And) ∷ (0x17, expr.Or) ∷ (0x18, expr.If) ∷ []

-- the expressions without parts
abbrev pub expr_leaves : List (ℕ × ExprTag)
expr_leaves = (0x11, expr.Column) ∷ (0x12, expr.Int) ∷ (0x13, expr.Text) ∷ (0x14, expr.Bool) ∷ []

-- the expressions whose parts have at most this nesting
abbrev pub expr_tags_above : ℕ → List (ℕ × ExprTag)
expr_tags_above depth = if depth == 0 then expr_leaves else expr_tags

abbrev pub byte_of_expr : ExprTag → ℕ
byte_of_expr expr.Column = 0x11
byte_of_expr expr.Int = 0x12
byte_of_expr expr.Text = 0x13
byte_of_expr expr.Bool = 0x14
byte_of_expr expr.Call = 0x15
byte_of_expr expr.And = 0x16
byte_of_expr expr.Or = 0x17
byte_of_expr expr.If = 0x18

abbrev pub agg_tags : List (ℕ × AggTag)
agg_tags = (1, agg.Count) ∷ (2, agg.Sum) ∷ (3, agg.Min) ∷ (4, agg.Max) ∷ (5, agg.First) ∷ (6, agg.Last) ∷ (7, agg.Avg) ∷ []

abbrev pub byte_of_agg : AggTag → ℕ
byte_of_agg agg.Count = 1
byte_of_agg agg.Sum = 2
byte_of_agg agg.Min = 3
byte_of_agg agg.Max = 4
byte_of_agg agg.First = 5
byte_of_agg agg.Last = 6
byte_of_agg agg.Avg = 7
