-- The formats of expressions and plans: behind the first byte of each node stands what its row says.
use Rattle.std.specs.Prelude.{ℕ, ℤ, zero, suc, ◌^◌, ◌<◌, ◌≤◌, Bool, List, [], ◌∷◌, length, Option}
use Rattle.std.specs.Int.{w32}
use Rattle.std.specs.Option.{option_map}
use Rattle.rows_core.specs.declared.order.Key.{Key}
use Rattle.scalar_ops.specs.declared.cell.Cell.TheVariants as cell
use Rattle.scalar_ops.specs.Meaning.{row_at, kinds_at}
use Rattle.plan_core.specs.declared.agg.Agg.{Agg}
use Rattle.plan_core.specs.declared.agg.Agg.TheVariants as agg
use Rattle.plan_core.specs.PlainExpr.{PlainExpr, Column, Literal, Call1, Call2, And, Or, If}
use Rattle.plan_core.specs.PlainPlan.{PlainPlan, Scan, Filter, Project, Distinct, Group, Join, Concat, Order}
use Rattle.plan_core.specs.Nesting.{expr_nesting, nesting}
use Rattle.byte_formats.specs.Format.{Format, Reading, formed, made, made_reading, nothing, symbol, beside, byte, flag, between, u32, i64, text, ◌▷◌, ◌⊗◌, times, counted}
use Rattle.plan_spelling.specs.declared.tag.AggTag.{AggTag}
use Rattle.plan_spelling.specs.declared.tag.AggTag.TheVariants as agg_tag
use Rattle.plan_spelling.specs.declared.tag.ExprTag.{ExprTag}
use Rattle.plan_spelling.specs.declared.tag.ExprTag.TheVariants as expr_tag
use Rattle.plan_spelling.specs.declared.tag.PlanTag.{PlanTag}
use Rattle.plan_spelling.specs.declared.tag.PlanTag.TheVariants as plan_tag
use Rattle.plan_spelling.specs.Tags.{plan_tags_above, expr_tags_above, agg_tags, byte_of_plan, byte_of_expr, byte_of_agg}
use Rattle.plan_spelling.specs.Spelling.{expr_spelling, agg_spelling, pair_spelling, key_spelling, plan_spelling, HasExprSpelling, HasAggSpelling, HasPlanSpelling}

-- ---- expressions

-- a row of the table of operations
abbrev pub operation_of : ℕ → Option ℕ
operation_of b = option_map (λ row. b) (row_at b)

abbrev pub operation : Format ℕ
operation = symbol (λ row. row) operation_of

abbrev pub arity : ℕ → ℕ
arity row = length (kinds_at row)

abbrev pub ExprParts : ExprTag → Type 0
ExprParts expr_tag.Column = ℕ
ExprParts expr_tag.Int = ℤ
ExprParts expr_tag.Text = List ℕ
ExprParts expr_tag.Bool = Bool
ExprParts expr_tag.Call = ℕ × List PlainExpr
ExprParts expr_tag.And = PlainExpr × PlainExpr
ExprParts expr_tag.Or = PlainExpr × PlainExpr
ExprParts expr_tag.If = PlainExpr × (PlainExpr × PlainExpr)

abbrev pub expr_fields : Format PlainExpr → (tag : ExprTag) → Format (ExprParts tag)
expr_fields expr expr_tag.Column = u32
expr_fields expr expr_tag.Int = i64
expr_fields expr expr_tag.Text = text
expr_fields expr expr_tag.Bool = flag
expr_fields expr expr_tag.Call = operation ▷ λ row. times (arity row) expr
expr_fields expr expr_tag.And = expr ⊗ expr
expr_fields expr expr_tag.Or = expr ⊗ expr
expr_fields expr expr_tag.If = expr ⊗ (expr ⊗ expr)

abbrev pub call_of : ℕ → List PlainExpr → PlainExpr
call_of row [] = Column 0
call_of row (a ∷ []) = Call1 row a
call_of row (a ∷ b ∷ more) = Call2 row a b

abbrev pub expr_made : (tag : ExprTag) → ExprParts tag → PlainExpr
expr_made expr_tag.Column column = Column column
expr_made expr_tag.Int n = Literal (cell.Int n)
expr_made expr_tag.Text t = Literal (cell.Text t)
expr_made expr_tag.Bool b = Literal (cell.Bool b)
expr_made expr_tag.Call p = call_of p.0 p.1
expr_made expr_tag.And p = And p.0 p.1
expr_made expr_tag.Or p = Or p.0 p.1
expr_made expr_tag.If p = If p.0 p.1.0 p.1.1

abbrev pub expr_tag_format : ℕ → Format ExprTag
expr_tag_format depth = symbol byte_of_expr (beside (expr_tags_above depth))

-- a node whose parts have at most this nesting
abbrev pub expr_node : ℕ → Format PlainExpr → Format ((tag : ExprTag) × ExprParts tag)
expr_node depth expr = expr_tag_format depth ▷ expr_fields expr

abbrev pub IsExprTo : ℕ → PlainExpr → Type 0
IsExprTo depth e = HasExprSpelling e × (expr_nesting e ≤ depth)

unfoldable pub expr_reading : ℕ → Reading PlainExpr
expr_reading zero = nothing
expr_reading (suc depth) = made_reading (λ p. expr_made p.0 p.1) (expr_node depth (formed (IsExprTo depth) expr_spelling (expr_reading depth)))

-- an expression of at most this nesting
abbrev pub expr_format : ℕ → Format PlainExpr
expr_format depth = formed (IsExprTo depth) expr_spelling (expr_reading depth)

-- ---- aggregates, pairs and keys

-- the column of a count is 0
abbrev pub no_column : Format ℕ
no_column = between w32 0 0

abbrev pub agg_fields : AggTag → Format ℕ
agg_fields agg_tag.Count = no_column
agg_fields _ = u32

abbrev pub agg_made : (tag : AggTag) → ℕ → Agg
agg_made agg_tag.Count column = agg.Count
agg_made agg_tag.Sum column = agg.Sum column
agg_made agg_tag.Min column = agg.Min column
agg_made agg_tag.Max column = agg.Max column
agg_made agg_tag.First column = agg.First column
agg_made agg_tag.Last column = agg.Last column
agg_made agg_tag.Avg column = agg.Avg column

abbrev pub agg_format : Format Agg
agg_format = made (λ p. agg_made p.0 p.1) HasAggSpelling agg_spelling (symbol byte_of_agg (beside agg_tags) ▷ agg_fields)

abbrev pub key_of : ℕ × Bool → Key
key_of p = record { column = p.0; down = p.1 }

abbrev pub key_format : Format Key
key_format = made key_of (λ key. key.column < 2 ^ 32) key_spelling (u32 ⊗ flag)

abbrev pub IsPair : ℕ × ℕ → Type 0
IsPair p = (p.0 < 2 ^ 32) × (p.1 < 2 ^ 32)

abbrev pub pair_format : Format (ℕ × ℕ)
pair_format = made (λ p. (p.0, p.1)) IsPair pair_spelling (u32 ⊗ u32)

-- ---- plans

abbrev pub PlanParts : PlanTag → Type 0
PlanParts plan_tag.Scan = ℕ
PlanParts plan_tag.Filter = PlainPlan × PlainExpr
PlanParts plan_tag.Project = PlainPlan × List PlainExpr
PlanParts plan_tag.Distinct = PlainPlan
PlanParts plan_tag.Group = PlainPlan × (List ℕ × List Agg)
PlanParts plan_tag.Join = PlainPlan × (PlainPlan × List (ℕ × ℕ))
PlanParts plan_tag.Concat = PlainPlan × PlainPlan
PlanParts plan_tag.Order = PlainPlan × List Key

abbrev pub plan_fields : Format PlainPlan → Format PlainExpr → (tag : PlanTag) → Format (PlanParts tag)
plan_fields plan expr plan_tag.Scan = u32
plan_fields plan expr plan_tag.Filter = plan ⊗ expr
plan_fields plan expr plan_tag.Project = plan ⊗ counted byte expr
plan_fields plan expr plan_tag.Distinct = plan
plan_fields plan expr plan_tag.Group = plan ⊗ (counted byte u32 ⊗ counted byte agg_format)
plan_fields plan expr plan_tag.Join = plan ⊗ (plan ⊗ counted byte pair_format)
plan_fields plan expr plan_tag.Concat = plan ⊗ plan
plan_fields plan expr plan_tag.Order = plan ⊗ counted byte key_format

abbrev pub plan_made : (tag : PlanTag) → PlanParts tag → PlainPlan
plan_made plan_tag.Scan stream = Scan stream
plan_made plan_tag.Filter p = Filter p.0 p.1
plan_made plan_tag.Project p = Project p.0 p.1
plan_made plan_tag.Distinct child = Distinct child
plan_made plan_tag.Group p = Group p.0 p.1.0 p.1.1
plan_made plan_tag.Join p = Join p.0 p.1.0 p.1.1
plan_made plan_tag.Concat p = Concat p.0 p.1
plan_made plan_tag.Order p = Order p.0 p.1

abbrev pub plan_tag_format : ℕ → Format PlanTag
plan_tag_format depth = symbol byte_of_plan (beside (plan_tags_above depth))

-- a node whose parts have at most this nesting
abbrev pub plan_node : ℕ → Format PlainPlan → Format PlainExpr → Format ((tag : PlanTag) × PlanParts tag)
plan_node depth plan expr = plan_tag_format depth ▷ plan_fields plan expr

abbrev pub IsPlanTo : ℕ → PlainPlan → Type 0
IsPlanTo depth plan = HasPlanSpelling plan × (nesting plan ≤ depth)

unfoldable pub plan_reading : ℕ → Reading PlainPlan
plan_reading zero = nothing
plan_reading (suc depth) = made_reading (λ p. plan_made p.0 p.1) (plan_node depth (formed (IsPlanTo depth) plan_spelling (plan_reading depth)) (expr_format depth))

-- a plan of at most this nesting
abbrev pub plan_format : ℕ → Format PlainPlan
plan_format depth = formed (IsPlanTo depth) plan_spelling (plan_reading depth)
