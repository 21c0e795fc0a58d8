-- Bytes that begin a plan, as far as reading can tell, are the first bytes of a plan's spelling: of one within the nesting.
use Rattle.std.proofs.Common.{◌≡◌, ℕ, zero, suc, ◌^◌, ◌<◌, List, length, refl, sym, subst, arith}
use Rattle.std.specs.Int.{w32, to_be_bytes}
use Rattle.std.specs.List.{AllByRecursion}
use Rattle.rows_core.specs.declared.order.Key.{Key}
use Rattle.scalar_ops.specs.Meaning.{row_at}
use Rattle.plan_core.specs.PlainExpr.{PlainExpr}
use Rattle.plan_core.specs.PlainPlan.{PlainPlan}
use Rattle.byte_formats.specs.Format.{Format, symbol, beside, byte, flag, u32, ◌▷◌, ◌⊗◌, times, counted, between}
use Rattle.byte_formats.proofs.Goes
use Rattle.plan_spelling.specs.declared.tag.AggTag.{AggTag}
use Rattle.plan_spelling.specs.declared.tag.AggTag.TheVariants as agg_tag
use Rattle.plan_spelling.specs.declared.tag.ExprTag.{ExprTag}
use Rattle.plan_spelling.specs.declared.tag.ExprTag.TheVariants as tag
use Rattle.plan_spelling.specs.declared.tag.PlanTag.{PlanTag}
use Rattle.plan_spelling.specs.declared.tag.PlanTag.TheVariants as plan_tag
use Rattle.plan_spelling.specs.Tags.{plan_leaves, plan_tags, expr_leaves, expr_tags, agg_tags, byte_of_plan, byte_of_expr, byte_of_agg}
use Rattle.plan_spelling.specs.Spelling.{expr_spelling, agg_spelling, pair_spelling, key_spelling, plan_spelling, HasAggSpelling}
use Rattle.plan_spelling.specs.Formats.{operation_of, operation, arity, expr_fields, expr_made, expr_tag_format, expr_node, IsExprTo, expr_reading, expr_format, agg_fields, agg_made, agg_format, key_of, key_format, IsPair, pair_format, plan_fields, plan_made, plan_tag_format, plan_node, IsPlanTo, plan_reading, plan_format}
use Rattle.plan_spelling.proofs.ExprLaws.{operation_is, expr_above, expr_to}
use Rattle.plan_spelling.proofs.PlanLaws.{agg_to, plan_above, plan_to}

-- what begins a spelling, as far as reading can tell, is the front of one that fits
abbrev Whole : {A : Type 0} → Format A → Type 0
Whole format = Goes.Goes format format.Fits

pair_whole : {A B : Type 0} (f : Format A) (g : Format B) → Whole f → Whole g → Whole (f ⊗ g)
pair_whole f g fw gw = Goes.pair_goes f g f.Fits g.Fits fw gw

listed : {A : Type 0} (item : Format A) → Whole item → Whole (counted byte item)
listed item whole = Goes.counted_goes item item.Fits whole byte Goes.byte_goes

-- ---- expressions

expr_tags_whole : (depth : ℕ) → Whole (expr_tag_format depth)
expr_tags_whole zero = Goes.table_goes byte_of_expr expr_leaves (refl, (refl, (refl, (refl, tt)))) tag.Column refl
expr_tags_whole (suc depth) = subst (λ (rows : List (ℕ × ExprTag)). Whole (symbol byte_of_expr (beside rows))) (sym (expr_above depth)) (Goes.table_goes byte_of_expr expr_tags (refl, (refl, (refl, (refl, (refl, (refl, (refl, (refl, tt)))))))) tag.Column refl)

call_whole : (expr : Format PlainExpr) → Whole expr → Whole (expr_fields expr tag.Call)
call_whole expr whole =
    Goes.both_goes operation (λ row. times (arity row) expr) operation.Fits (λ row args. (length args ≡ arity row) × AllByRecursion expr.Fits args)
    (Goes.symbol_goes (λ row. row) operation_of (λ b row e. operation_is b row (row_at b) e) 0 refl) (λ row fits. Goes.times_goes expr expr.Fits whole (arity row))

expr_fields_whole : (expr : Format PlainExpr) → Whole expr → (t : ExprTag) → Whole (expr_fields expr t)
expr_fields_whole expr whole tag.Column = Goes.u32_goes
expr_fields_whole expr whole tag.Int = Goes.i64_goes
expr_fields_whole expr whole tag.Text = Goes.text_goes
expr_fields_whole expr whole tag.Bool = Goes.flag_goes
expr_fields_whole expr whole tag.Call = call_whole expr whole
expr_fields_whole expr whole tag.And = pair_whole expr expr whole whole
expr_fields_whole expr whole tag.Or = pair_whole expr expr whole whole
expr_fields_whole expr whole tag.If = pair_whole expr (expr ⊗ expr) whole (pair_whole expr expr whole whole)

-- where nothing may stand below, expressions without parts alone
expr_leaves_whole : (t : ExprTag) → (expr_tag_format 0).Fits t → Whole (expr_fields (expr_format 0) t)
expr_leaves_whole tag.Column fits = Goes.u32_goes
expr_leaves_whole tag.Int fits = Goes.i64_goes
expr_leaves_whole tag.Text fits = Goes.text_goes
expr_leaves_whole tag.Bool fits = Goes.flag_goes
expr_leaves_whole tag.Call fits = absurd cc
expr_leaves_whole tag.And fits = absurd cc
expr_leaves_whole tag.Or fits = absurd cc
expr_leaves_whole tag.If fits = absurd cc

expr_node_whole : (depth : ℕ) → ((t : ExprTag) → (expr_tag_format depth).Fits t → Whole (expr_fields (expr_format depth) t)) → Whole (expr_format (suc depth))
unfolding expr_reading
expr_node_whole depth fields =
    Goes.made_goes (λ p. expr_made p.0 p.1) (IsExprTo (suc depth)) expr_spelling (expr_node depth (expr_format depth))
    (λ p. (expr_tag_format depth).Fits p.0 × (expr_fields (expr_format depth) p.0).Fits p.1) (IsExprTo (suc depth))
    (Goes.both_goes (expr_tag_format depth) (expr_fields (expr_format depth)) (expr_tag_format depth).Fits (λ t. (expr_fields (expr_format depth) t).Fits) (expr_tags_whole depth) fields)
    (λ p fits. expr_to depth p.0 p.1 fits.1) (λ e fits. fits)

expr_whole : (depth : ℕ) → Whole (expr_format (suc depth))
expr_whole zero = expr_node_whole zero expr_leaves_whole
expr_whole (suc depth) = expr_node_whole (suc depth) (λ t fits. expr_fields_whole (expr_format (suc depth)) (expr_whole depth) t)

-- ---- aggregates, pairs and keys

agg_fields_whole : (t : AggTag) → Whole (agg_fields t)
agg_fields_whole agg_tag.Count = Goes.told_goes (between w32 0 0).Fits (to_be_bytes w32) (between w32 0 0).read 0 (omega arith, omega arith)
agg_fields_whole agg_tag.Sum = Goes.u32_goes
agg_fields_whole agg_tag.Min = Goes.u32_goes
agg_fields_whole agg_tag.Max = Goes.u32_goes
agg_fields_whole agg_tag.First = Goes.u32_goes
agg_fields_whole agg_tag.Last = Goes.u32_goes
agg_fields_whole agg_tag.Avg = Goes.u32_goes

agg_whole : Whole agg_format
agg_whole =
    let tags = symbol byte_of_agg (beside agg_tags) in
    Goes.made_goes (λ p. agg_made p.0 p.1) HasAggSpelling agg_spelling (tags ▷ agg_fields) (λ p. tags.Fits p.0 × (agg_fields p.0).Fits p.1) HasAggSpelling
    (Goes.both_goes tags agg_fields tags.Fits (λ t. (agg_fields t).Fits) (Goes.table_goes byte_of_agg agg_tags (refl, (refl, (refl, (refl, (refl, (refl, (refl, tt))))))) agg_tag.Count refl) (λ t fits. agg_fields_whole t))
    (λ p fits. agg_to p.0 p.1 fits.1) (λ a fits. fits)

key_whole : Whole key_format
key_whole =
    Goes.made_goes key_of (λ (key : Key). key.column < 2 ^ 32) key_spelling (u32 ⊗ flag) (λ p. (p.0 < 2 ^ 32) × flag.Fits p.1) (λ (key : Key). key.column < 2 ^ 32)
    (pair_whole u32 flag Goes.u32_goes Goes.flag_goes) (λ p fits. (fits.0, refl)) (λ key fits. fits)

pairs_whole : Whole pair_format
pairs_whole =
    Goes.made_goes (λ p. (p.0, p.1)) IsPair pair_spelling (u32 ⊗ u32) (λ p. (p.0 < 2 ^ 32) × (p.1 < 2 ^ 32)) IsPair
    (pair_whole u32 u32 Goes.u32_goes Goes.u32_goes) (λ p fits. ((fits.0, fits.1), refl)) (λ p fits. fits)

-- ---- plans

plan_tags_whole : (depth : ℕ) → Whole (plan_tag_format depth)
plan_tags_whole zero = Goes.table_goes byte_of_plan plan_leaves (refl, tt) plan_tag.Scan refl
plan_tags_whole (suc depth) = subst (λ (rows : List (ℕ × PlanTag)). Whole (symbol byte_of_plan (beside rows))) (sym (plan_above depth)) (Goes.table_goes byte_of_plan plan_tags (refl, (refl, (refl, (refl, (refl, (refl, (refl, (refl, tt)))))))) plan_tag.Scan refl)

plan_fields_whole : (plan : Format PlainPlan) (expr : Format PlainExpr) → Whole plan → Whole expr → (t : PlanTag) → Whole (plan_fields plan expr t)
plan_fields_whole plan expr pw ew plan_tag.Scan = Goes.u32_goes
plan_fields_whole plan expr pw ew plan_tag.Filter = pair_whole plan expr pw ew
plan_fields_whole plan expr pw ew plan_tag.Project = pair_whole plan (counted byte expr) pw (listed expr ew)
plan_fields_whole plan expr pw ew plan_tag.Distinct = pw
plan_fields_whole plan expr pw ew plan_tag.Group =
    pair_whole plan (counted byte u32 ⊗ counted byte agg_format) pw (pair_whole (counted byte u32) (counted byte agg_format) (listed u32 Goes.u32_goes) (listed agg_format agg_whole))
plan_fields_whole plan expr pw ew plan_tag.Join = pair_whole plan (plan ⊗ counted byte pair_format) pw (pair_whole plan (counted byte pair_format) pw (listed pair_format pairs_whole))
plan_fields_whole plan expr pw ew plan_tag.Concat = pair_whole plan plan pw pw
plan_fields_whole plan expr pw ew plan_tag.Order = pair_whole plan (counted byte key_format) pw (listed key_format key_whole)

-- where nothing may stand below, scans alone
plan_leaves_whole : (t : PlanTag) → (plan_tag_format 0).Fits t → Whole (plan_fields (plan_format 0) (expr_format 0) t)
plan_leaves_whole plan_tag.Scan fits = Goes.u32_goes
plan_leaves_whole plan_tag.Filter fits = absurd cc
plan_leaves_whole plan_tag.Project fits = absurd cc
plan_leaves_whole plan_tag.Distinct fits = absurd cc
plan_leaves_whole plan_tag.Group fits = absurd cc
plan_leaves_whole plan_tag.Join fits = absurd cc
plan_leaves_whole plan_tag.Concat fits = absurd cc
plan_leaves_whole plan_tag.Order fits = absurd cc

plan_node_whole : (depth : ℕ) → ((t : PlanTag) → (plan_tag_format depth).Fits t → Whole (plan_fields (plan_format depth) (expr_format depth) t)) → Whole (plan_format (suc depth))
unfolding plan_reading
plan_node_whole depth fields =
    Goes.made_goes (λ p. plan_made p.0 p.1) (IsPlanTo (suc depth)) plan_spelling (plan_node depth (plan_format depth) (expr_format depth))
    (λ p. (plan_tag_format depth).Fits p.0 × (plan_fields (plan_format depth) (expr_format depth) p.0).Fits p.1) (IsPlanTo (suc depth))
    (Goes.both_goes (plan_tag_format depth) (plan_fields (plan_format depth) (expr_format depth)) (plan_tag_format depth).Fits (λ t. (plan_fields (plan_format depth) (expr_format depth) t).Fits) (plan_tags_whole depth) fields)
    (λ p fits. plan_to depth p.0 p.1 fits.1) (λ p fits. fits)

plan_whole : (depth : ℕ) → Whole (plan_format (suc depth))
plan_whole zero = plan_node_whole zero plan_leaves_whole
plan_whole (suc depth) = plan_node_whole (suc depth) (λ t fits. plan_fields_whole (plan_format (suc depth)) (expr_format (suc depth)) (plan_whole depth) (expr_whole depth) t)

pub plan_goes : (depth : ℕ) → 0 < depth → Goes.Goes (plan_format depth) (IsPlanTo depth)
plan_goes zero lt = absurd (omega arith)
plan_goes (suc depth) lt = plan_whole depth
