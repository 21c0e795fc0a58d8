-- The format of plans is exact.
use Rattle.std.proofs.Common.{◌≡◌, ℕ, zero, suc, ◌^◌, ◌<◌, ◌≤◌, Bool, cond, List, [], ◌∷◌, Some, refl, sym, ap, subst, arith}
use Rattle.std.specs.Int.{w32, to_be_bytes}
use Rattle.std.specs.List.{AllByRecursion}
use Rattle.std.proofs.lemmas.Bool.{ne_eqb}
use Rattle.rows_core.specs.declared.order.Key.{Key}
use Rattle.plan_core.specs.declared.agg.Agg.{Agg}
use Rattle.plan_core.specs.declared.agg.Agg.TheVariants as agg
use Rattle.plan_core.specs.PlainExpr.{PlainExpr}
use Rattle.plan_core.specs.PlainPlan.{PlainPlan, Scan, Filter, Project, Distinct, Group, Join, Concat, Order}
use Rattle.plan_core.specs.Nesting.{greatest_nesting, nesting}
use Rattle.byte_formats.specs.Format.{Format, symbol, beside, byte, u32, flag, ◌▷◌, ◌⊗◌, counted}
use Rattle.byte_formats.proofs.Exact.{Exact, both_exact}
use Rattle.byte_formats.proofs.Laws.{byte_exact, byte_fits, byte_below, u32_exact, made_exact, counted_exact, nothing_exact}
use Rattle.byte_formats.proofs.Told.{table_exact, u32_between_exact, flag_fits, flag_exact, pair_exact}
use Rattle.plan_spelling.specs.declared.tag.AggTag.{AggTag}
use Rattle.plan_spelling.specs.declared.tag.AggTag.TheVariants as agg_tag
use Rattle.plan_spelling.specs.declared.tag.PlanTag.{PlanTag}
use Rattle.plan_spelling.specs.declared.tag.PlanTag.TheVariants as tag
use Rattle.plan_spelling.specs.Tags.{plan_leaves, plan_tags, plan_tags_above, agg_tags, byte_of_plan, byte_of_agg}
use Rattle.plan_spelling.specs.Spelling.{agg_spelling, pair_spelling, key_spelling, plan_spelling, HasExprSpelling, HasAggSpelling}
use Rattle.plan_spelling.specs.Formats.{agg_fields, agg_made, agg_format, key_of, key_format, IsPair, pair_format, PlanParts, plan_fields, plan_made, plan_tag_format, plan_node, IsExprTo, expr_format, IsPlanTo, plan_reading, plan_format}
use Rattle.plan_spelling.proofs.ExprLaws.{expr_exact}

-- ---- aggregates and keys

pub agg_to : (t : AggTag) (column : ℕ) → (agg_fields t).Fits column → HasAggSpelling (agg_made t column) × (agg_spelling (agg_made t column) ≡ byte_of_agg t ∷ (agg_fields t).spell column)
agg_to agg_tag.Count column fits = (tt, (let none : column ≡ 0 = omega (arith, fits.1) in ap (λ (n : ℕ). 1 ∷ to_be_bytes w32 n) (sym none)))
agg_to agg_tag.Sum column fits = (fits, refl)
agg_to agg_tag.Min column fits = (fits, refl)
agg_to agg_tag.Max column fits = (fits, refl)
agg_to agg_tag.First column fits = (fits, refl)
agg_to agg_tag.Last column fits = (fits, refl)
agg_to agg_tag.Avg column fits = (fits, refl)

agg_from : (a : Agg) → HasAggSpelling a → (p : AggTag × ℕ) × (symbol byte_of_agg (beside agg_tags) ▷ agg_fields).Fits p × (agg_made p.0 p.1 ≡ a)
agg_from agg.Count fits = ((agg_tag.Count, 0), (refl, (omega arith, omega arith)), refl)
agg_from (agg.Sum column) fits = ((agg_tag.Sum, column), (refl, fits), refl)
agg_from (agg.Min column) fits = ((agg_tag.Min, column), (refl, fits), refl)
agg_from (agg.Max column) fits = ((agg_tag.Max, column), (refl, fits), refl)
agg_from (agg.First column) fits = ((agg_tag.First, column), (refl, fits), refl)
agg_from (agg.Last column) fits = ((agg_tag.Last, column), (refl, fits), refl)
agg_from (agg.Avg column) fits = ((agg_tag.Avg, column), (refl, fits), refl)

agg_fields_exact : (t : AggTag) → Exact (agg_fields t)
agg_fields_exact agg_tag.Count = u32_between_exact 0 0 (omega arith) (omega arith)
agg_fields_exact agg_tag.Sum = u32_exact
agg_fields_exact agg_tag.Min = u32_exact
agg_fields_exact agg_tag.Max = u32_exact
agg_fields_exact agg_tag.First = u32_exact
agg_fields_exact agg_tag.Last = u32_exact
agg_fields_exact agg_tag.Avg = u32_exact

pub agg_exact : Exact agg_format
agg_exact =
    made_exact (λ p. agg_made p.0 p.1) HasAggSpelling agg_spelling (symbol byte_of_agg (beside agg_tags) ▷ agg_fields)
    (both_exact (symbol byte_of_agg (beside agg_tags)) agg_fields (table_exact byte_of_agg agg_tags (refl, (refl, (refl, (refl, (refl, (refl, (refl, tt)))))))) (λ t fits. agg_fields_exact t))
    (record { to = λ p fits. agg_to p.0 p.1 fits.1; from = agg_from })

key_from : (key : Key) → key.column < 2 ^ 32 → (p : ℕ × _) × (u32 ⊗ flag).Fits p × (key_of p ≡ key)
key_from key fits = ((key.column, key.down), (fits, flag_fits key.down), refl)

pub key_exact : Exact key_format
key_exact = made_exact key_of (λ key. key.column < 2 ^ 32) key_spelling (u32 ⊗ flag) (pair_exact u32 flag u32_exact flag_exact) (record { to = λ p fits. (fits.0, refl); from = key_from })

pair_from : (p : ℕ × ℕ) → IsPair p → (q : ℕ × ℕ) × (u32 ⊗ u32).Fits q × ((q.0, q.1) ≡ p)
pair_from p fits = ((p.0, p.1), (fits.0, fits.1), refl)

pub pair_format_exact : Exact pair_format
pair_format_exact = made_exact (λ p. (p.0, p.1)) IsPair pair_spelling (u32 ⊗ u32) (pair_exact u32 u32 u32_exact u32_exact) (record { to = λ p fits. ((fits.0, fits.1), refl); from = pair_from })

-- ---- what the fields are is what the spelling says

all_to : (depth : ℕ) (es : List PlainExpr) → AllByRecursion (IsExprTo depth) es → AllByRecursion HasExprSpelling es × (greatest_nesting es ≤ depth)
all_to depth [] fits = (tt, omega arith)
all_to depth (e ∷ es) fits = let more = all_to depth es fits.1 in ((fits.0.0, more.0), (let a = fits.0.1 in let b = more.1 in omega arith))

all_from : (depth : ℕ) (es : List PlainExpr) → AllByRecursion HasExprSpelling es → greatest_nesting es ≤ depth → AllByRecursion (IsExprTo depth) es
all_from depth [] fits deep = tt
all_from depth (e ∷ es) fits deep = ((fits.0, omega arith), all_from depth es fits.1 (omega arith))

pub plan_to : (depth : ℕ) (t : PlanTag) (p : PlanParts t) → (plan_fields (plan_format depth) (expr_format depth) t).Fits p
    → IsPlanTo (suc depth) (plan_made t p) × (plan_spelling (plan_made t p) ≡ byte_of_plan t ∷ (plan_fields (plan_format depth) (expr_format depth) t).spell p)
plan_to depth tag.Scan p fits = ((fits, omega arith), refl)
plan_to depth tag.Filter p fits = (((fits.0.0, fits.1.0), omega arith), refl)
plan_to depth tag.Project p fits = (let all = all_to depth p.1 fits.1.1 in (((fits.0.0, (byte_below _ fits.1.0, all.0)), (let a = fits.0.1 in let b = all.1 in omega arith)), refl))
plan_to depth tag.Distinct p fits = ((fits.0, omega arith), refl)
plan_to depth tag.Group p fits = (((fits.0.0, (byte_below _ fits.1.0.0, fits.1.0.1), (byte_below _ fits.1.1.0, fits.1.1.1)), (let a = fits.0.1 in omega arith)), refl)
plan_to depth tag.Join p fits = (((fits.0.0, fits.1.0.0, (byte_below _ fits.1.1.0, fits.1.1.1)), (let a = fits.0.1 in let b = fits.1.0.1 in omega arith)), refl)
plan_to depth tag.Concat p fits = (((fits.0.0, fits.1.0), omega arith), refl)
plan_to depth tag.Order p fits = (((fits.0.0, (byte_below _ fits.1.0, fits.1.1)), (let a = fits.0.1 in omega arith)), refl)

-- ---- tags

pub plan_above : (depth : ℕ) → plan_tags_above (suc depth) ≡ plan_tags
plan_above depth = ap (λ (c : Bool). cond c plan_leaves plan_tags) (ne_eqb (suc depth) 0 (λ z. omega arith))

pub plan_tags_exact : (depth : ℕ) → Exact (plan_tag_format depth)
plan_tags_exact zero = table_exact byte_of_plan plan_leaves (refl, tt)
plan_tags_exact (suc depth) = subst (λ (rows : List (ℕ × PlanTag)). Exact (symbol byte_of_plan (beside rows))) (sym (plan_above depth)) (table_exact byte_of_plan plan_tags (refl, (refl, (refl, (refl, (refl, (refl, (refl, (refl, tt)))))))))

plan_own : (t : PlanTag) → beside plan_tags (byte_of_plan t) ≡ Some t
plan_own tag.Scan = refl
plan_own tag.Filter = refl
plan_own tag.Project = refl
plan_own tag.Distinct = refl
plan_own tag.Group = refl
plan_own tag.Join = refl
plan_own tag.Concat = refl
plan_own tag.Order = refl

-- where something may stand below, each tag may stand
plan_tag_fits : (depth : ℕ) (t : PlanTag) → 0 < depth → (plan_tag_format depth).Fits t
plan_tag_fits zero t lt = absurd (omega arith)
plan_tag_fits (suc depth) t lt = subst (λ (rows : List (ℕ × PlanTag)). beside rows (byte_of_plan t) ≡ Some t) (sym (plan_above depth)) (plan_own t)

scan_fits : (depth : ℕ) → (plan_tag_format depth).Fits tag.Scan
scan_fits zero = refl
scan_fits (suc depth) = plan_tag_fits (suc depth) tag.Scan (omega arith)

is_one : (plan : PlainPlan) → 0 < nesting plan
is_one (Scan stream) = omega arith
is_one (Filter child test) = omega arith
is_one (Project child columns) = omega arith
is_one (Distinct child) = omega arith
is_one (Group child keys aggs) = omega arith
is_one (Join left right on) = omega arith
is_one (Concat left right) = omega arith
is_one (Order child keys) = omega arith

-- a tag over a plan that stands within the nesting
tag_over : (depth : ℕ) (t : PlanTag) (child : PlainPlan) → nesting child ≤ depth → (plan_tag_format depth).Fits t
tag_over depth t child deep = plan_tag_fits depth t (let one = is_one child in omega arith)

plan_from : (depth : ℕ) (plan : PlainPlan) → IsPlanTo (suc depth) plan → (p : (t : PlanTag) × PlanParts t) × (plan_node depth (plan_format depth) (expr_format depth)).Fits p × (plan_made p.0 p.1 ≡ plan)
plan_from depth (Scan stream) fits = ((tag.Scan, stream), (scan_fits depth, fits.0), refl)
plan_from depth (Filter child test) fits = ((tag.Filter, (child, test)), (tag_over depth tag.Filter child (omega arith), ((fits.0.0, omega arith), (fits.0.1, omega arith))), refl)
plan_from depth (Project child columns) fits = ((tag.Project, (child, columns)), (tag_over depth tag.Project child (omega arith), ((fits.0.0, omega arith), (byte_fits _ fits.0.1.0, all_from depth columns fits.0.1.1 (let d = fits.1 in omega arith)))), refl)
plan_from depth (Distinct child) fits = ((tag.Distinct, child), (tag_over depth tag.Distinct child (omega arith), (fits.0, omega arith)), refl)
plan_from depth (Group child keys aggs) fits = ((tag.Group, (child, (keys, aggs))), (tag_over depth tag.Group child (omega arith), ((fits.0.0, omega arith), ((byte_fits _ fits.0.1.0, fits.0.1.1), (byte_fits _ fits.0.2.0, fits.0.2.1)))), refl)
plan_from depth (Join left right on) fits = ((tag.Join, (left, (right, on))), (tag_over depth tag.Join left (omega arith), ((fits.0.0, omega arith), ((fits.0.1, omega arith), (byte_fits _ fits.0.2.0, fits.0.2.1)))), refl)
plan_from depth (Concat left right) fits = ((tag.Concat, (left, right)), (tag_over depth tag.Concat left (omega arith), ((fits.0.0, omega arith), (fits.0.1, omega arith))), refl)
plan_from depth (Order child keys) fits = ((tag.Order, (child, keys)), (tag_over depth tag.Order child (omega arith), ((fits.0.0, omega arith), (byte_fits _ fits.0.1.0, fits.0.1.1))), refl)

plan_fields_exact : (plan : Format PlainPlan) (expr : Format PlainExpr) → Exact plan → Exact expr → (t : PlanTag) → Exact (plan_fields plan expr t)
plan_fields_exact plan expr pe ee tag.Scan = u32_exact
plan_fields_exact plan expr pe ee tag.Filter = pair_exact plan expr pe ee
plan_fields_exact plan expr pe ee tag.Project = pair_exact plan (counted byte expr) pe (counted_exact byte expr byte_exact ee)
plan_fields_exact plan expr pe ee tag.Distinct = pe
plan_fields_exact plan expr pe ee tag.Group =
    pair_exact plan (counted byte u32 ⊗ counted byte agg_format) pe (pair_exact (counted byte u32) (counted byte agg_format) (counted_exact byte u32 byte_exact u32_exact) (counted_exact byte agg_format byte_exact agg_exact))
plan_fields_exact plan expr pe ee tag.Join =
    pair_exact plan (plan ⊗ counted byte pair_format) pe (pair_exact plan (counted byte pair_format) pe (counted_exact byte pair_format byte_exact pair_format_exact))
plan_fields_exact plan expr pe ee tag.Concat = pair_exact plan plan pe pe
plan_fields_exact plan expr pe ee tag.Order = pair_exact plan (counted byte key_format) pe (counted_exact byte key_format byte_exact key_exact)

pub plan_exact : (depth : ℕ) → Exact (plan_format depth)
unfolding plan_reading
plan_exact zero = nothing_exact (IsPlanTo 0) plan_spelling (λ plan fits. (let deep = is_one plan in let none = fits.1 in omega arith))
plan_exact (suc depth) =
    made_exact (λ p. plan_made p.0 p.1) (IsPlanTo (suc depth)) plan_spelling (plan_node depth (plan_format depth) (expr_format depth))
    (both_exact (plan_tag_format depth) (plan_fields (plan_format depth) (expr_format depth)) (plan_tags_exact depth)
    (λ t fits. plan_fields_exact (plan_format depth) (expr_format depth) (plan_exact depth) (expr_exact depth) t))
    (record { to = λ p fits. plan_to depth p.0 p.1 fits.1; from = plan_from depth })
