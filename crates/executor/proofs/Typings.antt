-- The inputs of a typed plan are typed.
use Rattle.std.proofs.Common.{◌≡◌, refl, sym, ◌∙◌, ℕ, ◌+◌, Bool, true, false, ◌||◌, cond, List, Option, None, Some, Result, Ok, Err, IsOk, IsSome, nat_le, length, ◌++◌}
use Rattle.std.specs.List.{find}
use Rattle.std.specs.Option.{option_and_then, option_or}
use Rattle.std.proofs.lemmas.List.Folds.{find-append}
use Rattle.rows_core.specs.declared.order.Key.{Key}
use Rattle.plan_core.specs.declared.agg.Agg.{Agg}
use Rattle.plan_core.specs.declared.refusal.PlanRefusal.{PlanRefusal}
use Rattle.plan_core.specs.declared.refusal.PlanRefusal.TheVariants.{TooMany}
use Rattle.plan_core.specs.ExpressionKind.{of_both}
use Rattle.plan_core.specs.PlainExpr.{PlainExpr}
use Rattle.plan_core.specs.PlainPlan.{PlainPlan, Filter, Project, Distinct, Group, Join, Concat, Order, leaves}
use Rattle.executor.specs.Pieces.{HasTyping}
use Rattle.plan_core.specs.PlanTyping.{Kinds, plan_kinds, has_too_many, absent_stream, present_or, typed_or, is_above_limit, column_count, filter_kinds, project_kinds, group_kinds, join_kinds, concat_kinds, order_kinds}

abbrev answer : Bool → Kinds → Result Kinds PlanRefusal
answer many kinds = cond many (Err TooMany) (Ok kinds)

record Has (absent : Option ℕ) (kinds : Option Kinds) (many : Bool) : Type 0 where
  present : absent ≡ None
  typed : IsSome kinds
  few : many ≡ false

parts : (absent : Option ℕ) (kinds : Option Kinds) (many : Bool) → IsOk (present_or absent (typed_or kinds (answer many))) → Has absent kinds many
parts (Some stream) kinds many is = absurd (cc)
parts None None many is = absurd (cc)
parts None (Some k) true is = absurd (cc)
parts None (Some k) false is = record { present = refl; typed = refl; few = refl }

joined : (absent : Option ℕ) (kinds : Option Kinds) (many : Bool) → Has absent kinds many → IsOk (present_or absent (typed_or kinds (answer many)))
joined (Some stream) kinds many has = absurd (let h = has.present in cc)
joined None None many has = absurd (let h = has.typed in cc)
joined None (Some k) true has = absurd (let h = has.few in cc)
joined None (Some k) false has = refl

has_of : (schemas : List Kinds) (p : PlainPlan) → HasTyping schemas p → Has (absent_stream schemas p) (plan_kinds schemas p) (has_too_many schemas p)
has_of schemas p is = parts (absent_stream schemas p) (plan_kinds schemas p) (has_too_many schemas p) is

pub some_first : {A B : Type 0} (f : A → Option B) (o : Option A) → IsSome (option_and_then f o) → IsSome o
some_first f None is = absurd (cc)
some_first f (Some x) is = refl

pub some_both : {A B C : Type 0} (f : A → B → Option C) (x : Option A) (y : Option B) → IsSome (of_both f x y) → IsSome x × IsSome y
some_both f None None is = absurd (cc)
some_both f None (Some b) is = absurd (cc)
some_both f (Some a) None is = absurd (cc)
some_both f (Some a) (Some b) is = (refl, refl)

second : (a b : Bool) → (a || b) ≡ false → b ≡ false
second true b is = absurd (cc)
second false b is = is

first : (a b : Bool) → (a || b) ≡ false → a ≡ false
first true b is = absurd (cc)
first false b is = refl

none_both : (x y : Option ℕ) → option_or x y ≡ None → (x ≡ None) × (y ≡ None)
none_both None y is = (refl, is)
none_both (Some x) y is = absurd (cc)

both_present : (schemas : List Kinds) (l r : PlainPlan) → find (λ stream. nat_le (length schemas) stream) (leaves l ++ leaves r) ≡ None
    → (absent_stream schemas l ≡ None) × (absent_stream schemas r ≡ None)
both_present schemas l r is =
    none_both (absent_stream schemas l) (absent_stream schemas r)
    (sym (find-append (λ stream. nat_le (length schemas) stream) (leaves l) (leaves r)) ∙ is)

one : (schemas : List Kinds) (p : PlainPlan) → absent_stream schemas p ≡ None → IsSome (plan_kinds schemas p) → has_too_many schemas p ≡ false → HasTyping schemas p
one schemas p present typed few =
    joined (absent_stream schemas p) (plan_kinds schemas p) (has_too_many schemas p) (record { present = present; typed = typed; few = few })

pub of_filter : (schemas : List Kinds) (child : PlainPlan) (test : PlainExpr) → HasTyping schemas (Filter child test) → HasTyping schemas child
of_filter schemas child test is =
    let h = has_of schemas (Filter child test) is in one schemas child h.present (some_first (filter_kinds test) (plan_kinds schemas child) h.typed) h.few

pub of_project : (schemas : List Kinds) (child : PlainPlan) (columns : List PlainExpr) → HasTyping schemas (Project child columns) → HasTyping schemas child
of_project schemas child columns is =
    let h = has_of schemas (Project child columns) is in
    one schemas child h.present (some_first (project_kinds columns) (plan_kinds schemas child) h.typed) (second (is_above_limit (length columns)) (has_too_many schemas child) h.few)

pub of_distinct : (schemas : List Kinds) (child : PlainPlan) → HasTyping schemas (Distinct child) → HasTyping schemas child
of_distinct schemas child is = let h = has_of schemas (Distinct child) is in one schemas child h.present h.typed h.few

pub of_group : (schemas : List Kinds) (child : PlainPlan) (keys : List ℕ) (aggs : List Agg) → HasTyping schemas (Group child keys aggs) → HasTyping schemas child
of_group schemas child keys aggs is =
    let h = has_of schemas (Group child keys aggs) is in
    one schemas child h.present (some_first (group_kinds keys aggs) (plan_kinds schemas child) h.typed) (second (is_above_limit (length keys + length aggs)) (has_too_many schemas child) h.few)

pub of_order : (schemas : List Kinds) (child : PlainPlan) (keys : List Key) → HasTyping schemas (Order child keys) → HasTyping schemas child
of_order schemas child keys is =
    let h = has_of schemas (Order child keys) is in
    one schemas child h.present (some_first (order_kinds keys) (plan_kinds schemas child) h.typed) (second (is_above_limit (length keys)) (has_too_many schemas child) h.few)

pub of_join : (schemas : List Kinds) (l r : PlainPlan) (on : List (ℕ × ℕ)) → HasTyping schemas (Join l r on) → HasTyping schemas l × HasTyping schemas r
of_join schemas l r on is =
    let h = has_of schemas (Join l r on) is in
    let present = both_present schemas l r h.present in
    let typed = some_both (join_kinds on) (plan_kinds schemas l) (plan_kinds schemas r) h.typed in
    let columns : Bool = is_above_limit (column_count schemas l + column_count schemas r) in
    let pairs : Bool = is_above_limit (length on) in
    let of_left : Bool = has_too_many schemas l in
    let front = first ((columns || pairs) || of_left) (has_too_many schemas r) h.few in
    (one schemas l present.0 typed.0 (second (columns || pairs) of_left front), one schemas r present.1 typed.1 (second ((columns || pairs) || of_left) (has_too_many schemas r) h.few))

pub of_concat : (schemas : List Kinds) (l r : PlainPlan) → HasTyping schemas (Concat l r) → HasTyping schemas l × HasTyping schemas r
of_concat schemas l r is =
    let h = has_of schemas (Concat l r) is in
    let present = both_present schemas l r h.present in
    let typed = some_both concat_kinds (plan_kinds schemas l) (plan_kinds schemas r) h.typed in
    (one schemas l present.0 typed.0 (first (has_too_many schemas l) (has_too_many schemas r) h.few), one schemas r present.1 typed.1 (second (has_too_many schemas l) (has_too_many schemas r) h.few))

pub left_of_join : (schemas : List Kinds) (l r : PlainPlan) (on : List (ℕ × ℕ)) → HasTyping schemas (Join l r on) → HasTyping schemas l
left_of_join schemas l r on is = (of_join schemas l r on is).0

pub right_of_join : (schemas : List Kinds) (l r : PlainPlan) (on : List (ℕ × ℕ)) → HasTyping schemas (Join l r on) → HasTyping schemas r
right_of_join schemas l r on is = (of_join schemas l r on is).1

pub kinds_there : (schemas : List Kinds) (p : PlainPlan) → HasTyping schemas p → IsSome (plan_kinds schemas p)
kinds_there schemas p is = (has_of schemas p is).typed
