-- The rows of what is kept of a plan's result are the plan's rows.
use Rattle.std.proofs.Common.{◌≡◌, refl, ap, ◌∙◌, ℕ, ◌+◌, List, [], ◌∷◌, ◌++◌, map, length, take, drop, Result, Ok, Err}
use Rattle.std.specs.List.{filter}
use Rattle.std.proofs.lemmas.List.{map-append}
use Rattle.rows_core.specs.declared.overflow.Overflow.{Overflow}
use Rattle.row_blob.specs.declared.kept.Kept.{Kept}
use Rattle.row_blob.specs.declared.kept.Kept.TheVariants as kept
use Rattle.row_blob.specs.declared.kept.TaggedRow.{TaggedRow}
use Rattle.plan_core.specs.declared.agg.Agg.{Agg}
use Rattle.plan_core.specs.declared.agg.Agg.TheVariants as agg
use Rattle.plan_core.specs.Aggregate.{aggregate_value}
use Rattle.plan_core.specs.Columns.{Row, Rows}
use Rattle.plan_core.specs.ExpressionValue.{◌>>=◌, all_of}
use Rattle.plan_core.specs.Group.{keys_of, members_of, group_row, group_rows}
use Rattle.plan_core.specs.Join.{rows_agree, join_rows}
use Rattle.plan_core.specs.PlainPlan.{PlainPlan, Scan, Filter, Project, Distinct, Group, Join, Concat, Order, leaf_count}
use Rattle.plan_core.specs.PlanMeaning.{plan_meaning}
use Rattle.plan_laws.specs.KeptForm.{acc_of, kept_group, tagged_from, kept_form, value_of_acc, row_of_group, rows_of_kept}

value_kept : (rows : Rows) (a : Agg) → value_of_acc (acc_of rows a) ≡ aggregate_value a rows
value_kept rows agg.Count = refl
value_kept rows (agg.Sum c) = refl
value_kept rows (agg.Min c) = refl
value_kept rows (agg.Max c) = refl
value_kept rows (agg.First c) = refl
value_kept rows (agg.Last c) = refl
value_kept rows (agg.Avg c) = refl

-- what f gives of what g gives is what h gives, one by one
pub one_by_one : {X Y Z : Type 0} (g : X → Y) (f : Y → Z) (h : X → Z) → ((x : X) → f (g x) ≡ h x) → (xs : List X) → map f (map g xs) ≡ map h xs
one_by_one g f h same [] = refl
one_by_one g f h same (x ∷ xs) = ap (λ z. z ∷ map f (map g xs)) (same x) ∙ ap (λ l. h x ∷ l) (one_by_one g f h same xs)

group_kept : (keys : List ℕ) (aggs : List Agg) (rows : Rows) (key : Row) → row_of_group (kept_group keys aggs rows key) ≡ group_row keys aggs rows key
group_kept keys aggs rows key =
    let members = members_of keys rows key in
    ap (λ l. all_of l >>= λ values. Ok (key ++ values)) (one_by_one (acc_of members) value_of_acc (λ a. aggregate_value a members) (value_kept members) aggs)

pub groups_kept : (keys : List ℕ) (aggs : List Agg) (rows : Rows) → rows_of_kept (kept.Groups (map (kept_group keys aggs rows) (keys_of keys rows))) ≡ group_rows keys aggs rows
groups_kept keys aggs rows = ap all_of (one_by_one (kept_group keys aggs rows) row_of_group (group_row keys aggs rows) (group_kept keys aggs rows) (keys_of keys rows))

pub join_kept : (position : ℕ) (on : List (ℕ × ℕ)) (lefts rights : Rows) → map (λ tagged. tagged.row) (tagged_from position on lefts rights) ≡ join_rows on lefts rights
join_kept position on [] rights = refl
join_kept position on (left ∷ lefts) rights =
    let agree = filter (rows_agree on left) rights in
    let tag : Row → TaggedRow = λ right. record { left = position; row = left ++ right } in
    map-append (λ tagged. tagged.row) (map tag agree) (tagged_from (position + 1) on lefts rights)
    ∙ ap (λ l. l ++ map (λ tagged. tagged.row) (tagged_from (position + 1) on lefts rights)) (one_by_one tag (λ tagged. tagged.row) (λ right. left ++ right) (λ right. refl) agree)
    ∙ ap (λ l. map (λ right. left ++ right) agree ++ l) (join_kept (position + 1) on lefts rights)

rows_kept : (r : Result Rows Overflow) → ((r >>= λ rows. Ok (kept.Rows rows)) >>= rows_of_kept) ≡ r
rows_kept (Ok rows) = refl
rows_kept (Err e) = refl

after_rows : (r : Result Rows Overflow) (f : Rows → Kept) (g : Rows → Result Rows Overflow) → ((rows : Rows) → rows_of_kept (f rows) ≡ g rows) → ((r >>= λ rows. Ok (f rows)) >>= rows_of_kept) ≡ (r >>= g)
after_rows (Ok rows) f g same = same rows
after_rows (Err e) f g same = refl

after_both : (r s : Result Rows Overflow) (f : Rows → Rows → Kept) (g : Rows → Rows → Result Rows Overflow) → ((lefts rights : Rows) → rows_of_kept (f lefts rights) ≡ g lefts rights)
    → ((r >>= λ lefts. s >>= λ rights. Ok (f lefts rights)) >>= rows_of_kept) ≡ (r >>= λ lefts. s >>= g lefts)
after_both (Ok lefts) s f g same = after_rows s (f lefts) (g lefts) (same lefts)
after_both (Err e) s f g same = refl

pub kept_rows : (plan : PlainPlan) (lists : List Rows) → (kept_form plan lists >>= rows_of_kept) ≡ plan_meaning plan lists
kept_rows (Group child keys aggs) lists =
    after_rows (plan_meaning child lists) (λ rows. kept.Groups (map (kept_group keys aggs rows) (keys_of keys rows))) (group_rows keys aggs) (groups_kept keys aggs)
kept_rows (Join left right on) lists =
    after_both (plan_meaning left (take (leaf_count left) lists)) (plan_meaning right (drop (leaf_count left) lists))
    (λ lefts rights. kept.Tagged (length lefts) (tagged_from 0 on lefts rights)) (λ lefts rights. Ok (join_rows on lefts rights)) (λ lefts rights. ap Ok (join_kept 0 on lefts rights))
kept_rows (Scan stream) lists = rows_kept (plan_meaning (Scan stream) lists)
kept_rows (Filter child test) lists = rows_kept (plan_meaning (Filter child test) lists)
kept_rows (Project child columns) lists = rows_kept (plan_meaning (Project child columns) lists)
kept_rows (Distinct child) lists = rows_kept (plan_meaning (Distinct child) lists)
kept_rows (Concat left right) lists = rows_kept (plan_meaning (Concat left right) lists)
kept_rows (Order child keys) lists = rows_kept (plan_meaning (Order child keys) lists)
