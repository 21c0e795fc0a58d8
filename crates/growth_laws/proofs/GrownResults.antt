-- What is made of the earlier result of a plan and of the rows that have come.
use Rattle.std.proofs.Common.{◌≡◌, refl, sym, ap, ◌∙◌, subst, ℕ, ◌+◌, List, ◌++◌, Result, Ok, Err}
use Rattle.std.specs.Cmp.{IsTotalOrder}
use Rattle.rows_core.specs.declared.order.Key.{Key}
use Rattle.rows_core.specs.declared.overflow.Overflow.{Overflow}
use Rattle.rows_core.specs.RowOrder.{row_cmp}
use Rattle.row_blob.specs.declared.kept.Kept.{Kept}
use Rattle.row_blob.specs.declared.kept.Kept.TheVariants as kept
use Rattle.plan_core.specs.declared.agg.Agg.{Agg}
use Rattle.plan_core.specs.Columns.{Rows}
use Rattle.plan_core.specs.ExpressionValue.{◌>>=◌}
use Rattle.plan_core.specs.Filter.{filter_rows}
use Rattle.plan_core.specs.PlainExpr.{PlainExpr}
use Rattle.plan_core.specs.PlainPlan.{PlainPlan, Scan, Filter, Project, Distinct, Group, Join, Concat, Order}
use Rattle.plan_core.specs.PlanMeaning.{plan_meaning}
use Rattle.plan_core.specs.Project.{project_rows}
use Rattle.plan_core.specs.StableOrder.{order_rows}
use Rattle.plan_laws.specs.GrowthOfGroups.{groups_of, merged_groups}
use Rattle.plan_laws.specs.GrowthOfRows.{new_rows}
use Rattle.plan_laws.specs.KeptForm.{kept_form, rows_of_kept}
use Rattle.plan_laws.proofs.Growing.{order_gives, takes_in_new}
use Rattle.plan_laws.proofs.MergedGroups.{joined_lists, more_taken_in}
use Rattle.growth_laws.specs.Growth.{Added, Made, Extends, IsMade, OfGrownInput}
use Rattle.growth_laws.specs.Making.{kept_rows, kept_groups, as_rows, with_taken_in, with_rows_taken_in, taken_in_of, passed_delta, distinct_delta, behind, grown_one}
use Rattle.growth_laws.proofs.AddedRows.{gave_first, ok_is, passed_extends, distinct_extends}

-- the added rows behind those that are kept
abbrev added_behind : Made → Added → Result Made Overflow
added_behind old more = Ok (record { kept = kept.Rows (kept_rows old.kept ++ more.rows); taken_in = old.taken_in + more.taken_in })

-- ---- plans of which the rows are kept

module _ (plan : PlainPlan) (before after : List Rows) (form_before : kept_form plan before ≡ as_rows (plan_meaning plan before)) (form_after : kept_form plan after ≡ as_rows (plan_meaning plan after))
    (old : Made) (is : IsMade plan before (Ok old)) where
  -- the rows that are kept
  pub are_kept : (olds : Rows) × (plan_meaning plan before ≡ Ok olds) × (kept.Rows olds ≡ old.kept)
  are_kept =
      let here = gave_first (plan_meaning plan before) (λ rows. Ok (kept.Rows rows)) old.kept (sym form_before ∙ is.0) in
      (here.0, here.1, ok_is (Ok (kept.Rows here.0)) (kept.Rows here.0) old.kept refl here.2)

  pub made_behind : (given : Result Added Overflow) → Extends plan before after given → IsMade plan after (given >>= added_behind old)
  made_behind (Ok more) grows =
      let here = are_kept in
      let grown = grows here.0 here.1 in (
        form_after ∙ ap as_rows grown.gives ∙ ap (λ form. Ok (kept.Rows (kept_rows form ++ more.rows))) here.2,
        grown.takes_in ∙ ap (λ taken. taken + more.taken_in) is.1,
      )
  made_behind (Err e) grows = let here = are_kept in form_after ∙ ap as_rows (grows here.0 here.1)

-- an operator that passes rows on
passed_so : (old : Made) (taken_in : ℕ) (more : Result Rows Overflow) → (with_rows_taken_in taken_in more >>= added_behind old) ≡ with_taken_in (old.taken_in + taken_in) (behind old.kept more)
passed_so old taken_in (Ok rows) = refl
passed_so old taken_in (Err e) = refl

filter_so : (child : PlainPlan) (test : PlainExpr) (old : Made) (given : Result Added Overflow) → (passed_delta (Filter child test) given >>= added_behind old) ≡ grown_one (Filter child test) old given
filter_so child test old (Ok added) = passed_so old (taken_in_of added) (filter_rows test added.rows)
filter_so child test old (Err e) = refl

project_so : (child : PlainPlan) (columns : List PlainExpr) (old : Made) (given : Result Added Overflow) → (passed_delta (Project child columns) given >>= added_behind old) ≡ grown_one (Project child columns) old given
project_so child columns old (Ok added) = passed_so old (taken_in_of added) (project_rows columns added.rows)
project_so child columns old (Err e) = refl

concat_so : (left right : PlainPlan) (old : Made) (given : Result Added Overflow) → (passed_delta (Concat left right) given >>= added_behind old) ≡ grown_one (Concat left right) old given
concat_so left right old (Ok added) = refl
concat_so left right old (Err e) = refl

-- ---- the first of equal rows

of_rows : (form : Kept) (olds : Rows) → kept.Rows olds ≡ form → rows_of_kept form ≡ Ok (kept_rows form)
of_rows form olds is = ap rows_of_kept (sym is) ∙ ap (λ form. Ok (kept_rows form)) is

distinct_so : (child : PlainPlan) (old : Made) → rows_of_kept old.kept ≡ Ok (kept_rows old.kept) → (given : Result Added Overflow)
    → (distinct_delta (Ok old) given >>= added_behind old) ≡ grown_one (Distinct child) old given
distinct_so child old is (Ok added) =
    ap (λ olds. (olds >>= λ olds. Ok (record { rows = new_rows olds added.rows; taken_in = taken_in_of added })) >>= added_behind old) is
distinct_so child old is (Err e) = refl

-- ---- groups

module _ (child : PlainPlan) (keys : List ℕ) (aggs : List Agg) (before after : List Rows) where
  groups_made : (old : Made) (given : Result Added Overflow) → IsMade (Group child keys aggs) before (Ok old) → Extends child before after given
      → IsMade (Group child keys aggs) after (grown_one (Group child keys aggs) old given)
  groups_made old (Ok added) is grows =
      let below = gave_first (plan_meaning child before) (λ rows. Ok (kept.Groups (groups_of keys aggs rows))) old.kept is.0 in
      let grown = grows below.0 below.1 in
      let here : kept.Groups (groups_of keys aggs below.0) ≡ old.kept = ok_is (Ok (kept.Groups (groups_of keys aggs below.0))) (kept.Groups (groups_of keys aggs below.0)) old.kept refl below.2 in (
        ap (λ m. m >>= λ rows. Ok (kept.Groups (groups_of keys aggs rows))) grown.gives ∙ ap (λ groups. Ok (kept.Groups groups)) (joined_lists keys aggs below.0 added.rows)
            ∙ ap (λ form. Ok (kept.Groups (merged_groups aggs (kept_groups form) (groups_of keys aggs added.rows)))) here,
        more_taken_in child keys aggs before after below.0 added.rows added.taken_in grown.gave grown.gives grown.takes_in ∙ ap (λ taken. taken + taken_in_of added) is.1,
      )
  groups_made old (Err e) is grows =
      let below = gave_first (plan_meaning child before) (λ rows. Ok (kept.Groups (groups_of keys aggs rows))) old.kept is.0 in
      ap (λ m. m >>= λ rows. Ok (kept.Groups (groups_of keys aggs rows))) (grows below.0 below.1)

-- ---- orders

module _ (child : PlainPlan) (keys : List Key) (total : IsTotalOrder (row_cmp keys)) (before after : List Rows) where
  order_made : (old : Made) (given : Result Added Overflow) → IsMade (Order child keys) before (Ok old) → Extends child before after given
      → IsMade (Order child keys) after (grown_one (Order child keys) old given)
  order_made old (Ok added) is grows =
      let here = are_kept (Order child keys) before after refl refl old is in
      let below = gave_first (plan_meaning child before) (λ rows. Ok (order_rows keys rows)) here.0 here.1 in
      let grown = grows below.0 below.1 in (
        ap as_rows (order_gives child before after below.0 added.rows added.taken_in grown keys total)
            ∙ ap (λ olds. olds >>= λ olds. Ok (kept.Rows (order_rows keys (olds ++ order_rows keys added.rows)))) below.2
            ∙ ap (λ form. Ok (kept.Rows (order_rows keys (kept_rows form ++ order_rows keys added.rows)))) here.2,
        takes_in_new child before after below.0 added.rows added.taken_in grown ∙ ap (λ taken. taken + taken_in_of added) is.1,
      )
  order_made old (Err e) is grows =
      let here = are_kept (Order child keys) before after refl refl old is in
      let below = gave_first (plan_meaning child before) (λ rows. Ok (order_rows keys rows)) here.0 here.1 in
      ap (λ m. (m >>= λ rows. Ok (order_rows keys rows)) >>= λ rows. Ok (kept.Rows rows)) (grows below.0 below.1)

-- ---- by the plan

module _ (total : (keys : List Key) → IsTotalOrder (row_cmp keys)) (before after : List Rows) (old : Made) (given : Result Added Overflow) where
  pub one_grown : (plan : PlainPlan) → IsMade plan before (Ok old) → OfGrownInput (λ input before after. Extends input before after given) plan before after
      → IsMade plan after (grown_one plan old given)
  one_grown (Filter child test) is grows =
      subst (IsMade (Filter child test) after) (filter_so child test old given) (made_behind (Filter child test) before after refl refl old is (passed_delta (Filter child test) given) (passed_extends (Filter child test) before after given grows))
  one_grown (Project child columns) is grows =
      subst (IsMade (Project child columns) after) (project_so child columns old given)
      (made_behind (Project child columns) before after refl refl old is (passed_delta (Project child columns) given) (passed_extends (Project child columns) before after given grows))
  one_grown (Concat left right) is grows =
      subst (IsMade (Concat left right) after) (concat_so left right old given) (made_behind (Concat left right) before after refl refl old is (passed_delta (Concat left right) given) (passed_extends (Concat left right) before after given grows))
  one_grown (Distinct child) is grows =
      let here = are_kept (Distinct child) before after refl refl old is in
      subst (IsMade (Distinct child) after) (distinct_so child old (of_rows old.kept here.0 here.2) given)
      (made_behind (Distinct child) before after refl refl old is (distinct_delta (Ok old) given) (distinct_extends child before after (Ok old) given is grows))
  one_grown (Group child keys aggs) is grows = groups_made child keys aggs before after old given is grows
  one_grown (Order child keys) is grows = order_made child keys (total keys) before after old given is grows
  one_grown (Scan stream) is grows = absurd grows
  one_grown (Join left right on) is grows = absurd grows
