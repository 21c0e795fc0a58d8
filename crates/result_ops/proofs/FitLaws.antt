-- What is made of fit results is fit.
use Rattle.std.proofs.Common.{◌≡◌, refl, sym, ap, ◌∙◌, subst, ℕ, ◌+◌, not, List, [], ◌∷◌, ◌++◌, map, length, All, IsSome, IfOk, Option, Some, Result, Ok, Err}
use Rattle.std.specs.Prelude.{nat_lt}
use Rattle.std.specs.List.{list_all}
use Rattle.std.specs.Option.{option_and_then}
use Rattle.std.proofs.lemmas.List.Elements.{All-append, All-filter, All-from_recursion}
use Rattle.std.proofs.lemmas.Option.{cond_some}
use Rattle.rows_core.specs.declared.overflow.Overflow.{Overflow}
use Rattle.rows_core.specs.Value.{kind_of}
use Rattle.row_blob.specs.declared.kept.Kept.{Kept}
use Rattle.row_blob.specs.declared.kept.Kept.TheVariants as kept
use Rattle.row_blob.specs.declared.kept.TaggedRow.{TaggedRow}
use Rattle.rows_core.specs.declared.order.Key.{Key}
use Rattle.plan_core.specs.declared.agg.Agg.{Agg}
use Rattle.plan_core.specs.Columns.{Rows}
use Rattle.plan_core.specs.Distinct.{distinct_rows}
use Rattle.plan_core.specs.Filter.{filter_rows}
use Rattle.plan_core.specs.Join.{join_rows}
use Rattle.plan_core.specs.PlainExpr.{PlainExpr}
use Rattle.plan_core.specs.Project.{project_rows}
use Rattle.plan_core.specs.StableOrder.{order_rows}
use Rattle.plan_core.specs.ExpressionValue.{◌>>=◌}
use Rattle.plan_core.specs.PlainPlan.{PlainPlan, Scan, Filter, Project, Distinct, Group, Join, Concat, Order, leaves}
use Rattle.plan_core.specs.PlanMeaning.{plan_meaning}
use Rattle.plan_core.specs.PlanTyping.{Kinds, is_empty, plan_kinds, filter_kinds, project_kinds, group_kinds, join_kinds, concat_kinds, order_kinds}
use Rattle.plan_core.specs.TypedRows.{HaveKinds, AreOfStreams}
use Rattle.plan_core.proofs.ValueKinds.{unless_some}
use Rattle.plan_laws.specs.GrowthOfGroups.{groups_of, merged_groups}
use Rattle.plan_laws.specs.GrowthOfJoins.{AscendsByPosition}
use Rattle.plan_laws.specs.GrowthOfRows.{has_row, new_rows}
use Rattle.plan_laws.specs.KeptForm.{rows_of_kept, tagged_from}
use Rattle.plan_laws.specs.PlanShape.{kinds_given}
use Rattle.plan_laws.proofs.Answers.{both_ok, both_some}
use Rattle.plan_laws.proofs.KeptRows.{join_kept}
use Rattle.plan_laws.proofs.TaggedMerge.{tagged_ascends}
use Rattle.plan_laws.proofs.TypedParts.{GivesTypedRows, there}
use Rattle.plan_laws.proofs.TypedPlans.{and_then}
use Rattle.plan_laws.proofs.TypedOperators.{HasKinds, distinct_typed, join_kinds_are, concat_kinds_are}
use Rattle.plan_laws.proofs.KeptBounds.{given_as}
use Rattle.rewrite_core.specs.IsRewriting.{OfOne, OfTwo, OfSides, OfDistinctChild}
use Rattle.growth_laws.specs.Growth.{Added, Made}
use Rattle.growth_laws.specs.Making.{IsFormOf, as_rows, with_taken_in, with_rows_taken_in, taken_in_of, kept_of_one, made_of_one, kept_of_two, made_of_two, behind, kept_rows, kept_groups, kept_tagged, left_length, pairs_of, with_new_lefts, with_new_rights, with_both, made_of_left, made_of_right, made_of_both, kept_of_grown, made_of_grown, added_of_child, added_of_distinct, added_of_join}
use Rattle.result_ops.specs.Bounds.{IsBounded}
use Rattle.result_ops.specs.Fitting.{kinds_of_group, IsOfKinds, IsFit, FitRows, OfPassed, OfGrown, StandsInOrder}
use Rattle.result_ops.proofs.FitResults.{rows_fit}
use Rattle.result_ops.proofs.FitGroups.{groups_of_kinds}
use Rattle.result_ops.proofs.FitMerged.{IsSuch, such_of, such_groups, merged_kinds}
use Rattle.result_ops.proofs.FitJoins.{AreTagged, without_positions, join_kinds as tagged_kinds, of_merge}

-- ---- the operators of one input, over a scan of the rows

-- the rows of a plan over one stream of these kinds
over_scan : GivesTypedRows → (kinds out : Kinds) (plan : PlainPlan) (rows given : Rows) → leaves plan ≡ 0 ∷ [] → plan_kinds (kinds ∷ []) plan ≡ Some out → HaveKinds kinds rows
    → plan_meaning plan (rows ∷ []) ≡ Ok given → HaveKinds out given
over_scan law kinds out plan rows given one typed have is =
    subst (λ r. IfOk r (HaveKinds out)) is (law (kinds ∷ []) plan out (rows ∷ []) typed (subst (λ l. AreOfStreams (kinds ∷ []) l (rows ∷ [])) (sym one) (have, tt)))

input_kinds : (schemas : List Kinds) (child : PlainPlan) (f : Kinds → Option Kinds) → IsSome (option_and_then f (plan_kinds schemas child)) → (out : Kinds) × (f (kinds_given schemas child) ≡ Some out) × (option_and_then f (plan_kinds schemas child) ≡ Some out)
input_kinds schemas child f typed =
    let whole = there (option_and_then f (plan_kinds schemas child)) typed in
    let k = and_then f (plan_kinds schemas child) whole.0 whole.1 in
    (whole.0, subst (λ kinds. f kinds ≡ Some whole.0) (sym (given_as schemas child k.0 k.1)) k.2, whole.1)

fit_rows : (schemas : List Kinds) (plan : PlainPlan) (given : Rows) (form : Kept) → IsFormOf plan (kept.Rows given) → HaveKinds (kinds_given schemas plan) given → kept.Rows given ≡ form → IsBounded plan form → IsFit schemas plan form
fit_rows schemas plan given form formed have same bounded =
    record { form_is = subst (IsFormOf plan) same formed; kinds_are = subst (IsOfKinds (kinds_given schemas plan)) same have; bounded = bounded }

-- what was made is kept
made_form : (r : Result Kept Overflow) (n : ℕ) (made : Made) → with_taken_in n r ≡ Ok made → r ≡ Ok made.kept
made_form (Ok form) n made is = let same : record { kept = form; taken_in = n } ≡ made = cc in ap (λ m. Ok m.kept) same
made_form (Err e) n made is = absurd (cc)

rows_form : (r : Result Rows Overflow) (form : Kept) → as_rows r ≡ Ok form → (given : Rows) × (r ≡ Ok given) × (kept.Rows given ≡ form)
rows_form (Ok rows) form is = (rows, refl, cc)
rows_form (Err e) form is = absurd (cc)

one_given : (plan : PlainPlan) (child made : Made) → made_of_one plan child ≡ Ok made → (rows : Rows) × (rows_of_kept child.kept ≡ Ok rows) × (kept_of_one plan rows ≡ Ok made.kept)
one_given plan child made is =
    let taken = both_ok (rows_of_kept child.kept) (λ rows. with_taken_in (length rows + child.taken_in) (kept_of_one plan rows)) made is in
    (taken.0, taken.1, made_form (kept_of_one plan taken.0) (length taken.0 + child.taken_in) made taken.2)

old_rows : (schemas : List Kinds) (plan : PlainPlan) (old : Kept) → IsOfKinds (kinds_given schemas plan) old → HaveKinds (kinds_given schemas plan) (kept_rows old)
old_rows schemas plan (kept.Rows rows) have = have
old_rows schemas plan (kept.Groups groups) have = All-from_recursion (HasKinds (kinds_given schemas plan)) [] tt
old_rows schemas plan (kept.Tagged lefts rows) have = All-from_recursion (HasKinds (kinds_given schemas plan)) [] tt

old_groups : (schemas : List Kinds) (child : PlainPlan) (keys : List ℕ) (aggs : List Agg) (old : Kept) → IsFit schemas (Group child keys aggs) old → All (IsSuch (kinds_given schemas (Group child keys aggs)) aggs) (kept_groups old)
old_groups schemas child keys aggs (kept.Groups groups) fit = such_of (kinds_given schemas (Group child keys aggs)) aggs groups fit.bounded.0 fit.kinds_are
old_groups schemas child keys aggs (kept.Rows rows) fit = absurd fit.form_is
old_groups schemas child keys aggs (kept.Tagged lefts rows) fit = absurd fit.form_is

ordered_same : (keys : List Key) (kinds out : Kinds) → order_kinds keys kinds ≡ Some out → kinds ≡ out
ordered_same keys kinds out is = (cond_some (list_all (λ key. nat_lt key.column (length kinds)) keys) kinds out (unless_some (is_empty keys) _ out is)).1

old_tagged : (schemas : List Kinds) (first second : PlainPlan) (on : List (ℕ × ℕ)) (old : Kept) → IsFit schemas (Join first second on) old → AreTagged (kinds_given schemas (Join first second on)) (kept_tagged old)
old_tagged schemas first second on (kept.Tagged lefts rows) fit = fit.kinds_are
old_tagged schemas first second on (kept.Rows rows) fit = absurd fit.form_is
old_tagged schemas first second on (kept.Groups groups) fit = absurd fit.form_is

old_ascends : (old : Kept) → StandsInOrder old → AscendsByPosition (kept_tagged old)
old_ascends (kept.Tagged lefts rows) ordered = ordered
old_ascends (kept.Rows rows) ordered = tagged_ascends 0 [] [] []
old_ascends (kept.Groups groups) ordered = tagged_ascends 0 [] [] []

module _ (law : GivesTypedRows) (schemas : List Kinds) where
  -- rows that an operator gives of rows of its input's kinds
  filtered_kinds : (child : PlainPlan) (test : PlainExpr) (rows given : Rows) → IsSome (plan_kinds schemas (Filter child test)) → HaveKinds (kinds_given schemas child) rows → filter_rows test rows ≡ Ok given → HaveKinds (kinds_given schemas (Filter child test)) given
  filtered_kinds child test rows given typed have is =
      let k = input_kinds schemas child (filter_kinds test) typed in
      subst (λ kinds. HaveKinds kinds given) (sym (given_as schemas (Filter child test) k.0 k.2)) (over_scan law (kinds_given schemas child) k.0 (Filter (Scan 0) test) rows given refl k.1 have is)

  projected_kinds : (child : PlainPlan) (columns : List PlainExpr) (rows given : Rows) → IsSome (plan_kinds schemas (Project child columns)) → HaveKinds (kinds_given schemas child) rows → project_rows columns rows ≡ Ok given → HaveKinds (kinds_given schemas (Project child columns)) given
  projected_kinds child columns rows given typed have is =
      let k = input_kinds schemas child (project_kinds columns) typed in
      subst (λ kinds. HaveKinds kinds given) (sym (given_as schemas (Project child columns) k.0 k.2)) (over_scan law (kinds_given schemas child) k.0 (Project (Scan 0) columns) rows given refl k.1 have is)

  ordered_kinds : (child : PlainPlan) (keys : List Key) (rows : Rows) → IsSome (plan_kinds schemas (Order child keys)) → HaveKinds (kinds_given schemas child) rows → HaveKinds (kinds_given schemas (Order child keys)) (order_rows keys rows)
  ordered_kinds child keys rows typed have =
      let k = input_kinds schemas child (order_kinds keys) typed in
      subst (λ kinds. HaveKinds kinds (order_rows keys rows)) (sym (given_as schemas (Order child keys) k.0 k.2)) (over_scan law (kinds_given schemas child) k.0 (Order (Scan 0) keys) rows (order_rows keys rows) refl k.1 have refl)

  grouped_kinds : (child : PlainPlan) (keys : List ℕ) (aggs : List Agg) (rows : Rows) → IsSome (plan_kinds schemas (Group child keys aggs)) → HaveKinds (kinds_given schemas child) rows → All (λ group. kinds_of_group group ≡ kinds_given schemas (Group child keys aggs)) (groups_of keys aggs rows)
  grouped_kinds child keys aggs rows typed have =
      let k = input_kinds schemas child (group_kinds keys aggs) typed in
      subst (λ kinds. All (λ group. kinds_of_group group ≡ kinds) (groups_of keys aggs rows)) (sym (given_as schemas (Group child keys aggs) k.0 k.2)) (groups_of_kinds keys aggs (kinds_given schemas child) k.0 rows have k.1)

  pub one_fit : (plan : PlainPlan) (child made : Made) → IsSome (plan_kinds schemas plan) → OfOne (λ input. IsFit schemas input child.kept) plan → made_of_one plan child ≡ Ok made → IsBounded plan made.kept → IsFit schemas plan made.kept
  one_fit (Filter input test) child made typed fit is bounded =
      let of = one_given (Filter input test) child made is in
      let rows = rows_form (filter_rows test of.0) made.kept of.2 in
      fit_rows schemas (Filter input test) rows.0 made.kept tt (filtered_kinds input test of.0 rows.0 typed (rows_fit schemas input child.kept of.0 fit of.1) rows.1) rows.2 bounded
  one_fit (Project input columns) child made typed fit is bounded =
      let of = one_given (Project input columns) child made is in
      let rows = rows_form (project_rows columns of.0) made.kept of.2 in
      fit_rows schemas (Project input columns) rows.0 made.kept tt (projected_kinds input columns of.0 rows.0 typed (rows_fit schemas input child.kept of.0 fit of.1) rows.1) rows.2 bounded
  one_fit (Distinct input) child made typed fit is bounded =
      let of = one_given (Distinct input) child made is in
      let same : kept.Rows (distinct_rows of.0) ≡ made.kept = let h = of.2 in cc in
      fit_rows schemas (Distinct input) (distinct_rows of.0) made.kept tt (distinct_typed (kinds_given schemas input) of.0 (rows_fit schemas input child.kept of.0 fit of.1)) same bounded
  one_fit (Group input keys aggs) child made typed fit is bounded =
      let of = one_given (Group input keys aggs) child made is in
      let same : kept.Groups (groups_of keys aggs of.0) ≡ made.kept = let h = of.2 in cc in
      record { form_is = subst (IsFormOf (Group input keys aggs)) same tt; kinds_are = subst (IsOfKinds (kinds_given schemas (Group input keys aggs))) same (grouped_kinds input keys aggs of.0 typed (rows_fit schemas input child.kept of.0 fit of.1)); bounded = bounded }
  one_fit (Order input keys) child made typed fit is bounded =
      let of = one_given (Order input keys) child made is in
      let same : kept.Rows (order_rows keys of.0) ≡ made.kept = let h = of.2 in cc in
      fit_rows schemas (Order input keys) (order_rows keys of.0) made.kept tt (ordered_kinds input keys of.0 typed (rows_fit schemas input child.kept of.0 fit of.1)) same bounded
  one_fit (Scan stream) child made typed fit is bounded = absurd fit
  one_fit (Join left right on) child made typed fit is bounded = absurd fit
  one_fit (Concat left right) child made typed fit is bounded = absurd fit

  -- ---- two inputs

  join_kinds_of : (left right : PlainPlan) (on : List (ℕ × ℕ)) → IsSome (plan_kinds schemas (Join left right on)) → kinds_given schemas left ++ kinds_given schemas right ≡ kinds_given schemas (Join left right on)
  join_kinds_of left right on typed =
      let whole = there (plan_kinds schemas (Join left right on)) typed in
      let k = both_some (join_kinds on) (plan_kinds schemas left) (plan_kinds schemas right) whole.0 whole.1 in
      ap (λ l. l ++ kinds_given schemas right) (given_as schemas left k.0 k.2) ∙ ap (λ r. k.0 ++ r) (given_as schemas right k.1 k.3) ∙ join_kinds_are on k.0 k.1 whole.0 k.4 ∙ sym (given_as schemas (Join left right on) whole.0 whole.1)

  concat_kinds_of : (left right : PlainPlan) → IsSome (plan_kinds schemas (Concat left right)) → (kinds_given schemas left ≡ kinds_given schemas (Concat left right)) × (kinds_given schemas right ≡ kinds_given schemas (Concat left right))
  concat_kinds_of left right typed =
      let whole = there (plan_kinds schemas (Concat left right)) typed in
      let k = both_some concat_kinds (plan_kinds schemas left) (plan_kinds schemas right) whole.0 whole.1 in
      let same = concat_kinds_are k.0 k.1 whole.0 k.4 in
      let given = sym (given_as schemas (Concat left right) whole.0 whole.1) in
      (given_as schemas left k.0 k.2 ∙ same.0 ∙ given, given_as schemas right k.1 k.3 ∙ same.1 ∙ given)

  tagged_of : (first : ℕ) (left right : PlainPlan) (on : List (ℕ × ℕ)) (lefts rights : Rows) → IsSome (plan_kinds schemas (Join left right on)) → FitRows schemas lefts left → FitRows schemas rights right
      → AreTagged (kinds_given schemas (Join left right on)) (tagged_from first on lefts rights)
  tagged_of first left right on lefts rights typed l r =
      subst (λ kinds. AreTagged kinds (tagged_from first on lefts rights)) (join_kinds_of left right on typed) (tagged_kinds first on (kinds_given schemas left) (kinds_given schemas right) lefts rights l r)

  fit_tagged : (left right : PlainPlan) (on : List (ℕ × ℕ)) (count : ℕ) (rows : List TaggedRow) (form : Kept) → AreTagged (kinds_given schemas (Join left right on)) rows → kept.Tagged count rows ≡ form → IsBounded (Join left right on) form
      → IsFit schemas (Join left right on) form
  fit_tagged left right on count rows form have same bounded =
      record { form_is = subst (IsFormOf (Join left right on)) same tt; kinds_are = subst (IsOfKinds (kinds_given schemas (Join left right on))) same have; bounded = bounded }

  two_given : (plan : PlainPlan) (left right made : Made) → made_of_two plan left right ≡ Ok made
      → (lefts : Rows) × (rights : Rows) × (rows_of_kept left.kept ≡ Ok lefts) × (rows_of_kept right.kept ≡ Ok rights) × (kept_of_two plan lefts rights ≡ made.kept)
  two_given plan left right made is =
      let l = both_ok (rows_of_kept left.kept) (λ lefts. rows_of_kept right.kept >>= λ rights. Ok (record { kept = kept_of_two plan lefts rights; taken_in = length lefts + left.taken_in + (length rights + right.taken_in) })) made is in
      let r = both_ok (rows_of_kept right.kept) (λ rights. Ok (record { kept = kept_of_two plan l.0 rights; taken_in = length l.0 + left.taken_in + (length rights + right.taken_in) })) made l.2 in
      let same : record { kept = kept_of_two plan l.0 r.0; taken_in = length l.0 + left.taken_in + (length r.0 + right.taken_in) } ≡ made = let h = r.2 in cc in
      (l.0, r.0, l.1, r.1, ap (λ m. m.kept) same)

  concat_rows : (left right : PlainPlan) (lefts rights : Rows) → IsSome (plan_kinds schemas (Concat left right)) → FitRows schemas lefts (Concat left right) → FitRows schemas rights right → FitRows schemas (lefts ++ rights) (Concat left right)
  concat_rows left right lefts rights typed l r =
      All-append (HasKinds (kinds_given schemas (Concat left right))) lefts rights l (subst (λ kinds. HaveKinds kinds rights) (concat_kinds_of left right typed).1 r)

  pub two_fit : (plan : PlainPlan) (left right made : Made) → IsSome (plan_kinds schemas plan) → OfTwo (λ first second. IsFit schemas first left.kept × IsFit schemas second right.kept) plan → made_of_two plan left right ≡ Ok made
      → IsBounded plan made.kept → IsFit schemas plan made.kept
  two_fit (Join first second on) left right made typed fit is bounded =
      let of = two_given (Join first second on) left right made is in
      fit_tagged first second on (length of.0) (tagged_from 0 on of.0 of.1) made.kept
      (tagged_of 0 first second on of.0 of.1 typed (rows_fit schemas first left.kept of.0 fit.0 of.2) (rows_fit schemas second right.kept of.1 fit.1 of.3)) of.4 bounded
  two_fit (Concat first second) left right made typed fit is bounded =
      let of = two_given (Concat first second) left right made is in
      fit_rows schemas (Concat first second) (of.0 ++ of.1) made.kept tt
      (concat_rows first second of.0 of.1 typed (subst (λ kinds. HaveKinds kinds of.0) (concat_kinds_of first second typed).0 (rows_fit schemas first left.kept of.0 fit.0 of.2)) (rows_fit schemas second right.kept of.1 fit.1 of.3)) of.4 bounded
  two_fit (Scan stream) left right made typed fit is bounded = absurd fit
  two_fit (Filter child test) left right made typed fit is bounded = absurd fit
  two_fit (Project child columns) left right made typed fit is bounded = absurd fit
  two_fit (Distinct child) left right made typed fit is bounded = absurd fit
  two_fit (Group child keys aggs) left right made typed fit is bounded = absurd fit
  two_fit (Order child keys) left right made typed fit is bounded = absurd fit

  -- ---- deltas

  new_rows_kinds : (kinds : Kinds) (old rows : Rows) → HaveKinds kinds rows → HaveKinds kinds (new_rows old rows)
  new_rows_kinds kinds old rows have = All-filter (λ row. not (has_row old row)) (HasKinds kinds) (distinct_rows rows) (distinct_typed kinds rows have)

  added_rows : (n : ℕ) (r : Result Rows Overflow) (more : Added) → with_rows_taken_in n r ≡ Ok more → r ≡ Ok more.rows
  added_rows n (Ok rows) more is = let same : record { rows = rows; taken_in = n } ≡ more = cc in ap (λ m. Ok m.rows) same
  added_rows n (Err e) more is = absurd (cc)

  pub child_fit : (plan : PlainPlan) (added more : Added) → IsSome (plan_kinds schemas plan) → OfPassed (FitRows schemas added.rows) plan → added_of_child plan added ≡ Ok more → FitRows schemas more.rows plan
  child_fit (Filter child test) added more typed have is = filtered_kinds child test added.rows more.rows typed have (added_rows _ _ more is)
  child_fit (Project child columns) added more typed have is = projected_kinds child columns added.rows more.rows typed have (added_rows _ _ more is)
  child_fit (Concat left right) added more typed have is =
      let same : added.rows ≡ more.rows = let h = added_rows (taken_in_of added) (Ok added.rows) more is in cc in
      subst (λ rows. HaveKinds (kinds_given schemas (Concat left right)) rows) same (subst (λ kinds. HaveKinds kinds added.rows) (concat_kinds_of left right typed).1 have)
  child_fit (Scan stream) added more typed have is = absurd have
  child_fit (Distinct child) added more typed have is = absurd have
  child_fit (Group child keys aggs) added more typed have is = absurd have
  child_fit (Join left right on) added more typed have is = absurd have
  child_fit (Order child keys) added more typed have is = absurd have

  pub distinct_fit : (plan : PlainPlan) (old : Made) (added more : Added) → OfDistinctChild (FitRows schemas added.rows) plan → added_of_distinct old added ≡ Ok more → FitRows schemas more.rows plan
  distinct_fit (Distinct child) old added more have is =
      let olds = both_ok (rows_of_kept old.kept) (λ olds. Ok (record { rows = new_rows olds added.rows; taken_in = taken_in_of added })) more is in
      let same : record { rows = new_rows olds.0 added.rows; taken_in = taken_in_of added } ≡ more = let h = olds.2 in cc in
      subst (λ rows. HaveKinds (kinds_given schemas child) rows) (ap (λ m. m.rows) same) (new_rows_kinds (kinds_given schemas child) olds.0 added.rows have)
  distinct_fit (Scan stream) old added more have is = absurd have
  distinct_fit (Filter child test) old added more have is = absurd have
  distinct_fit (Project child columns) old added more have is = absurd have
  distinct_fit (Group child keys aggs) old added more have is = absurd have
  distinct_fit (Join left right on) old added more have is = absurd have
  distinct_fit (Concat left right) old added more have is = absurd have
  distinct_fit (Order child keys) old added more have is = absurd have

  pub join_fit : (plan : PlainPlan) (added more : Added) (right : Made) → IsSome (plan_kinds schemas plan) → OfSides (λ first second. FitRows schemas added.rows first × IsFit schemas second right.kept) plan
      → added_of_join plan added right ≡ Ok more → FitRows schemas more.rows plan
  join_fit (Join first second on) added more right typed fit is =
      let rights = both_ok (rows_of_kept right.kept) (λ rights. Ok (record { rows = join_rows on added.rows rights; taken_in = taken_in_of added })) more is in
      let same : record { rows = join_rows on added.rows rights.0; taken_in = taken_in_of added } ≡ more = let h = rights.2 in cc in
      subst (λ rows. HaveKinds (kinds_given schemas (Join first second on)) rows) (join_kept 0 on added.rows rights.0 ∙ ap (λ m. m.rows) same)
      (without_positions (kinds_given schemas (Join first second on)) (tagged_from 0 on added.rows rights.0) (tagged_of 0 first second on added.rows rights.0 typed fit.0 (rows_fit schemas second right.kept rights.0 fit.1 rights.1)))
  join_fit (Scan stream) added more right typed fit is = absurd fit
  join_fit (Filter child test) added more right typed fit is = absurd fit
  join_fit (Project child columns) added more right typed fit is = absurd fit
  join_fit (Distinct child) added more right typed fit is = absurd fit
  join_fit (Group child keys aggs) added more right typed fit is = absurd fit
  join_fit (Concat left right2) added more right typed fit is = absurd fit
  join_fit (Order child keys) added more right typed fit is = absurd fit

  -- ---- grown results

  behind_form : (old : Kept) (r : Result Rows Overflow) (form : Kept) → behind old r ≡ Ok form → (given : Rows) × (r ≡ Ok given) × (kept.Rows (kept_rows old ++ given) ≡ form)
  behind_form old (Ok rows) form is = (rows, refl, cc)
  behind_form old (Err e) form is = absurd (cc)

  -- the old rows and what is given of the new ones
  rows_grown : (plan : PlainPlan) (old form : Kept) (r : Result Rows Overflow) → IsFormOf plan (kept.Rows []) → ((rows : Rows) → IsFormOf plan (kept.Rows rows)) → HaveKinds (kinds_given schemas plan) (kept_rows old)
      → ((given : Rows) → r ≡ Ok given → HaveKinds (kinds_given schemas plan) given) → behind old r ≡ Ok form → IsBounded plan form → IsFit schemas plan form
  rows_grown plan old form r first formed olds news is bounded =
      let of = behind_form old r form is in
      fit_rows schemas plan (kept_rows old ++ of.0) form (formed (kept_rows old ++ of.0)) (All-append (HasKinds (kinds_given schemas plan)) (kept_rows old) of.0 olds (news of.0 of.1)) of.2 bounded

  pub grown_fit : (plan : PlainPlan) (old made : Made) (added : Added) → IsSome (plan_kinds schemas plan) → IsFit schemas plan old.kept → OfGrown (FitRows schemas added.rows) plan
      → made_of_grown plan old added ≡ Ok made → IsBounded plan made.kept → IsFit schemas plan made.kept
  grown_fit (Filter child test) old made added typed fit have is bounded =
      rows_grown (Filter child test) old.kept made.kept (filter_rows test added.rows) tt (λ rows. tt) (old_rows schemas (Filter child test) old.kept fit.kinds_are)
      (λ given. filtered_kinds child test added.rows given typed have) (made_form _ _ made is) bounded
  grown_fit (Project child columns) old made added typed fit have is bounded =
      rows_grown (Project child columns) old.kept made.kept (project_rows columns added.rows) tt (λ rows. tt) (old_rows schemas (Project child columns) old.kept fit.kinds_are)
      (λ given. projected_kinds child columns added.rows given typed have) (made_form _ _ made is) bounded
  grown_fit (Distinct child) old made added typed fit have is bounded =
      rows_grown (Distinct child) old.kept made.kept (Ok (new_rows (kept_rows old.kept) added.rows)) tt (λ rows. tt) (old_rows schemas (Distinct child) old.kept fit.kinds_are)
      (λ given same. let e : new_rows (kept_rows old.kept) added.rows ≡ given = cc in subst (HaveKinds (kinds_given schemas child)) e (new_rows_kinds (kinds_given schemas child) (kept_rows old.kept) added.rows have)) (made_form _ _ made is) bounded
  grown_fit (Concat left right) old made added typed fit have is bounded =
      rows_grown (Concat left right) old.kept made.kept (Ok added.rows) tt (λ rows. tt) (old_rows schemas (Concat left right) old.kept fit.kinds_are)
      (λ given same. let e : added.rows ≡ given = cc in subst (HaveKinds (kinds_given schemas (Concat left right))) e (subst (λ kinds. HaveKinds kinds added.rows) (concat_kinds_of left right typed).1 have)) (made_form _ _ made is) bounded
  grown_fit (Order child keys) old made added typed fit have is bounded =
      let kinds = kinds_given schemas (Order child keys) in
      let same : kept.Rows (order_rows keys (kept_rows old.kept ++ order_rows keys added.rows)) ≡ made.kept = let h = made_form (kept_of_grown (Order child keys) old.kept added.rows) (old.taken_in + taken_in_of added) made is in cc in
      let k = input_kinds schemas child (order_kinds keys) typed in
      let as_input : (rows : Rows) → HaveKinds kinds rows → HaveKinds (kinds_given schemas child) rows = λ rows. subst (λ ks. HaveKinds ks rows) (given_as schemas (Order child keys) k.0 k.2 ∙ sym (ordered_same keys (kinds_given schemas child) k.0 k.1)) in
      let all = All-append (HasKinds kinds) (kept_rows old.kept) (order_rows keys added.rows) (old_rows schemas (Order child keys) old.kept fit.kinds_are) (ordered_kinds child keys added.rows typed have) in
      fit_rows schemas (Order child keys) (order_rows keys (kept_rows old.kept ++ order_rows keys added.rows)) made.kept tt
      (ordered_kinds child keys (kept_rows old.kept ++ order_rows keys added.rows) typed (as_input (kept_rows old.kept ++ order_rows keys added.rows) all)) same bounded
  grown_fit (Group child keys aggs) old made added typed fit have is bounded =
      let kinds = kinds_given schemas (Group child keys aggs) in
      let news = groups_of keys aggs added.rows in
      let same : kept.Groups (merged_groups aggs (kept_groups old.kept) news) ≡ made.kept = let h = made_form (kept_of_grown (Group child keys aggs) old.kept added.rows) (old.taken_in + taken_in_of added) made is in cc in
      record {
        form_is = subst (IsFormOf (Group child keys aggs)) same tt;
        kinds_are = subst (IsOfKinds kinds) same (merged_kinds kinds aggs news (such_groups kinds keys aggs added.rows (grouped_kinds child keys aggs added.rows typed have)) (kept_groups old.kept) (old_groups schemas child keys aggs old.kept fit));
        bounded = bounded;
      }
  grown_fit (Scan stream) old made added typed fit have is bounded = absurd have
  grown_fit (Join left right on) old made added typed fit have is bounded = absurd have

  -- ---- grown joins

  left_form : (plan : PlainPlan) (old right made : Made) (added : Added) → made_of_left plan old added right ≡ Ok made
      → (rights : Rows) × (rows_of_kept right.kept ≡ Ok rights) × (with_new_lefts (pairs_of plan) (left_length old.kept) (kept_tagged old.kept) added.rows rights ≡ made.kept)
  left_form plan old right made added is =
      let new : Rows → Made = λ rights. record { kept = with_new_lefts (pairs_of plan) (left_length old.kept) (kept_tagged old.kept) added.rows rights; taken_in = old.taken_in + taken_in_of added } in
      let of = both_ok (rows_of_kept right.kept) (λ rights. Ok (new rights)) made is in
      let same : new of.0 ≡ made = let h = of.2 in cc in
      (of.0, of.1, ap (λ m. m.kept) same)

  pub left_fit : (plan : PlainPlan) (old right made : Made) (added : Added) → IsSome (plan_kinds schemas plan) → IsFit schemas plan old.kept
      → OfSides (λ first second. FitRows schemas added.rows first × IsFit schemas second right.kept) plan → made_of_left plan old added right ≡ Ok made → IsBounded plan made.kept → IsFit schemas plan made.kept
  left_fit (Join first second on) old right made added typed fit have is bounded =
      let of = left_form (Join first second on) old right made added is in
      let kinds = kinds_given schemas (Join first second on) in
      let count = left_length old.kept in
      fit_tagged first second on (count + length added.rows) (kept_tagged old.kept ++ tagged_from count on added.rows of.0) made.kept
      (All-append (λ tagged. map kind_of tagged.row ≡ kinds) (kept_tagged old.kept) (tagged_from count on added.rows of.0) (old_tagged schemas first second on old.kept fit)
      (tagged_of count first second on added.rows of.0 typed have.0 (rows_fit schemas second right.kept of.0 have.1 of.1))) of.2 bounded
  left_fit (Scan stream) old right made added typed fit have is bounded = absurd have
  left_fit (Filter child test) old right made added typed fit have is bounded = absurd have
  left_fit (Project child columns) old right made added typed fit have is bounded = absurd have
  left_fit (Distinct child) old right made added typed fit have is bounded = absurd have
  left_fit (Group child keys aggs) old right made added typed fit have is bounded = absurd have
  left_fit (Concat l r) old right made added typed fit have is bounded = absurd have
  left_fit (Order child keys) old right made added typed fit have is bounded = absurd have

  merged_tagged : (first second : PlainPlan) (on : List (ℕ × ℕ)) (old : Kept) (lefts news : Rows) → IsSome (plan_kinds schemas (Join first second on)) → IsFit schemas (Join first second on) old → StandsInOrder old → FitRows schemas lefts first → FitRows schemas news second
      → AreTagged (kinds_given schemas (Join first second on)) (with_new_rights on (kept_tagged old) lefts news)
  merged_tagged first second on old lefts news typed fit ordered l r =
      of_merge (λ tagged. map kind_of tagged.row ≡ kinds_given schemas (Join first second on)) (kept_tagged old) (tagged_from 0 on lefts news) (old_ascends old ordered) (tagged_ascends 0 on lefts news)
      (old_tagged schemas first second on old fit) (tagged_of 0 first second on lefts news typed l r)

  right_form : (plan : PlainPlan) (old left made : Made) (added : Added) → made_of_right plan old left added ≡ Ok made
      → (lefts : Rows) × (rows_of_kept left.kept ≡ Ok lefts) × (kept.Tagged (left_length old.kept) (with_new_rights (pairs_of plan) (kept_tagged old.kept) lefts added.rows) ≡ made.kept)
  right_form plan old left made added is =
      let new : Rows → Made = λ lefts. record { kept = kept.Tagged (left_length old.kept) (with_new_rights (pairs_of plan) (kept_tagged old.kept) lefts added.rows); taken_in = old.taken_in + taken_in_of added } in
      let of = both_ok (rows_of_kept left.kept) (λ lefts. Ok (new lefts)) made is in
      let same : new of.0 ≡ made = let h = of.2 in cc in
      (of.0, of.1, ap (λ m. m.kept) same)

  pub right_fit : (plan : PlainPlan) (old left made : Made) (added : Added) → IsSome (plan_kinds schemas plan) → IsFit schemas plan old.kept → StandsInOrder old.kept
      → OfSides (λ first second. IsFit schemas first left.kept × FitRows schemas added.rows second) plan → made_of_right plan old left added ≡ Ok made → IsBounded plan made.kept → IsFit schemas plan made.kept
  right_fit (Join first second on) old left made added typed fit ordered have is bounded =
      let of = right_form (Join first second on) old left made added is in
      fit_tagged first second on (left_length old.kept) (with_new_rights on (kept_tagged old.kept) of.0 added.rows) made.kept
      (merged_tagged first second on old.kept of.0 added.rows typed fit ordered (rows_fit schemas first left.kept of.0 have.0 of.1) have.1) of.2 bounded
  right_fit (Scan stream) old left made added typed fit ordered have is bounded = absurd have
  right_fit (Filter child test) old left made added typed fit ordered have is bounded = absurd have
  right_fit (Project child columns) old left made added typed fit ordered have is bounded = absurd have
  right_fit (Distinct child) old left made added typed fit ordered have is bounded = absurd have
  right_fit (Group child keys aggs) old left made added typed fit ordered have is bounded = absurd have
  right_fit (Concat l r) old left made added typed fit ordered have is bounded = absurd have
  right_fit (Order child keys) old left made added typed fit ordered have is bounded = absurd have

  both_form : (plan : PlainPlan) (old old_left right made : Made) (right_added left_added : Added) → made_of_both plan old old_left right_added left_added right ≡ Ok made
      → (lefts rights : Rows) × (rows_of_kept old_left.kept ≡ Ok lefts) × (rows_of_kept right.kept ≡ Ok rights) × (with_both (pairs_of plan) old.kept lefts right_added.rows left_added.rows rights ≡ made.kept)
  both_form plan old old_left right made right_added left_added is =
      let new : Rows → Rows → Made = λ lefts rights. record { kept = with_both (pairs_of plan) old.kept lefts right_added.rows left_added.rows rights; taken_in = old.taken_in + (taken_in_of left_added + taken_in_of right_added) } in
      let l = both_ok (rows_of_kept old_left.kept) (λ lefts. rows_of_kept right.kept >>= λ rights. Ok (new lefts rights)) made is in
      let r = both_ok (rows_of_kept right.kept) (λ rights. Ok (new l.0 rights)) made l.2 in
      let same : new l.0 r.0 ≡ made = let h = r.2 in cc in
      (l.0, r.0, l.1, r.1, ap (λ m. m.kept) same)

  pub both_fit : (plan : PlainPlan) (old old_left right made : Made) (right_added left_added : Added) → IsSome (plan_kinds schemas plan) → IsFit schemas plan old.kept → StandsInOrder old.kept
      → OfSides (λ first second. IsFit schemas first old_left.kept × FitRows schemas right_added.rows second × FitRows schemas left_added.rows first × IsFit schemas second right.kept) plan
      → made_of_both plan old old_left right_added left_added right ≡ Ok made → IsBounded plan made.kept → IsFit schemas plan made.kept
  both_fit (Join first second on) old old_left right made right_added left_added typed fit ordered have is bounded =
      let of = both_form (Join first second on) old old_left right made right_added left_added is in
      let kinds = kinds_given schemas (Join first second on) in
      let count = left_length old.kept in
      let tagged = with_new_rights on (kept_tagged old.kept) of.0 right_added.rows in
      fit_tagged first second on (count + length left_added.rows) (tagged ++ tagged_from count on left_added.rows of.1) made.kept
      (All-append (λ tagged. map kind_of tagged.row ≡ kinds) tagged (tagged_from count on left_added.rows of.1)
      (merged_tagged first second on old.kept of.0 right_added.rows typed fit ordered (rows_fit schemas first old_left.kept of.0 have.0 of.2) have.1)
      (tagged_of count first second on left_added.rows of.1 typed have.2 (rows_fit schemas second right.kept of.1 have.3 of.3))) of.4 bounded
  both_fit (Scan stream) old old_left right made right_added left_added typed fit ordered have is bounded = absurd have
  both_fit (Filter child test) old old_left right made right_added left_added typed fit ordered have is bounded = absurd have
  both_fit (Project child columns) old old_left right made right_added left_added typed fit ordered have is bounded = absurd have
  both_fit (Distinct child) old old_left right made right_added left_added typed fit ordered have is bounded = absurd have
  both_fit (Group child keys aggs) old old_left right made right_added left_added typed fit ordered have is bounded = absurd have
  both_fit (Concat l r) old old_left right made right_added left_added typed fit ordered have is bounded = absurd have
  both_fit (Order child keys) old old_left right made right_added left_added typed fit ordered have is bounded = absurd have
