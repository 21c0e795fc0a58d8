-- What each node of a rewriting makes of what its parts have made.
use Rattle.std.specs.Prelude.{ℕ, ◌+◌, ◌-◌, List, [], ◌++◌, length, Result, Ok}
use Rattle.rows_core.specs.declared.overflow.Overflow.{Overflow}
use Rattle.row_blob.specs.declared.kept.GroupRow.{GroupRow}
use Rattle.row_blob.specs.declared.kept.TaggedRow.{TaggedRow}
use Rattle.row_blob.specs.declared.kept.Kept.{Kept}
use Rattle.row_blob.specs.declared.kept.Kept.TheVariants as kept
use Rattle.plan_core.specs.Columns.{Rows}
use Rattle.plan_core.specs.Distinct.{distinct_rows}
use Rattle.plan_core.specs.ExpressionValue.{◌>>=◌}
use Rattle.plan_core.specs.Filter.{filter_rows}
use Rattle.plan_core.specs.Join.{join_rows}
use Rattle.plan_core.specs.PlainPlan.{PlainPlan, Filter, Project, Distinct, Group, Join, Concat, Order}
use Rattle.plan_core.specs.PlanMeaning.{first_list}
use Rattle.plan_core.specs.Project.{project_rows}
use Rattle.plan_core.specs.StableOrder.{order_rows}
use Rattle.plan_laws.specs.GrowthOfGroups.{groups_of, merged_groups}
use Rattle.plan_laws.specs.GrowthOfJoins.{merge_by_position}
use Rattle.plan_laws.specs.GrowthOfRows.{new_rows}
use Rattle.plan_laws.specs.KeptForm.{tagged_from, rows_of_kept}
use Rattle.growth_laws.specs.Growth.{Added, Made}
use Rattle.growth_laws.specs.KeptResults.{KeptResult}

-- ---- what is kept

abbrev pub kept_rows : Kept → Rows
kept_rows (kept.Rows rows) = rows
kept_rows _ = []

abbrev pub kept_groups : Kept → List GroupRow
kept_groups (kept.Groups groups) = groups
kept_groups _ = []

abbrev pub kept_tagged : Kept → List TaggedRow
kept_tagged (kept.Tagged left rows) = rows
kept_tagged _ = []

abbrev pub left_length : Kept → ℕ
left_length (kept.Tagged left rows) = left
left_length _ = 0

-- groups of a grouping, tagged rows of a join, and rows of every other plan
abbrev pub IsFormOf : PlainPlan → Kept → Type 0
IsFormOf (Group child keys aggs) (kept.Groups groups) = Unit {0}
IsFormOf (Group child keys aggs) _ = ⊥
IsFormOf (Join left right on) (kept.Tagged left_rows rows) = Unit {0}
IsFormOf (Join left right on) _ = ⊥
IsFormOf plan (kept.Rows rows) = Unit {0}
IsFormOf plan _ = ⊥

abbrev pub as_rows : Result Rows Overflow → Result Kept Overflow
as_rows given = do
  rows ← given
  Ok (kept.Rows rows)

abbrev pub with_taken_in : ℕ → Result Kept Overflow → Result Made Overflow
with_taken_in taken_in given = do
  form ← given
  Ok (record { kept = form; taken_in = taken_in })

abbrev pub with_rows_taken_in : ℕ → Result Rows Overflow → Result Added Overflow
with_rows_taken_in taken_in given = do
  rows ← given
  Ok (record { rows = rows; taken_in = taken_in })

-- ---- a result that is read

-- a machine time is 1 and the rows taken in
abbrev pub made_before : KeptResult → Made
made_before result = record { kept = result.form; taken_in = result.machine - 1 }

-- ---- a node that is computed

-- the rows of the one extent list of a scan
abbrev pub scanned : List Rows → Made
scanned lists = record { kept = kept.Rows (first_list lists); taken_in = 0 }

-- what the operator keeps of the rows of its input
abbrev pub kept_of_one : PlainPlan → Rows → Result Kept Overflow
kept_of_one (Filter child test) rows = as_rows (filter_rows test rows)
kept_of_one (Project child columns) rows = as_rows (project_rows columns rows)
kept_of_one (Distinct child) rows = Ok (kept.Rows (distinct_rows rows))
kept_of_one (Group child keys aggs) rows = Ok (kept.Groups (groups_of keys aggs rows))
kept_of_one (Order child keys) rows = Ok (kept.Rows (order_rows keys rows))
kept_of_one _ rows = Ok (kept.Rows [])

abbrev pub made_of_one : PlainPlan → Made → Result Made Overflow
made_of_one plan child = do
  rows ← rows_of_kept child.kept
  with_taken_in (length rows + child.taken_in) (kept_of_one plan rows)

abbrev pub computed_one : PlainPlan → Result Made Overflow → Result Made Overflow
computed_one plan given = do
  child ← given
  made_of_one plan child

-- what it keeps of the rows of its two inputs
abbrev pub kept_of_two : PlainPlan → Rows → Rows → Kept
kept_of_two (Join left right on) lefts rights = kept.Tagged (length lefts) (tagged_from 0 on lefts rights)
kept_of_two (Concat left right) lefts rights = kept.Rows (lefts ++ rights)
kept_of_two _ lefts rights = kept.Rows []

abbrev pub made_of_two : PlainPlan → Made → Made → Result Made Overflow
made_of_two plan left right = do
  lefts ← rows_of_kept left.kept
  rights ← rows_of_kept right.kept
  Ok (record { kept = kept_of_two plan lefts rights; taken_in = length lefts + left.taken_in + (length rights + right.taken_in) })

abbrev pub computed_two : PlainPlan → Result Made Overflow → Result Made Overflow → Result Made Overflow
computed_two plan first second = do
  left ← first
  right ← second
  made_of_two plan left right

-- ---- a delta

abbrev pub nothing_added : Added
nothing_added = record { rows = []; taken_in = 0 }

-- of a scan, the rows of its new extents
abbrev pub new_extents : List Rows → Added
new_extents lists = record { rows = first_list lists; taken_in = 0 }

-- an operator takes in the rows of its input
abbrev pub taken_in_of : Added → ℕ
taken_in_of added = length added.rows + added.taken_in

abbrev pub passed_on : PlainPlan → Rows → Result Rows Overflow
passed_on (Filter child test) rows = filter_rows test rows
passed_on (Project child columns) rows = project_rows columns rows
passed_on _ rows = Ok rows

abbrev pub added_of_child : PlainPlan → Added → Result Added Overflow
added_of_child plan added = with_rows_taken_in (taken_in_of added) (passed_on plan added.rows)

abbrev pub passed_delta : PlainPlan → Result Added Overflow → Result Added Overflow
passed_delta plan given = do
  added ← given
  added_of_child plan added

-- what the old result lacks, each once
abbrev pub added_of_distinct : Made → Added → Result Added Overflow
added_of_distinct old added = do
  olds ← rows_of_kept old.kept
  Ok (record { rows = new_rows olds added.rows; taken_in = taken_in_of added })

abbrev pub distinct_delta : Result Made Overflow → Result Added Overflow → Result Added Overflow
distinct_delta made given = do
  old ← made
  added ← given
  added_of_distinct old added

-- the pairs of columns that a join compares
abbrev pub pairs_of : PlainPlan → List (ℕ × ℕ)
pairs_of (Join left right on) = on
pairs_of _ = []

-- the new left rows with the right ones
abbrev pub added_of_join : PlainPlan → Added → Made → Result Added Overflow
added_of_join plan added other = do
  rights ← rows_of_kept other.kept
  Ok (record { rows = join_rows (pairs_of plan) added.rows rights; taken_in = taken_in_of added })

abbrev pub join_delta : PlainPlan → Result Added Overflow → Result Made Overflow → Result Added Overflow
join_delta plan given made = do
  added ← given
  right ← made
  added_of_join plan added right

-- ---- a result that has grown

-- the old rows, and then what the operator gives of the new ones
abbrev pub behind : Kept → Result Rows Overflow → Result Kept Overflow
behind old given = do
  rows ← given
  Ok (kept.Rows (kept_rows old ++ rows))

-- what the operator keeps of the old result and the new rows of its input, or of the right one of a concatenation
abbrev pub kept_of_grown : PlainPlan → Kept → Rows → Result Kept Overflow
kept_of_grown (Filter child test) old rows = behind old (filter_rows test rows)
kept_of_grown (Project child columns) old rows = behind old (project_rows columns rows)
kept_of_grown (Distinct child) old rows = behind old (Ok (new_rows (kept_rows old) rows))
kept_of_grown (Group child keys aggs) old rows = Ok (kept.Groups (merged_groups aggs (kept_groups old) (groups_of keys aggs rows)))
kept_of_grown (Concat left right) old rows = behind old (Ok rows)
kept_of_grown (Order child keys) old rows = Ok (kept.Rows (order_rows keys (kept_rows old ++ order_rows keys rows)))
kept_of_grown _ old rows = Ok old

abbrev pub made_of_grown : PlainPlan → Made → Added → Result Made Overflow
made_of_grown plan old added = with_taken_in (old.taken_in + taken_in_of added) (kept_of_grown plan old.kept added.rows)

abbrev pub grown_one : PlainPlan → Made → Result Added Overflow → Result Made Overflow
grown_one plan old given = do
  added ← given
  made_of_grown plan old added

-- ---- a join that has grown

-- the new left rows with the right ones, counted on from the old left ones and behind them
abbrev pub with_new_lefts : List (ℕ × ℕ) → ℕ → List TaggedRow → Rows → Rows → Kept
with_new_lefts on first tagged news rights = kept.Tagged (first + length news) (tagged ++ tagged_from first on news rights)

-- the left rows with the new right ones, each behind those of the same left row
abbrev pub with_new_rights : List (ℕ × ℕ) → List TaggedRow → Rows → Rows → List TaggedRow
with_new_rights on tagged lefts news = merge_by_position tagged (tagged_from 0 on lefts news)

-- the old left rows with the new right ones, and then the new left rows with all right ones
abbrev pub with_both : List (ℕ × ℕ) → Kept → Rows → Rows → Rows → Rows → Kept
with_both on old lefts new_rights new_lefts rights =
    with_new_lefts on (left_length old) (with_new_rights on (kept_tagged old) lefts new_rights) new_lefts rights

abbrev pub made_of_left : PlainPlan → Made → Added → Made → Result Made Overflow
made_of_left plan old added other = do
  rights ← rows_of_kept other.kept
  Ok (record {
    kept = with_new_lefts (pairs_of plan) (left_length old.kept) (kept_tagged old.kept) added.rows rights;
    taken_in = old.taken_in + taken_in_of added;
  })

abbrev pub grown_left : PlainPlan → Made → Result Added Overflow → Result Made Overflow → Result Made Overflow
grown_left plan old given made = do
  added ← given
  right ← made
  made_of_left plan old added right

abbrev pub made_of_right : PlainPlan → Made → Made → Added → Result Made Overflow
made_of_right plan old other added = do
  lefts ← rows_of_kept other.kept
  Ok (record {
    kept = kept.Tagged (left_length old.kept) (with_new_rights (pairs_of plan) (kept_tagged old.kept) lefts added.rows);
    taken_in = old.taken_in + taken_in_of added;
  })

abbrev pub grown_right : PlainPlan → Made → Result Made Overflow → Result Added Overflow → Result Made Overflow
grown_right plan old made given = do
  left ← made
  added ← given
  made_of_right plan old left added

abbrev pub made_of_both : PlainPlan → Made → Made → Added → Added → Made → Result Made Overflow
made_of_both plan old old_left right_added left_added other = do
  lefts ← rows_of_kept old_left.kept
  rights ← rows_of_kept other.kept
  Ok (record {
    kept = with_both (pairs_of plan) old.kept lefts right_added.rows left_added.rows rights;
    taken_in = old.taken_in + (taken_in_of left_added + taken_in_of right_added);
  })

abbrev pub grown_both :
    PlainPlan → Made → Result Made Overflow → Result Added Overflow → Result Added Overflow → Result Made Overflow → Result Made Overflow
grown_both plan old first right_given left_given second = do
  old_left ← first
  right_added ← right_given
  left_added ← left_given
  right ← second
  made_of_both plan old old_left right_added left_added right
