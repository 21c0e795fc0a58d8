-- What is held of the rows so far, in the form in which they are gathered.
use Rattle.std.specs.Prelude.{◌≡◌, ℕ, ◌+◌, ◌<◌, ◌≤◌, ◌++◌, length, Result, Ok, Err}
use Rattle.scalar_ops.specs.Meaning.{overflow}
use Rattle.rows_core.specs.declared.overflow.Overflow.{Overflow}
use Rattle.row_blob.specs.declared.kept.Kept.{Kept}
use Rattle.row_blob.specs.declared.kept.Kept.TheVariants as kept
use Rattle.plan_core.specs.Columns.{Rows}
use Rattle.plan_core.specs.Distinct.{distinct_rows}
use Rattle.plan_core.specs.PlainPlan.{PlainPlan, Scan, Filter, Project, Distinct, Group}
use Rattle.plan_laws.specs.GroupBounds.{AreGroups}
use Rattle.plan_laws.specs.GrowthOfGroups.{groups_of}
use Rattle.growth_laws.specs.Growth.{Made}
use Rattle.group_fold.specs.Numbers.{HaveNumbers}
use Rattle.result_ops.specs.Bounds.{limit}
use Rattle.gathering.specs.declared.held.Held.{Held}
use Rattle.gathering.specs.declared.held.Held.TheVariants as held
use Rattle.gathering.specs.declared.progress.Going.{Going}
use Rattle.result_ops.specs.declared.stop.Stop.{Stop}
use Rattle.result_ops.specs.declared.stop.Stop.TheVariants as stop

-- the filters and projections that each row goes through by itself
abbrev pub chain_of : PlainPlan → PlainPlan
chain_of (Distinct child) = child
chain_of (Group child keys aggs) = child
chain_of plan = plan

-- what the plan keeps of the rows that its chain gives
abbrev pub kept_of_chain : PlainPlan → Rows → Kept
kept_of_chain (Distinct child) rows = kept.Rows (distinct_rows rows)
kept_of_chain (Group child keys aggs) rows = kept.Groups (groups_of keys aggs rows)
kept_of_chain _ rows = kept.Rows rows

abbrev pub kept_in : Held → Kept
kept_in (held.Rows rows) = kept.Rows rows.items
kept_in (held.Distinct seen) = kept.Rows seen
kept_in (held.Groups groups) = kept.Groups groups

-- it is held in the plan's form
abbrev pub IsFormFor : PlainPlan → Held → Type 0
IsFormFor (Scan stream) (held.Rows rows) = Unit {0}
IsFormFor (Filter child test) (held.Rows rows) = Unit {0}
IsFormFor (Project child columns) (held.Rows rows) = Unit {0}
IsFormFor (Distinct child) (held.Distinct seen) = Unit {0}
IsFormFor (Group child keys aggs) (held.Groups groups) = Unit {0}
IsFormFor _ _ = ⊥

-- the rows that a grouping takes in are at most so many
abbrev pub AreWithin : PlainPlan → Rows → ℕ → Type 0
AreWithin (Group child keys aggs) rows most = length rows ≤ most
AreWithin _ rows most = Unit {0}

-- and their numbers can be added up
abbrev pub AreSummed : PlainPlan → Rows → ℕ → Type 0
AreSummed (Group child keys aggs) rows most = HaveNumbers aggs rows × (length rows ≤ most)
AreSummed _ rows most = Unit {0}

-- groups can be merged with further ones
abbrev pub AreMergeable : PlainPlan → Held → Type 0
AreMergeable (Group child keys aggs) (held.Groups groups) = AreGroups aggs groups
AreMergeable _ _ = Unit {0}

-- it is what the plan keeps of some rows
abbrev pub IsHeld : PlainPlan → ℕ → Held → Type 0
IsHeld plan taken_in held = (rows : Rows) × (kept_in held ≡ kept_of_chain plan rows) × AreSummed plan rows taken_in

abbrev pub IsSound : PlainPlan → Result Going Stop → Type 0
IsSound plan (Ok going) = IsFormFor plan going.held × IsHeld plan going.taken_in going.held × (going.taken_in < limit)
IsSound plan (Err s) = Unit {0}

abbrev pub came_of : Result Going Stop → Result Made Stop
came_of (Ok going) = Ok (record { kept = kept_in going.held; taken_in = going.taken_in })
came_of (Err s) = Err s

-- what is given of all rows so far is what has come of them
abbrev pub Follows : Result Made Overflow → Result Made Stop → Type 0
Follows given (Ok made) = given ≡ Ok made
Follows given (Err stop.Machine) = (made : Made) × (given ≡ Ok made) × (limit ≤ made.taken_in)
Follows given (Err stop.Overflow) = given ≡ Err overflow

-- what the plan makes of the rows that its chain gives, where so many are taken in
abbrev pub made_of_chain : PlainPlan → Rows → ℕ → Made
made_of_chain plan rows taken_in = record { kept = kept_of_chain plan rows; taken_in = taken_in }

-- of whatever rows it is what the plan keeps, with the further ones it is what the plan keeps of both
abbrev pub Joins : PlainPlan → Held → Held → Rows → Type 0
Joins plan old new further = (rows : Rows) → kept_in old ≡ kept_of_chain plan rows → kept_in new ≡ kept_of_chain plan (rows ++ further)

-- and so for their numbers
abbrev pub Sums : PlainPlan → Rows → Type 0
Sums plan further =
    (rows : Rows) (taken_in more : ℕ) → AreSummed plan rows taken_in → AreWithin plan further more → AreSummed plan (rows ++ further) (taken_in + more)
