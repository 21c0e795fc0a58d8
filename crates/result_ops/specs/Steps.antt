-- What a step over results answers.
use Rattle.std.specs.Prelude.{◌≡◌, ℕ, ◌+◌, ◌<◌, ◌≤◌, ◌⊎◌, List, length, Result, Ok, Err}
use Rattle.rows_core.specs.declared.overflow.Overflow.{Overflow}
use Rattle.scalar_ops.specs.Meaning.{overflow}
use Rattle.row_blob.specs.declared.kept.GroupRow.{GroupRow}
use Rattle.row_blob.specs.declared.kept.Kept.{Kept}
use Rattle.row_blob.specs.declared.kept.Kept.TheVariants as kept
use Rattle.plan_core.specs.declared.agg.Agg.{Agg}
use Rattle.plan_core.specs.declared.refusal.EvRefusal.{EvRefusal}
use Rattle.plan_core.specs.declared.refusal.EvRefusal.TheVariants as value
use Rattle.plan_core.specs.Columns.{Rows}
use Rattle.plan_core.specs.MachineTime.{row_count}
use Rattle.plan_core.specs.PlainPlan.{PlainPlan}
use Rattle.plan_laws.specs.GroupBounds.{AreGroups, HaveAverages}
use Rattle.plan_laws.specs.KeptForm.{rows_of_kept}
use Rattle.growth_laws.specs.Growth as laws
use Rattle.result_ops.specs.declared.made.Made.{Made}
use Rattle.result_ops.specs.declared.made.Added.{Added}
use Rattle.result_ops.specs.declared.made.Input.{Input}
use Rattle.result_ops.specs.declared.refusal.MakeRefusal.{MakeRefusal}
use Rattle.result_ops.specs.declared.refusal.MakeRefusal.TheVariants as refusal
use Rattle.result_ops.specs.Bounds.{limit, IsBounded, PassesBounds}

-- as the laws of growth see them
abbrev pub made_of : Made → laws.Made
made_of made = record { kept = made.kept; taken_in = made.taken_in }

abbrev pub added_of : Added → laws.Added
added_of added = record { rows = added.rows.items; taken_in = added.taken_in }

abbrev pub refusal_of : EvRefusal → MakeRefusal
refusal_of value.Overflow = refusal.Overflow
refusal_of value.Memory = refusal.Memory

-- what is given was made of the plan, with a machine time within the limit and within the bounds, or is the overflow;
-- `Machine` comes only where `passes` holds;
-- want of memory may be answered in place of any answer
abbrev pub Makes : Type 0 → PlainPlan → Result laws.Made Overflow → Result Made MakeRefusal → Type 0
Makes passes plan given (Ok made) = (given ≡ Ok (made_of made)) × (made.taken_in < limit) × IsBounded plan made.kept
Makes passes plan given (Err refusal.Overflow) = given ≡ Err overflow
Makes passes plan given (Err refusal.Machine) = passes
Makes passes plan given (Err refusal.Memory) = Unit {0}

-- the same where what is made may lie outside of the bounds, by growing
abbrev pub MakesGrown : ℕ → PlainPlan → Result laws.Made Overflow → Result Made MakeRefusal → Type 0
MakesGrown taken_in plan given = Makes ((limit ≤ taken_in) ⊎ PassesBounds plan given) plan given

abbrev pub Adds : Type 0 → Result laws.Added Overflow → Result Added MakeRefusal → Type 0
Adds passes given (Ok added) = (given ≡ Ok (added_of added)) × (added.taken_in < limit)
Adds passes given (Err refusal.Overflow) = given ≡ Err overflow
Adds passes given (Err refusal.Machine) = passes
Adds passes given (Err refusal.Memory) = Unit {0}

-- an operator that has taken its input in keeps this
abbrev pub Keeps : ℕ → Result Kept Overflow → Result Made MakeRefusal → Type 0
Keeps taken_in given (Ok made) = (given ≡ Ok made.kept) × (made.taken_in ≡ taken_in)
Keeps taken_in given (Err refusal.Overflow) = given ≡ Err overflow
Keeps taken_in given (Err refusal.Machine) = ⊥
Keeps taken_in given (Err refusal.Memory) = Unit {0}

-- ---- how many rows are taken in; an input that is an overflow counts as none, as in a machine time

-- by an operator of one input, with those that were taken in before
abbrev pub taken_of_one : laws.Made → ℕ
taken_of_one child = row_count (rows_of_kept child.kept) + child.taken_in

abbrev pub taken_of_two : laws.Made → laws.Made → ℕ
taken_of_two left right = taken_of_one left + taken_of_one right

-- the rows of a result are taken in
abbrev pub Takes : laws.Made → Result Input MakeRefusal → Type 0
Takes made (Ok input) = (rows_of_kept made.kept ≡ Ok input.rows.items) × (input.taken_in ≡ taken_of_one made) × (input.taken_in < limit)
Takes made (Err refusal.Overflow) = rows_of_kept made.kept ≡ Err overflow
Takes made (Err refusal.Machine) = limit ≤ taken_of_one made
Takes made (Err refusal.Memory) = Unit {0}

-- these rows are, after so many others
abbrev pub Counts : Rows → ℕ → Result Input MakeRefusal → Type 0
Counts rows before (Ok input) = (input.rows.items ≡ rows) × (input.taken_in ≡ length rows + before) × (input.taken_in < limit)
Counts rows before (Err refusal.Machine) = limit ≤ length rows + before
Counts rows before (Err _) = ⊥

-- an operator takes both inputs in and keeps this
abbrev pub KeepsBoth : Input → Input → Kept → Result Made MakeRefusal → Type 0
KeepsBoth lefts rights form (Ok made) =
    (made.kept ≡ form) × (made.taken_in ≡ lefts.taken_in + rights.taken_in) × (made.taken_in < limit)
KeepsBoth lefts rights form (Err refusal.Machine) = limit ≤ lefts.taken_in + rights.taken_in
KeepsBoth lefts rights form (Err refusal.Overflow) = ⊥
KeepsBoth lefts rights form (Err refusal.Memory) = Unit {0}

-- the same with the rows that came, after those of the earlier result
abbrev pub CountsGrown : Added → ℕ → Result Input MakeRefusal → Type 0
CountsGrown added before = Counts added.rows.items (before + added.taken_in)

-- groups are merged, and lie within the bounds
abbrev pub Merges : ℕ → List Agg → List GroupRow → Result Made MakeRefusal → Type 0
Merges taken_in aggs groups (Ok made) =
    (made.kept ≡ kept.Groups groups) × (made.taken_in ≡ taken_in) × AreGroups aggs groups × HaveAverages groups
Merges taken_in aggs groups (Err refusal.Machine) = AreGroups aggs groups × HaveAverages groups → ⊥
Merges taken_in aggs groups (Err refusal.Overflow) = ⊥
Merges taken_in aggs groups (Err refusal.Memory) = Unit {0}

-- so many left rows have positions, and this is kept
abbrev pub Positions : Kept → ℕ → Result Kept MakeRefusal → Type 0
Positions form count (Ok given) = (given ≡ form) × (count ≤ limit)
Positions form count (Err refusal.Machine) = limit < count
Positions form count (Err refusal.Overflow) = ⊥
Positions form count (Err refusal.Memory) = Unit {0}
