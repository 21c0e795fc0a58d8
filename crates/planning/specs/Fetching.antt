-- Which plan a fetch is of and at which cut, or why it is refused before its work.
use Rattle.std.specs.Prelude.{◌≡◌, ℕ, nat_le, Bool, if◌then◌else◌, List, Option, None, Some, Result, Ok, Err}
use Rattle.rows_core.specs.declared.cut.Cut.{Cut}
use Rattle.plan_core.specs.PlainPlan.{PlainPlan}
use Rattle.catalog_types.specs.declared.program.Program.{Program}
use Rattle.catalog_types.specs.declared.snapshot.StreamState.{StreamState}
use Rattle.catalog_core.specs.Programs.{program_named, IsPlanOf}
use Rattle.catalog_core.specs.Table.{Table}
use Rattle.rows_core.specs.Limits.{most_ticks}
use Rattle.script_text.specs.declared.answer.LimitKind.TheVariants as limit
use Rattle.script_text.specs.declared.answer.Refusal.{Refusal}
use Rattle.script_text.specs.declared.answer.Refusal.TheVariants.{Limit, Unknown}
use Rattle.planning.specs.Running.{Target, cuts_of}

-- the cut of the program's last run, or all extents
abbrev pub fetched_cuts : Bool → List StreamState → Program → PlainPlan → List Cut
fetched_cuts as_run streams program plan = if as_run then program.cuts else cuts_of streams plan

-- a fetch is counted among the recorded commands
abbrev pub counted : Table → Target → Result Target Refusal
counted t target = if nat_le most_ticks t.tick then Err (Limit limit.Commands) else Ok target

-- a fetch of the plan that the program's text is
pub record IsFetchOf (t : Table) (as_run : Bool) (program : Program) (planned : Result Target Refusal) : Type 0 where
  pub plan : PlainPlan
  pub is_plan : IsPlanOf t.streams program.text plan
  pub planned_is : planned ≡ counted t (record { plan = plan; cuts = fetched_cuts as_run t.streams program plan })

abbrev pub IsFetchOfAny : Table → List ℕ → Bool → Option Program → Result Target Refusal → Type 0
IsFetchOfAny t name as_run (Some program) planned = IsFetchOf t as_run program planned
IsFetchOfAny t name as_run None planned = planned ≡ Err (Unknown name)

-- a fetch of the plan that goes by the name, if one does
abbrev pub IsFetching : Table → List ℕ → Bool → Result Target Refusal → Type 0
IsFetching t name as_run planned = IsFetchOfAny t name as_run (program_named t.programs name) planned
