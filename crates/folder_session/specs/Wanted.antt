-- What a run or a fetch works off.
use Rattle.std.specs.Prelude.{◌≡◌, ◌⊎◌, Option, None, Some, Result, Ok, Err}
use Rattle.plan_core.specs.PlainPlan.{PlainPlan}
use Rattle.plan_core.specs.TypedPlan.{TypedPlan}
use Rattle.estimator.specs.Cuts.{Cuts}
use Rattle.catalog_types.specs.declared.program.Program.{Program}
use Rattle.catalog_core.specs.Table.{Table, FitsProgram}
use Rattle.planning.specs.Fetching.{IsFetching}
use Rattle.planning.specs.Running.{Target, IsPlanned, running}
use Rattle.script_text.specs.declared.answer.Refusal.{Refusal}
use Rattle.script_text.specs.declared.answer.Refusal.TheVariants as refusal
use Rattle.script_text.specs.declared.item.Command.{Command}
use Rattle.script_text.specs.declared.item.Command.TheVariants as command
use Rattle.folder_session.specs.declared.wanting.Purpose.{Purpose}
use Rattle.folder_session.specs.declared.wanting.Purpose.TheVariants as purpose
use Rattle.folder_session.specs.declared.wanting.Wanted.{Wanted}

-- the cut that a plan is worked off at
abbrev pub cuts_for : Purpose → Cuts
cuts_for (purpose.Run program) = program.cuts
cuts_for (purpose.Fetch cuts) = cuts

-- the program that it is stored as, if it is
abbrev pub program_for : Purpose → Option Program
program_for (purpose.Run program) = Some program
program_for (purpose.Fetch cuts) = None

-- the plan that has this typing, at a cut
abbrev pub target_at : TypedPlan → Cuts → Target
target_at typed cuts = record { plan = typed.plan; cuts = cuts }

-- the plan is planned over the table at its cut, and the program fits it
pub record CanWork (t : Table) (wanted : Wanted) : Type 0 where
  pub planned : IsPlanned t (target_at wanted.typed (cuts_for wanted.purpose)) wanted.typed (cuts_for wanted.purpose)
  pub fits : FitsProgram (program_for wanted.purpose) t

-- the command is to work off this plan for this purpose
abbrev pub IsWorkOf : Table → Command → PlainPlan → Purpose → Type 0
IsWorkOf t (command.Run name tree) plan (purpose.Run program) = running t name tree ≡ Ok (record { plan = plan; program = program })
IsWorkOf t (command.Fetch name as_run) plan (purpose.Fetch cuts) = IsFetching t name as_run (Ok (record { plan = plan; cuts = cuts }))
IsWorkOf t _ plan _ = ⊥

-- it is refused so before its work
abbrev pub IsNoWorkOf : Table → Command → Refusal → Type 0
IsNoWorkOf t (command.Run name tree) why = (running t name tree ≡ Err why) ⊎ (why ≡ refusal.Memory)
IsNoWorkOf t (command.Fetch name as_run) why = IsFetching t name as_run (Err why) ⊎ (why ≡ refusal.Memory)
IsNoWorkOf t _ why = ⊥

-- what a run or a fetch works off, or why it is refused before
abbrev pub IsWanted : Table → Command → Result Wanted Refusal → Type 0
IsWanted t given_to (Ok wanted) = IsWorkOf t given_to wanted.typed.plan wanted.purpose
IsWanted t given_to (Err why) = IsNoWorkOf t given_to why
