-- The bytes that a command takes of the files of a state.
use Rattle.std.specs.Prelude.{◌≡◌, ◌⊎◌, ℕ, Bool, List, Result, Ok, Err, ⊤}
use Rattle.outside_traits.specs.View.{Counts}
use Rattle.plan_core.specs.PlainPlan.{PlainPlan}
use Rattle.estimator.specs.Cuts.{Cuts}
use Rattle.catalog_core.specs.Table.{Table}
use Rattle.planning.specs.Fetching.{IsFetching}
use Rattle.planning.specs.Running.{Run, Target, running}
use Rattle.script_text.specs.declared.answer.Answer.{Answer}
use Rattle.script_text.specs.declared.answer.Answer.TheVariants as answer
use Rattle.script_text.specs.declared.answer.Refusal.{Refusal}
use Rattle.script_text.specs.declared.item.Command.{Command}
use Rattle.script_text.specs.declared.item.Command.TheVariants as command
use Rattle.work_run.specs.Ends.{CountsRead}
use Rattle.work_turns.specs.Turns.{TookInTurns}

-- no byte is taken
abbrev pub TakesNone : Counts → Counts → Type 0
TakesNone old new = new.taken ≡ old.taken

-- at most as many are as the files have that the rewritings name which are taken of a plan at a cut, one after another
abbrev pub TakesInTurns : Table → PlainPlan → Cuts → Counts → Counts → Type 0
TakesInTurns t plan cuts old new = (form : PlainPlan) × TookInTurns t plan form cuts old new

-- a run that is refused before its work reads none
abbrev pub TakesForRun : Table → Result Run Refusal → Counts → Counts → Type 0
TakesForRun t (Ok run) old new = TakesNone old new ⊎ TakesInTurns t run.plan run.program.cuts old new
TakesForRun t (Err why) old new = TakesNone old new

-- nor does a fetch
abbrev pub TakesForFetch : Table → List ℕ → Bool → Counts → Counts → Type 0
TakesForFetch t name as_run old new =
    TakesNone old new ⊎ ((target : Target) × IsFetching t name as_run (Ok target) × TakesInTurns t target.plan target.cuts old new)

-- only runs and fetches read files
abbrev pub TakesFor : Table → Command → Counts → Counts → Type 0
TakesFor t (command.Run name tree) old new = TakesForRun t (running t name tree) old new
TakesFor t (command.Fetch name as_run) old new = TakesForFetch t name as_run old new
TakesFor t _ old new = TakesNone old new

-- for a result as many bytes were taken as it tells
abbrev pub TakesAsTold : Answer → Counts → Counts → Type 0
TakesAsTold (answer.Result rows used kept read) old new = CountsRead read old new
TakesAsTold _ old new = ⊤
