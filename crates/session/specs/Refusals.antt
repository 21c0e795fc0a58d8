-- For which cause each refusal of a command comes.
use Rattle.std.specs.Prelude.{◌≡◌, ℕ, List, length, Option, None, Some, Result, Ok, Err}
use Rattle.folder.specs.State.{table}
use Rattle.planning.specs.Opening.{opening}
use Rattle.planning.specs.Running.{Run, storing}
use Rattle.script_text.specs.declared.answer.Refusal.{Refusal}
use Rattle.script_text.specs.declared.answer.Refusal.TheVariants as refusal
use Rattle.script_text.specs.declared.item.Command.{Command}
use Rattle.script_text.specs.declared.item.Command.TheVariants as command
use Rattle.folder_session.specs.Refusals as folder
use Rattle.folder_session.specs.Refusals.{IsRefusedOn}
use Rattle.session.specs.Machine.{Machine, is_open, job_named}
use Rattle.session.specs.MachineJob.{Job}

-- no job of the name is open
abbrev pub IsUnknown : Option Job → List ℕ → Refusal → Type 0
IsUnknown None name why = why ≡ refusal.Unknown name
IsUnknown (Some job) name why = ⊥

-- a limit is passed, or else by the meaning of the plan and its machine time
abbrev pub IsClosingRefused : Machine → Job → Result Run Refusal → Refusal → Type 0
IsClosingRefused m job (Ok run) why = IsRefusedOn m.state job.run.plan job.run.program.cuts why
IsClosingRefused m job (Err planned) why = planned ≡ why

abbrev pub IsCloseRefused : Machine → Option Job → List ℕ → Refusal → Type 0
IsCloseRefused m (Some job) name why = IsClosingRefused m job (storing (table m.state) job.run) why
IsCloseRefused m None name why = why ≡ refusal.Unknown name

-- The cause of a refusal: of a command that concerns no job, that of the folder's command.
abbrev pub IsRefusedFor : Machine → Command → Refusal → Type 0
IsRefusedFor m (command.OpenJob job name tree) why = opening (table m.state) (is_open m.jobs job) (length m.jobs) job name tree ≡ Err why
IsRefusedFor m (command.Step job) why = IsUnknown (job_named m.jobs job) job why
IsRefusedFor m (command.Close job) why = IsCloseRefused m (job_named m.jobs job) job why
IsRefusedFor m (command.DropJob job) why = IsUnknown (job_named m.jobs job) job why
IsRefusedFor m c why = folder.IsRefusedFor m.state c why
