-- For which cause each refusal of a command comes.
use Rattle.std.specs.Prelude.{◌≡◌, ◌≤◌, Result, Ok, Err, ⊤}
use Rattle.plan_core.specs.PlainPlan.{PlainPlan}
use Rattle.estimator.specs.Cuts.{Cuts}
use Rattle.catalog_core.specs.IsTable.{IsTable}
use Rattle.rows_core.specs.Limits.{most_ticks}
use Rattle.script_text.specs.declared.answer.LimitKind.TheVariants as limit
use Rattle.script_text.specs.declared.answer.Refusal.{Refusal}
use Rattle.script_text.specs.declared.answer.Refusal.TheVariants as refusal
use Rattle.script_text.specs.declared.item.Command.{Command}
use Rattle.script_text.specs.declared.item.Command.TheVariants as command
use Rattle.planning.specs.Appending.{IsAppending}
use Rattle.planning.specs.Fetching.{IsFetching}
use Rattle.planning.specs.Making.{making}
use Rattle.planning.specs.Running.{Run, Target, running}
use Rattle.folder.specs.State.{State, table}
use Rattle.work_run.specs.Working.{Overflows, IsDear}

-- work on a plan at a cut is refused by what it meets
abbrev pub IsRefusedOn : State → PlainPlan → Cuts → Refusal → Type 0
IsRefusedOn s plan cuts refusal.Overflow = Overflows s plan cuts
IsRefusedOn s plan cuts (refusal.Limit limit.Machine) = IsDear s plan cuts
IsRefusedOn s plan cuts _ = ⊥

-- a run is refused: by its meaning and its machine time, or before its work
abbrev pub IsRunRefused : State → Result Run Refusal → Refusal → Type 0
IsRunRefused s (Ok run) why = IsRefusedOn s run.plan run.program.cuts why
IsRunRefused s (Err planned) why = planned ≡ why

-- and so is a fetch
abbrev pub IsFetchRefused : State → Result Target Refusal → Refusal → Type 0
IsFetchRefused s (Ok target) why = IsRefusedOn s target.plan target.cuts why
IsFetchRefused s (Err planned) why = planned ≡ why

-- a collection is, where as many commands are recorded as may be
abbrev pub IsCollectionRefused : State → Refusal → Type 0
IsCollectionRefused s (refusal.Limit limit.Commands) = most_ticks ≤ s.tick
IsCollectionRefused s _ = ⊥

-- The cause of a refusal in a state: it is the one of the plan of the command, where each plan tells the first that holds.
abbrev pub IsRefusedFor : State → Command → Refusal → Type 0
IsRefusedFor s (command.Stream name columns) why = making (table s) name columns ≡ Err why
IsRefusedFor s (command.Append name lines) why = IsAppending (table s) name lines (Err why)
IsRefusedFor s (command.Run name tree) why = IsRunRefused s (running (table s) name tree) why
IsRefusedFor s (command.Fetch name as_run) why = (planned : Result Target Refusal) × IsFetching (table s) name as_run planned × IsFetchRefused s planned why
IsRefusedFor s (command.Collect reclaim) why = IsCollectionRefused s why
IsRefusedFor s _ why = ⊥

-- an overflow and the limit of machine time may hold of one run; then it is answered either
abbrev pub IsOtherEvent : Refusal → Refusal → Type 0
IsOtherEvent refusal.Overflow other = other ≡ refusal.Limit limit.Machine
IsOtherEvent (refusal.Limit limit.Machine) other = other ≡ refusal.Overflow
IsOtherEvent _ other = ⊥

-- a plan meets an overflow at this cut, and its machine time is above the limit: one of the two is answered
abbrev pub HasTwoRefusals : State → PlainPlan → Cuts → Type 0
HasTwoRefusals s plan cuts = Overflows s plan cuts × IsDear s plan cuts

abbrev pub RunHasNoChoice : State → Result Run Refusal → Type 0
RunHasNoChoice s (Ok run) = HasTwoRefusals s run.plan run.program.cuts → ⊥
RunHasNoChoice s (Err planned) = ⊤

-- A command that leaves the machine no choice of its answer: all but a run or a fetch with two refusals, of which the first event
-- decides. Of a collection it is said where the state has what each state that is reached has.
abbrev pub HasNoChoice : State → Command → Type 0
HasNoChoice s (command.Stream name columns) = ⊤
HasNoChoice s (command.Append name lines) = ⊤
HasNoChoice s (command.Run name tree) = RunHasNoChoice s (running (table s) name tree)
HasNoChoice s (command.Fetch name as_run) = (target : Target) → IsFetching (table s) name as_run (Ok target) → HasTwoRefusals s target.plan target.cuts → ⊥
HasNoChoice s (command.Collect reclaim) = IsTable (table s)
HasNoChoice s _ = ⊤
