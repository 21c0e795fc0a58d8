-- The abstract machine of a folder's commands: what it answers to each, and what it then holds.
use Rattle.std.specs.Prelude.{◌≡◌, ◌⊎◌, ℕ, nat_le, Bool, true, false, List, map, Option, None, Some, Result, Ok, Err, ⊤}
use Rattle.rows_core.specs.declared.schema.Column.{Column}
use Rattle.plan_core.specs.PlainPlan.{PlainPlan}
use Rattle.estimator.specs.Cuts.{Cuts}
use Rattle.rewrite_core.specs.Files.{Extent}
use Rattle.catalog_types.specs.PlainEntry.{PlainEntry}
use Rattle.catalog_types.specs.declared.change.Change.{Change}
use Rattle.catalog_types.specs.declared.program.Program.{Program}
use Rattle.script_text.specs.declared.answer.Answer.{Answer}
use Rattle.script_text.specs.declared.answer.Answer.TheVariants as answer
use Rattle.catalog_core.specs.Named.{HasFile, file_at}
use Rattle.catalog_core.specs.Table.{Table}
use Rattle.rows_core.specs.Limits.{most_ticks}
use Rattle.catalog_line.specs.CatalogText.{catalog_text}
use Rattle.planning.specs.Collecting.{IsCollection}
use Rattle.script_text.specs.declared.answer.EntrySummary.{EntrySummary}
use Rattle.script_text.specs.declared.answer.LimitKind.TheVariants as limit
use Rattle.script_text.specs.declared.answer.Refusal.{Refusal}
use Rattle.script_text.specs.declared.answer.Refusal.TheVariants as refusal
use Rattle.script_text.specs.declared.item.Command.{Command}
use Rattle.script_text.specs.declared.item.Command.TheVariants as command
use Rattle.planning.specs.Appending.{IsAppending, Append, held}
use Rattle.planning.specs.Fetching.{IsFetching}
use Rattle.planning.specs.Making.{making}
use Rattle.planning.specs.Running.{running, Run, Target}
use Rattle.folder.specs.Sound.{Care}
use Rattle.folder.specs.State.{State, table}
use Rattle.folder.specs.Damage.{ShowsDamage}
use Rattle.folder.specs.Next.{with_stream, with_rows, with_collection}
use Rattle.work_run.specs.Working.{Overflows, IsDear}
use Rattle.work_run.specs.Working as working
use Rattle.work_turns.specs.Ends.{WorksInTurns}

-- an answer, and the state after it
pub record Outcome : Type 0 where
  pub answer : Answer
  pub state : State

abbrev pub outcome : Answer → State → Outcome
outcome given state = record { answer = given; state = state }

-- a refusal leaves the state
abbrev pub refused : State → Refusal → Outcome
refused s why = outcome (answer.Refused why) s

-- ---- streams and rows

abbrev pub made : State → List ℕ → List Column → Result Change Refusal → Outcome
made s name columns (Ok change) = outcome answer.Ok (with_stream s name columns)
made s name columns (Err why) = refused s why

abbrev pub appended : State → Result Append Refusal → Outcome
appended s (Ok a) = outcome (answer.Held (held (table s) a)) (with_rows s a.place a.rows)
appended s (Err why) = refused s why

-- ---- working a plan off, at a cut

-- The rows are the meaning of the plan as it is written, on the extents of the cut, whatever is kept and whatever of it is damaged;
-- or it is refused for an overflow, or for a machine time above its limit. A refusal leaves the state.
abbrev pub IsWorkOn : Care → State → Option Program → PlainPlan → Cuts → Answer → State → Type 0
IsWorkOn care s program plan cuts (answer.Result rows used kept read) new =
    (form : PlainPlan) × WorksInTurns care s program plan form cuts (working.given rows used kept read) new
IsWorkOn care s program plan cuts (answer.Refused refusal.Overflow) new = Overflows s plan cuts × (new ≡ s)
IsWorkOn care s program plan cuts (answer.Refused (refusal.Limit limit.Machine)) new = IsDear s plan cuts × (new ≡ s)
IsWorkOn care s program plan cuts _ new = ⊥

-- a run works its plan off on all extents, and the name then stands for the plan and these extents
abbrev pub RunsTo : Care → State → Result Run Refusal → Outcome → Type 0
RunsTo care s (Ok run) given = IsWorkOn care s (Some run.program) run.plan run.program.cuts given.answer given.state
RunsTo care s (Err why) given = given ≡ refused s why

-- a fetch works off the plan that goes by a name, on all extents or on those of its last run; the name goes on standing for it
abbrev pub FetchesTo : Care → State → Result Target Refusal → Outcome → Type 0
FetchesTo care s (Ok target) given = IsWorkOn care s None target.plan target.cuts given.answer given.state
FetchesTo care s (Err why) given = given ≡ refused s why

-- ---- kept results

-- Those of the greatest ratio go that aren't held, until their files have so many bytes together, or none is left that may go. It
-- is refused where as many commands are recorded as may be.
abbrev pub CollectsTo : Bool → List ℕ → State → ℕ → Outcome → Type 0
CollectsTo true held s reclaim given = given ≡ refused s (refusal.Limit limit.Commands)
CollectsTo false held s reclaim given = (ids : List ℕ) × (bytes : ℕ) × IsCollection (table s) held reclaim ids bytes × (given ≡ outcome (answer.Evicted ids bytes) (with_collection s ids))

-- what is told of each
abbrev pub summary_of : PlainEntry → EntrySummary
summary_of e = record { id = e.id; size = e.file.len; machine = e.machine; uses = e.uses; last = e.last; made = e.made }

-- ---- what is told

-- the kept results
abbrev pub told_entries : Table → Answer
told_entries t = answer.Entries (map summary_of t.entries)

-- streams, programs and kept results, as a line of JSON
abbrev pub told_catalog : Table → Answer
told_catalog t = answer.Catalog (catalog_text t)

-- ---- the machine

-- jobs are no part of this machine
abbrev pub IsOfJobs : Command → Type 0
IsOfJobs (command.OpenJob job name tree) = ⊤
IsOfJobs (command.Step job) = ⊤
IsOfJobs (command.Close job) = ⊤
IsOfJobs (command.DropJob job) = ⊤
IsOfJobs _ = ⊥

-- it works a plan off
abbrev pub IsWork : Command → Type 0
IsWork (command.Run name tree) = ⊤
IsWork (command.Fetch name as_run) = ⊤
IsWork _ = ⊥

-- What the machine does where there is memory and the file of each extent is read, while these kept results are held, which no
-- collection evicts. So much is known of the files: only a kept result whose file may show damage may be dropped.
abbrev pub Performs : Care → List ℕ → State → Command → Outcome → Type 0
Performs care held s (command.Stream name columns) given = given ≡ made s name columns (making (table s) name columns)
Performs care held s (command.Append name lines) given = (plan : Result Append Refusal) × IsAppending (table s) name lines plan × (given ≡ appended s plan)
Performs care held s (command.Run name tree) given = RunsTo care s (running (table s) name tree) given
Performs care held s (command.Fetch name as_run) given = (planned : Result Target Refusal) × IsFetching (table s) name as_run planned × FetchesTo care s planned given
Performs care held s (command.Collect reclaim) given = CollectsTo (nat_le most_ticks s.tick) held s reclaim given
Performs care held s command.Entries given = given ≡ outcome (told_entries (table s)) s
Performs care held s command.Catalog given = given ≡ outcome (told_catalog (table s)) s
Performs care held s _ given = ⊥

-- want of memory, which may be answered in place of any answer
abbrev pub IsWant : Refusal → Type 0
IsWant refusal.Memory = ⊤
IsWant _ = ⊥

-- so may, where files are read, a failed read, and a file that shows damage, as none does that holds its bytes
abbrev pub IsFileEvent : Care → State → Refusal → Type 0
IsFileEvent care s refusal.Fault = ⊤
IsFileEvent care s (refusal.Damaged file kept found) = ShowsDamage care s file kept found
IsFileEvent care s why = IsWant why

-- it is the file of an extent
abbrev pub IsExtentFile : Table → ℕ → Type 0
IsExtentFile t file = (stream number : ℕ) × HasFile t (Extent stream number) × (file ≡ (file_at t (Extent stream number)).file)

-- damage is that of an extent's file, where it is told
abbrev pub IsOfExtent : Table → Refusal → Type 0
IsOfExtent t (refusal.Damaged file kept found) = IsExtentFile t file
IsOfExtent t (refusal.Unreadable file at) = IsExtentFile t file
IsOfExtent t _ = ⊤

-- What may come in the course of a command. Only runs and fetches read files, and damage that they tell is that of extents.
abbrev pub IsEvent : Care → State → Command → Refusal → Type 0
IsEvent care s (command.Run name tree) why = IsFileEvent care s why × IsOfExtent (table s) why
IsEvent care s (command.Fetch name as_run) why = IsFileEvent care s why × IsOfExtent (table s) why
IsEvent care s _ why = IsWant why

-- one step over files of which so much is known; an event changes nothing
abbrev pub Step : Care → List ℕ → State → Command → Answer → State → Type 0
Step care held old given_to given new = Performs care held old given_to (outcome given new) ⊎ ((why : Refusal) × IsEvent care old given_to why × (outcome given new ≡ refused old why))

-- the same of work
abbrev pub WorkStep : Care → State → Option Program → PlainPlan → Cuts → Answer → State → Type 0
WorkStep care old program plan cuts given new =
    IsWorkOn care old program plan cuts given new ⊎ ((why : Refusal) × IsFileEvent care old why × IsOfExtent (table old) why × (outcome given new ≡ refused old why))
