-- The abstract machine: a folder's state and the open jobs, what is answered to each command, and what is held then.
use Rattle.std.specs.Prelude.{◌≡◌, ◌⊎◌, ℕ, ◌<◌, bytes_eq, if◌then◌else◌, Bool, not, List, [], ◌∷◌, ◌++◌, length, flat_map, Option, None, Some, Result, Ok, Err}
use Rattle.std.specs.List.{filter, find, list_any}
use Rattle.plan_core.specs.PlainPlan.{PlainPlan}
use Rattle.estimator.specs.Bytes.{capped}
use Rattle.rewrite_core.specs.Files.{AreIdsOf, files_of}
use Rattle.rewrite_core.specs.PlainRewriting.{PlainRewriting}
use Rattle.entry_table.specs.Ids.{ids_of, is_there}
use Rattle.plan_canon.specs.Normal.{IsNormalFormOf}
use Rattle.plan_choice.specs.Taken.{IsTaken}
use Rattle.planning.specs.Opening.{opening}
use Rattle.planning.specs.Running.{Run, storing}
use Rattle.row_blob.specs.Kept.{AreEach}
use Rattle.script_text.specs.declared.answer.Answer.{Answer}
use Rattle.script_text.specs.declared.answer.Answer.TheVariants as answer
use Rattle.script_text.specs.declared.answer.LimitKind.TheVariants as limit
use Rattle.script_text.specs.declared.answer.Refusal.{Refusal}
use Rattle.script_text.specs.declared.answer.Refusal.TheVariants as refusal
use Rattle.script_text.specs.declared.item.Command.{Command}
use Rattle.script_text.specs.declared.item.Command.TheVariants as command
use Rattle.folder.specs.Sound.{Care}
use Rattle.folder.specs.State.{State, kinds_in, table}
use Rattle.folder_session.specs.Machine as folder
use Rattle.folder_session.specs.Machine.{IsFileEvent, IsOfExtent, IsWant}
use Rattle.work_run.specs.Working.{Overflows, IsDear}
use Rattle.work_run.specs.Working as work
use Rattle.job_turns.specs.Ends.{WorksAtLast}
use Rattle.session.specs.MachineJob.{Job, GoesOn, IsLeft, NotesNext, left_of, steps_of, stepped}

-- ---- jobs by name, in the order of their opening

abbrev pub is_named : List ℕ → Job → Bool
is_named name job = bytes_eq job.name name

abbrev pub job_named : List Job → List ℕ → Option Job
job_named jobs name = find (is_named name) jobs

abbrev pub is_open : List Job → List ℕ → Bool
is_open jobs name = list_any (is_named name) jobs

-- the first of the name gives way to these
abbrev pub put_for : List ℕ → List Job → List Job → List Job
put_for name by [] = []
put_for name by (job ∷ jobs) = if is_named name job then by ++ jobs else (job ∷ put_for name by jobs)

-- the kept results that they hold
abbrev pub held_by : List Job → List ℕ
held_by jobs = flat_map (λ job. job.used) jobs

-- ---- the machine

pub record Machine : Type 0 where
  pub state : State
  pub jobs : List Job

-- as it is after loading: no job is open
abbrev pub without_jobs : State → Machine
without_jobs s = record { state = s; jobs = [] }

abbrev pub with_jobs : Machine → List Job → Machine
with_jobs m jobs = record { state = m.state; jobs = jobs }

-- an answer, and the machine after it
pub record Outcome : Type 0 where
  pub answer : Answer
  pub machine : Machine

abbrev pub outcome : Answer → Machine → Outcome
outcome given m = record { answer = given; machine = m }

abbrev pub refused : Machine → Refusal → Outcome
refused m why = outcome (answer.Refused why) m

-- ---- kept results that are dropped

-- those of the first state that the second one hasn't
abbrev pub gone_between : State → State → List ℕ
gone_between s u = ids_of (filter (λ e. not (is_there u.entries e.id)) s.entries)

-- each job stays between the two, or is chosen again without them
abbrev pub AreLeft : State → State → List Job → List Job → Type 0
AreLeft s u = AreEach (IsLeft s (gone_between s u))

-- ---- commands on jobs

-- the job as it is opened: none of its files is read, and none is noted
abbrev pub new_job : List ℕ → Run → PlainPlan → PlainRewriting → List ℕ → Job
new_job name run normal rewriting used = record { name = name; run = run; normal = normal; rewriting = rewriting; used = used; done = 0; noted = []; before = 0 }

-- a least rewriting of the plan's normal form is taken, and the job stands behind the others
pub record Opens (m : Machine) (name : List ℕ) (run : Run) (given : Outcome) : Type 0 where
  pub normal : PlainPlan
  pub rewriting : PlainRewriting
  pub taken : IsTaken (table m.state) run.plan normal run.program.cuts rewriting
  pub used : List ℕ
  pub are_used : AreIdsOf (files_of rewriting) used
  pub is : given ≡ outcome (answer.Ready (capped (length (files_of rewriting)))) (with_jobs m (m.jobs ++ new_job name run normal rewriting used ∷ []))

abbrev pub OpensTo : Machine → List ℕ → Result Run Refusal → Outcome → Type 0
OpensTo m name (Ok run) given = Opens m name run given
OpensTo m name (Err why) given = given ≡ refused m why

-- the job is this now, and so many of its files are left
abbrev pub StandsSo : Machine → List ℕ → Job → Outcome → Type 0
StandsSo m name job given = given ≡ outcome (answer.Left (capped (left_of job))) (with_jobs m (put_for name (job ∷ []) m.jobs))

-- one more of its files is read, or none where none is left; or a kept result is noted, whose file is the next one
abbrev pub StepsTo : Care → Machine → List ℕ → Option Job → Outcome → Type 0
StepsTo care m name (Some job) given = StandsSo m name (stepped job) given ⊎ ((new : Job) × NotesNext care m.state job new × StandsSo m name new given)
StepsTo care m name None given = given ≡ refused m (refusal.Unknown name)

-- all its files are read
pub record ReadsWhole (care : Care) (s : State) (job last : Job) : Type 0 where
  pub goes : GoesOn care s job last
  pub whole : last.done ≡ steps_of last

-- The rows are the meaning of the plan as it is written, on the extents at the job's opening, whatever came between and whatever was
-- damaged. They are made by the rewriting of the plan's normal form that it came to; the results that it noted are dropped; the job is
-- gone, and each other one stays, or is chosen again without them.
pub record Closes (care : Care) (m : Machine) (name : List ℕ) (job : Job) (is : work.Given) (new : Machine) : Type 0 where
  pub last : Job
  pub reads : ReadsWhole care m.state job last
  pub is_normal : IsNormalFormOf (kinds_in m.state.streams) job.run.plan job.normal
  pub works : WorksAtLast last.noted last.before m.state (Some job.run.program) job.run.plan job.normal job.run.program.cuts last.rewriting is new.state
  pub others : AreLeft m.state new.state (put_for name [] m.jobs) new.jobs

-- the job stays, with all its files read
abbrev pub LeavesRead : Care → Machine → List ℕ → Job → Machine → Type 0
LeavesRead care m name job new = (last : Job) × ReadsWhole care m.state job last × (new ≡ with_jobs m (put_for name (last ∷ []) m.jobs))

-- Or it is refused for an overflow, or for a machine time above its limit.
abbrev pub IsClosing : Care → Machine → List ℕ → Job → Answer → Machine → Type 0
IsClosing care m name job (answer.Result rows used kept read) new = Closes care m name job (work.given rows used kept read) new
IsClosing care m name job (answer.Refused refusal.Overflow) new = Overflows m.state job.run.plan job.run.program.cuts × LeavesRead care m name job new
IsClosing care m name job (answer.Refused (refusal.Limit limit.Machine)) new = IsDear m.state job.run.plan job.run.program.cuts × LeavesRead care m name job new
IsClosing care m name job _ new = ⊥

abbrev pub ClosesBy : Care → Machine → List ℕ → Job → Result Run Refusal → Outcome → Type 0
ClosesBy care m name job (Ok run) given = IsClosing care m name job given.answer given.machine
ClosesBy care m name job (Err why) given = given ≡ refused m why

-- the limits of programs and of commands are looked at when it is closed
abbrev pub ClosesTo : Care → Machine → List ℕ → Option Job → Outcome → Type 0
ClosesTo care m name (Some job) given = ClosesBy care m name job (storing (table m.state) job.run) given
ClosesTo care m name None given = given ≡ refused m (refusal.Unknown name)

abbrev pub DropsTo : Machine → List ℕ → Option Job → Outcome → Type 0
DropsTo m name (Some job) given = given ≡ outcome answer.Ok (with_jobs m (put_for name [] m.jobs))
DropsTo m name None given = given ≡ refused m (refusal.Unknown name)

-- ---- the steps of the machine

-- any other command is the folder's, while the jobs hold what they read
pub record PerformsBeside (care : Care) (m : Machine) (c : Command) (given : Outcome) : Type 0 where
  pub of_folder : folder.Performs care (held_by m.jobs) m.state c (folder.outcome given.answer given.machine.state)
  pub jobs : given.machine.jobs ≡ m.jobs

-- So is a run or a fetch, and each job stays, or is chosen again without what it drops.
pub record WorksBeside (care : Care) (m : Machine) (c : Command) (given : Outcome) : Type 0 where
  pub of_folder : folder.Performs care (held_by m.jobs) m.state c (folder.outcome given.answer given.machine.state)
  pub jobs : AreLeft m.state given.machine.state m.jobs given.machine.jobs

-- What the machine does where there is memory and the file of each extent is read. So much is known of the files.
abbrev pub Performs : Care → Machine → Command → Outcome → Type 0
Performs care m (command.OpenJob job name tree) given = OpensTo m job (opening (table m.state) (is_open m.jobs job) (length m.jobs) job name tree) given
Performs care m (command.Step job) given = StepsTo care m job (job_named m.jobs job) given
Performs care m (command.Close job) given = ClosesTo care m job (job_named m.jobs job) given
Performs care m (command.DropJob job) given = DropsTo m job (job_named m.jobs job) given
Performs care m (command.Run name tree) given = WorksBeside care m (command.Run name tree) given
Performs care m (command.Fetch name as_run) given = WorksBeside care m (command.Fetch name as_run) given
Performs care m c given = PerformsBeside care m c given

-- a file of the job is left
abbrev pub HasLeft : Option Job → Type 0
HasLeft (Some job) = 0 < left_of job
HasLeft None = ⊥

-- What may come in the course of a command in place of its answer: want of memory, and where files are read what reading meets, of
-- which damage is that of extents. A step reads where a file is left; where none is, and where a job is dropped, no memory is wanted.
abbrev pub IsEvent : Care → Machine → Command → Refusal → Type 0
IsEvent care m (command.OpenJob job name tree) why = IsWant why
IsEvent care m (command.Step job) why = HasLeft (job_named m.jobs job) × IsFileEvent care m.state why × IsOfExtent (table m.state) why
IsEvent care m (command.Close job) why = IsFileEvent care m.state why × IsOfExtent (table m.state) why
IsEvent care m (command.DropJob job) why = ⊥
IsEvent care m c why = folder.IsEvent care m.state c why

-- some more of the job's files are read, and results may be noted
abbrev pub HasGoneOn : Care → State → List ℕ → List Job → Option Job → List Job → Type 0
HasGoneOn care s name jobs (Some job) new = (last : Job) × GoesOn care s job last × (new ≡ put_for name (last ∷ []) jobs)
HasGoneOn care s name jobs None new = ⊥

-- what a refusal leaves: all as it was, but that a job whose close is refused may have gone on
abbrev pub Remains : Care → Machine → Command → Machine → Type 0
Remains care m (command.Close job) new = (new ≡ m) ⊎ ((new.state ≡ m.state) × HasGoneOn care m.state job m.jobs (job_named m.jobs job) new.jobs)
Remains care m c new = new ≡ m

-- one step over files of which so much is known
abbrev pub Step : Care → Machine → Command → Answer → Machine → Type 0
Step care old given_to given new = Performs care old given_to (outcome given new) ⊎ ((why : Refusal) × IsEvent care old given_to why × (given ≡ answer.Refused why) × Remains care old given_to new)
