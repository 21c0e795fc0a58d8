-- Which files a step leaves, and which went in a run.
use Rattle.std.proofs.Common.{refl, ◌≡◌, ◌⊎◌, ◌∙◌, ℕ, ◌<◌, ◌≤◌, Bool, true, false, List, [], length, Option, None, Some, Ok, Err, Result, sym, ap, subst, inl, inr, arith}
use Rattle.std.specs.Prelude.{nat_le}
use Rattle.std.specs.List.{Contains}
use Rattle.outside_traits.specs.View.{View, Counts}
use Rattle.plan_core.specs.PlainPlan.{PlainPlan}
use Rattle.estimator.specs.Cuts.{Cuts}
use Rattle.entry_table.specs.Ids.{is_there, without}
use Rattle.catalog_types.specs.PlainEntry.{PlainNewEntry}
use Rattle.catalog_types.specs.declared.change.Change.{Change}
use Rattle.catalog_types.specs.declared.program.Program.{Program}
use Rattle.catalog_core.specs.IsTable.{IsTable}
use Rattle.catalog_core.specs.Table.{Table}
use Rattle.rows_core.specs.Limits.{most_ticks}
use Rattle.rows_core.specs.declared.schema.Column.{Column}
use Rattle.planning.specs.Appending.{Append}
use Rattle.planning.specs.Making.{making}
use Rattle.planning.specs.Opening.{opening}
use Rattle.planning.specs.Running.{Run, Target, running, storing}
use Rattle.work_run.specs.Working.{Given, Keeps}
use Rattle.work_turns.specs.Ends.{WorksInTurns, leaving_out, those_among}
use Rattle.rewrite_core.specs.PlainRewriting.{PlainRewriting}
use Rattle.script_text.specs.declared.answer.Answer.{Answer}
use Rattle.script_text.specs.declared.answer.Answer.TheVariants as answer
use Rattle.script_text.specs.declared.answer.LimitKind.TheVariants as limit
use Rattle.script_text.specs.declared.answer.Refusal.{Refusal}
use Rattle.script_text.specs.declared.answer.Refusal.TheVariants as refusal
use Rattle.script_text.specs.declared.item.Command.{Command}
use Rattle.script_text.specs.declared.item.Command.TheVariants as command
use Rattle.script_text.specs.declared.item.Item.{Item}
use Rattle.script_text.specs.declared.item.Item.TheVariants as item
use Rattle.folder.specs.Folders.{journal_of, table_in}
use Rattle.folder.specs.Next.{with_work}
use Rattle.folder.specs.Removing.{IsFree}
use Rattle.folder.specs.Sound.{Care}
use Rattle.folder.specs.State.{State, IsValid, table}
use Rattle.folder.specs.declared.folder.Folder.{Folder}
use Rattle.folder.proofs.Tables.{stands-table}
use Rattle.folder.proofs.Freed.{rose_before}
use Rattle.folder.proofs.Removals.{rose_on}
use Rattle.folder_session.specs.Machine as folder
use Rattle.folder_session.specs.Standing as of_folder
use Rattle.session.specs.Machine.{Machine, Outcome, outcome, job_named, is_open, OpensTo, StepsTo, IsClosing, ClosesBy, ClosesTo, DropsTo, Performs, PerformsBeside, WorksBeside, Remains}
use Rattle.session.specs.MachineJob.{Job}
use Rattle.session.specs.Machine as session
use Rattle.session.specs.Standing.{folder_of}
use Rattle.session.specs.Standing as standing
use Rattle.session.specs.declared.session.Session.{Session}
use Rattle.nectar_top.specs.Eviction.{Went, AreGone}
use Rattle.nectar_top.specs.Machine.{Refuses, Step}
use Rattle.nectar_top.specs.Progress.{LeavesFree}
use Rattle.nectar_top.proofs.FreeLemmas.{LetsGo, none_there, free_same, free_stream, free_rows, free_work, free_collection, news_from}

-- ---- no step names a file again

made_free : (s new : State) (a : Answer) (name : List ℕ) (columns : List Column) (planned : Result Change Refusal) → folder.outcome a new ≡ folder.made s name columns planned → LetsGo s new
made_free s new a name columns (Ok change) is = subst (LetsGo s) (sym (ap (λ (o : folder.Outcome). o.state) is)) (free_stream s name columns)
made_free s new a name columns (Err why) is = free_same s new (ap (λ (o : folder.Outcome). o.state) is)

appended_free : (s new : State) (a : Answer) (planned : Result Append Refusal) → folder.outcome a new ≡ folder.appended s planned → LetsGo s new
appended_free s new a (Ok plan) is = subst (LetsGo s) (sym (ap (λ (o : folder.Outcome). o.state) is)) (free_rows s plan.place plan.rows)
appended_free s new a (Err why) is = free_same s new (ap (λ (o : folder.Outcome). o.state) is)

kept_free : (s new : State) (program : Option Program) (used gone : List ℕ) (form : PlainPlan) (cuts : Cuts) (r : PlainRewriting) (news : List PlainNewEntry) (kept : List ℕ) → Keeps (leaving_out gone s) form cuts r news kept → new ≡ with_work s program used (those_among gone s.entries) news → LetsGo s new
kept_free s new program used gone form cuts r news kept keeps after =
    subst (LetsGo s) (sym after) (free_work s program used (those_among gone s.entries) news (news_from (without gone s.entries) s.next_file keeps.mades keeps.admitted news keeps.admits keeps.news_are))

worked_in_turns : (care : Care) (s new : State) (program : Option Program) (plan form : PlainPlan) (cuts : Cuts) (is : Given) → WorksInTurns care s program plan form cuts is new → LetsGo s new
worked_in_turns care s new program plan form cuts is works = kept_free s new program is.used works.lost form cuts works.rewriting works.news is.kept works.keeps works.after

worked_free : (care : Care) (s new : State) (program : Option Program) (plan : PlainPlan) (cuts : Cuts) (a : Answer) → folder.IsWorkOn care s program plan cuts a new → LetsGo s new
worked_free care s new program plan cuts (answer.Result rows used kept read) works = worked_in_turns care s new program plan works.0 cuts _ works.1
worked_free care s new program plan cuts (answer.Refused refusal.Overflow) over = free_same s new over.1
worked_free care s new program plan cuts (answer.Refused (refusal.Limit limit.Machine)) dear = free_same s new dear.1
worked_free care s new program plan cuts _ works = absurd works

ran_free : (care : Care) (s new : State) (a : Answer) (planned : Result Run Refusal) → folder.RunsTo care s planned (folder.outcome a new) → LetsGo s new
ran_free care s new a (Ok run) works = worked_free care s new (Some run.program) run.plan run.program.cuts a works
ran_free care s new a (Err why) is = free_same s new (ap (λ (o : folder.Outcome). o.state) is)

fetched_free : (care : Care) (s new : State) (a : Answer) (planned : Result Target Refusal) → folder.FetchesTo care s planned (folder.outcome a new) → LetsGo s new
fetched_free care s new a (Ok target) works = worked_free care s new None target.plan target.cuts a works
fetched_free care s new a (Err why) is = free_same s new (ap (λ (o : folder.Outcome). o.state) is)

collected_free : (full : Bool) (held_ids : List ℕ) (s new : State) (a : Answer) (reclaim : ℕ) → folder.CollectsTo full held_ids s reclaim (folder.outcome a new) → LetsGo s new
collected_free true held_ids s new a reclaim is = free_same s new (ap (λ (o : folder.Outcome). o.state) is)
collected_free false held_ids s new a reclaim is = subst (LetsGo s) (sym (ap (λ (o : folder.Outcome). o.state) is.3)) (free_collection s is.0)

folder_free : (care : Care) (held_ids : List ℕ) (s new : State) (c : Command) (a : Answer) → folder.Performs care held_ids s c (folder.outcome a new) → LetsGo s new
folder_free care held_ids s new (command.Stream name columns) a is = made_free s new a name columns (making (table s) name columns) is
folder_free care held_ids s new (command.Append name lines) a is = appended_free s new a is.0 is.2
folder_free care held_ids s new (command.Run name tree) a is = ran_free care s new a (running (table s) name tree) is
folder_free care held_ids s new (command.Fetch name as_run) a is = fetched_free care s new a is.0 is.2
folder_free care held_ids s new (command.Collect reclaim) a is = collected_free (nat_le most_ticks s.tick) held_ids s new a reclaim is
folder_free care held_ids s new command.Entries a is = free_same s new (ap (λ (o : folder.Outcome). o.state) is)
folder_free care held_ids s new command.Catalog a is = free_same s new (ap (λ (o : folder.Outcome). o.state) is)
folder_free care held_ids s new _ a is = absurd is

opened_free : (m new : Machine) (a : Answer) (name : List ℕ) (planned : Result Run Refusal) → OpensTo m name planned (outcome a new) → LetsGo m.state new.state
opened_free m new a name (Ok run) opens = free_same m.state new.state (ap (λ (o : Outcome). o.machine.state) opens.is)
opened_free m new a name (Err why) is = free_same m.state new.state (ap (λ (o : Outcome). o.machine.state) is)

stepped_free : (care : Care) (m new : Machine) (a : Answer) (name : List ℕ) (job : Option Job) → StepsTo care m name job (outcome a new) → LetsGo m.state new.state
stepped_free care m new a name (Some job) (inl is) = free_same m.state new.state (ap (λ (o : Outcome). o.machine.state) is)
stepped_free care m new a name (Some job) (inr noted) = free_same m.state new.state (ap (λ (o : Outcome). o.machine.state) noted.2)
stepped_free care m new a name None is = free_same m.state new.state (ap (λ (o : Outcome). o.machine.state) is)

closing_free : (care : Care) (m new : Machine) (a : Answer) (name : List ℕ) (job : Job) → IsClosing care m name job a new → LetsGo m.state new.state
closing_free care m new (answer.Result rows used kept read) name job closes =
    let works = closes.works in
    kept_free m.state new.state (Some job.run.program) used closes.last.noted job.normal job.run.program.cuts closes.last.rewriting works.news kept works.keeps works.after
closing_free care m new (answer.Refused refusal.Overflow) name job over = free_same m.state new.state (ap (λ (x : Machine). x.state) over.1.2)
closing_free care m new (answer.Refused (refusal.Limit limit.Machine)) name job dear = free_same m.state new.state (ap (λ (x : Machine). x.state) dear.1.2)
closing_free care m new _ name job closes = absurd closes

closed_by_free : (care : Care) (m new : Machine) (a : Answer) (name : List ℕ) (job : Job) (planned : Result Run Refusal) → ClosesBy care m name job planned (outcome a new) → LetsGo m.state new.state
closed_by_free care m new a name job (Ok run) closes = closing_free care m new a name job closes
closed_by_free care m new a name job (Err why) is = free_same m.state new.state (ap (λ (o : Outcome). o.machine.state) is)

closed_free : (care : Care) (m new : Machine) (a : Answer) (name : List ℕ) (job : Option Job) → ClosesTo care m name job (outcome a new) → LetsGo m.state new.state
closed_free care m new a name (Some job) closes = closed_by_free care m new a name job (storing (table m.state) job.run) closes
closed_free care m new a name None is = free_same m.state new.state (ap (λ (o : Outcome). o.machine.state) is)

dropped_free : (m new : Machine) (a : Answer) (name : List ℕ) (job : Option Job) → DropsTo m name job (outcome a new) → LetsGo m.state new.state
dropped_free m new a name (Some job) is = free_same m.state new.state (ap (λ (o : Outcome). o.machine.state) is)
dropped_free m new a name None is = free_same m.state new.state (ap (λ (o : Outcome). o.machine.state) is)

beside_free : (care : Care) (m new : Machine) (c : Command) (a : Answer) → PerformsBeside care m c (outcome a new) → LetsGo m.state new.state
beside_free care m new c a beside = folder_free care (session.held_by m.jobs) m.state new.state c a beside.of_folder

working_free : (care : Care) (m new : Machine) (c : Command) (a : Answer) → WorksBeside care m c (outcome a new) → LetsGo m.state new.state
working_free care m new c a beside = folder_free care (session.held_by m.jobs) m.state new.state c a beside.of_folder

performed_free : (care : Care) (m new : Machine) (c : Command) (a : Answer) → Performs care m c (outcome a new) → LetsGo m.state new.state
performed_free care m new (command.OpenJob job name tree) a is = opened_free m new a job (opening (table m.state) (is_open m.jobs job) (length m.jobs) job name tree) is
performed_free care m new (command.Step job) a is = stepped_free care m new a job (job_named m.jobs job) is
performed_free care m new (command.Close job) a is = closed_free care m new a job (job_named m.jobs job) is
performed_free care m new (command.DropJob job) a is = dropped_free m new a job (job_named m.jobs job) is
performed_free care m new (command.Run name tree) a is = working_free care m new (command.Run name tree) a is
performed_free care m new (command.Fetch name as_run) a is = working_free care m new (command.Fetch name as_run) a is
performed_free care m new c a is = beside_free care m new c a is

-- an event leaves the state
remains_free : (care : Care) (m new : Machine) (c : Command) → Remains care m c new → LetsGo m.state new.state
remains_free care m new (command.Close job) (inl same) = free_same m.state new.state (ap (λ (x : Machine). x.state) same)
remains_free care m new (command.Close job) (inr gone) = free_same m.state new.state gone.0
remains_free care m new c remains = free_same m.state new.state (ap (λ (x : Machine). x.state) remains)

refused_free : (why : Refusal) (m new : Machine) (a : Answer) → Refuses why m a new → LetsGo m.state new.state
refused_free why m new a is = free_same m.state new.state (ap (λ (o : Outcome). o.machine.state) is)

pub step_free : (care : Care) (m new : Machine) (i : Item) (a : Answer) → Step care m i a new → LetsGo m.state new.state
step_free care m new (item.Command c) a (inl (inl performs)) = performed_free care m new c a performs
step_free care m new (item.Command c) a (inl (inr event)) = remains_free care m new c event.3
step_free care m new (item.Command c) a (inr is) = refused_free refusal.Memory m new a is
step_free care m new (item.Refused why) a (inl is) = refused_free why m new a is
step_free care m new (item.Refused why) a (inr is) = refused_free refusal.Memory m new a is

-- ---- which files a command leaves

module _ (folder : Folder) (s : State) (valid : IsValid s) (same : table_in folder ≡ table s) (file : ℕ) (free : IsFree (table s) file) where
  free_here : IsFree (table_in folder) file
  free_here = subst (λ (t : Table). IsFree t file) (sym same) free

  low : file < 4294967296
  low = omega (arith, free.given.1, valid.last)

  not_the_log : of_folder.IsLogInUse folder file → ⊥
  not_the_log is = omega (arith, low, is)

  not_written : of_folder.IsWritten folder file → ⊥
  not_written (inl log) = not_the_log log
  not_written (inr above) = omega (arith, free_here.given.1, above.0)

  not_changed : (c : Command) → of_folder.MayChange folder c file → ⊥
  not_changed (command.Stream name columns) may = not_the_log may
  not_changed (command.Append name lines) (inl log) = not_the_log log
  not_changed (command.Append name lines) (inr next) = omega (arith, free_here.given.1, next)
  not_changed (command.Run name tree) (inl written) = not_written written
  not_changed (command.Run name tree) (inr of_result) = free_here.no_result of_result.0 of_result.1 of_result.2
  not_changed (command.Fetch name as_run) (inl written) = not_written written
  not_changed (command.Fetch name as_run) (inr of_result) = free_here.no_result of_result.0 of_result.1 of_result.2
  not_changed (command.Collect reclaim) (inl log) = not_the_log log
  not_changed (command.Collect reclaim) (inr of_result) = free_here.no_result of_result.0 of_result.1 of_result.2
  not_changed command.Entries may = may
  not_changed command.Catalog may = may
  not_changed (command.OpenJob job name tree) may = may
  not_changed (command.Step job) may = may
  not_changed (command.DropJob job) may = may
  not_changed (command.Close job) (inl written) = not_written written
  not_changed (command.Close job) (inr of_result) = free_here.no_result of_result.0 of_result.1 of_result.2

pub changes_leave : (care : Care) (u v : View) (session : Session) (m : Machine) (c : Command) → standing.Stands care u session m → of_folder.ChangesAtMost (folder_of session) c u v → LeavesFree m.state u v
changes_leave care u v session m c stands changes file free =
    let means = stands.base.means in
    changes.same_there file (not_changed (folder_of session) m.state means.valid means.table_is file free c)

pub is_table : (care : Care) (v : View) (session : Session) (m : Machine) → standing.Stands care v session m → IsTable (table m.state)
is_table care v session m stands =
    let means = stands.base.means in
    subst IsTable means.table_is (stands-table v (table_in (folder_of session)) (journal_of (folder_of session)) means.stands)

-- what went in a command is gone
pub gone_told : (care : Care) (u v : View) (session session' : Session) (m new : Machine) (before now : Counts) → standing.Stands care u session m → standing.Stands care v session' new → of_folder.AreGoneSince (table_in (folder_of session)) (table_in (folder_of session')) v before now
    → AreGone (Went m.state new.state) v before now
gone_told care u v session session' m new before now stands stands' gone = elim gone [
  | inl rose ↦ inl rose
  | inr none ↦ inr (λ file went.
      subst (λ n. v.there n ≡ false) went.3
      (none went.0 (subst (λ (t : Table). Contains t.entries went.0) (sym stands.base.means.table_is) went.1) (ap (λ (t : Table). is_there t.entries went.0.id) stands'.base.means.table_is ∙ went.2)))
]

-- nothing went
pub none_went : (s : State) (v : View) (before now : Counts) → AreGone (Went s s) v before now
none_went s v before now = inr (λ file went. absurd (none_there s s refl file went))

-- ---- along a run

-- files that were gone, and that the state names no more, still are
pub gone_on : (before went : ℕ → Type 0) (s : State) (u v : View) (begun old new : Counts) → ((file : ℕ) → before file → IsFree (table s) file) → LeavesFree s u v → begun.removes ≤ old.removes → old.removes ≤ new.removes
    → AreGone before u begun old → AreGone went v old new → AreGone (λ file. before file ⊎ went file) v begun new
gone_on before went s u v begun old new free leaves early more (inl rose) then = inl (rose_on begun.removes old.removes new.removes rose more)
gone_on before went s u v begun old new free leaves early more (inr gone) (inl rose) = inl (rose_before begun.removes old.removes new.removes early rose)
gone_on before went s u v begun old new free leaves early more (inr gone) (inr now) = inr (λ file either. elim either [
  | inl was ↦ leaves file (free file was) ∙ gone file was
  | inr last ↦ now file last
])

-- and where none went since
pub gone_still : (before : ℕ → Type 0) (s : State) (u v : View) (begun old new : Counts) → ((file : ℕ) → before file → IsFree (table s) file) → LeavesFree s u v → old.removes ≤ new.removes → AreGone before u begun old → AreGone before v begun new
gone_still before s u v begun old new free leaves more (inl rose) = inl (rose_on begun.removes old.removes new.removes rose more)
gone_still before s u v begun old new free leaves more (inr gone) = inr (λ file was. leaves file (free file was) ∙ gone file was)

-- where less went
pub gone_weaker : (before went : ℕ → Type 0) (v : View) (old new : Counts) → ((file : ℕ) → before file → went file) → AreGone went v old new → AreGone before v old new
gone_weaker before went v old new weaker (inl rose) = inl rose
gone_weaker before went v old new weaker (inr gone) = inr (λ file was. gone file (weaker file was))
