-- What work in turns comes to.
use Rattle.std.specs.Prelude.{◌≡◌, ℕ, ◌+◌, ◌<◌, ◌≤◌, List, [], length, map, Option, Ok}
use Rattle.std.specs.List.{AllByRecursion, filter}
use Rattle.plan_core.specs.MachineTime.{machine_time}
use Rattle.plan_core.specs.PlainPlan.{PlainPlan, plan_of}
use Rattle.plan_core.specs.PlanMeaning.{plan_meaning}
use Rattle.estimator.specs.Bytes.{capped}
use Rattle.estimator.specs.Cuts.{Cuts}
use Rattle.rewrite_core.specs.Files.{AreIdsOf, files_of}
use Rattle.rewrite_core.specs.PlainRewriting.{PlainRewriting}
use Rattle.catalog_types.specs.PlainEntry.{PlainEntry, PlainNewEntry}
use Rattle.catalog_types.specs.declared.change.Change.TheVariants as change
use Rattle.catalog_types.specs.declared.program.Program.{Program}
use Rattle.catalog_core.specs.Named.{bytes_named}
use Rattle.catalog_core.specs.Table.{Table}
use Rattle.entry_table.specs.Ids as kept
use Rattle.executor.specs.declared.outcome.KeptPlace.{KeptPlace}
use Rattle.folder.specs.Next.{with_work}
use Rattle.folder.specs.Sound.{Care}
use Rattle.folder.specs.State.{State, table, lists_in}
use Rattle.plan_choice.specs.Leaving as tables
use Rattle.plan_choice.specs.Taken.{IsTaken}
use Rattle.work_plan.specs.Fitting.{IsFit}
use Rattle.work_run.specs.Ends.{AreNewFiles, HaveFewValues, given_of}
use Rattle.work_run.specs.Working.{Given, Keeps}
use Rattle.rows_core.specs.Limits.{most_machine_time}
use Rattle.work_run.specs.declared.work.Work.{Work}
use Rattle.work_turns.specs.Turns.{HaveEnded, IsLost}
use Rattle.work_turns.specs.declared.turns.LastTurn.{LastTurn}

-- the entries whose ids are among these
abbrev pub entries_among : List ℕ → List PlainEntry → List PlainEntry
entries_among ids entries = filter (λ e. kept.is_among ids e.id) entries

-- their ids
abbrev pub those_among : List ℕ → List PlainEntry → List ℕ
those_among ids entries = kept.ids_of (entries_among ids entries)

-- and the numbers of their files
abbrev pub files_among : List ℕ → List PlainEntry → List ℕ
files_among ids entries = map (λ e. e.file.file) (entries_among ids entries)

-- the state without these kept results
abbrev pub leaving_out : List ℕ → State → State
leaving_out ids s = record {
  tick = s.tick;
  next_file = s.next_file;
  next_id = s.next_id;
  streams = s.streams;
  programs = s.programs;
  entries = kept.without ids s.entries;
}

-- On every store: the results used are none of those that were lost, and few; the rows have few values, and what is kept of the
-- results that were made is fit to be recorded.
pub record IsToldLast (t : Table) (last : LastTurn) : Type 0 where
  pub used : kept.AreIdsOf (kept.without last.lost.items t.entries) last.turn.used.items
  pub few : length last.turn.used.items ≤ 4096
  pub narrow : HaveFewValues last.turn.outcome.rows.items
  pub made : AllByRecursion (λ (kept : KeptPlace). IsFit t.streams (plan_of kept.plan) kept.cuts × (0 < kept.machine)) last.turn.outcome.made.items

-- The rows are those of the plan as it is written, whatever is kept and whatever of it is damaged. Turns ended at the files of
-- results that show damage; over the others a least rewriting was taken. The bytes of all turns are told. Those results are dropped,
-- and what the rewriting makes is kept as it would be without them.
pub record WorksInTurns (care : Care) (s : State) (program : Option Program) (plan form : PlainPlan) (cuts : Cuts) (is : Given) (new : State) : Type 0 where
  pub lost : List ℕ
  pub bytes : ℕ
  pub ended : HaveEnded (table s) plan form cuts [] lost bytes
  pub shown : AllByRecursion (IsLost care s) lost
  pub rewriting : PlainRewriting
  pub taken : IsTaken (tables.leaving_out lost (table s)) plan form cuts rewriting
  pub rows : plan_meaning plan (lists_in s.streams plan cuts) ≡ Ok is.rows
  pub within : machine_time form (lists_in s.streams form cuts) ≤ most_machine_time
  pub used : AreIdsOf (files_of rewriting) is.used
  pub read : is.read ≡ capped (bytes + bytes_named (table s) (files_of rewriting))
  pub news : List PlainNewEntry
  pub keeps : Keeps (leaving_out lost s) form cuts rewriting news is.kept
  pub after : new ≡ with_work s program is.used (those_among lost s.entries) news

-- it gives what work in turns gives, and what it records is the work that drops these results and keeps these new ones
pub record ComesInTurns (care : Care) (s : State) (program : Option Program) (plan form : PlainPlan) (cuts : Cuts) (work : Work) : Type 0 where
  pub dropped : List ℕ
  pub news : List PlainNewEntry
  pub works : WorksInTurns care s program plan form cuts (given_of work) (with_work s program work.used.items dropped news)
  pub change_is : work.plan.change ≡ change.Work program work.used.items dropped news
  pub files : AreNewFiles s.streams news work.plan.files.items
