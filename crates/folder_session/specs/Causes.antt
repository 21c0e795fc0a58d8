-- Which refusals are laid to the store, and by which bytes of its files.
use Rattle.std.specs.Prelude.{◌≢◌, ℕ, Bool, List, Result, Ok, Err, ⊤}
use Rattle.plan_core.specs.PlainPlan.{PlainPlan}
use Rattle.estimator.specs.Cuts.{Cuts}
use Rattle.rewrite_core.specs.Files.{Extent, files_of}
use Rattle.rewrite_core.specs.PlainRewriting.{PlainRewriting}
use Rattle.growth_laws.specs.Pieces.{pieces_of}
use Rattle.catalog_core.specs.Named.{file_at}
use Rattle.catalog_core.specs.Table.{Table}
use Rattle.extent_files.specs.declared.read_refusal.ReadRefusal.{ReadRefusal}
use Rattle.extent_files.specs.declared.read_refusal.ReadRefusal.TheVariants as reading
use Rattle.executor.specs.Running.{EndsOver, IsFileAmong}
use Rattle.planning.specs.Fetching.{IsFetching}
use Rattle.planning.specs.Running.{Run, Target, running}
use Rattle.script_text.specs.declared.answer.Answer.{Answer}
use Rattle.script_text.specs.declared.answer.Answer.TheVariants as answer
use Rattle.script_text.specs.declared.answer.Refusal.{Refusal}
use Rattle.script_text.specs.declared.answer.Refusal.TheVariants as refusal
use Rattle.script_text.specs.declared.item.Command.{Command}
use Rattle.script_text.specs.declared.item.Command.TheVariants as command
use Rattle.work_run.specs.Ends.{sources_of}
use Rattle.work_turns.specs.Turns.{IsTakenAfter}

-- it isn't: it tells no failed read, and no file that is damaged or unreadable
abbrev pub SparesStore : Refusal → Type 0
SparesStore refusal.Fault = ⊥
SparesStore (refusal.Damaged file kept found) = ⊥
SparesStore (refusal.Unreadable file at) = ⊥
SparesStore _ = ⊤

-- an answer of a command that reads no files
abbrev pub TellsOfNoFile : Answer → Type 0
TellsOfNoFile (answer.Result rows used kept read) = ⊥
TellsOfNoFile (answer.Refused why) = SparesStore why
TellsOfNoFile _ = ⊤

-- reading a rewriting's files ends so by the bytes of one of them
abbrev pub EndsReading : Table → PlainRewriting → (ℕ → List ℕ) → ReadRefusal → Type 0
EndsReading t r files why = EndsOver (sources_of t files) (pieces_of r) (files_of r) why

-- damage and unreadable bytes are those of a file of this rewriting, and damage shows another digest than the kept one
abbrev pub IsOfFiles : Table → PlainRewriting → (ℕ → List ℕ) → Refusal → Type 0
IsOfFiles t r files (refusal.Damaged file kept found) = (taken : ℕ) × EndsReading t r files (reading.Damaged file kept found taken) × (found ≢ kept)
IsOfFiles t r files (refusal.Unreadable file at) = (taken : ℕ) × EndsReading t r files (reading.Unreadable file at taken)
IsOfFiles t r files _ = ⊤

-- it is an extent's
abbrev pub IsOfExtentIn : Table → PlainRewriting → Refusal → Type 0
IsOfExtentIn t r (refusal.Damaged file kept found) = (stream number : ℕ) × IsFileAmong (file_at t) (files_of r) file (Extent stream number)
IsOfExtentIn t r (refusal.Unreadable file at) = (stream number : ℕ) × IsFileAmong (file_at t) (files_of r) file (Extent stream number)
IsOfExtentIn t r _ = ⊤

-- they are those of an extent that a rewriting names which is taken of a plan at a cut, where kept results are left out at whose files
-- turns were over
pub record IsOfTaken (t : Table) (plan : PlainPlan) (cuts : Cuts) (files : ℕ → List ℕ) (why : Refusal) : Type 0 where
  pub form : PlainPlan
  pub rewriting : PlainRewriting
  pub after : IsTakenAfter t plan form cuts rewriting
  pub of_files : IsOfFiles t rewriting files why
  pub of_extent : IsOfExtentIn t rewriting why

-- of a run they are so, unless it is refused before it reads
abbrev pub IsOfRun : Table → Result Run Refusal → (ℕ → List ℕ) → Refusal → Type 0
IsOfRun t (Ok run) files (refusal.Damaged file kept found) = IsOfTaken t run.plan run.program.cuts files (refusal.Damaged file kept found)
IsOfRun t (Ok run) files (refusal.Unreadable file at) = IsOfTaken t run.plan run.program.cuts files (refusal.Unreadable file at)
IsOfRun t (Ok run) files _ = ⊤
IsOfRun t (Err planned) files why = SparesStore why

-- and so of a fetch; a failed read is told where there is one
abbrev pub IsOfFetch : Table → List ℕ → Bool → (ℕ → List ℕ) → Refusal → Type 0
IsOfFetch t name as_run files refusal.Fault = (target : Target) × IsFetching t name as_run (Ok target)
IsOfFetch t name as_run files (refusal.Damaged file kept found) = (target : Target) × IsFetching t name as_run (Ok target) × IsOfTaken t target.plan target.cuts files (refusal.Damaged file kept found)
IsOfFetch t name as_run files (refusal.Unreadable file at) = (target : Target) × IsFetching t name as_run (Ok target) × IsOfTaken t target.plan target.cuts files (refusal.Unreadable file at)
IsOfFetch t name as_run files _ = ⊤

-- A refusal that is laid to the store is that of a run or a fetch, and damage and unreadable bytes are those of an extent that it reads.
abbrev pub HasByteCause : Table → Command → (ℕ → List ℕ) → Answer → Type 0
HasByteCause t (command.Run name tree) files (answer.Refused why) = IsOfRun t (running t name tree) files why
HasByteCause t (command.Fetch name as_run) files (answer.Refused why) = IsOfFetch t name as_run files why
HasByteCause t _ files (answer.Refused why) = SparesStore why
HasByteCause t _ files _ = ⊤
