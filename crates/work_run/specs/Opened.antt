-- A piece of work that is open: some files of its rewriting are read, and it goes on as the table does.
use Rattle.std.specs.Prelude.{◌≡◌, List, ◌++◌, IsOk}
use Rattle.plan_core.specs.PlainPlan.{PlainPlan, leaves}
use Rattle.plan_core.specs.PlanTyping.{plan_typing}
use Rattle.estimator.specs.Bytes.{capped}
use Rattle.rewrite_core.specs.Files.{FileName, AreIdsOf, files_of}
use Rattle.rewrite_core.specs.PlainRewriting.{PlainRewriting, rewriting_of}
use Rattle.growth_laws.specs.Pieces.{pieces_of}
use Rattle.executor.specs.Progress.{left_in, ArePartsOf, HaveRead}
use Rattle.catalog_core.specs.Named.{bytes_named}
use Rattle.catalog_core.specs.Programs.{AreCuts, IsProgram, kinds_of_streams}
use Rattle.catalog_core.specs.Table.{Table}
use Rattle.folder.specs.Files.{results_in}
use Rattle.folder.specs.State.{State, kinds_in, extents_in}
use Rattle.plan_choice.specs.Taken.{Serves}
use Rattle.work_plan.specs.Fitting.{IsFit}
use Rattle.work_run.specs.declared.open.OpenWork.{OpenWork}

-- the rewriting that it reads
abbrev pub opened_rewriting : OpenWork → PlainRewriting
opened_rewriting work = rewriting_of work.job.rewriting

-- the files that are still to be read, in order
abbrev pub files_left : OpenWork → List FileName
files_left work = left_in work.job.parts.items

-- Its rewriting serves for this plan at the program's cut; the plan has a typing, the cut ends within the extents, and the plan of
-- the rewriting is fit to be recorded at that cut. The program is one over the streams. Its parts are those of the rewriting's
-- pieces, and the files that are left are the last ones that it names.
pub record IsOpen (t : Table) (plan : PlainPlan) (work : OpenWork) : Type 0 where
  pub normal : PlainPlan
  pub serves : Serves t plan normal work.program.cuts (opened_rewriting work)
  pub used : AreIdsOf (files_of (opened_rewriting work)) work.used.items
  pub read : work.read ≡ capped (bytes_named t (files_of (opened_rewriting work)))
  pub typed : IsOk (plan_typing (kinds_of_streams t.streams) plan)
  pub are_cuts : AreCuts t.streams (leaves plan) work.program.cuts
  pub fit : IsFit t.streams normal work.program.cuts
  pub program : IsProgram t.streams work.program
  pub parts : ArePartsOf (kinds_of_streams t.streams) (pieces_of (opened_rewriting work)) work.job.parts.items
  pub names : List FileName
  pub rest : files_of (opened_rewriting work) ≡ names ++ files_left work

-- what was read of it is what the state's extents and kept results are
abbrev pub HasRead : State → OpenWork → Type 0
HasRead s work = HaveRead (kinds_in s.streams) (extents_in s.streams) (results_in s) (pieces_of (opened_rewriting work)) work.job.parts.items

-- nothing but what is read of it changes
pub record IsSameWork (old new : OpenWork) : Type 0 where
  pub program : new.program ≡ old.program
  pub rewriting : new.job.rewriting ≡ old.job.rewriting
  pub used : new.used ≡ old.used
  pub read : new.read ≡ old.read
