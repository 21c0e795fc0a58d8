-- Why work isn't read on, or isn't closed.
use Rattle.std.proofs.Common.{◌≡◌, refl, ℕ, List, [], ◌∷◌, length, ◌^◌, ◌-◌, min, arith}
use Rattle.plan_core.specs.PlainPlan.{PlainPlan}
use Rattle.estimator.specs.Bytes.{capped}
use Rattle.estimator.specs.Cuts.{Cuts}
use Rattle.rewrite_core.specs.Files.{FileName}
use Rattle.catalog_core.specs.IsTable.{IsTable}
use Rattle.catalog_core.specs.Named.{file_at}
use Rattle.catalog_core.specs.Table.{Table}
use Rattle.extent_files.specs.declared.read_refusal.ReadRefusal.{ReadRefusal}
use Rattle.extent_files.specs.declared.read_refusal.ReadRefusal.TheVariants as reading
use Rattle.executor.specs.Runs as runs
use Rattle.executor.specs.Runs.{of_reading}
use Rattle.executor.specs.declared.refusal.RunRefusal.{RunRefusal}
use Rattle.folder.specs.Sound.{Care}
use Rattle.folder.specs.State.{State}
use Rattle.folder_session.specs.Machine.{IsFileEvent, IsOfExtent}
use Rattle.folder_session.specs.WorkRefusals.{refusal_of}
use Rattle.folder_session.proofs.TurnLemmas.{of_extent_named}
use Rattle.plan_choice.specs.Leaving.{leaving_out}
use Rattle.work_run.specs.Ends.{IsRefusedWork}
use Rattle.work_run.specs.Opened.{opened_rewriting}
use Rattle.work_turns.proofs.LeftOut.{FilesThere}
use Rattle.job_turns.specs.Jobs as work
use Rattle.job_turns.specs.declared.job.JobWork.{JobWork}

-- what reading met is such an event
pub reading_event : (care : Care) (s : State) (plan : PlainPlan) (cuts : Cuts) (why : ReadRefusal) → IsRefusedWork care s plan cuts (of_reading why) → IsFileEvent care s (refusal_of (of_reading why))
reading_event care s plan cuts reading.Fault is = tt
reading_event care s plan cuts (reading.Damaged file kept found taken) is = is
reading_event care s plan cuts (reading.Unreadable file at taken) is = absurd is
reading_event care s plan cuts reading.Memory is = tt

-- damage that reading met is that of an extent
pub of_extent_read : FilesThere → ((t : Table) (ids : List ℕ) → IsTable t → IsTable (leaving_out ids t)) → (t : Table) → IsTable t → (plan : PlainPlan) (job : JobWork) → work.IsJob t plan job → (why : RunRefusal)
    → runs.IsOfExtent (file_at t) (opened_rewriting job.work) why → IsOfExtent t (refusal_of why)
of_extent_read there left_out t is_table plan job is why of =
    of_extent_named t job.noted.items (opened_rewriting job.work)
    (there (leaving_out job.noted.items t) plan is.is_open.normal job.work.program.cuts (opened_rewriting job.work) (left_out t job.noted.items is_table) is.is_open.serves is.is_open.are_cuts) why of

-- where their number is 0, none is left
pub none_left : (files : List FileName) → capped (length files) ≡ 0 → files ≡ []
none_left [] zero = refl
none_left (name ∷ files) zero = (let none : min (length (name ∷ files)) (2 ^ 64 - 1) ≡ 0 = zero in absurd (omega (arith, none)))
