-- What goes on standing as a job is opened, and what is asked before.
use Rattle.std.proofs.Common.{◌≡◌, inl, inr, refl, sym, subst, ℕ, List, [], ◌∷◌, Option, Some, None}
use Rattle.std.specs.Option.{is_some}
use Rattle.catalog_core.specs.Table.{Table}
use Rattle.planning.specs.Running.{Run}
use Rattle.script_text.specs.Answer.{IsNarrow}
use Rattle.outside_traits.specs.View.{View}
use Rattle.outside_traits.proofs.RunLemmas.{narrows_none}
use Rattle.script_text.specs.declared.answer.Answer.{Answer}
use Rattle.script_text.specs.declared.answer.Answer.TheVariants as answer
use Rattle.folder.specs.Folders.{table_in}
use Rattle.folder.specs.State.{State}
use Rattle.folder_session.specs.Causes.{TellsOfNoFile}
use Rattle.folder_session.specs.Standing as folder
use Rattle.folder_session.specs.Standing.{LeavesWhereRefused}
use Rattle.folder_session.specs.declared.session.FolderSession.{FolderSession}
use Rattle.job_table.specs.Jobs.{place_of}
use Rattle.job_table.specs.declared.table.OpenJob.{OpenJob}
use Rattle.job_turns.specs.Jobs as work
use Rattle.job_turns.specs.declared.job.JobWork.{JobWork}
use Rattle.session.specs.Jobs.{OpenJobs, IsAdmitted, IsHeldOver, AreHeldOver, IsJob, AreJobs}
use Rattle.session.specs.Machine.{is_open}
use Rattle.session.specs.MachineJob.{Job}
use Rattle.session.specs.Standing.{HoldsJobs, folder_of, jobs_of}
use Rattle.session.specs.Work.{IsOpened}
use Rattle.session.specs.declared.session.Session.{Session}
use Rattle.session.proofs.Places.{IsFirstNamed, first_at, none_at, job_at, none_named, each_more}

-- over the same folder
pub holds_with : (session session' : Session) → session'.base ≡ session.base → AreHeldOver (table_in (folder_of session)) (jobs_of session') → HoldsJobs session'
holds_with session session' base are = subst (λ (b : FolderSession). AreHeldOver (table_in (folder.folder_of b)) (jobs_of session')) (sym base) are

module _ (t : Table) (run : Run) (job : JobWork) (name : List ℕ) (old new : OpenJobs) (given : Answer) (opened : IsOpened t run job) where
  pub admitted_held : IsAdmitted name job old new given → AreHeldOver t old → AreHeldOver t new
  admitted_held (inl a) are =
      let added : IsHeldOver t a.added = record { plan = run.plan; is_job = subst (work.IsJob t run.plan) (sym a.job_is) opened.is_job } in
      subst (AreHeldOver t) (sym a.behind) (each_more (IsHeldOver t) old a.added are added)
  admitted_held (inr none) are = subst (AreHeldOver t) (sym none.1) are

pub admitted_narrow : (job : JobWork) (name : List ℕ) (old new : OpenJobs) (given : Answer) → IsAdmitted name job old new given → IsNarrow given
admitted_narrow job name old new given (inl a) = subst IsNarrow (sym a.told) tt
admitted_narrow job name old new given (inr none) = subst IsNarrow (sym none.0) tt

pub admitted_spares : (job : JobWork) (name : List ℕ) (old new : OpenJobs) (given : Answer) → IsAdmitted name job old new given → TellsOfNoFile given
admitted_spares job name old new given (inl a) = subst TellsOfNoFile (sym a.told) tt
admitted_spares job name old new given (inr none) = subst TellsOfNoFile (sym none.0) tt

-- ---- whether a job of the name is open

first_of : (name : List ℕ) (opens : OpenJobs) (at : ℕ) → IsFirstNamed name opens at → OpenJob JobWork
first_of name [] at is = absurd is
first_of name (o ∷ opens) at is = o

pub open_there : (s : State) (name : List ℕ) (jobs : List Job) (opens : OpenJobs) → AreJobs s jobs opens → is_some (place_of opens name) ≡ is_open jobs name
open_there s name jobs opens are = by (place_of opens name) refl
  where
    by : (place : Option ℕ) → place_of opens name ≡ place → is_some place ≡ is_open jobs name
    by (Some at) e = let first = first_at name opens at e in sym (job_at name (IsJob s) (λ job o is. is.name) jobs opens at (first_of name opens at first) are first).2
    by None e = sym (none_named name (IsJob s) (λ job o is. is.name) jobs opens are (none_at name opens e)).1

-- ---- a command that changes no file

pub leaves_none : (given : Answer) (v : View) → LeavesWhereRefused given v v
leaves_none (answer.Refused why) v = narrows_none v
leaves_none _ v = tt
