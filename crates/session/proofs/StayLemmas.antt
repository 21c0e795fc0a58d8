-- Open jobs stay as other commands follow.
use Rattle.std.proofs.Common.{◌≡◌, sym, ℕ, List, [], ◌∷◌, ◌++◌}
use Rattle.std.specs.List.{AllByRecursion}
use Rattle.std.proofs.lemmas.List.Elements.{Contains-append_left, Contains-append_right}
use Rattle.plan_core.specs.PlainPlan.{PlainPlan}
use Rattle.catalog_core.specs.IsTable.{IsTable}
use Rattle.catalog_core.specs.Table.{Table}
use Rattle.folder.specs.State.{State, table}
use Rattle.job_table.specs.declared.table.OpenJob.{OpenJob}
use Rattle.later_states.specs.Later.{AreHeld, IsLater, IsLaterState}
use Rattle.work_run.specs.Opened.{HasRead}
use Rattle.job_turns.specs.Jobs as work
use Rattle.job_turns.specs.declared.job.JobWork.{JobWork}
use Rattle.session.specs.Jobs.{OpenJobs, AreHeldOver, IsJob, AreJobs, held_of}
use Rattle.session.specs.Machine.{held_by}
use Rattle.session.specs.MachineJob.{Job}

-- each job's own are among them
abbrev pub AreAllHeld : List ℕ → OpenJobs → Type 0
AreAllHeld held opens = AllByRecursion (λ o. AreHeld held o.job.work.used.items) opens

more_held : (held others : List ℕ) → AreHeld others held → (opens : OpenJobs) → AreAllHeld held opens → AreAllHeld others opens
more_held held others among [] all = tt
more_held held others among (o ∷ opens) all = (λ id has. among id (all.0 id has), more_held held others among opens all.1)

pub all_held : (opens : OpenJobs) → AreAllHeld (held_of opens) opens
all_held [] = tt
all_held (o ∷ opens) = (
  λ id has. Contains-append_left o.job.work.used.items (held_of opens) id has,
  more_held (held_of opens) (held_of (o ∷ opens)) (λ id has. Contains-append_right o.job.work.used.items (held_of opens) id has) opens (all_held opens),
)

-- the machine's jobs hold the same
pub same_held : (s : State) (jobs : List Job) (opens : OpenJobs) → AreJobs s jobs opens → held_by jobs ≡ held_of opens
same_held s [] [] are = λ i. []
same_held s [] (o ∷ opens) are = absurd are
same_held s (job ∷ jobs) [] are = absurd are
same_held s (job ∷ jobs) (o ∷ opens) are = let own : job.used ≡ o.job.work.used.items = sym are.0.used in λ i. own i ++ same_held s jobs opens are.1 i

abbrev pub StaysOpen : Type 0
StaysOpen = (held : List ℕ) (t u : Table) (plan : PlainPlan) (job : JobWork) → IsTable t → IsTable u → IsLater held t u → AreHeld held job.work.used.items → work.IsJob t plan job → work.IsJob u plan job

abbrev pub StaysRead : Type 0
StaysRead = (held : List ℕ) (s u : State) (plan : PlainPlan) (job : JobWork) → IsTable (table s) → IsTable (table u) → IsLaterState held s u → AreHeld held job.work.used.items → work.IsJob (table s) plan job → HasRead s job.work → HasRead u job.work

module _ (stays : StaysOpen) (held : List ℕ) (t u : Table) (is_table : IsTable t) (is_next : IsTable u) (later : IsLater held t u) where
  pub still_held_over : (opens : OpenJobs) → AreAllHeld held opens → AreHeldOver t opens → AreHeldOver u opens
  still_held_over [] all over = tt
  still_held_over (o ∷ opens) all over = (record { plan = over.0.plan; is_job = stays held t u over.0.plan o.job is_table is_next later all.0 over.0.is_job }, still_held_over opens all.1 over.1)

module _ (stays : StaysOpen) (reads : StaysRead) (held : List ℕ) (s u : State) (is_table : IsTable (table s)) (is_next : IsTable (table u)) (later : IsLaterState held s u) where
  pub still_job : (job : Job) (o : OpenJob JobWork) → AreHeld held o.job.work.used.items → IsJob s job o → IsJob u job o
  still_job job o all is = record {
    name = is.name;
    program = is.program;
    normal = is.normal;
    rewriting = is.rewriting;
    used = is.used;
    noted = is.noted;
    before = is.before;
    is_job = stays held (table s) (table u) job.run.plan o.job is_table is_next later.tables all is.is_job;
    within = is.within;
    left = is.left;
    read = reads held s u job.run.plan o.job is_table is_next later all is.is_job is.read;
  }

  pub still_jobs : (jobs : List Job) (opens : OpenJobs) → AreAllHeld held opens → AreJobs s jobs opens → AreJobs u jobs opens
  still_jobs [] [] all are = tt
  still_jobs [] (o ∷ opens) all are = absurd are
  still_jobs (job ∷ jobs) [] all are = absurd are
  still_jobs (job ∷ jobs) (o ∷ opens) all are = (still_job job o all.0 are.0, still_jobs jobs opens all.1 are.1)
