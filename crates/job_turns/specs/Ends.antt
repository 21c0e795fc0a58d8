-- What a job comes to when it is closed.
use Rattle.std.specs.Prelude.{◌≡◌, ℕ, ◌+◌, ◌≤◌, List, [], Option, Some, Ok, ⊤}
use Rattle.plan_core.specs.MachineTime.{machine_time}
use Rattle.plan_core.specs.PlainPlan.{PlainPlan}
use Rattle.plan_core.specs.PlanMeaning.{plan_meaning}
use Rattle.estimator.specs.Bytes.{capped}
use Rattle.estimator.specs.Cuts.{Cuts}
use Rattle.rewrite_core.specs.Files.{AreIdsOf, files_of}
use Rattle.rewrite_core.specs.PlainRewriting.{PlainRewriting}
use Rattle.catalog_types.specs.PlainEntry.{PlainNewEntry}
use Rattle.catalog_types.specs.declared.change.Change.TheVariants as change
use Rattle.catalog_types.specs.declared.program.Program.{Program}
use Rattle.catalog_core.specs.Named.{bytes_named}
use Rattle.executor.specs.declared.refusal.RunRefusal.{RunRefusal}
use Rattle.executor.specs.declared.refusal.RunRefusal.TheVariants as run
use Rattle.folder.specs.Next.{with_work}
use Rattle.folder.specs.State.{State, table, lists_in}
use Rattle.work_run.specs.Ends.{AreNewFiles, given_of}
use Rattle.work_run.specs.Opened.{files_left, opened_rewriting}
use Rattle.work_run.specs.Working.{Given, Keeps}
use Rattle.rows_core.specs.Limits.{most_machine_time}
use Rattle.work_run.specs.declared.open.OpenWork.{OpenWork}
use Rattle.work_run.specs.declared.work.Work.{Work}
use Rattle.work_turns.specs.Ends.{leaving_out, those_among}
use Rattle.job_turns.specs.declared.job.JobWork.{JobWork}

-- The rows are those of the plan as it is written, whatever is kept and whatever of it is damaged. They are made by this rewriting,
-- whose files were read behind so many bytes. The noted results are dropped, and what the rewriting makes is kept as it would be
-- without them.
pub record WorksAtLast (noted : List ℕ) (before : ℕ) (s : State) (program : Option Program) (plan form : PlainPlan) (cuts : Cuts) (r : PlainRewriting) (is : Given) (new : State) : Type 0 where
  pub rows : plan_meaning plan (lists_in s.streams plan cuts) ≡ Ok is.rows
  pub within : machine_time form (lists_in s.streams form cuts) ≤ most_machine_time
  pub used : AreIdsOf (files_of r) is.used
  pub read : is.read ≡ capped (before + bytes_named (table s) (files_of r))
  pub news : List PlainNewEntry
  pub keeps : Keeps (leaving_out noted s) form cuts r news is.kept
  pub after : new ≡ with_work s program is.used (those_among noted s.entries) news

-- where it is refused for what the files hold, it has read them all
abbrev pub IsReadFor : OpenWork → RunRefusal → Type 0
IsReadFor work run.Overflow = files_left work ≡ []
IsReadFor work run.Machine = files_left work ≡ []
IsReadFor work _ = ⊤

-- it gives what the job's work gives, and what it records is that work with these new results
pub record ComesAtLast (s : State) (plan : PlainPlan) (job : JobWork) (work : Work) : Type 0 where
  pub news : List PlainNewEntry
  pub works : WorksAtLast job.noted.items job.before s (Some job.work.program) plan job.normal.plan job.work.program.cuts (opened_rewriting job.work) (given_of work)
      (with_work s (Some job.work.program) work.used.items (those_among job.noted.items s.entries) news)
  pub change_is : work.plan.change ≡ change.Work (Some job.work.program) work.used.items (those_among job.noted.items s.entries) news
  pub files : AreNewFiles s.streams news work.plan.files.items
