-- The step of the machine in which a job is closed, or isn't.
use Rattle.std.proofs.Common.{◌≡◌, inl, inr, refl, sym, ap, ◌∙◌, subst, ℕ, zero, suc, List, [], ◌∷◌, Option, Some, None, Result, Ok, Err}
use Rattle.std.proofs.Math.ListN.{set}
use Rattle.std.proofs.Math.Path.{transport}
use Rattle.std.specs.List.{remove}
use Rattle.plan_canon.specs.Normal.{IsNormalFormOf}
use Rattle.catalog_types.specs.declared.program.Program.{Program}
use Rattle.planning.specs.Running.{Run, storing}
use Rattle.script_text.specs.declared.answer.Answer.{Answer}
use Rattle.script_text.specs.declared.answer.Answer.TheVariants as answer
use Rattle.script_text.specs.declared.answer.LimitKind.TheVariants as limit
use Rattle.script_text.specs.declared.answer.Refusal.{Refusal}
use Rattle.script_text.specs.declared.answer.Refusal.TheVariants as refusal
use Rattle.script_text.specs.declared.item.Command.TheVariants as command
use Rattle.folder.specs.Next.{with_work}
use Rattle.folder.specs.Sound.{Care}
use Rattle.folder.specs.State.{State, kinds_in, table}
use Rattle.folder_session.specs.Machine.{IsFileEvent, IsOfExtent}
use Rattle.folder_session.specs.Working.{answer_of}
use Rattle.job_table.specs.declared.table.OpenJob.{OpenJob}
use Rattle.work_run.specs.Ends.{given_of}
use Rattle.work_run.specs.Working.{Overflows, IsDear}
use Rattle.work_run.specs.declared.work.Work.{Work}
use Rattle.work_turns.specs.Ends.{those_among}
use Rattle.job_turns.specs.Ends.{ComesAtLast, WorksAtLast}
use Rattle.job_turns.specs.declared.job.JobWork.{JobWork}
use Rattle.session.specs.Jobs.{IsJob}
use Rattle.session.specs.Machine.{AreLeft, Machine, Step, Performs, HasGoneOn, ReadsWhole, ClosesTo, ClosesBy, IsClosing, job_named, put_for, outcome, refused, with_jobs}
use Rattle.session.specs.MachineJob.{Job, GoesOn}
use Rattle.session.specs.Work.{run_of}

-- what is taken out of a list doesn't hang on what it is
pub removed_same : {A : Type 0} (xs : List A) (at : ℕ) (y : A) → remove (set xs at y) at ≡ remove xs at
removed_same [] zero y = refl
removed_same [] (suc at) y = refl
removed_same (x ∷ xs) zero y = refl
removed_same (x ∷ xs) (suc at) y = ap (λ (r : List _). x ∷ r) (removed_same xs at y)

-- the run of a job, and that of its work, are one
pub same_run : (s : State) (job : Job) (o : OpenJob JobWork) → IsJob s job o → run_of job.run.plan o.job ≡ job.run
same_run s job o is = ap (λ (p : Program). record { plan = job.run.plan; program = p }) is.program

module _ (care : Care) (m : Machine) (name : List ℕ) (job : Job) (named : job_named m.jobs name ≡ Some job) where
  closes_as : (given : Answer) (new : Machine) → ClosesBy care m name job (storing (table m.state) job.run) (outcome given new) → Performs care m (command.Close name) (outcome given new)
  closes_as given new closes = subst (λ (found : Option Job). ClosesTo care m name found (outcome given new)) (sym named) closes

  within_as : (given : Answer) (new : Machine) → storing (table m.state) job.run ≡ Ok job.run → IsClosing care m name job given new → ClosesBy care m name job (storing (table m.state) job.run) (outcome given new)
  within_as given new within closing = subst (λ (planned : Result Run Refusal). ClosesBy care m name job planned (outcome given new)) (sym within) closing

  -- a limit is passed
  pub limit_step : (why : Refusal) → storing (table m.state) job.run ≡ Err why → Step care m (command.Close name) (answer.Refused why) m
  limit_step why passed = inl (closes_as (answer.Refused why) m (subst (λ (planned : Result Run Refusal). ClosesBy care m name job planned (refused m why)) (sym passed) refl))

  module _ (last : Job) where
    -- it stays, as far as it went
    abbrev pub leaving : Machine
    leaving = with_jobs m (put_for name (last ∷ []) m.jobs)

    -- reading met something, or memory was refused
    pub event_step : (why : Refusal) → IsFileEvent care m.state why → IsOfExtent (table m.state) why → GoesOn care m.state job last → Step care m (command.Close name) (answer.Refused why) leaving
    event_step why event extent goes =
        inr (why, (event, extent), refl, inr (refl, subst (λ (found : Option Job). HasGoneOn care m.state name m.jobs found leaving.jobs) (sym named) (last, goes, refl)))

    module _ (reads : ReadsWhole care m.state job last) (within : storing (table m.state) job.run ≡ Ok job.run) where
      -- it isn't closed, by what its files hold
      pub overflow_step : Overflows m.state job.run.plan job.run.program.cuts → Step care m (command.Close name) (answer.Refused refusal.Overflow) leaving
      overflow_step over = inl (closes_as _ leaving (within_as (answer.Refused refusal.Overflow) leaving within (over, (last, reads, refl))))

      pub dear_step : IsDear m.state job.run.plan job.run.program.cuts → Step care m (command.Close name) (answer.Refused (refusal.Limit limit.Machine)) leaving
      dear_step dear = inl (closes_as _ leaving (within_as (answer.Refused (refusal.Limit limit.Machine)) leaving within (dear, (last, reads, refl))))

      -- its work is answered and recorded
      module _ (after : OpenJob JobWork) (is_last : IsJob m.state last after) (closed : Work) (comes : ComesAtLast m.state job.run.plan after.job closed) where
        run_same : last.run ≡ job.run
        run_same = ap (λ (j : Job). j.run) reads.goes.is

        program_same : after.job.work.program ≡ job.run.program
        program_same = is_last.program ∙ ap (λ (r : Run). r.program) run_same

        form_same : after.job.normal.plan ≡ job.normal
        form_same = is_last.normal ∙ ap (λ (j : Job). j.normal) reads.goes.is

        abbrev pub state_after : State
        state_after = with_work m.state (Some after.job.work.program) closed.used.items (those_among after.job.noted.items m.state.entries) comes.news

        normal_same : IsNormalFormOf (kinds_in m.state.streams) job.run.plan job.normal
        normal_same = transport (λ i. IsNormalFormOf (kinds_in m.state.streams) (run_same i).plan ((is_last.is_job.form_is ∙ form_same) i)) is_last.is_job.is_open.serves.normal

        -- and the others are left so
        pub closed_step : (others : List Job) → AreLeft m.state state_after (put_for name [] m.jobs) others → Step care m (command.Close name) (answer_of closed) (record { state = state_after; jobs = others })
        closed_step others left =
            let new : Machine = record { state = state_after; jobs = others } in
            inl (closes_as (answer_of closed) new (within_as (answer_of closed) new within (record {
              last = last;
              reads = reads;
              is_normal = normal_same;
              works = transport (λ i. WorksAtLast (is_last.noted i) (is_last.before i) m.state (Some (program_same i)) job.run.plan (form_same i) ((program_same i).cuts) (is_last.rewriting i) (given_of closed) state_after) comes.works;
              others = left;
            })))

-- no job of the name is open
pub unknown_close : (care : Care) (m : Machine) (name : List ℕ) → job_named m.jobs name ≡ None → Step care m (command.Close name) (answer.Refused (refusal.Unknown name)) m
unknown_close care m name none = inl (subst (λ (found : Option Job). ClosesTo care m name found (refused m (refusal.Unknown name))) (sym none) refl)
