-- A job that is opened, and commands on jobs that change nothing.
use Rattle.std.proofs.Common.{◌≡◌, ◌⊎◌, inl, inr, refl, sym, ap, ◌∙◌, subst, ℕ, Bool, List, [], ◌∷◌, ◌++◌, length, Result, Ok, Err, arith}
use Rattle.outside_traits.specs.View.{View}
use Rattle.estimator.specs.Bytes.{capped}
use Rattle.rewrite_core.specs.Files.{FileName}
use Rattle.plan_text.specs.PlainNamed.{PlainTree}
use Rattle.catalog_core.specs.Table.{Table}
use Rattle.plan_choice.specs.Taken.{IsTaken}
use Rattle.planning.specs.Opening.{opening}
use Rattle.planning.specs.Running.{Run}
use Rattle.script_text.specs.declared.answer.Answer.{Answer}
use Rattle.script_text.specs.declared.answer.Answer.TheVariants as answer
use Rattle.script_text.specs.declared.answer.Refusal.{Refusal}
use Rattle.script_text.specs.declared.answer.Refusal.TheVariants as refusal
use Rattle.script_text.specs.declared.item.Command.{Command}
use Rattle.script_text.specs.declared.item.Command.TheVariants as command
use Rattle.folder.specs.Left.{Since}
use Rattle.folder.specs.Sound.{Care}
use Rattle.folder.specs.State.{State, table}
use Rattle.folder_session.specs.Standing as folder
use Rattle.folder_session.specs.declared.session.FolderSession.{FolderSession}
use Rattle.folder_session.proofs.StepLemmas.{since_none}
use Rattle.work_run.specs.Opened.{HasRead, files_left, opened_rewriting}
use Rattle.job_turns.specs.Jobs as jobs
use Rattle.job_turns.specs.declared.job.JobWork.{JobWork}
use Rattle.session.specs.Jobs.{OpenJobs, Admitted, IsAdmitted, IsJob, AreJobs}
use Rattle.session.specs.Machine as machine
use Rattle.session.specs.Machine.{Machine, OpensTo, is_open, new_job, outcome, refused, with_jobs}
use Rattle.session.specs.MachineJob.{Job}
use Rattle.session.specs.Standing.{Stands, Performs, jobs_of}
use Rattle.session.specs.Work.{IsOpened}
use Rattle.session.specs.declared.session.Session.{Session}
use Rattle.session.proofs.Places.{both_more}

-- a session over the same folder, with these jobs
pub stands_with : (care : Care) (v : View) (session session' : Session) (m : Machine) (jobs : List Job) → Stands care v session m → session'.base ≡ session.base → AreJobs m.state jobs (jobs_of session') → Stands care v session' (with_jobs m jobs)
stands_with care v session session' m jobs stands base are = record {
  base = subst (λ (x : FolderSession). folder.Stands care v x m.state) (sym base) stands.base;
  jobs = are;
}

pub none_since : (care : Care) (v : View) (session : Session) (m : Machine) → Stands care v session m → Since care m.state m.state v v
none_since care v session m stands = since_none care v session.base m.state stands.base

-- a command that leaves all as it was
pub stays : (care : Care) (v : View) (session session' : Session) (m : Machine) (c : Command) (given : Answer) → Stands care v session m → session'.base ≡ session.base → jobs_of session' ≡ jobs_of session
    → machine.Step care m c given m → Performs care v v session' m c given
stays care v session session' m c given stands base same step = record {
  new = m;
  step = step;
  stands = stands_with care v session session' m m.jobs stands base (subst (λ (opens : OpenJobs). AreJobs m.state m.jobs opens) (sym same) stands.jobs);
  since = none_since care v session m stands;
}

-- ---- opened

-- the job that stands for work as it is opened
pub is_new_job : (s : State) (t : Table) → t ≡ table s → (name : List ℕ) (run : Run) (work : JobWork) (old new : OpenJobs) (given : Answer) → (opened : IsOpened t run work) → (a : Admitted name work old new given)
    → IsJob s (new_job name run work.normal.plan (opened_rewriting work.work) work.work.used.items) a.added
is_new_job s t same name run work old new given opened a =
    let job_is = a.job_is in
    record {
      name = a.name_is;
      program = ap (λ (j : JobWork). j.work.program) job_is ∙ opened.program_is;
      normal = ap (λ (j : JobWork). j.normal.plan) job_is;
      rewriting = ap (λ (j : JobWork). opened_rewriting j.work) job_is;
      used = ap (λ (j : JobWork). j.work.used.items) job_is;
      noted = ap (λ (j : JobWork). j.noted.items) job_is ∙ opened.noted;
      before = ap (λ (j : JobWork). j.before) job_is ∙ opened.before;
      is_job = subst (λ (j : JobWork). jobs.IsJob (table s) run.plan j) (sym job_is) (subst (λ (x : Table). jobs.IsJob x run.plan work) same opened.is_job);
      within = omega arith;
      left = ap (λ (j : JobWork). files_left j.work) job_is ∙ opened.unread;
      read = subst (λ (j : JobWork). HasRead s j.work) (sym job_is) (opened.read s same);
    }

module _ (care : Care) (v : View) (session session' : Session) (m : Machine) (stands : Stands care v session m) (base : session'.base ≡ session.base)
    (t : Table) (same : t ≡ table m.state) (job name : List ℕ) (tree : PlainTree) (exists : Bool) (count : ℕ) (there : exists ≡ is_open m.jobs job) (many : count ≡ length m.jobs) where
  -- as the machine sees it
  opening_so : (planned : Result Run Refusal) → opening t exists count job name tree ≡ planned → opening (table m.state) (is_open m.jobs job) (length m.jobs) job name tree ≡ planned
  opening_so planned is =
      subst (λ (n : ℕ). opening (table m.state) (is_open m.jobs job) n job name tree ≡ planned) many
      (subst (λ (b : Bool). opening (table m.state) b count job name tree ≡ planned) there
      (subst (λ (x : Table). opening x exists count job name tree ≡ planned) same is))

  pub opens_refused : (why : Refusal) → (opening t exists count job name tree ≡ Err why) ⊎ (why ≡ refusal.Memory) → machine.Step care m (command.OpenJob job name tree) (answer.Refused why) m
  opens_refused why (inl is) = inl (subst (λ (planned : Result Run Refusal). OpensTo m job planned (refused m why)) (sym (opening_so (Err why) is)) refl)
  opens_refused why (inr none) = inr (refusal.Memory, tt, ap answer.Refused none, refl)

  pub opens : (run : Run) (work : JobWork) (given : Answer) → opening t exists count job name tree ≡ Ok run → IsOpened t run work → IsAdmitted job work (jobs_of session) (jobs_of session') given
      → Performs care v v session' m (command.OpenJob job name tree) given
  opens run work given is opened (inl a) =
      let added = new_job job run work.normal.plan (opened_rewriting work.work) work.work.used.items in
      record {
        new = with_jobs m (m.jobs ++ added ∷ []);
        step = inl (subst (λ (planned : Result Run Refusal). OpensTo m job planned (outcome given (with_jobs m (m.jobs ++ added ∷ [])))) (sym (opening_so (Ok run) is)) (record {
          normal = work.normal.plan;
          rewriting = opened_rewriting work.work;
          taken = subst (λ (x : Table). IsTaken x run.plan work.normal.plan run.program.cuts (opened_rewriting work.work)) same opened.taken;
          used = work.work.used.items;
          are_used = opened.is_job.is_open.used;
          is = λ i. outcome ((a.told ∙ ap (λ (files : List FileName). answer.Ready (capped (length files))) opened.unread) i) (with_jobs m (m.jobs ++ added ∷ []));
        }));
        stands = stands_with care v session session' m (m.jobs ++ added ∷ []) stands base
            (subst (AreJobs m.state (m.jobs ++ added ∷ [])) (sym a.behind) (both_more (IsJob m.state) m.jobs (jobs_of session) added a.added stands.jobs (is_new_job m.state t same job run work (jobs_of session) (jobs_of session') given opened a)));
        since = none_since care v session m stands;
      }
  opens run work given is opened (inr none) = stays care v session session' m (command.OpenJob job name tree) given stands base none.1 (inr (refusal.Memory, tt, none.0, refl))
