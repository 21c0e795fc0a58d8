-- Steps of the machine in which a job is read on, or given up.
use Rattle.std.proofs.Common.{◌≡◌, inl, inr, refl, sym, ap, ◌∙◌, subst, ℕ, zero, suc, Bool, List, [], ◌∷◌, length, Option, Some, None, get_or}
use Rattle.std.proofs.Math.ListN.{set}
use Rattle.std.specs.List.{remove}
use Rattle.std.specs.Bool.{IsTrue}
use Rattle.outside_traits.specs.View.{View, Counts}
use Rattle.plan_core.specs.PlainPlan.{PlainPlan}
use Rattle.estimator.specs.Bytes.{capped}
use Rattle.rewrite_core.specs.Files.{FileName}
use Rattle.executor.specs.Progress.{left_in}
use Rattle.row_blob.specs.Kept.{AreEach}
use Rattle.script_text.specs.declared.answer.Answer.{Answer}
use Rattle.script_text.specs.declared.answer.Answer.TheVariants as answer
use Rattle.script_text.specs.declared.answer.Refusal.TheVariants as refusal
use Rattle.script_text.specs.declared.item.Command.TheVariants as command
use Rattle.folder.specs.Left.{Since}
use Rattle.folder.specs.Sound.{Care}
use Rattle.folder.specs.State.{State, table}
use Rattle.folder_session.specs.Machine.{IsFileEvent}
use Rattle.folder_session.specs.Standing as folder
use Rattle.job_table.specs.Jobs.{place_of}
use Rattle.job_table.specs.declared.table.OpenJob.{OpenJob}
use Rattle.work_run.specs.Opened.{files_left}
use Rattle.job_turns.specs.Jobs as work
use Rattle.job_turns.specs.Steps.{NotesTaken}
use Rattle.job_turns.specs.Turns.{Reads}
use Rattle.job_turns.specs.declared.job.JobStep.TheVariants as step
use Rattle.job_turns.specs.declared.job.JobWork.{JobWork}
use Rattle.session.specs.Jobs.{IsJob, AreJobs}
use Rattle.session.specs.Machine.{Machine, Outcome, DropsTo, StandsSo, StepsTo, HasLeft, job_named, put_for, outcome, refused, with_jobs}
use Rattle.session.specs.MachineJob.{Job, left_of, stepped}
use Rattle.session.specs.Standing.{Stands, Performs, jobs_of}
use Rattle.session.specs.Work.{ReadsOn, StepsOn}
use Rattle.session.specs.declared.session.Session.{Session}
use Rattle.session.proofs.GoingLemmas.{noting, noting_is, noting_left, notes_it, shown_alone}
use Rattle.session.proofs.LeftLemmas.{reading_event}
use Rattle.session.proofs.OpenLemmas.{stands_with, none_since, stays}
use Rattle.session.proofs.Places.{first_at, none_at, job_at, none_named, put_at, gone_at}
use Rattle.session.proofs.ReadLemmas.{IsSameJob, step_on, stay_on, read_none, has_left}

pub same_name : (s : State) (job : Job) (o : OpenJob JobWork) → IsJob s job o → o.name ≡ job.name
same_name s job o is = is.name

-- ---- given up

module _ (care : Care) (v : View) (session session' : Session) (m : Machine) (stands : Stands care v session m) (base : session'.base ≡ session.base) (name : List ℕ) where
  pub drops : (at : ℕ) (taken : OpenJob JobWork) → place_of (jobs_of session) name ≡ Some at → jobs_of session' ≡ remove (jobs_of session) at → Performs care v v session' m (command.DropJob name) answer.Ok
  drops at taken place is =
      let s = m.state in
      let first = first_at name (jobs_of session) at place in
      let job = job_at name (IsJob s) (same_name s) m.jobs (jobs_of session) at taken stands.jobs first in
      let new = with_jobs m (put_for name [] m.jobs) in
      record {
        new = new;
        step = inl (subst (λ (found : Option Job). DropsTo m name found (outcome answer.Ok new)) (sym job.1) refl);
        stands = stands_with care v session session' m (put_for name [] m.jobs) stands base
            (subst (AreJobs s (put_for name [] m.jobs)) (sym is) (gone_at name (IsJob s) (same_name s) m.jobs (jobs_of session) at stands.jobs first));
        since = none_since care v session m stands;
      }

  -- no job of the name is open
  pub unknown_drop : place_of (jobs_of session) name ≡ None → jobs_of session' ≡ jobs_of session → Performs care v v session' m (command.DropJob name) (answer.Refused (refusal.Unknown name))
  unknown_drop none same =
      let without = none_named name (IsJob m.state) (same_name m.state) m.jobs (jobs_of session) stands.jobs (none_at name (jobs_of session) none) in
      stays care v session session' m (command.DropJob name) (answer.Refused (refusal.Unknown name)) stands base same
      (inl (subst (λ (found : Option Job). DropsTo m name found (refused m (refusal.Unknown name))) (sym without.0) refl))

-- ---- one file further

-- it is the same
pub same_whole : (old new : JobWork) → new ≡ old → IsSameJob old new
same_whole old new same = record {
  same = record { program = ap (λ (j : JobWork). j.work.program) same; rewriting = ap (λ (j : JobWork). j.work.job.rewriting) same; used = ap (λ (j : JobWork). j.work.used) same; read = ap (λ (j : JobWork). j.work.read) same };
  normal = ap (λ (j : JobWork). j.normal) same;
  noted = ap (λ (j : JobWork). j.noted) same;
  before = ap (λ (j : JobWork). j.before) same;
}

-- another in its place that stands for what it stood for
pub same_at : {K A : Type 0} (P : K → A → Type 0) (ks : List K) (xs : List A) (at : ℕ) (d x : A) → AreEach P ks xs → ((k : K) → P k (get_or xs at d) → P k x) → AreEach P ks (set xs at x)
same_at P [] [] at d x are keeps = tt
same_at P [] (y ∷ ys) at d x are keeps = absurd are
same_at P (k ∷ ks) [] at d x are keeps = absurd are
same_at P (k ∷ ks) (y ∷ ys) zero d x are keeps = (keeps k are.0, are.1)
same_at P (k ∷ ks) (y ∷ ys) (suc at) d x are keeps = (are.0, same_at P ks ys at d x are.1 keeps)

module _ (care : Care) (u v : View) (session session' : Session) (m : Machine) (stands : Stands care u session m) (base : folder.Stands care v session'.base m.state) (since : Since care m.state m.state u v) (name : List ℕ) where
  -- no job of the name is open
  pub unknown_step : place_of (jobs_of session) name ≡ None → jobs_of session' ≡ jobs_of session → Performs care u v session' m (command.Step name) (answer.Refused (refusal.Unknown name))
  unknown_step none same =
      let without = none_named name (IsJob m.state) (same_name m.state) m.jobs (jobs_of session) stands.jobs (none_at name (jobs_of session) none) in
      record {
        new = m;
        step = inl (subst (λ (found : Option Job). StepsTo care m name found (refused m (refusal.Unknown name))) (sym without.0) refl);
        stands = record { base = base; jobs = subst (AreJobs m.state m.jobs) (sym same) stands.jobs };
        since = since;
      }

  module _ (tells : Bool) (told : IsTrue tells) (at : ℕ) (d o new : OpenJob JobWork) (place : place_of (jobs_of session) name ≡ Some at) (stood : get_or (jobs_of session) at d ≡ o) (is_set : jobs_of session' ≡ set (jobs_of session) at new)
      (names : new.name ≡ o.name) (still : (plan : PlainPlan) → work.IsJob (table m.state) plan o.job → work.IsJob (table m.state) plan new.job) (first last : Counts) where
    abbrev left_now : List FileName
    left_now = files_left new.job.work

    -- the machine's job is this now
    stands_so : (n : ℕ) (job next : Job) → job_named m.jobs name ≡ Some job → n ≡ capped (length left_now) → IsJob m.state next new → length left_now ≡ left_of next
        → ((given : Outcome) → StandsSo m name next given → StepsTo care m name (Some job) given) → Performs care u v session' m (command.Step name) (answer.Left n)
    stands_so n job next named told_left is count steps =
        let jobs = put_for name (next ∷ []) m.jobs in
        let so : StandsSo m name next (outcome (answer.Left n) (with_jobs m jobs)) = (λ i. outcome (answer.Left ((told_left ∙ ap capped count) i)) (with_jobs m jobs)) in
        record {
          new = with_jobs m jobs;
          step = inl (subst (λ (found : Option Job). StepsTo care m name found (outcome (answer.Left n) (with_jobs m jobs))) (sym named) (steps (outcome (answer.Left n) (with_jobs m jobs)) so));
          stands = record {
            base = base;
            jobs = subst (AreJobs m.state jobs) (sym is_set)
                (put_at name (IsJob m.state) (same_name m.state) m.jobs (jobs_of session) at next new stands.jobs (first_at name (jobs_of session) at place) is);
          };
          since = since;
        }

    goes_to : (n : ℕ) (job : Job) → job_named m.jobs name ≡ Some job → n ≡ capped (length left_now) → IsJob m.state (stepped job) new × (length left_now ≡ left_of (stepped job)) → Performs care u v session' m (command.Step name) (answer.Left n)
    goes_to n job named count now = stands_so n job (stepped job) named count now.0 now.1 (λ given so. inl so)

    -- a kept result is noted
    notes : (n : ℕ) (job : Job) → job_named m.jobs name ≡ Some job → (is : IsJob m.state job o) → n ≡ capped (length left_now) → (id : ℕ) → NotesTaken tells (table m.state) job.run.plan id o.job new.job first last
        → Reads tells (table m.state) u job.run.plan o.job new.job first last → Performs care u v session' m (command.Step name) (answer.Left n)
    notes n job named is count id noted reads =
        let over = reads.over told care m.state stands.base.left refl is.read in
        let own = still job.run.plan is.is_job in
        let shown = shown_alone tells care m.state job.run.plan id o.job new.job reads.on noted.notes.notes.noted over.1 in
        stands_so n job (noting m.state job o new is names own over.0 id noted.given noted.notes) named count (noting_is m.state job o new is names own over.0 id noted.given noted.notes)
        (noting_left m.state job o new is names own over.0 id noted.given noted.notes)
        (λ given so. inr (noting m.state job o new is names own over.0 id noted.given noted.notes, notes_it m.state job o new is names own over.0 id noted.given noted.notes care shown (noted.few told), so))

    pub steps : (given : Answer) → ((plan : PlainPlan) → work.IsJob (table m.state) plan o.job → StepsOn tells (table m.state) plan o.job new.job first last given)
        → ((plan : PlainPlan) → work.IsJob (table m.state) plan o.job → ReadsOn tells (table m.state) u plan o.job new.job first last given) → Performs care u v session' m (command.Step name) given
    steps given goes reads =
        let found = job_at name (IsJob m.state) (same_name m.state) m.jobs (jobs_of session) at d stands.jobs (first_at name (jobs_of session) at place) in
        let is = subst (IsJob m.state found.0) stood found.3 in
        by given found.0 found.1 is (goes found.0.run.plan is.is_job) (reads found.0.run.plan is.is_job)
      where
        by : (given : Answer) (job : Job) → job_named m.jobs name ≡ Some job → IsJob m.state job o → StepsOn tells (table m.state) job.run.plan o.job new.job first last given
            → ReadsOn tells (table m.state) u job.run.plan o.job new.job first last given → Performs care u v session' m (command.Step name) given
        by (answer.Left n) job named is (count, inl (none, same, unread)) reads =
            goes_to n job named count
            (stay_on m.state job o new is names (same_whole o.job new.job same) (still job.run.plan is.is_job) (reads.over told care m.state stands.base.left refl is.read).0 none (ap (λ (j : JobWork). files_left j.work) same))
        by (answer.Left n) job named is (count, inr (some, step.Read, one)) reads =
            goes_to n job named count
            (step_on m.state job o new is names (record { same = one.same; normal = one.normal; noted = one.noted; before = one.before }) (still job.run.plan is.is_job) (reads.over told care m.state stands.base.left refl is.read).0 one.name one.next)
        by (answer.Left n) job named is (count, inr (some, step.Noted id, noted)) reads = notes n job named is count id noted reads
        by (answer.Refused why) job named is (some, kept) (met, why_is, of_extent, halts) =
            let after = halts.over told care m.state stands.base.left refl is.read in
            let event = subst (IsFileEvent care m.state) (sym why_is) (reading_event care m.state job.run.plan o.job.work.program.cuts met after.2) in
            record {
              new = m;
              step = inr (why, (subst HasLeft (sym named) (has_left m.state job o is some), event, of_extent), refl, refl);
              stands = record {
                base = base;
                jobs = subst (AreJobs m.state m.jobs) (sym is_set)
                    (same_at (IsJob m.state) m.jobs (jobs_of session) at d new stands.jobs
                    (λ j is_j. let own = subst (IsJob m.state j) stood is_j in
                    read_none m.state j o new own names (record { same = kept.same; normal = kept.normal; noted = kept.noted; before = kept.before }) (still j.run.plan own.is_job) after.0 (ap left_in kept.parts)));
              };
              since = since;
            }
        by _ job named is goes reads = absurd goes
