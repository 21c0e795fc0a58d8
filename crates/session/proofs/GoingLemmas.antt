-- A job of the machine that goes on as its work does, where kept results may be noted.
use Rattle.std.proofs.Common.{◌≡◌, refl, sym, ap, ◌∙◌, subst, ℕ, ◌+◌, ◌-◌, ◌≤◌, Bool, true, List, [], ◌∷◌, ◌++◌, length, drop, length-append, length-drop, arith}
use Rattle.std.proofs.Math.Path.{transport}
use Rattle.std.specs.List.{AllByRecursion}
use Rattle.std.proofs.lemmas.List.{append_cancel_left}
use Rattle.plan_core.specs.PlainPlan.{PlainPlan}
use Rattle.estimator.specs.Bytes.{capped}
use Rattle.rewrite_core.specs.Files.{Result, files_of}
use Rattle.catalog_core.specs.Named.{file_at, bytes_named}
use Rattle.plan_choice.specs.Leaving.{leaving_out}
use Rattle.plan_choice.specs.Taken.{IsTaken}
use Rattle.folder.specs.Sound.{Care}
use Rattle.folder.specs.State.{State, table}
use Rattle.job_table.specs.declared.table.OpenJob.{OpenJob}
use Rattle.work_run.specs.Opened.{HasRead, files_left, opened_rewriting}
use Rattle.work_turns.specs.Turns.{IsLost}
use Rattle.job_turns.specs.Jobs as work
use Rattle.job_turns.specs.Steps as steps
use Rattle.job_turns.specs.Turns as turns
use Rattle.job_turns.specs.Turns.{Turns}
use Rattle.job_turns.specs.declared.job.JobWork.{JobWork}
use Rattle.session.specs.Jobs.{IsJob}
use Rattle.session.specs.MachineJob as machine
use Rattle.session.specs.MachineJob.{Job, GoesOn, NotesNext, left_of, steps_of}
use Rattle.session.proofs.ReadLemmas.{drop_more}

module _ (s : State) (job : Job) (o new : OpenJob JobWork) (is : IsJob s job o) (names : new.name ≡ o.name) (still : work.IsJob (table s) job.run.plan new.job) (read : HasRead s new.job.work) where
  -- ---- however many are noted

  module _ (on : turns.GoesOn true (table s) job.run.plan o.job new.job) where
    -- the machine's job that it stands for now
    abbrev pub now : Job
    now = record job {
      rewriting = opened_rewriting new.job.work;
      used = new.job.work.used.items;
      done = length still.is_open.names;
      noted = job.noted ++ on.ids;
      before = capped (job.before + on.bytes);
    }

    left_now : files_left new.job.work ≡ machine.files_left now
    left_now = sym (drop_more still.is_open.names (files_left new.job.work)) ∙ ap (drop (length still.is_open.names)) (sym still.is_open.rest)

    within_now : now.done ≤ steps_of now
    within_now =
        let all : steps_of now ≡ length still.is_open.names + length (files_left new.job.work) = ap length still.is_open.rest ∙ length-append still.is_open.names (files_left new.job.work) in
        omega (arith, all)

    pub now_is : IsJob s now new
    now_is = record {
      name = names ∙ is.name;
      program = on.program ∙ is.program;
      normal = ap (λ n. n.plan) on.normal ∙ is.normal;
      rewriting = refl;
      used = refl;
      noted = on.noted ∙ ap (λ (ids : List ℕ). ids ++ on.ids) is.noted;
      before = on.before ∙ ap (λ (n : ℕ). capped (n + on.bytes)) is.before;
      is_job = still;
      within = within_now;
      left = left_now;
      read = read;
    }

    turns_now : Turns true (table s) job.run.plan job.normal job.run.program.cuts job.noted job.rewriting (machine.files_left job) on.ids now.rewriting (machine.files_left now) on.bytes
    turns_now = transport (λ i. Turns true (table s) job.run.plan (is.normal i) ((is.program i).cuts) (is.noted i) (is.rewriting i) (is.left i) on.ids now.rewriting (left_now i) on.bytes) on.turns

    pub now_goes : (care : Care) → AllByRecursion (IsLost care s) on.ids → GoesOn care s job now
    now_goes care shown = record { ids = on.ids; shown = shown; bytes = on.bytes; turns = turns_now; used = still.is_open.used; within = within_now; is = refl }

    -- all its files are read
    pub now_whole : files_left new.job.work ≡ [] → now.done ≡ steps_of now
    now_whole none =
        let all : steps_of now ≡ length still.is_open.names + length (files_left new.job.work) = ap length still.is_open.rest ∙ length-append still.is_open.names (files_left new.job.work) in
        let empty : length (files_left new.job.work) ≡ 0 = ap length none in
        omega (arith, all, empty)

  -- ---- the next one is noted

  module _ (id given : ℕ) (next : steps.NotesNext (table s) job.run.plan id given o.job new.job) where
    abbrev fresh : work.IsFresh (table s) new.job.noted.items job.run.plan o.job.normal.plan o.job.work.program new.job.work
    fresh = next.notes.fresh

    -- the machine's job that has noted it
    abbrev pub noting : Job
    noting = record job {
      rewriting = opened_rewriting new.job.work;
      used = new.job.work.used.items;
      done = 0;
      noted = job.noted ++ id ∷ [];
      before = capped (job.before + machine.bytes_read s job + given);
    }

    noted_is : new.job.noted.items ≡ job.noted ++ id ∷ []
    noted_is = next.notes.noted ∙ ap (λ (ids : List ℕ). ids ++ id ∷ []) is.noted

    before_is : new.job.before ≡ noting.before
    before_is = next.notes.before ∙ (λ i. capped (is.before i + (bytes_named (table s) (files_of (is.rewriting i)) - bytes_named (table s) (is.left i)) + given))

    pub noting_is : IsJob s noting new
    noting_is = record {
      name = names ∙ is.name;
      program = fresh.program_is ∙ is.program;
      normal = ap (λ n. n.plan) next.notes.normal ∙ is.normal;
      rewriting = refl;
      used = refl;
      noted = noted_is;
      before = before_is;
      is_job = still;
      within = omega arith;
      left = fresh.unread;
      read = read;
    }

    pub noting_left : length (files_left new.job.work) ≡ left_of noting
    noting_left = ap length fresh.unread ∙ length-drop 0 (files_of noting.rewriting)

    pub notes_it : (care : Care) → IsLost care s id → given ≤ (file_at (table s) (Result id)).len → NotesNext care s job noting
    notes_it care shown few = record {
      id = id;
      others = next.others;
      next = sym is.left ∙ next.next;
      shown = shown;
      given = given;
      few = few;
      taken = transport (λ i. IsTaken (leaving_out (noted_is i) (table s)) job.run.plan (is.normal i) ((is.program i).cuts) (opened_rewriting new.job.work)) fresh.taken;
      used = still.is_open.used;
      is = refl;
    }

-- where it noted this result alone, it is the one whose file shows damage
pub shown_alone : (tells : Bool) (care : Care) (s : State) (plan : PlainPlan) (id : ℕ) (old new : JobWork) (on : turns.GoesOn tells (table s) plan old new) → new.noted.items ≡ old.noted.items ++ id ∷ [] → AllByRecursion (IsLost care s) on.ids → IsLost care s id
shown_alone tells care s plan id old new on noted shown =
    (subst (AllByRecursion (IsLost care s)) (append_cancel_left old.noted.items on.ids (id ∷ []) (sym on.noted ∙ noted)) shown).0
