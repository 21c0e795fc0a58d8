-- A command that concerns no job, performed beside the jobs.
use Rattle.std.proofs.Common.{◌≡◌, inr, refl, sym, ◌∙◌, subst, ℕ, List}
use Rattle.outside_traits.specs.View.{View, Counts}
use Rattle.catalog_core.specs.IsTable.{IsTable}
use Rattle.catalog_core.specs.Table.{Table}
use Rattle.script_text.specs.declared.answer.Answer.{Answer}
use Rattle.script_text.specs.declared.answer.Answer.TheVariants as answer
use Rattle.script_text.specs.declared.answer.Refusal.TheVariants as refusal
use Rattle.script_text.specs.declared.item.Command.{Command}
use Rattle.script_text.specs.declared.item.Command.TheVariants as command
use Rattle.folder.specs.Folders.{table_in}
use Rattle.folder.specs.Sound.{Care}
use Rattle.folder.specs.State.{State, table}
use Rattle.folder_session.specs.Causes as of_folder
use Rattle.folder_session.specs.Machine as machine
use Rattle.folder_session.specs.Machine.{IsOfJobs, IsWork}
use Rattle.folder_session.specs.Standing as folder
use Rattle.folder_session.specs.Taken as taken
use Rattle.folder_session.proofs.StepLemmas.{want_event}
use Rattle.later_states.specs.Later.{IsLater, IsLaterState}
use Rattle.session.specs.Causes.{HasByteCause}
use Rattle.session.specs.Jobs.{OpenJobs, AreJobs, held_of}
use Rattle.session.specs.Machine.{Machine, Step, held_by}
use Rattle.session.specs.Standing.{Stands, Performs, Breaks, folder_of, jobs_of}
use Rattle.session.specs.Taken.{TakesAsTold, TakesFor}
use Rattle.session.specs.declared.session.Session.{Session}
use Rattle.session.proofs.FolderSteps.{more_by_step, step_beside}
use Rattle.session.proofs.StayLemmas.{StaysOpen, StaysRead, AreAllHeld, all_held, same_held, still_jobs}

-- the state after it comes later
later_state : (held : List ℕ) (s u : State) (t x : Table) → t ≡ table s → x ≡ table u → IsLater held t x → (care : Care) (c : Command) (given : Answer) → machine.Step care held s c given u → IsLaterState held s u
later_state held s u t x before after later care c given step = record {
  tables = subst (λ (y : Table). IsLater held y (table u)) before (subst (IsLater held t) after later);
  rows = more_by_step care held s u c given step;
}

module _ (stays : StaysOpen) (reads : StaysRead) (care : Care) (u v : View) (session session' : Session) (m : Machine) (held : List ℕ) (stands : Stands care u session m) (held_is : held ≡ held_of (jobs_of session)) (c : Command) (other : IsOfJobs c → ⊥) (no_work : IsWork c → ⊥) where
  by_machine : held ≡ held_by m.jobs
  by_machine = held_is ∙ sym (same_held m.state m.jobs (jobs_of session) stands.jobs)

  pub performs_beside : (given : Answer) → jobs_of session' ≡ jobs_of session → IsTable (table_in (folder_of session)) → IsTable (table_in (folder_of session')) → IsLater held (table_in (folder_of session)) (table_in (folder_of session'))
      → folder.Performs care u v held session'.base m.state c given → Performs care u v session' m c given
  performs_beside given same is_table is_next later p =
      let before = stands.base.means.table_is in
      let after = p.stands.means.table_is in
      let all : AreAllHeld held (jobs_of session) = subst (λ (ids : List ℕ). AreAllHeld ids (jobs_of session)) (sym held_is) (all_held (jobs_of session)) in
      record {
        new = record { state = p.new; jobs = m.jobs };
        step = step_beside care m p.new c given other no_work (subst (λ (ids : List ℕ). machine.Step care ids m.state c given p.new) by_machine p.step);
        stands = record {
          base = p.stands;
          jobs = subst (AreJobs p.new m.jobs) (sym same)
              (still_jobs stays reads held m.state p.new (subst IsTable before is_table) (subst IsTable after is_next)
              (later_state held m.state p.new (table_in (folder_of session)) (table_in (folder_of session')) before after later care c given p.step) m.jobs (jobs_of session) all stands.jobs);
        };
        since = p.since;
      }

  pub breaks_beside : folder.Breaks care u v held m.state c → Breaks care u v m c
  breaks_beside broke = record {
    answer = broke.answer;
    new = record { state = broke.new; jobs = m.jobs };
    step = step_beside care m broke.new c broke.answer other no_work (subst (λ (ids : List ℕ). machine.Step care ids m.state c broke.answer broke.new) by_machine broke.step);
    recorded = broke.recorded;
    since = broke.since;
    left = broke.left;
  }

-- want of memory
pub want_beside : (care : Care) (m : Machine) (c : Command) → (IsOfJobs c → ⊥) → (IsWork c → ⊥) → Step care m c (answer.Refused refusal.Memory) m
want_beside care m c other no_work = step_beside care m m.state c (answer.Refused refusal.Memory) other no_work (inr (refusal.Memory, want_event care m.state c, refl))

-- ---- what else is said of it

pub found_beside : (t : Table) (jobs : OpenJobs) (c : Command) (files : ℕ → List ℕ) (given : Answer) → (IsOfJobs c → ⊥) → of_folder.HasByteCause t c files given → HasByteCause t jobs c files given
found_beside t jobs (command.Step job) files given other found = absurd (other tt)
found_beside t jobs (command.Close job) files given other found = absurd (other tt)
found_beside t jobs _ files given other found = found

pub taken_beside : (t : Table) (jobs : OpenJobs) (c : Command) (given : Answer) (old new : Counts) → (IsOfJobs c → ⊥) → taken.TakesAsTold given old new → TakesAsTold t jobs c given old new
taken_beside t jobs (command.Step job) given old new other told = absurd (other tt)
taken_beside t jobs (command.Close job) given old new other told = absurd (other tt)
taken_beside t jobs _ given old new other told = told

pub most_beside : (t : Table) (jobs : OpenJobs) (c : Command) (old new : Counts) → (IsOfJobs c → ⊥) → taken.TakesFor t c old new → TakesFor t jobs c old new
most_beside t jobs (command.Step job) old new other most = absurd (other tt)
most_beside t jobs (command.Close job) old new other most = absurd (other tt)
most_beside t jobs _ old new other most = most
