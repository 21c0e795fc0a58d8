-- A step of a session: what its parts come to.
use Rattle.std.proofs.Common.{◌≡◌, ◌⊎◌, ℕ, List, Option, Ok, Err, Result, IfOk, OnErr, refl, sym, ap, ◌∙◌, subst, inl, inr}
use Rattle.outside_traits.specs.View.{View}
use Rattle.outside_traits.specs.declared.failed.Failed.{Failed}
use Rattle.outside_traits.proofs.RunLemmas.{spans_none, spans_on, spans_wider}
use Rattle.rows_core.specs.declared.schema.Column.{Column}
use Rattle.plan_core.specs.PlainPlan.{PlainPlan}
use Rattle.estimator.specs.Cuts.{Cuts}
use Rattle.catalog_types.specs.declared.change.Change.{Change}
use Rattle.catalog_types.specs.declared.program.Program.{Program}
use Rattle.catalog_core.specs.Table.{Table}
use Rattle.journal_store.specs.declared.journal.Journal.{Journal}
use Rattle.executor.specs.declared.refusal.RunRefusal.{RunRefusal}
use Rattle.executor.specs.declared.refusal.RunRefusal.TheVariants as run
use Rattle.script_text.specs.declared.answer.Answer.{Answer}
use Rattle.script_text.specs.declared.answer.Answer.TheVariants as answer
use Rattle.script_text.specs.declared.answer.Refusal.{Refusal}
use Rattle.script_text.specs.declared.answer.Refusal.TheVariants as refusal
use Rattle.script_text.specs.declared.item.Command.{Command}
use Rattle.script_text.specs.declared.item.Command.TheVariants as command
use Rattle.planning.specs.Appending.{IsAppending, Append, held as held_after}
use Rattle.planning.specs.Making.{making}
use Rattle.planning.specs.Fetching.{IsFetching}
use Rattle.planning.specs.Running.{running}
use Rattle.folder.specs.Folders.{table_in, journal_of, FolderStands}
use Rattle.folder.proofs.Loading.{follows_apart}
use Rattle.folder.specs.Left.{Follows, IsLeft, Since, StaysSound, Everything, IsSoundForOneOf}
use Rattle.folder.specs.Next.{with_stream, with_rows}
use Rattle.folder.specs.Sound.{Care, IsSound}
use Rattle.folder.specs.Standing.{Means}
use Rattle.folder.specs.Standing as standing
use Rattle.folder.specs.State.{State, table}
use Rattle.work_run.specs.Ends.{IsRefusedWork}
use Rattle.folder_session.specs.declared.session.FolderSession.{FolderSession}
use Rattle.folder_session.specs.declared.wanting.Purpose.{Purpose}
use Rattle.folder_session.specs.declared.wanting.Purpose.TheVariants as purpose
use Rattle.folder_session.specs.Machine as machine
use Rattle.folder_session.specs.Machine.{outcome, refused, made, IsEvent, IsFileEvent, IsOfExtent, RunsTo, IsWorkOn, WorkStep}
use Rattle.folder_session.specs.Standing.{Stands, Performs, Breaks, Records, KeepsNot, folder_of}
use Rattle.folder_session.specs.Wanted.{IsNoWorkOf, IsWorkOf, cuts_for, program_for}
use Rattle.folder_session.specs.WorkRefusals.{refusal_of}

-- ---- a session that is the same but for the memory that it has taken

pub stands_prepared : (care : Care) (v : View) (session session' : FolderSession) (s : State) → table_in (folder_of session') ≡ table_in (folder_of session) → journal_of (folder_of session') ≡ journal_of (folder_of session) → Stands care v session s → Stands care v session' s
stands_prepared care v session session' s t j stands = record {
  means = subst (λ (x : Table). Means care v x (journal_of (folder_of session')) s) (sym t) (subst (λ (x : Journal). Means care v (table_in (folder_of session)) x s) (sym j) stands.means);
  left = stands.left;
}

-- nor has it other logs
pub table_prepared : (v : View) (session session' : FolderSession) → table_in (folder_of session') ≡ table_in (folder_of session) → journal_of (folder_of session') ≡ journal_of (folder_of session) → FolderStands v (folder_of session) → FolderStands v (folder_of session')
table_prepared v session session' t j stands =
    subst (λ (x : Table). standing.Stands v x (journal_of (folder_of session'))) (sym t) (subst (λ (x : Journal). standing.Stands v (table_in (folder_of session)) x) (sym j) stands)

-- no time passes in a state
pub since_none : (care : Care) (v : View) (session : FolderSession) (s : State) → Stands care v session s → Since care s s v v
since_none care v session s stands = spans_none Everything (IsSoundForOneOf care s s) v (λ image is. inl (stands.means.settled image is))

module _ (care : Care) (v : View) (session session' : FolderSession) (s : State) (stands : Stands care v session s) where
  -- the session is as it was
  pub records_none : table_in (folder_of session') ≡ table_in (folder_of session) → journal_of (folder_of session') ≡ journal_of (folder_of session) → Records care v v session' s s
  records_none t j = record { stands = stands_prepared care v session session' s t j stands; since = since_none care v session s stands }

  -- a refusal changes nothing
  pub refuses : (held : List ℕ) (c : Command) (why : Refusal) → table_in (folder_of session') ≡ table_in (folder_of session) → journal_of (folder_of session') ≡ journal_of (folder_of session)
      → machine.Performs care held s c (refused s why) ⊎ IsEvent care s c why → Performs care v v held session' s c (answer.Refused why)
  refuses held c why t j either = record {
    new = s;
    step = elim either [ inl given ↦ inl given | inr event ↦ inr (why, event, refl) ];
    stands = stands_prepared care v session session' s t j stands;
    since = since_none care v session s stands;
  }

-- ---- the outcome of a command

module _ (care : Care) (held : List ℕ) (t : Table) (s : State) (same : t ≡ table s) where
  pub made_ok : (name : List ℕ) (columns : List Column) (c : Change) → making t name columns ≡ Ok c → machine.Performs care held s (command.Stream name columns) (outcome answer.Ok (with_stream s name columns))
  made_ok name columns c is = sym (ap (made s name columns) (subst (λ x. making x name columns ≡ Ok c) same is))

  pub made_err : (name : List ℕ) (columns : List Column) (why : Refusal) → making t name columns ≡ Err why ⊎ (why ≡ refusal.Memory) → machine.Performs care held s (command.Stream name columns) (refused s why) ⊎ IsEvent care s (command.Stream name columns) why
  made_err name columns why either = elim either [
    | inl is ↦ inl (sym (ap (made s name columns) (subst (λ x. making x name columns ≡ Err why) same is)))
    | inr none ↦ inr (subst (λ w. IsEvent care s (command.Stream name columns) w) (sym none) tt)
  ]

  pub appended_ok : (name : List ℕ) (lines : List (List ℕ)) (a : Append) (count : ℕ) → IsAppending t name lines (Ok a) → count ≡ held_after t a → machine.Performs care held s (command.Append name lines) (outcome (answer.Held count) (with_rows s a.place a.rows))
  appended_ok name lines a count is holds =
      (Ok a, subst (λ x. IsAppending x name lines (Ok a)) same is, ap (λ n. outcome (answer.Held n) (with_rows s a.place a.rows)) (holds ∙ ap (λ x. held_after x a) same))

  pub appended_err : (name : List ℕ) (lines : List (List ℕ)) (why : Refusal) → IsAppending t name lines (Err why) ⊎ (why ≡ refusal.Memory) → machine.Performs care held s (command.Append name lines) (refused s why) ⊎ IsEvent care s (command.Append name lines) why
  appended_err name lines why either = elim either [
    | inl is ↦ inl (Err why, subst (λ x. IsAppending x name lines (Err why)) same is, refl)
    | inr none ↦ inr (subst (λ w. IsEvent care s (command.Append name lines) w) (sym none) tt)
  ]

-- want of memory may come in the course of any command
pub want_event : (care : Care) (s : State) (c : Command) → IsEvent care s c refusal.Memory
want_event care s (command.Stream name columns) = tt
want_event care s (command.Append name lines) = tt
want_event care s (command.Run name tree) = (tt, tt)
want_event care s (command.Fetch name as_run) = (tt, tt)
want_event care s (command.Collect reclaim) = tt
want_event care s command.Entries = tt
want_event care s command.Catalog = tt
want_event care s (command.OpenJob job name tree) = tt
want_event care s (command.Step job) = tt
want_event care s (command.Close job) = tt
want_event care s (command.DropJob job) = tt

-- ---- what is recorded

module _ (care : Care) (held : List ℕ) (u v : View) (s new : State) (c : Command) (given : Answer) (performs : machine.Performs care held s c (outcome given new)) where
  pub kept_performs : (result : Result (FolderSession × Answer) Failed) → IfOk result (λ next. Records care u v next.0 s new) → IfOk result (λ next. next.1 ≡ given) → IfOk result (λ next. Performs care u v held next.0 s c next.1)
  kept_performs (Ok next) recorded same = record { new = new; step = inl (subst (λ a. machine.Performs care held s c (outcome a new)) (sym same) performs); stands = recorded.stands; since = recorded.since }
  kept_performs (Err failed) recorded same = tt

  pub kept_breaks : (result : Result (FolderSession × Answer) Failed) → OnErr result (KeepsNot care u v s new) → OnErr result (Breaks care u v held s c)
  kept_breaks (Ok next) broke = tt
  kept_breaks (Err failed) broke = record { answer = given; new = new; step = inl performs; recorded = broke.recorded; since = broke.since; left = broke.left }

-- ---- a run before what is recorded, in which nothing changes

module _ (care : Care) (t u v : View) (s new : State) (before : StaysSound care s t u) where
  pub since_stays : (other : State) → Since care s other t u
  since_stays other = spans_wider Everything Everything (λ image. IsSound care image s) (IsSoundForOneOf care s other) t u before (λ g any. any) (λ image is others. inl is)

  pub records_behind : (result : Result (FolderSession × Answer) Failed) → IfOk result (λ next. Records care u v next.0 s new) → IfOk result (λ next. Records care t v next.0 s new)
  records_behind (Ok next) recorded = record { stands = recorded.stands; since = spans_on Everything (IsSoundForOneOf care s new) t u v (since_stays new) recorded.since }
  records_behind (Err failed) recorded = tt

  pub kept_not_behind : KeepsNot care u v s new → KeepsNot care t v s new
  kept_not_behind broke = record { recorded = broke.recorded; since = spans_on Everything (IsSoundForOneOf care s new) t u v (since_stays new) broke.since; left = broke.left }

  pub breaks_behind : (result : Result (FolderSession × Answer) Failed) → OnErr result (KeepsNot care u v s new) → OnErr result (KeepsNot care t v s new)
  breaks_behind (Ok next) broke = tt
  breaks_behind (Err failed) broke = kept_not_behind broke

  -- the store failed in it
  pub breaks_before : Follows s new → IsLeft care u s s → KeepsNot care t u s new
  breaks_before recorded left = record {
    recorded = recorded;
    since = since_stays new;
    left = inl (record { apart = inr (follows_apart s new recorded); read = left.read; images = λ image is. inl (elim (left.images image is) [ inl sound ↦ sound | inr sound ↦ sound ]) });
  }

-- ---- work

-- work that isn't done, as a step
pub refused_work : (care : Care) (s : State) (program : Option Program) (plan : PlainPlan) (cuts : Cuts) (why : RunRefusal) → IsRefusedWork care s plan cuts why → IsOfExtent (table s) (refusal_of why)
    → WorkStep care s program plan cuts (answer.Refused (refusal_of why)) s
refused_work care s program plan cuts run.Overflow is extent = inl (is, refl)
refused_work care s program plan cuts run.Machine is extent = inl (is, refl)
refused_work care s program plan cuts run.Fault is extent = inr (refusal.Fault, tt, tt, refl)
refused_work care s program plan cuts (run.Damaged file kept found taken) is extent = inr (refusal.Damaged file kept found, is, extent, refl)
refused_work care s program plan cuts (run.Unreadable file at taken) is extent = absurd is
refused_work care s program plan cuts run.Memory is extent = inr (refusal.Memory, tt, tt, refl)

-- ---- a run or a fetch

module _ (care : Care) (held : List ℕ) (t : Table) (s : State) (same : t ≡ table s) where
  -- it is refused before its work
  pub no_work : (c : Command) (why : Refusal) → IsNoWorkOf t c why → machine.Step care held s c (answer.Refused why) s
  no_work (command.Run name tree) why either = elim either [
    | inl is ↦ inl (subst (λ x. RunsTo care s x (refused s why)) (sym (subst (λ x. running x name tree ≡ Err why) same is)) refl)
    | inr none ↦ inr (why, subst (λ w. IsEvent care s (command.Run name tree) w) (sym none) (tt, tt), refl)
  ]
  no_work (command.Fetch name as_run) why either = elim either [
    | inl is ↦ inl (Err why, subst (λ x. IsFetching x name as_run (Err why)) same is, refl)
    | inr none ↦ inr (why, subst (λ w. IsEvent care s (command.Fetch name as_run) w) (sym none) (tt, tt), refl)
  ]
  no_work _ why none = absurd none

  -- what its work does, it does
  done_of : (c : Command) (plan : PlainPlan) (aim : Purpose) → IsWorkOf t c plan aim → (given : Answer) (new : State) → IsWorkOn care s (program_for aim) plan (cuts_for aim) given new → machine.Performs care held s c (outcome given new)
  done_of (command.Run name tree) plan (purpose.Run program) is given new works =
      subst (λ x. RunsTo care s x (outcome given new)) (sym (subst (λ x. running x name tree ≡ Ok (record { plan = plan; program = program })) same is)) works
  done_of (command.Fetch name as_run) plan (purpose.Fetch cuts) is given new works =
      (Ok (record { plan = plan; cuts = cuts }), subst (λ x. IsFetching x name as_run (Ok (record { plan = plan; cuts = cuts }))) same is, works)
  done_of _ plan _ is given new works = absurd is

  event_of : (c : Command) (plan : PlainPlan) (aim : Purpose) → IsWorkOf t c plan aim → (why : Refusal) → IsFileEvent care s why → IsOfExtent (table s) why → IsEvent care s c why
  event_of (command.Run name tree) plan (purpose.Run program) is why event extent = (event, extent)
  event_of (command.Fetch name as_run) plan (purpose.Fetch cuts) is why event extent = (event, extent)
  event_of _ plan _ is why event extent = absurd is

  module _ (c : Command) (plan : PlainPlan) (aim : Purpose) (is : IsWorkOf t c plan aim) (program : Option Program) (program_is : program ≡ program_for aim) (cuts : Cuts) (cuts_are : cuts ≡ cuts_for aim) where
    pub work_done : (given : Answer) (new : State) → IsWorkOn care s program plan cuts given new → machine.Performs care held s c (outcome given new)
    work_done given new works =
        done_of c plan aim is given new (subst (λ (p : Option Program). IsWorkOn care s p plan (cuts_for aim) given new) program_is (subst (λ (x : Cuts). IsWorkOn care s program plan x given new) cuts_are works))

    -- a step of its work is its step
    pub work_step : (given : Answer) (new : State) → WorkStep care s program plan cuts given new → machine.Step care held s c given new
    work_step given new (inl works) = inl (work_done given new works)
    work_step given new (inr event) = inr (event.0, event_of c plan aim is event.0 event.1 event.2, event.3)
