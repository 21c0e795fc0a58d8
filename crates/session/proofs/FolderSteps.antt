-- A step of the folder's machine, as one of the machine with jobs.
use Rattle.std.proofs.Common.{◌≡◌, inl, inr, refl, sym, ap, subst, ℕ, Bool, true, false, nat_le, List, [], ◌∷◌, ◌++◌, Option, Some, None, Result, Ok, Err}
use Rattle.std.proofs.lemmas.List.{append-nil}
use Rattle.rows_core.specs.declared.schema.Column.{Column}
use Rattle.catalog_types.specs.declared.change.Change.{Change}
use Rattle.catalog_types.specs.declared.program.Program.{Program}
use Rattle.rows_core.specs.Limits.{most_ticks}
use Rattle.estimator.specs.Cuts.{Cuts}
use Rattle.plan_core.specs.PlainPlan.{PlainPlan}
use Rattle.planning.specs.Appending.{Append}
use Rattle.planning.specs.Making.{making}
use Rattle.planning.specs.Running.{Run, Target, running}
use Rattle.script_text.specs.declared.answer.Answer.{Answer}
use Rattle.script_text.specs.declared.answer.Answer.TheVariants as answer
use Rattle.script_text.specs.declared.answer.LimitKind.TheVariants as limit
use Rattle.script_text.specs.declared.answer.Refusal.{Refusal}
use Rattle.script_text.specs.declared.answer.Refusal.TheVariants as refusal
use Rattle.script_text.specs.declared.item.Command.{Command}
use Rattle.script_text.specs.declared.item.Command.TheVariants as command
use Rattle.folder.specs.Next.{new_extent}
use Rattle.folder.specs.Sound.{Care}
use Rattle.folder.specs.State.{Stream, State, table}
use Rattle.folder_session.specs.Machine as folder
use Rattle.folder_session.specs.Machine.{IsOfJobs, IsWork, RunsTo, FetchesTo, CollectsTo, IsWorkOn}
use Rattle.later_states.specs.Later.{HaveMoreRows}
use Rattle.later_states.proofs.States.{same-rows, added-rows}
use Rattle.session.specs.Machine.{AreLeft, Machine, Step, Performs, IsEvent, Remains, gone_between, outcome, held_by}
use Rattle.session.specs.MachineJob.{Job}
use Rattle.session.proofs.GoneLemmas.{gone_by_none}
use Rattle.session.proofs.LeavingJobs.{all_stay}

-- ---- the streams of the state after it

rows_behind : (xs : List Stream) (x : Stream) → HaveMoreRows xs (xs ++ x ∷ [])
rows_behind [] x = tt
rows_behind (y ∷ xs) x = (([], sym (append-nil y.extents)), rows_behind xs x)

abbrev More : State → State → Type 0
More s u = HaveMoreRows s.streams u.streams

kept_more : (s u : State) → u ≡ s → More s u
kept_more s u same = subst (More s) (sym same) (same-rows s.streams)

module _ (s : State) where
  made_more : (name : List ℕ) (columns : List Column) (planned : Result Change Refusal) (given : folder.Outcome) → given ≡ folder.made s name columns planned → More s given.state
  made_more name columns (Ok change) given is = subst (λ (o : folder.Outcome). More s o.state) (sym is) (rows_behind s.streams _)
  made_more name columns (Err why) given is = subst (λ (o : folder.Outcome). More s o.state) (sym is) (same-rows s.streams)

  appended_more : (planned : Result Append Refusal) (given : folder.Outcome) → given ≡ folder.appended s planned → More s given.state
  appended_more (Ok a) given is = subst (λ (o : folder.Outcome). More s o.state) (sym is) (added-rows (new_extent s.next_file a.rows) s.streams a.place)
  appended_more (Err why) given is = subst (λ (o : folder.Outcome). More s o.state) (sym is) (same-rows s.streams)

  worked_more : (care : Care) (program : Option Program) (plan : PlainPlan) (cuts : Cuts) (given : Answer) (new : State) → IsWorkOn care s program plan cuts given new → More s new
  worked_more care program plan cuts (answer.Result rows used kept read) new works = subst (More s) (sym works.1.after) (same-rows s.streams)
  worked_more care program plan cuts (answer.Refused refusal.Overflow) new works = kept_more s new works.1
  worked_more care program plan cuts (answer.Refused (refusal.Limit limit.Machine)) new works = kept_more s new works.1
  worked_more care program plan cuts _ new works = absurd works

  ran_more : (care : Care) (planned : Result Run Refusal) (given : folder.Outcome) → RunsTo care s planned given → More s given.state
  ran_more care (Ok run) given works = worked_more care (Some run.program) run.plan run.program.cuts given.answer given.state works
  ran_more care (Err why) given is = kept_more s given.state (ap (λ (o : folder.Outcome). o.state) is)

  fetched_more : (care : Care) (planned : Result Target Refusal) (given : folder.Outcome) → FetchesTo care s planned given → More s given.state
  fetched_more care (Ok target) given works = worked_more care None target.plan target.cuts given.answer given.state works
  fetched_more care (Err why) given is = kept_more s given.state (ap (λ (o : folder.Outcome). o.state) is)

  collected_more : (full : Bool) (held : List ℕ) (reclaim : ℕ) (given : folder.Outcome) → CollectsTo full held s reclaim given → More s given.state
  collected_more true held reclaim given is = kept_more s given.state (ap (λ (o : folder.Outcome). o.state) is)
  collected_more false held reclaim given is = subst (λ (o : folder.Outcome). More s o.state) (sym is.3) (same-rows s.streams)

  performed_more : (care : Care) (held : List ℕ) (c : Command) (given : folder.Outcome) → folder.Performs care held s c given → More s given.state
  performed_more care held (command.Stream name columns) given is = made_more name columns (making (table s) name columns) given is
  performed_more care held (command.Append name lines) given is = appended_more is.0 given is.2
  performed_more care held (command.Run name tree) given is = ran_more care (running (table s) name tree) given is
  performed_more care held (command.Fetch name as_run) given is = fetched_more care is.0 given is.2
  performed_more care held (command.Collect reclaim) given is = collected_more (nat_le most_ticks s.tick) held reclaim given is
  performed_more care held command.Entries given is = kept_more s given.state (ap (λ (o : folder.Outcome). o.state) is)
  performed_more care held command.Catalog given is = kept_more s given.state (ap (λ (o : folder.Outcome). o.state) is)
  performed_more care held _ given is = absurd is

pub more_by_step : (care : Care) (held : List ℕ) (s new : State) (c : Command) (given : Answer) → folder.Step care held s c given new → HaveMoreRows s.streams new.streams
more_by_step care held s new c given (inl done) = performed_more s care held c (folder.outcome given new) done
more_by_step care held s new c given (inr event) = kept_more s new (ap (λ (o : folder.Outcome). o.state) event.2)

-- ---- the step

module _ (care : Care) (m : Machine) (new : State) where
  abbrev next : Machine
  next = record { state = new; jobs = m.jobs }

  beside : (c : Command) (given : Answer) → (IsOfJobs c → ⊥) → (IsWork c → ⊥) → folder.Performs care (held_by m.jobs) m.state c (folder.outcome given new) → Performs care m c (outcome given next)
  beside (command.Stream name columns) given other no_work done = record { of_folder = done; jobs = refl }
  beside (command.Append name lines) given other no_work done = record { of_folder = done; jobs = refl }
  beside (command.Run name tree) given other no_work done = absurd (no_work tt)
  beside (command.Fetch name as_run) given other no_work done = absurd (no_work tt)
  beside (command.Collect reclaim) given other no_work done = record { of_folder = done; jobs = refl }
  beside command.Entries given other no_work done = record { of_folder = done; jobs = refl }
  beside command.Catalog given other no_work done = record { of_folder = done; jobs = refl }
  beside (command.OpenJob job name tree) given other no_work done = absurd (other tt)
  beside (command.Step job) given other no_work done = absurd (other tt)
  beside (command.Close job) given other no_work done = absurd (other tt)
  beside (command.DropJob job) given other no_work done = absurd (other tt)

  event_beside : (c : Command) (why : Refusal) → (IsOfJobs c → ⊥) → folder.IsEvent care m.state c why → IsEvent care m c why
  event_beside (command.Stream name columns) why other event = event
  event_beside (command.Append name lines) why other event = event
  event_beside (command.Run name tree) why other event = event
  event_beside (command.Fetch name as_run) why other event = event
  event_beside (command.Collect reclaim) why other event = event
  event_beside command.Entries why other event = event
  event_beside command.Catalog why other event = event
  event_beside (command.OpenJob job name tree) why other event = absurd (other tt)
  event_beside (command.Step job) why other event = absurd (other tt)
  event_beside (command.Close job) why other event = absurd (other tt)
  event_beside (command.DropJob job) why other event = absurd (other tt)

  remains_beside : (c : Command) → (IsOfJobs c → ⊥) → new ≡ m.state → Remains care m c next
  remains_beside (command.Stream name columns) other same = ap (λ (x : State). record { state = x; jobs = m.jobs }) same
  remains_beside (command.Append name lines) other same = ap (λ (x : State). record { state = x; jobs = m.jobs }) same
  remains_beside (command.Run name tree) other same = ap (λ (x : State). record { state = x; jobs = m.jobs }) same
  remains_beside (command.Fetch name as_run) other same = ap (λ (x : State). record { state = x; jobs = m.jobs }) same
  remains_beside (command.Collect reclaim) other same = ap (λ (x : State). record { state = x; jobs = m.jobs }) same
  remains_beside command.Entries other same = ap (λ (x : State). record { state = x; jobs = m.jobs }) same
  remains_beside command.Catalog other same = ap (λ (x : State). record { state = x; jobs = m.jobs }) same
  remains_beside (command.OpenJob job name tree) other same = absurd (other tt)
  remains_beside (command.Step job) other same = absurd (other tt)
  remains_beside (command.Close job) other same = absurd (other tt)
  remains_beside (command.DropJob job) other same = absurd (other tt)

  pub step_beside : (c : Command) (given : Answer) → (IsOfJobs c → ⊥) → (IsWork c → ⊥) → folder.Step care (held_by m.jobs) m.state c given new → Step care m c given next
  step_beside c given other no_work (inl done) = inl (beside c given other no_work done)
  step_beside c given other no_work (inr event) =
      inr (event.0, event_beside c event.0 other event.1, ap (λ (o : folder.Outcome). o.answer) event.2, remains_beside c other (ap (λ (o : folder.Outcome). o.state) event.2))

  -- a run or a fetch, where the jobs are left so
  pub working : (c : Command) (given : Answer) (jobs : List Job) → IsWork c → AreLeft m.state new m.jobs jobs → folder.Performs care (held_by m.jobs) m.state c (folder.outcome given new) → Performs care m c (outcome given (record { state = new; jobs = jobs }))
  working (command.Run name tree) given jobs is left done = record { of_folder = done; jobs = left }
  working (command.Fetch name as_run) given jobs is left done = record { of_folder = done; jobs = left }
  working _ given jobs is left done = absurd is

-- ---- a run or a fetch that is refused

works_no_job : (c : Command) → IsWork c → IsOfJobs c → ⊥
works_no_job (command.Run name tree) is of = of
works_no_job (command.Fetch name as_run) is of = of
works_no_job _ is of = absurd is

module _ (care : Care) (m : Machine) (c : Command) (is : IsWork c) where
  pub work_event : (why : Refusal) → folder.IsEvent care m.state c why → Step care m c (answer.Refused why) m
  work_event why event = inr (why, event_beside care m m.state c why (works_no_job c is) event, refl, remains_beside care m m.state c (works_no_job c is) refl)

  pub work_refused : (why : Refusal) → folder.Step care (held_by m.jobs) m.state c (answer.Refused why) m.state → Step care m c (answer.Refused why) m
  work_refused why (inl done) = inl (working care m m.state c (answer.Refused why) m.jobs is (all_stay m.state (gone_between m.state m.state) (gone_by_none m.state m.state refl) m.jobs) done)
  work_refused why (inr event) =
      inr (event.0, event_beside care m m.state c event.0 (works_no_job c is) event.1, ap (λ (o : folder.Outcome). o.answer) event.2, remains_beside care m m.state c (works_no_job c is) refl)
