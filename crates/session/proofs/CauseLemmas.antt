-- For which cause a refusal comes, and what it leaves.
use Rattle.std.proofs.Common.{◌≡◌, ◌⊎◌, inl, inr, sym, ap, subst, ℕ, List, length, Option, Some, None, Result, Ok, Err}
use Rattle.estimator.specs.Bytes.{capped}
use Rattle.rewrite_core.specs.Files.{files_of}
use Rattle.rows_core.specs.declared.file_ref.Digest.{Digest}
use Rattle.planning.specs.Opening.{opening}
use Rattle.planning.specs.Running.{Run, storing}
use Rattle.script_text.specs.declared.answer.Answer.TheVariants as answer
use Rattle.script_text.specs.declared.answer.LimitKind.TheVariants as limit
use Rattle.script_text.specs.declared.answer.Refusal.{Refusal}
use Rattle.script_text.specs.declared.answer.Refusal.TheVariants as refusal
use Rattle.script_text.specs.declared.item.Command.{Command}
use Rattle.script_text.specs.declared.item.Command.TheVariants as command
use Rattle.folder.specs.Sound.{Care, Whole}
use Rattle.folder.specs.State.{State, table}
use Rattle.folder_session.specs.Machine as folder
use Rattle.folder_session.specs.Machine.{IsFileEvent}
use Rattle.folder_session.specs.Refusals.{IsRefusedOn}
use Rattle.folder_session.specs.Refusals as of_folder_refused
use Rattle.folder_session.proofs.OutcomeLemmas as of_folder
use Rattle.session.specs.Machine.{Machine, Outcome, gone_between, outcome, refused, is_open, job_named, OpensTo, StepsTo, ClosesTo, ClosesBy, IsClosing, LeavesRead, DropsTo, Performs, PerformsBeside, WorksBeside, HasGoneOn, IsEvent, Remains, Step, held_by}
use Rattle.session.specs.MachineJob.{Job, stepped}
use Rattle.session.specs.Refusals.{IsUnknown, IsClosingRefused, IsCloseRefused, IsRefusedFor}
use Rattle.session.proofs.GoneLemmas.{gone_by_none}
use Rattle.session.proofs.LeavingJobs.{none_chosen}
use Rattle.session.proofs.SparingLemmas.{never_refused, performed_spares, step_spares}

-- what is refused for one reason isn't refused for another
same_refusal : (m new : Machine) (why told : Refusal) → outcome (answer.Refused why) new ≡ refused m told → told ≡ why
same_refusal m new why told e = let answers : answer.Refused why ≡ answer.Refused told = ap (λ (o : Outcome). o.answer) e in cc

module _ (m new : Machine) (why : Refusal) where
  opened_cause : (name : List ℕ) (planned : Result Run Refusal) → OpensTo m name planned (outcome (answer.Refused why) new) → planned ≡ Err why
  opened_cause name (Ok run) opens = let answers : answer.Refused why ≡ answer.Ready (capped (length (files_of opens.rewriting))) = ap (λ (o : Outcome). o.answer) opens.is in absurd (cc)
  opened_cause name (Err told) is = ap Err (same_refusal m new why told is)

  stepped_cause : (care : Care) (name : List ℕ) (job : Option Job) → StepsTo care m name job (outcome (answer.Refused why) new) → IsUnknown job name why
  stepped_cause care name (Some job) (inl is) = absurd (never_refused m name (stepped job) why new is)
  stepped_cause care name (Some job) (inr is) = absurd (never_refused m name is.0 why new is.2)
  stepped_cause care name None is = sym (same_refusal m new why (refusal.Unknown name) is)

  dropped_cause : (name : List ℕ) (job : Option Job) → DropsTo m name job (outcome (answer.Refused why) new) → IsUnknown job name why
  dropped_cause name (Some job) is = let answers : answer.Refused why ≡ answer.Ok = ap (λ (o : Outcome). o.answer) is in absurd (cc)
  dropped_cause name None is = sym (same_refusal m new why (refusal.Unknown name) is)

  on_cause : (care : Care) (name : List ℕ) (job : Job) (w : Refusal) → IsClosing care m name job (answer.Refused w) new → IsRefusedOn m.state job.run.plan job.run.program.cuts w × LeavesRead care m name job new
  on_cause care name job refusal.Overflow is = is
  on_cause care name job (refusal.Limit limit.Machine) is = is
  on_cause care name job _ is = absurd is

  closing_cause : (care : Care) (name : List ℕ) (job : Job) (planned : Result Run Refusal) → ClosesBy care m name job planned (outcome (answer.Refused why) new) → IsClosingRefused m job planned why
  closing_cause care name job (Ok run) is = (on_cause care name job why is).0
  closing_cause care name job (Err told) is = same_refusal m new why told is

  closed_cause : (care : Care) (name : List ℕ) (job : Option Job) → ClosesTo care m name job (outcome (answer.Refused why) new) → IsCloseRefused m job name why
  closed_cause care name (Some job) is = closing_cause care name job (storing (table m.state) job.run) is
  closed_cause care name None is = sym (same_refusal m new why (refusal.Unknown name) is)

  beside_cause : (care : Care) (c : Command) → PerformsBeside care m c (outcome (answer.Refused why) new) → of_folder_refused.IsRefusedFor m.state c why
  beside_cause care c beside = of_folder.cause_of care (held_by m.jobs) m.state new.state c why beside.of_folder

  working_cause : (care : Care) (c : Command) → WorksBeside care m c (outcome (answer.Refused why) new) → of_folder_refused.IsRefusedFor m.state c why
  working_cause care c beside = of_folder.cause_of care (held_by m.jobs) m.state new.state c why beside.of_folder

  pub cause_of : (care : Care) (c : Command) → Performs care m c (outcome (answer.Refused why) new) → IsRefusedFor m c why
  cause_of care (command.OpenJob job name tree) is = opened_cause job (opening (table m.state) (is_open m.jobs job) (length m.jobs) job name tree) is
  cause_of care (command.Step job) is = stepped_cause care job (job_named m.jobs job) is
  cause_of care (command.Close job) is = closed_cause care job (job_named m.jobs job) is
  cause_of care (command.DropJob job) is = dropped_cause job (job_named m.jobs job) is
  cause_of care (command.Stream name columns) is = beside_cause care (command.Stream name columns) is
  cause_of care (command.Append name lines) is = beside_cause care (command.Append name lines) is
  cause_of care (command.Run name tree) is = working_cause care (command.Run name tree) is
  cause_of care (command.Fetch name as_run) is = working_cause care (command.Fetch name as_run) is
  cause_of care (command.Collect reclaim) is = beside_cause care (command.Collect reclaim) is
  cause_of care command.Entries is = beside_cause care command.Entries is
  cause_of care command.Catalog is = beside_cause care command.Catalog is

  -- ---- what it leaves

  left_as : (told : Refusal) → outcome (answer.Refused why) new ≡ refused m told → new ≡ m
  left_as told is = ap (λ (o : Outcome). o.machine) is

  opened_left : (name : List ℕ) (planned : Result Run Refusal) → OpensTo m name planned (outcome (answer.Refused why) new) → new ≡ m
  opened_left name (Ok run) opens = let answers : answer.Refused why ≡ answer.Ready (capped (length (files_of opens.rewriting))) = ap (λ (o : Outcome). o.answer) opens.is in absurd (cc)
  opened_left name (Err told) is = left_as told is

  stepped_left : (care : Care) (name : List ℕ) (job : Option Job) → StepsTo care m name job (outcome (answer.Refused why) new) → new ≡ m
  stepped_left care name (Some job) (inl is) = absurd (never_refused m name (stepped job) why new is)
  stepped_left care name (Some job) (inr is) = absurd (never_refused m name is.0 why new is.2)
  stepped_left care name None is = left_as (refusal.Unknown name) is

  dropped_left : (name : List ℕ) (job : Option Job) → DropsTo m name job (outcome (answer.Refused why) new) → new ≡ m
  dropped_left name (Some job) is = let answers : answer.Refused why ≡ answer.Ok = ap (λ (o : Outcome). o.answer) is in absurd (cc)
  dropped_left name None is = left_as (refusal.Unknown name) is

  beside_left : (care : Care) (c : Command) → PerformsBeside care m c (outcome (answer.Refused why) new) → new ≡ m
  beside_left care c beside =
      let state = of_folder.state_kept care (held_by m.jobs) m.state new.state c why (inl beside.of_folder) in
      λ i. record { state = state i; jobs = beside.jobs i }

  working_left : (care : Care) (c : Command) → WorksBeside care m c (outcome (answer.Refused why) new) → new ≡ m
  working_left care c beside =
      let state = of_folder.state_kept care (held_by m.jobs) m.state new.state c why (inl beside.of_folder) in
      let jobs = none_chosen m.state (gone_between m.state new.state) (gone_by_none m.state new.state state) m.jobs new.jobs beside.jobs in
      λ i. record { state = state i; jobs = jobs i }

closing_left : (care : Care) (m new : Machine) (why : Refusal) (name : List ℕ) (job : Job) (planned : Result Run Refusal) → ClosesBy care m name job planned (outcome (answer.Refused why) new)
    → (new ≡ m) ⊎ ((new.state ≡ m.state) × HasGoneOn care m.state name m.jobs (Some job) new.jobs)
closing_left care m new why name job (Ok run) is =
    let leaves = (on_cause m new why care name job why is).1 in
    inr (ap (λ (x : Machine). x.state) leaves.2, (leaves.0, leaves.1.goes, ap (λ (x : Machine). x.jobs) leaves.2))
closing_left care m new why name job (Err told) is = inl (ap (λ (o : Outcome). o.machine) is)

closed_left : (care : Care) (m new : Machine) (why : Refusal) (name : List ℕ) (found : Option Job) → ClosesTo care m name found (outcome (answer.Refused why) new) → (new ≡ m) ⊎ ((new.state ≡ m.state) × HasGoneOn care m.state name m.jobs found new.jobs)
closed_left care m new why name (Some job) is = closing_left care m new why name job (storing (table m.state) job.run) is
closed_left care m new why name None is = inl (ap (λ (o : Outcome). o.machine) is)

pub unchanged : (care : Care) (m new : Machine) (c : Command) (why : Refusal) → Step care m c (answer.Refused why) new → Remains care m c new
unchanged care m new c why (inr event) = event.3
unchanged care m new (command.OpenJob job name tree) why (inl is) = opened_left m new why job (opening (table m.state) (is_open m.jobs job) (length m.jobs) job name tree) is
unchanged care m new (command.Step job) why (inl is) = stepped_left m new why care job (job_named m.jobs job) is
unchanged care m new (command.Close job) why (inl is) = closed_left care m new why job (job_named m.jobs job) is
unchanged care m new (command.DropJob job) why (inl is) = dropped_left m new why job (job_named m.jobs job) is
unchanged care m new (command.Stream name columns) why (inl is) = beside_left m new why care (command.Stream name columns) is
unchanged care m new (command.Append name lines) why (inl is) = beside_left m new why care (command.Append name lines) is
unchanged care m new (command.Run name tree) why (inl is) = working_left m new why care (command.Run name tree) is
unchanged care m new (command.Fetch name as_run) why (inl is) = working_left m new why care (command.Fetch name as_run) is
unchanged care m new (command.Collect reclaim) why (inl is) = beside_left m new why care (command.Collect reclaim) is
unchanged care m new command.Entries why (inl is) = beside_left m new why care command.Entries is
unchanged care m new command.Catalog why (inl is) = beside_left m new why care command.Catalog is

-- ---- where the files are read

pub never_damaged : (m new : Machine) (c : Command) (file : ℕ) (kept found : Digest) → Step Whole m c (answer.Refused (refusal.Damaged file kept found)) new → ⊥
never_damaged m new c file kept found step = step_spares m new c (refusal.Damaged file kept found) step (λ is. absurd (cc))

-- unreadable bytes are met in no command
unread_event : (care : Care) (s : State) (file at : ℕ) → IsFileEvent care s (refusal.Unreadable file at) → ⊥
unread_event care s file at is = is

unread_folder : (care : Care) (m : Machine) (c : Command) (file at : ℕ) → folder.IsEvent care m.state c (refusal.Unreadable file at) → ⊥
unread_folder care m (command.Stream name columns) file at is = is
unread_folder care m (command.Append name lines) file at is = is
unread_folder care m (command.Run name tree) file at is = is.0
unread_folder care m (command.Fetch name as_run) file at is = is.0
unread_folder care m (command.Collect reclaim) file at is = is
unread_folder care m _ file at is = is

unread : (care : Care) (m : Machine) (c : Command) (file at : ℕ) → IsEvent care m c (refusal.Unreadable file at) → ⊥
unread care m (command.OpenJob job name tree) file at is = is
unread care m (command.Step job) file at is = unread_event care m.state file at is.1
unread care m (command.Close job) file at is = unread_event care m.state file at is.0
unread care m (command.DropJob job) file at is = is
unread care m c file at is = unread_folder care m c file at is

pub never_unreadable : (care : Care) (m new : Machine) (c : Command) (file at : ℕ) → Step care m c (answer.Refused (refusal.Unreadable file at)) new → ⊥
never_unreadable care m new c file at (inl performs) = performed_spares care m c (refusal.Unreadable file at) new performs
never_unreadable care m new c file at (inr event) =
    let same : answer.Refused (refusal.Unreadable file at) ≡ answer.Refused event.0 = event.2 in
    let one : event.0 ≡ refusal.Unreadable file at = cc in
    unread care m c file at (subst (IsEvent care m c) one event.1)
