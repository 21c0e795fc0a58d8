-- Which refusals of the machine are laid to the store: none but those of what reading meets.
use Rattle.std.proofs.Common.{◌≡◌, ◌⊎◌, ℕ, Bool, true, false, cond, List, [], length, Option, None, Some, Ok, Err, Result, IfErr, refl, sym, ap, subst, inl, inr}
use Rattle.std.specs.Prelude.{nat_le, nat_lt}
use Rattle.plan_binder.specs.declared.refusal.BindRefusal.{BindRefusal}
use Rattle.plan_core.specs.PlainPlan.{PlainPlan}
use Rattle.plan_core.specs.PlanTyping.{Kinds}
use Rattle.plan_core.specs.declared.refusal.PlanRefusal.{PlanRefusal}
use Rattle.plan_text.specs.PlainNamed.{PlainTree}
use Rattle.catalog_core.specs.Programs.{most_text_bytes}
use Rattle.catalog_core.specs.Table.{Table}
use Rattle.estimator.specs.Bytes.{capped}
use Rattle.rewrite_core.specs.Files.{files_of}
use Rattle.planning.specs.Opening.{most_jobs, admitting, refused_job, opening_typed, opening_bound, opening}
use Rattle.planning.specs.Running.{Run, bound_plan, typing_of, run_of, storing, unbound, untyped}
use Rattle.script_text.specs.declared.answer.Answer.TheVariants as answer
use Rattle.script_text.specs.declared.answer.LimitKind.TheVariants as limit
use Rattle.script_text.specs.declared.answer.Refusal.{Refusal}
use Rattle.script_text.specs.declared.answer.Refusal.TheVariants as refusal
use Rattle.script_text.specs.declared.item.Command.{Command}
use Rattle.script_text.specs.declared.item.Command.TheVariants as command
use Rattle.folder.specs.Sound.{Care, Whole}
use Rattle.folder.specs.State.{State, table}
use Rattle.folder_session.specs.Causes.{SparesStore}
use Rattle.folder_session.specs.Machine as folder
use Rattle.folder_session.proofs.RefusalLemmas.{spares_if, storing_spares, untyped_spares, unbound_spares}
use Rattle.folder_session.proofs.RefusalLemmas as of_folder
use Rattle.session.specs.Machine.{Machine, Outcome, outcome, refused, is_open, job_named, OpensTo, StandsSo, StepsTo, IsClosing, ClosesBy, ClosesTo, DropsTo, PerformsBeside, WorksBeside, Performs, IsEvent, Step, held_by}
use Rattle.session.specs.MachineJob.{Job, left_of, stepped}

-- ---- what the opening of a job refuses is laid to the command

admitting_spares : (count : ℕ) (run : Run) → IfErr (admitting count run) SparesStore
admitting_spares count run =
    let by_jobs : Result Run Refusal = cond (nat_le most_jobs count) (Err (refusal.Limit limit.Jobs)) (Ok run) in
    spares_if {C = Run} (nat_lt most_text_bytes (length run.program.text)) (Err (refusal.Limit limit.PlanText)) by_jobs tt
    (spares_if {C = Run} (nat_le most_jobs count) (Err (refusal.Limit limit.Jobs)) (Ok run) tt tt)

refused_job_spares : (exists : Bool) (job : List ℕ) (why : Refusal) → SparesStore why → SparesStore (refused_job exists job why)
refused_job_spares exists job (refusal.Unknown stream) spares = tt
refused_job_spares exists job refusal.Memory spares = tt
refused_job_spares true job _ spares = tt
refused_job_spares false job _ spares = spares

typed_spares : (exists : Bool) (count : ℕ) (job : List ℕ) (run : Run) (kinds : Result Kinds PlanRefusal) → IfErr (opening_typed exists count job run kinds) SparesStore
typed_spares exists count job run (Ok kinds) = spares_if {C = Run} exists (Err (refusal.Exists job)) (admitting count run) tt (admitting_spares count run)
typed_spares exists count job run (Err why) = refused_job_spares exists job (untyped why) (untyped_spares why)

bound_spares : (t : Table) (exists : Bool) (count : ℕ) (job name : List ℕ) (tree : PlainTree) (plan : Result PlainPlan BindRefusal) → IfErr (opening_bound t exists count job name tree plan) SparesStore
bound_spares t exists count job name tree (Ok plan) = typed_spares exists count job (run_of t.streams name tree plan) (typing_of t.streams plan)
bound_spares t exists count job name tree (Err why) = refused_job_spares exists job (unbound why) (unbound_spares why)

opening_spares : (t : Table) (exists : Bool) (count : ℕ) (job name : List ℕ) (tree : PlainTree) → IfErr (opening t exists count job name tree) SparesStore
opening_spares t exists count job name tree = bound_spares t exists count job name tree (bound_plan t.streams tree)

pub opens_sparing : (t : Table) (exists : Bool) (count : ℕ) (job name : List ℕ) (tree : PlainTree) (why : Refusal) → (opening t exists count job name tree ≡ Err why) ⊎ (why ≡ refusal.Memory) → SparesStore why
opens_sparing t exists count job name tree why (inl is) = subst (λ (planned : Result Run Refusal). IfErr planned SparesStore) is (opening_spares t exists count job name tree)
opens_sparing t exists count job name tree why (inr none) = subst SparesStore (sym none) tt

-- ---- what the machine does

-- the refusal that is answered is the one that was planned
pub refused_spares : (m : Machine) (why w : Refusal) (new : Machine) → outcome (answer.Refused why) new ≡ refused m w → SparesStore w → SparesStore why
refused_spares m why w new is spares =
    let same : answer.Refused why ≡ answer.Refused w = ap (λ (o : Outcome). o.answer) is in
    let one : w ≡ why = cc in
    subst SparesStore one spares

opened_spares : (m : Machine) (name : List ℕ) (planned : Result Run Refusal) (why : Refusal) (new : Machine) → IfErr planned SparesStore → OpensTo m name planned (outcome (answer.Refused why) new) → SparesStore why
opened_spares m name (Ok run) why new spares opens =
    let same : answer.Refused why ≡ answer.Ready (capped (length (files_of opens.rewriting))) = ap (λ (o : Outcome). o.answer) opens.is in
    absurd (cc)
opened_spares m name (Err w) why new spares is = refused_spares m why w new is spares

-- a job that stands so isn't refused
pub never_refused : (m : Machine) (name : List ℕ) (job : Job) (why : Refusal) (new : Machine) → StandsSo m name job (outcome (answer.Refused why) new) → ⊥
never_refused m name job why new is =
    let same : answer.Refused why ≡ answer.Left (capped (left_of job)) = ap (λ (o : Outcome). o.answer) is in
    absurd (cc)

stepped_spares : (care : Care) (m : Machine) (name : List ℕ) (job : Option Job) (why : Refusal) (new : Machine) → StepsTo care m name job (outcome (answer.Refused why) new) → SparesStore why
stepped_spares care m name (Some job) why new (inl is) = absurd (never_refused m name (stepped job) why new is)
stepped_spares care m name (Some job) why new (inr is) = absurd (never_refused m name is.0 why new is.2)
stepped_spares care m name None why new is = refused_spares m why (refusal.Unknown name) new is tt

closing_spares : (care : Care) (m : Machine) (name : List ℕ) (job : Job) (why : Refusal) (new : Machine) → IsClosing care m name job (answer.Refused why) new → SparesStore why
closing_spares care m name job refusal.Fault new is = absurd is
closing_spares care m name job (refusal.Damaged file kept found) new is = absurd is
closing_spares care m name job (refusal.Unreadable file at) new is = absurd is
closing_spares care m name job _ new is = tt

closed_by_spares : (care : Care) (m : Machine) (name : List ℕ) (job : Job) (planned : Result Run Refusal) (why : Refusal) (new : Machine) → IfErr planned SparesStore → ClosesBy care m name job planned (outcome (answer.Refused why) new) → SparesStore why
closed_by_spares care m name job (Ok run) why new spares is = closing_spares care m name job why new is
closed_by_spares care m name job (Err w) why new spares is = refused_spares m why w new is spares

closed_spares : (care : Care) (m : Machine) (name : List ℕ) (job : Option Job) (why : Refusal) (new : Machine) → ClosesTo care m name job (outcome (answer.Refused why) new) → SparesStore why
closed_spares care m name (Some job) why new is = closed_by_spares care m name job (storing (table m.state) job.run) why new (storing_spares (table m.state) job.run) is
closed_spares care m name None why new is = refused_spares m why (refusal.Unknown name) new is tt

dropped_spares : (m : Machine) (name : List ℕ) (job : Option Job) (why : Refusal) (new : Machine) → DropsTo m name job (outcome (answer.Refused why) new) → SparesStore why
dropped_spares m name (Some job) why new is =
    let same : answer.Refused why ≡ answer.Ok = ap (λ (o : Outcome). o.answer) is in
    absurd (cc)
dropped_spares m name None why new is = refused_spares m why (refusal.Unknown name) new is tt

beside_spares : (care : Care) (m : Machine) (c : Command) (why : Refusal) (new : Machine) → PerformsBeside care m c (outcome (answer.Refused why) new) → SparesStore why
beside_spares care m c why new beside = of_folder.performed_spares care (held_by m.jobs) m.state c why new.state beside.of_folder

working_spares : (care : Care) (m : Machine) (c : Command) (why : Refusal) (new : Machine) → WorksBeside care m c (outcome (answer.Refused why) new) → SparesStore why
working_spares care m c why new beside = of_folder.performed_spares care (held_by m.jobs) m.state c why new.state beside.of_folder

pub performed_spares : (care : Care) (m : Machine) (c : Command) (why : Refusal) (new : Machine) → Performs care m c (outcome (answer.Refused why) new) → SparesStore why
performed_spares care m (command.OpenJob job name tree) why new is =
    opened_spares m job (opening (table m.state) (is_open m.jobs job) (length m.jobs) job name tree) why new (opening_spares (table m.state) (is_open m.jobs job) (length m.jobs) job name tree) is
performed_spares care m (command.Step job) why new is = stepped_spares care m job (job_named m.jobs job) why new is
performed_spares care m (command.Close job) why new is = closed_spares care m job (job_named m.jobs job) why new is
performed_spares care m (command.DropJob job) why new is = dropped_spares m job (job_named m.jobs job) why new is
performed_spares care m (command.Run name tree) why new is = working_spares care m (command.Run name tree) why new is
performed_spares care m (command.Fetch name as_run) why new is = working_spares care m (command.Fetch name as_run) why new is
performed_spares care m c why new is = beside_spares care m c why new is

-- ---- what comes in the course of a command

-- an event of any folder command
of_command : (s : State) (c : Command) (why : Refusal) → folder.IsEvent Whole s c why → (why ≡ refusal.Fault → ⊥) → SparesStore why
of_command s c why event none = of_folder.step_spares [] s s c why (inr (why, event, refl)) none

-- reading files meets a failed read, and damage where files may show it, and want of memory comes in any command
event_spares : (m : Machine) (c : Command) (why : Refusal) → IsEvent Whole m c why → (why ≡ refusal.Fault → ⊥) → SparesStore why
event_spares m (command.OpenJob job name tree) why event none = of_command m.state command.Entries why event none
event_spares m (command.Step job) why event none = of_folder.file_event_spares m.state why event.1 none
event_spares m (command.Close job) why event none = of_folder.file_event_spares m.state why event.0 none
event_spares m (command.DropJob job) why event none = absurd event
event_spares m c why event none = of_command m.state c why event none

-- where the files hold their bytes no refusal but that of a failed read is laid to the store
pub step_spares : (m new : Machine) (c : Command) (why : Refusal) → Step Whole m c (answer.Refused why) new → (why ≡ refusal.Fault → ⊥) → SparesStore why
step_spares m new c why (inl performs) none = performed_spares Whole m c why new performs
step_spares m new c why (inr event) none =
    let same : answer.Refused why ≡ answer.Refused event.0 = event.2 in
    let one : event.0 ≡ why = cc in
    event_spares m c why (subst (IsEvent Whole m c) one event.1) none
