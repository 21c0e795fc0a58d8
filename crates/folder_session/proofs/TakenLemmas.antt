-- The bytes that a command takes.
use Rattle.std.proofs.Common.{◌≡◌, ◌⊎◌, ◌+◌, ℕ, Bool, List, Ok, Err, Result, IfOk, sym, ◌∙◌, subst, inl, inr, arith}
use Rattle.outside_traits.specs.View.{Counts}
use Rattle.outside_traits.specs.declared.failed.Failed.{Failed}
use Rattle.plan_core.specs.PlainPlan.{PlainPlan}
use Rattle.estimator.specs.Cuts.{Cuts}
use Rattle.rewrite_core.specs.Files.{files_of}
use Rattle.catalog_core.specs.Named.{bytes_named}
use Rattle.catalog_core.specs.Table.{Table}
use Rattle.planning.specs.Running.{Run, running}
use Rattle.script_text.specs.declared.answer.Answer.{Answer}
use Rattle.script_text.specs.declared.answer.Answer.TheVariants as answer
use Rattle.script_text.specs.declared.answer.Refusal.{Refusal}
use Rattle.script_text.specs.declared.item.Command.{Command}
use Rattle.script_text.specs.declared.item.Command.TheVariants as command
use Rattle.executor.specs.Running.{TookAtMost}
use Rattle.work_run.specs.Ends.{CountsRead}
use Rattle.folder_session.specs.declared.session.FolderSession.{FolderSession}
use Rattle.folder_session.specs.declared.wanting.Purpose.{Purpose}
use Rattle.folder_session.specs.declared.wanting.Purpose.TheVariants as purpose
use Rattle.folder_session.specs.Causes.{TellsOfNoFile}
use Rattle.folder_session.specs.Taken.{TakesNone, TakesInTurns, TakesForFetch, TakesForRun, TakesFor, TakesAsTold}
use Rattle.folder_session.specs.Wanted.{IsWorkOf, cuts_for}

-- ---- counts

most_then : (n : ℕ) (old mid new : Counts) → TookAtMost n old mid → new.taken ≡ mid.taken → TookAtMost n old new
most_then n old mid new most same = omega (arith, most, same)

pub read_then : (n : ℕ) (old mid new : Counts) → CountsRead n old mid → new.taken ≡ mid.taken → CountsRead n old new
read_then n old mid new (inl taken) same = inl (same ∙ taken)
read_then n old mid new (inr none) same = inr (none.0, same ∙ none.1)

-- ---- what a command may take

-- no command has taken more than none
none_for_run : (t : Table) (planned : Result Run Refusal) (old new : Counts) → TakesNone old new → TakesForRun t planned old new
none_for_run t (Ok run) old new none = inl none
none_for_run t (Err why) old new none = none

pub none_for : (t : Table) (c : Command) (old new : Counts) → TakesNone old new → TakesFor t c old new
none_for t (command.Stream name columns) old new none = none
none_for t (command.Append name lines) old new none = none
none_for t (command.Run name tree) old new none = none_for_run t (running t name tree) old new none
none_for t (command.Fetch name as_run) old new none = inl none
none_for t (command.Collect reclaim) old new none = none
none_for t _ old new none = none

-- what was taken in turns, and nothing behind them
abbrev pub TookForWork : Table → PlainPlan → Cuts → Counts → Counts → Type 0
TookForWork t plan cuts old new = TakesNone old new ⊎ TakesInTurns t plan cuts old new

turns_then : (t : Table) (plan : PlainPlan) (cuts : Cuts) (old mid new : Counts) → TookForWork t plan cuts old mid → new.taken ≡ mid.taken → TookForWork t plan cuts old new
turns_then t plan cuts old mid new (inl none) same = inl (same ∙ none)
turns_then t plan cuts old mid new (inr (form, took)) same =
    inr (form, record { rewriting = took.rewriting; after = took.after; most = most_then (took.after.bytes + bytes_named t (files_of took.rewriting)) old mid new took.most same })

run_then : (t : Table) (planned : Result Run Refusal) (old mid new : Counts) → TakesForRun t planned old mid → new.taken ≡ mid.taken → TakesForRun t planned old new
run_then t (Ok run) old mid new took same = turns_then t run.plan run.program.cuts old mid new took same
run_then t (Err why) old mid new none same = same ∙ none

fetch_then : (t : Table) (name : List ℕ) (as_run : Bool) (old mid new : Counts) → TakesForFetch t name as_run old mid → new.taken ≡ mid.taken → TakesForFetch t name as_run old new
fetch_then t name as_run old mid new (inl none) same = inl (same ∙ none)
fetch_then t name as_run old mid new (inr (target, planned, (form, took))) same =
    inr (target, planned, (form, record { rewriting = took.rewriting; after = took.after; most = most_then (took.after.bytes + bytes_named t (files_of took.rewriting)) old mid new took.most same }))

-- no command takes more behind what it took
pub takes_then : (t : Table) (c : Command) (old mid new : Counts) → TakesFor t c old mid → new.taken ≡ mid.taken → TakesFor t c old new
takes_then t (command.Run name tree) old mid new took same = run_then t (running t name tree) old mid new took same
takes_then t (command.Fetch name as_run) old mid new took same = fetch_then t name as_run old mid new took same
takes_then t _ old mid new none same = same ∙ none

pub took_for : (t : Table) (c : Command) (plan : PlainPlan) (aim : Purpose) (old new : Counts) → IsWorkOf t c plan aim → TookForWork t plan (cuts_for aim) old new → TakesFor t c old new
took_for t (command.Run name tree) plan (purpose.Run program) old new is took = subst (λ (planned : Result Run Refusal). TakesForRun t planned old new) (sym is) took
took_for t (command.Fetch name as_run) plan (purpose.Fetch cuts) old new is took = elim took [ inl none ↦ inl none | inr turns ↦ inr (record { plan = plan; cuts = cuts }, is, turns) ]
took_for t _ plan _ old new is took = absurd is

-- ---- answers

pub told_of_none : (given : Answer) (old new : Counts) → TellsOfNoFile given → TakesAsTold given old new
told_of_none (answer.Result rows used kept read) old new none = absurd none
told_of_none _ old new none = tt

pub of_no_file : (given : Answer) → TellsOfNoFile given → (result : Result (FolderSession × Answer) Failed) → IfOk result (λ next. next.1 ≡ given) → IfOk result (λ next. TellsOfNoFile next.1)
of_no_file given none (Ok next) is = subst TellsOfNoFile (sym is) none
of_no_file given none (Err failed) is = tt
