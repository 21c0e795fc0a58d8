-- Which plan a job is opened with, or why it isn't opened: the first case that holds.
use Rattle.std.specs.Prelude.{◌≡◌, ℕ, nat_le, nat_lt, Bool, if◌then◌else◌, List, length, Result, Ok, Err}
use Rattle.plan_core.specs.declared.refusal.PlanRefusal.{PlanRefusal}
use Rattle.plan_core.specs.PlainPlan.{PlainPlan}
use Rattle.plan_core.specs.PlanTyping.{Kinds}
use Rattle.plan_core.specs.TypedPlan.{TypedPlan}
use Rattle.plan_text.specs.PlainNamed.{PlainTree}
use Rattle.plan_binder.specs.declared.refusal.BindRefusal.{BindRefusal}
use Rattle.catalog_types.specs.declared.program.Program.{Program}
use Rattle.catalog_core.specs.Programs.{most_text_bytes, IsProgram}
use Rattle.catalog_core.specs.Table.{Table}
use Rattle.script_text.specs.declared.answer.LimitKind.TheVariants as limit
use Rattle.script_text.specs.declared.answer.Refusal.{Refusal}
use Rattle.script_text.specs.declared.answer.Refusal.TheVariants.{Limit, Unknown, Exists, Memory}
use Rattle.planning.specs.Running.{Run, run_of, target_of, bound_plan, typing_of, unbound, untyped, IsTypedAt}

-- the most open jobs
abbrev pub most_jobs : ℕ
most_jobs = 64

-- a job with this run, where so many are open
abbrev pub admitting : ℕ → Run → Result Run Refusal
admitting count run =
    if nat_lt most_text_bytes (length run.program.text) then Err (Limit limit.PlanText) else
    if nat_le most_jobs count then Err (Limit limit.Jobs) else
    Ok run

-- why no job is opened with a plan that is refused for this: where a job of the name is open, that comes behind the streams and
-- before all else
abbrev pub refused_job : Bool → List ℕ → Refusal → Refusal
refused_job exists job (Unknown stream) = Unknown stream
refused_job exists job Memory = Memory
refused_job exists job why = if exists then Exists job else why

abbrev pub opening_typed : Bool → ℕ → List ℕ → Run → Result Kinds PlanRefusal → Result Run Refusal
opening_typed exists count job run (Ok kinds) = if exists then Err (Exists job) else admitting count run
opening_typed exists count job run (Err why) = Err (refused_job exists job (untyped why))

abbrev pub opening_bound : Table → Bool → ℕ → List ℕ → List ℕ → PlainTree → Result PlainPlan BindRefusal → Result Run Refusal
opening_bound t exists count job name tree (Ok plan) = opening_typed exists count job (run_of t.streams name tree plan) (typing_of t.streams plan)
opening_bound t exists count job name tree (Err why) = Err (refused_job exists job (unbound why))

-- the opening of a job, with a plan that goes by the name once the job is closed
abbrev pub opening : Table → Bool → ℕ → List ℕ → List ℕ → PlainTree → Result Run Refusal
opening t exists count job name tree = opening_bound t exists count job name tree (bound_plan t.streams tree)

-- the plan of a job, and the program that it is stored as once the job is closed
pub record IsOpenPlan (t : Table) (run : Run) (typed : TypedPlan) (program : Program) : Type 0 where
  pub typed_at : IsTypedAt t (target_of run) typed program.cuts
  pub program_is : program ≡ run.program
  pub is_program : IsProgram t.streams program
