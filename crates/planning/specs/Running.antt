-- Which plan a run is of and what it is stored as, or why it is refused before its work.
use Rattle.std.specs.Prelude.{◌≡◌, ◌<◌, ◌≤◌, ℕ, nat_le, nat_lt, if◌then◌else◌, List, length, map, Option, None, Some, Result, Ok, Err}
use Rattle.rows_core.specs.declared.cut.Cut.{Cut}
use Rattle.plan_core.specs.declared.refusal.PlanRefusal.{PlanRefusal}
use Rattle.plan_core.specs.declared.refusal.PlanRefusal.TheVariants as typing
use Rattle.plan_core.specs.Nesting.{node_count, expr_count}
use Rattle.plan_core.specs.PlainPlan.{PlainPlan, leaves}
use Rattle.plan_core.specs.PlanTyping.{Kinds, plan_typing}
use Rattle.plan_core.specs.TypedPlan.{TypedPlan, IsTypedOver}
use Rattle.plan_text.specs.PlainNamed.{PlainTree}
use Rattle.plan_text.specs.Canonical.{canonical_text}
use Rattle.plan_binder.specs.declared.refusal.BindRefusal.{BindRefusal}
use Rattle.plan_binder.specs.declared.refusal.BindRefusal.TheVariants as binding
use Rattle.plan_binder.specs.Binding as binder
use Rattle.catalog_types.specs.declared.program.Program.{Program}
use Rattle.catalog_types.specs.declared.snapshot.StreamState.{StreamState}
use Rattle.catalog_core.specs.Programs.{names_of, columns_of, kinds_of_streams, extents_at, most_text_bytes, with_program, AreCuts}
use Rattle.catalog_core.specs.Table.{Table, FitsProgram}
use Rattle.rows_core.specs.Limits.{most_ticks, most_programs}
use Rattle.script_text.specs.declared.answer.LimitKind.TheVariants as limit
use Rattle.script_text.specs.declared.answer.Refusal.{Refusal}
use Rattle.script_text.specs.declared.answer.Refusal.TheVariants.{Limit, Unknown, IllTyped, Memory}

-- ---- the plan over the streams

-- the plan with numbers for its names, over these streams
abbrev pub bound_plan : List StreamState → PlainTree → Result PlainPlan BindRefusal
bound_plan streams tree = binder.binding (names_of streams) (columns_of streams) tree

-- the typing of a plan over these streams
abbrev pub typing_of : List StreamState → PlainPlan → Result Kinds PlanRefusal
typing_of streams plan = plan_typing (kinds_of_streams streams) plan

-- why a plan is refused whose names stand for nothing
abbrev pub unbound : BindRefusal → Refusal
unbound (binding.Unknown name) = Unknown name
unbound binding.IllTyped = IllTyped
unbound binding.Memory = Memory

-- why a plan is refused that has no typing; a plan with numbers names no stream that isn't there
abbrev pub untyped : PlanRefusal → Refusal
untyped (typing.Unknown number) = IllTyped
untyped typing.IllTyped = IllTyped
untyped typing.TooMany = Limit limit.Columns
untyped typing.Memory = Memory

-- ---- what is run

-- all extents that the stream of a leaf has now
abbrev pub whole_cut : List StreamState → ℕ → Cut
whole_cut streams leaf = record { from = 0; to = length (extents_at streams leaf) }

-- one for each leaf, from the left
abbrev pub cuts_of : List StreamState → PlainPlan → List Cut
cuts_of streams plan = map (whole_cut streams) (leaves plan)

-- a plan over the streams, and the cut that it is worked off at
pub record Target : Type 0 where
  pub plan : PlainPlan
  pub cuts : List Cut

-- a plan over the streams, and the program that it is stored as
pub record Run : Type 0 where
  pub plan : PlainPlan
  pub program : Program

abbrev pub target_of : Run → Target
target_of run = record { plan = run.plan; cuts = run.program.cuts }

abbrev pub run_of : List StreamState → List ℕ → PlainTree → PlainPlan → Run
run_of streams name tree plan = record {
  plan = plan;
  program = record { name = name; text = canonical_text tree; cuts = cuts_of streams plan };
}

-- why a plan is refused over these streams, if it is: its names stand for nothing, or it has no typing
abbrev pub typed_refusal : Result Kinds PlanRefusal → Option Refusal
typed_refusal (Ok kinds) = None
typed_refusal (Err why) = Some (untyped why)

abbrev pub bound_refusal : List StreamState → Result PlainPlan BindRefusal → Option Refusal
bound_refusal streams (Ok plan) = typed_refusal (typing_of streams plan)
bound_refusal streams (Err why) = Some (unbound why)

abbrev pub plan_refusal : List StreamState → PlainTree → Option Refusal
plan_refusal streams tree = bound_refusal streams (bound_plan streams tree)

-- a run of a plan that has a typing: the first case that holds
abbrev pub storing : Table → Run → Result Run Refusal
storing t run =
    if nat_lt most_text_bytes (length run.program.text) then Err (Limit limit.PlanText) else
    if nat_lt most_programs (length (with_program run.program t.programs)) then Err (Limit limit.Programs) else
    if nat_le most_ticks t.tick then Err (Limit limit.Commands) else
    Ok run

abbrev pub running_typed : Table → Run → Result Kinds PlanRefusal → Result Run Refusal
running_typed t run (Ok kinds) = storing t run
running_typed t run (Err why) = Err (untyped why)

abbrev pub running_bound : Table → List ℕ → PlainTree → Result PlainPlan BindRefusal → Result Run Refusal
running_bound t name tree (Ok plan) = running_typed t (run_of t.streams name tree plan) (typing_of t.streams plan)
running_bound t name tree (Err why) = Err (unbound why)

-- a run of this plan, which then goes by the name
abbrev pub running : Table → List ℕ → PlainTree → Result Run Refusal
running t name tree = running_bound t name tree (bound_plan t.streams tree)

-- ---- what is planned

-- The plan has this typing, the cut ends within the extents, and the plan is within the limits of written plans.
pub record IsTypedAt (t : Table) (target : Target) (typed : TypedPlan) (cuts : List Cut) : Type 0 where
  pub plan : typed.plan ≡ target.plan
  pub over : IsTypedOver (kinds_of_streams t.streams) typed
  pub cuts_are : cuts ≡ target.cuts
  pub are_cuts : AreCuts t.streams (leaves target.plan) cuts
  pub nodes : node_count target.plan ≤ 40
  pub exprs : expr_count target.plan ≤ 512
  pub few_leaves : length (leaves target.plan) ≤ 9

-- so it is, and the table counts one command more
pub record IsPlanned (t : Table) (target : Target) (typed : TypedPlan) (cuts : List Cut) : Type 0 where
  pub typed_at : IsTypedAt t target typed cuts
  pub counted : t.tick < most_ticks

-- so is the plan of a run, and the program fits the table
pub record IsRunPlan (t : Table) (run : Run) (typed : TypedPlan) (program : Program) : Type 0 where
  pub planned : IsPlanned t (target_of run) typed program.cuts
  pub program_is : program ≡ run.program
  pub fits : FitsProgram (Some program) t
