-- A choice for a plan at a cut of a table's streams.
use Rattle.std.specs.Prelude.{IsOk}
use Rattle.plan_core.specs.PlainPlan.{PlainPlan, leaves}
use Rattle.plan_core.specs.PlanTyping.{plan_typing}
use Rattle.estimator.specs.Cuts.{Cuts}
use Rattle.catalog_core.specs.Programs.{AreCuts, kinds_of_streams}
use Rattle.catalog_core.specs.Table.{Table}
use Rattle.plan_choice.specs.Taken.{IsChoice}
use Rattle.plan_choice.specs.declared.choosing.Choice.{Choice}
use Rattle.work_plan.specs.Fitting.{IsFit}

-- The plan has a typing, the cut ends within the extents, and the plan of the rewriting is fit to be recorded at that cut.
pub record IsChosen (t : Table) (plan : PlainPlan) (cuts : Cuts) (choice : Choice) : Type 0 where
  pub choice_is : IsChoice t plan cuts choice
  pub typed : IsOk (plan_typing (kinds_of_streams t.streams) plan)
  pub are_cuts : AreCuts t.streams (leaves plan) cuts
  pub fit : IsFit t.streams choice_is.normal cuts
