-- The laws that evaluating rests on.
use Rattle.std.specs.Prelude.{◌≡◌, ◌<◌, ◌^◌, List, Some, IfOk}
use Rattle.plan_core.specs.Columns.{Rows}
use Rattle.plan_core.specs.Literals.{HasValidLiterals}
use Rattle.plan_core.specs.MachineTime.{machine_time}
use Rattle.plan_core.specs.PlainPlan.{PlainPlan, leaves}
use Rattle.plan_core.specs.PlanMeaning.{plan_meaning}
use Rattle.plan_core.specs.PlanTyping.{Kinds, plan_kinds}
use Rattle.plan_core.specs.TypedRows.{HaveKinds, AreOfStreams}
use Rattle.plan_laws.specs.ValidRows.{AreValidRows, AreValidLists}
use Rattle.estimator.specs.Cuts.{Cuts, AreIntervals}
use Rattle.rewrite_core.specs.IsRewriting.{IsRewriting, IsDelta}
use Rattle.rewrite_core.specs.PlainRewriting.{PlainRewriting, PlainDelta}
use Rattle.growth_laws.specs.Growth.{Extends, IsMade}
use Rattle.growth_laws.specs.KeptResults.{KeptResults, kept_among}
use Rattle.growth_laws.specs.Lists.{Extents, plan_lists}
use Rattle.growth_laws.specs.Trees.{made_by, added_by}

-- a typed plan gives rows of its kinds
abbrev pub GivesTyped : Type 0
GivesTyped =
    (schemas : List Kinds) (plan : PlainPlan) (kinds : Kinds) (lists : List Rows) → plan_kinds schemas plan ≡ Some kinds
    → AreOfStreams schemas (leaves plan) lists → IfOk (plan_meaning plan lists) (HaveKinds kinds)

-- and valid ones
abbrev pub GivesValid : Type 0
GivesValid =
    (schemas : List Kinds) (plan : PlainPlan) (kinds : Kinds) (lists : List Rows) → plan_kinds schemas plan ≡ Some kinds → HasValidLiterals plan → AreValidLists lists
    → machine_time plan lists < 2 ^ 63 → IfOk (plan_meaning plan lists) AreValidRows

-- a rewriting makes its plan's result
abbrev pub MakesResults : Type 0
MakesResults =
    (extents : Extents) (results : KeptResults) (plan : PlainPlan) (cuts : Cuts) (r : PlainRewriting) → IsRewriting (kept_among extents results) plan cuts r
    → IsMade plan (plan_lists extents plan cuts) (made_by extents results r)

-- a delta adds what comes behind it
abbrev pub AddsResults : Type 0
AddsResults =
    (extents : Extents) (results : KeptResults) (plan : PlainPlan) (old new : Cuts) (d : PlainDelta) → AreIntervals old → IsDelta (kept_among extents results) plan old new d
    → Extends plan (plan_lists extents plan old) (plan_lists extents plan new) (added_by extents results d)

pub record Laws : Type 0 where
  pub typed : GivesTyped
  pub valid : GivesValid
  pub makes : MakesResults
  pub adds : AddsResults
