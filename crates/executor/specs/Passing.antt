-- When a machine time is above its limit.
use Rattle.std.specs.Prelude.{◌≡◌, ℕ, ◌≤◌, List, IsSome, Ok}
use Rattle.std.specs.List.{AllByRecursion}
use Rattle.plan_core.specs.Columns.{Rows}
use Rattle.plan_core.specs.Literals.{HasValidLiterals}
use Rattle.plan_core.specs.MachineTime.{machine_time}
use Rattle.plan_core.specs.PlainPlan.{PlainPlan}
use Rattle.plan_core.specs.PlanMeaning.{plan_meaning}
use Rattle.plan_core.specs.PlanTyping.{Kinds, plan_kinds}
use Rattle.plan_laws.specs.ValidRows.{AreValidRows}
use Rattle.estimator.specs.Cuts.{Cuts, AreIntervals}
use Rattle.rewrite_core.specs.IsRewriting.{IsRewriting, IsDelta}
use Rattle.rewrite_core.specs.PlainRewriting.{PlainRewriting, PlainDelta}
use Rattle.growth_laws.specs.KeptResults.{KeptResults, kept_among}
use Rattle.growth_laws.specs.Lists.{Extents, plan_lists}
use Rattle.growth_laws.specs.Parts.{plan_at, cuts_at}
use Rattle.result_ops.specs.Bounds.{limit}
use Rattle.executor.specs.Parts.{delta_plan, old_cuts, new_cuts}

-- rows, literals and kept results of a store: the rows of the extents are valid, so are the plan's literals, and no kept
-- result has a machine time above the limit
pub record IsStored (extents : Extents) (results : KeptResults) (plan : PlainPlan) : Type 0 where
  pub valid : AllByRecursion (AllByRecursion AreValidRows) extents
  pub literals : HasValidLiterals plan
  pub within : (id : ℕ) → (results id).machine ≤ limit

abbrev pub IsTyped : PlainPlan → Type 0
IsTyped plan = (schemas : List Kinds) × IsSome (plan_kinds schemas plan)

-- the machine time of the plan on its lists is within the limit
abbrev pub IsWithin : Extents → PlainPlan → Cuts → Type 0
IsWithin extents plan cuts = machine_time plan (plan_lists extents plan cuts) ≤ limit

-- over sound results the machine time of the plan is not within the limit
abbrev pub Passes : Extents → KeptResults → PlainRewriting → Type 0
Passes extents results r =
    IsRewriting (kept_among extents results) (plan_at r) (cuts_at r) r → IsStored extents results (plan_at r) → IsTyped (plan_at r)
    → IsWithin extents (plan_at r) (cuts_at r) → ⊥

-- where the plan gave rows at the old cut, it is not within the limit at both cuts
abbrev pub DeltaPasses : Extents → KeptResults → PlainDelta → Type 0
DeltaPasses extents results d =
    IsDelta (kept_among extents results) (delta_plan d) (old_cuts d) (new_cuts d) d → AreIntervals (old_cuts d) → IsStored extents results (delta_plan d)
    → IsTyped (delta_plan d) → (rows : Rows) → plan_meaning (delta_plan d) (plan_lists extents (delta_plan d) (old_cuts d)) ≡ Ok rows
    → IsWithin extents (delta_plan d) (old_cuts d) → IsWithin extents (delta_plan d) (new_cuts d) → ⊥
