-- Plans and cuts of which a result may be recorded.
use Rattle.std.specs.Prelude.{◌<◌, ◌≤◌, List}
use Rattle.plan_core.specs.Literals.{HasValidLiterals}
use Rattle.plan_core.specs.Nesting.{nesting}
use Rattle.plan_core.specs.PlainPlan.{PlainPlan, leaf_count}
use Rattle.plan_spelling.specs.Spelling.{HasPlanSpelling}
use Rattle.plan_canon.specs.Normal.{IsNormal}
use Rattle.estimator.specs.Cuts.{Cuts}
use Rattle.catalog_types.specs.declared.snapshot.StreamState.{StreamState}
use Rattle.catalog_core.specs.Programs.{kinds_of_streams}
use Rattle.catalog_core.specs.Results.{IsOver}

-- The plan is normal, has a typing over the streams, a spelling and valid literals, and isn't nested deeply; the cuts are one interval for
-- each of its leaves, of which there are few, up to the present extents at most.
pub record IsFit (streams : List StreamState) (plan : PlainPlan) (cuts : Cuts) : Type 0 where
  pub over : IsOver streams plan cuts
  pub normal : IsNormal (kinds_of_streams streams) plan
  pub spelled : HasPlanSpelling plan
  pub literals : HasValidLiterals plan
  pub deep : nesting plan ≤ 1024
  pub few : leaf_count plan < 256
