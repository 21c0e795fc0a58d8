-- The plan that goes by a name.
use Rattle.std.specs.Prelude.{◌≡◌, ℕ, List, Option, None, Some}
use Rattle.plan_core.specs.PlainPlan.{leaves}
use Rattle.plan_core.specs.TypedPlan.{IsTypedOver}
use Rattle.catalog_types.specs.declared.program.Program.{Program}
use Rattle.catalog_core.specs.Programs.{kinds_of_streams, program_named, AreCuts, IsPlanOf}
use Rattle.catalog_core.specs.Table.{Table}
use Rattle.catalog_core.specs.declared.stored.StoredPlan.{StoredPlan}

-- it is the plan of the program's text, with its typing over the streams, and the cut is the program's
pub record IsStoredPlan (t : Table) (program : Program) (stored : StoredPlan) : Type 0 where
  pub is_plan : IsPlanOf t.streams program.text stored.typed.plan
  pub typed : IsTypedOver (kinds_of_streams t.streams) stored.typed
  pub cuts_are : stored.cuts ≡ program.cuts
  pub are_cuts : AreCuts t.streams (leaves stored.typed.plan) program.cuts

-- what goes by the name: nothing, or a program's plan
abbrev pub GoesBy : Table → List ℕ → Option StoredPlan → Type 0
GoesBy t name None = program_named t.programs name ≡ None
GoesBy t name (Some stored) = (program : Program) × (program_named t.programs name ≡ Some program) × IsStoredPlan t program stored
