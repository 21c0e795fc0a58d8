-- Results that are kept: of each the kept form and the machine time, by its id.
use Rattle.std.specs.Prelude.{◌≡◌, ℕ, Ok, Contains}
use Rattle.row_blob.specs.declared.kept.Kept.{Kept}
use Rattle.plan_core.specs.MachineTime.{machine_time}
use Rattle.plan_core.specs.PlainPlan.{PlainPlan}
use Rattle.plan_laws.specs.KeptForm.{kept_form}
use Rattle.estimator.specs.Cuts.{Cuts, AreIntervals}
use Rattle.rewrite_core.specs.Entries.{Entry, Entries}
use Rattle.rewrite_core.specs.IsRewriting.{Naming}
use Rattle.growth_laws.specs.Lists.{Extents, plan_lists}

pub record KeptResult : Type 0 where
  pub form : Kept
  pub machine : ℕ

abbrev pub KeptResults : Type 0
KeptResults = ℕ → KeptResult

-- it is the result of this plan at this cut
pub record IsResultOf (extents : Extents) (plan : PlainPlan) (cuts : Cuts) (result : KeptResult) : Type 0 where
  pub form : kept_form plan (plan_lists extents plan cuts) ≡ Ok result.form
  pub machine : result.machine ≡ machine_time plan (plan_lists extents plan cuts)

-- each entry of the list is kept
abbrev pub AreKept : Extents → KeptResults → Entries → Type 0
AreKept extents results entries = (e : Entry) → Contains entries e → IsResultOf extents e.plan e.cuts (results e.id)

-- the results that are kept as they are named
abbrev pub kept_among : Extents → KeptResults → Naming
kept_among extents results = record {
  whole = λ plan cuts hit. (hit.cuts ≡ cuts) × IsResultOf extents plan cuts (results hit.id);
  earlier = λ plan cuts hit. AreIntervals hit.cuts × IsResultOf extents plan hit.cuts (results hit.id);
}
