-- What is known of the programs and kept results of a table, and needed to tell them.
use Rattle.std.specs.Prelude.{◌≡◌, ℕ, ◌<◌, List, length}
use Rattle.std.specs.List.{AllByRecursion}
use Rattle.plan_core.specs.PlainPlan.{leaves}
use Rattle.plan_text.specs.PlainNamed.{PlainTree}
use Rattle.plan_text.specs.Answer.{AsPlan, text_reading}
use Rattle.catalog_types.specs.PlainEntry.{PlainEntry}
use Rattle.catalog_types.specs.declared.program.Program.{Program}
use Rattle.catalog_types.specs.declared.snapshot.StreamState.{StreamState}

-- its text is read as a plan
abbrev pub IsReadable : Program → Type 0
IsReadable program = (plan : PlainTree) × (text_reading program.text ≡ AsPlan plan)

-- the streams of the leaves of its plan are there
abbrev pub HasStreams : List StreamState → PlainEntry → Type 0
HasStreams streams e = AllByRecursion (λ leaf. leaf < length streams) (leaves e.plan)
