use Rattle.plan_core.specs.PlainPlan.{leaves}
use Rattle.catalog_core.proofs.ExtentFiles.{as-many-lengths, length-is, cuts-in}
use Rattle.catalog_core.proofs.laws.cuts_of_tables.Goals as goal

pub returns-clause-cuts : goal.returns-clause-cuts
returns-clause-cuts c = λ t plan cuts are. cuts-in t.streams (leaves plan) cuts are

pub returns-clause-counts : goal.returns-clause-counts
returns-clause-counts c = λ t stream. as-many-lengths t.streams stream

pub returns-clause-len : goal.returns-clause-len
returns-clause-len c = λ t stream number has. length-is t.streams stream number
