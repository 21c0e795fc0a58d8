use Rattle.plan_core.specs.PlainPlan.{leaves}
use Rattle.folder.proofs.ValidLists.{extents-valid, lists-typed, machines-within}
use Rattle.folder.proofs.laws.rows_of_states.Goals as goal

pub returns-clause-valid : goal.returns-clause-valid
returns-clause-valid c = extents-valid

pub returns-clause-typed : goal.returns-clause-typed
returns-clause-typed c = λ s plan cuts valid are. lists-typed s valid (leaves plan) cuts are

pub returns-clause-machines : goal.returns-clause-machines
returns-clause-machines c = machines-within
