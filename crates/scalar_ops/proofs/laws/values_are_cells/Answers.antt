-- A row that doesn't say that it may overflow has exact values in i64.
use Rattle.scalar_ops.proofs.ValueLaws.{meaning-exact, meaning-IsCell}
use Rattle.scalar_ops.proofs.laws.values_are_cells.Goals as goal

pub returns-clause-exact : goal.returns-clause-exact
returns-clause-exact c = meaning-exact

pub returns-clause-cells : goal.returns-clause-cells
returns-clause-cells c = meaning-IsCell
