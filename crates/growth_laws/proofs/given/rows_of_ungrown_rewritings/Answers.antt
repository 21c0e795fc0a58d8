use Rattle.growth_laws.proofs.GivenRows.{given_rows}
use Rattle.growth_laws.proofs.given.rows_of_ungrown_rewritings.Goals as goal

pub returns : goal.returns
returns c = given_rows
