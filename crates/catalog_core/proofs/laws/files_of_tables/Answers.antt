use Rattle.catalog_core.proofs.OwnNumbers.{result-given, result-own, result-apart}
use Rattle.catalog_core.proofs.laws.files_of_tables.Goals as goal

pub returns-clause-given : goal.returns-clause-given
returns-clause-given c = result-given

pub returns-clause-own : goal.returns-clause-own
returns-clause-own c = result-own

pub returns-clause-apart : goal.returns-clause-apart
returns-clause-apart c = result-apart
