use Rattle.catalog_core.proofs.AskedResults.{asked-sound, asked-there, asked-len, found-own}
use Rattle.catalog_core.proofs.laws.kept_results_of_tables.Goals as goal

pub returns-clause-sound : goal.returns-clause-sound
returns-clause-sound c = asked-sound

pub returns-clause-there : goal.returns-clause-there
returns-clause-there c = λ t left_out e has. asked-there left_out t.entries e has

pub returns-clause-len : goal.returns-clause-len
returns-clause-len c = asked-len

pub returns-clause-found : goal.returns-clause-found
returns-clause-found c = found-own
