use Rattle.catalog_core.proofs.StillKeyed.{checkpoint-fits, keyed-anyway, keyed-table}
use Rattle.catalog_core.proofs.laws.checkpoints_tell_tables.Goals as goal

pub returns-clause-fits : goal.returns-clause-fits
returns-clause-fits c = checkpoint-fits

pub returns-clause-after : goal.returns-clause-after
returns-clause-after c = λ t whole is told. told

pub returns-clause-keyed : goal.returns-clause-keyed
returns-clause-keyed c = keyed-table

pub returns-clause-anyway : goal.returns-clause-anyway
returns-clause-anyway c = keyed-anyway
