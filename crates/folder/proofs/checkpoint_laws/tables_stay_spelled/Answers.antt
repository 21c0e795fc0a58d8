use Rattle.folder.proofs.Staying.{stays-spelled}
use Rattle.folder.proofs.checkpoint_laws.tables_stay_spelled.Goals as goal

pub returns-clause-first : goal.returns-clause-first
returns-clause-first c = record { streams = tt; programs = tt; entries = tt }

pub returns-clause-kept : goal.returns-clause-kept
returns-clause-kept c = stays-spelled
