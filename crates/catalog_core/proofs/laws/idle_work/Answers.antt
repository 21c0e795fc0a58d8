use Rattle.catalog_core.proofs.IdleWork.{idle-after, idle-fits}
use Rattle.catalog_core.proofs.laws.idle_work.Goals as goal

pub returns-clause-after : goal.returns-clause-after
returns-clause-after c = idle-after

pub returns-clause-fits : goal.returns-clause-fits
returns-clause-fits c = idle-fits
