use Rattle.nectar_top.proofs.ProgressLemmas.{performs_item, refused_item, breaks_item}
use Rattle.nectar_top.proofs.FaultLemmas.{fault_rose, fault_of_item}
use Rattle.nectar_top.proofs.server.perform.Goals as goal

pub returns-in-Command-clause-ok : goal.returns-in-Command-clause-ok
returns-in-Command-clause-ok g c = λ told care old stands. performs_item care _ _ _ old _ c.in-Command.command _ _ _ c.in-Command.is stands c.step.ensures.alone c.step.ensures.counts.removes (c.step.ensures.gone told) (c.step.ensures.ok told care old stands)

pub returns-in-Command-clause-err : goal.returns-in-Command-clause-err
returns-in-Command-clause-err g c = λ told care old stands. breaks_item care _ _ _ old _ c.in-Command.command _ _ _ c.in-Command.is stands c.step.ensures.alone c.step.ensures.counts.removes (c.step.ensures.err told care old stands)

pub returns-in-Command-clause-faults : goal.returns-in-Command-clause-faults
returns-in-Command-clause-faults g c = λ sparing. fault_rose _ _ _ c.step.ensures.fault c.step.ensures.only_fault

pub returns-in-Refused-clause-ok : goal.returns-in-Refused-clause-ok
returns-in-Refused-clause-ok g c = λ told care old stands. refused_item care _ old _ c.in-Refused.refusal _ _ c.in-Refused.is stands

pub returns-in-Refused-clause-faults : goal.returns-in-Refused-clause-faults
returns-in-Refused-clause-faults g c = λ sparing. fault_of_item _ c.in-Refused.refusal _ c.in-Refused.is sparing
