use Rattle.gated_log.proofs.Blocks.{one_reading, stops_once, reads_or_stops}
use Rattle.gated_log.proofs.reading.one_reading.Goals as goal

pub returns-clause-bodies : goal.returns-clause-bodies
returns-clause-bodies c = one_reading

pub returns-clause-place : goal.returns-clause-place
returns-clause-place c = stops_once

pub returns-clause-not_both : goal.returns-clause-not_both
returns-clause-not_both c = reads_or_stops
