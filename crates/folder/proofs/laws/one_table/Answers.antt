use Rattle.folder.proofs.Loading.{reads_once, reads_or_stops, stop_once}
use Rattle.folder.proofs.laws.one_table.Goals as goal

pub returns-clause-once : goal.returns-clause-once
returns-clause-once c = reads_once

pub returns-clause-or_stops : goal.returns-clause-or_stops
returns-clause-or_stops c = reads_or_stops

pub returns-clause-one_place : goal.returns-clause-one_place
returns-clause-one_place c = stop_once
