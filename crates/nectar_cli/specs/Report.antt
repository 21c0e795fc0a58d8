-- What a person is told at the end of a run.
use Rattle.std.specs.Prelude.{ℕ, List, Option, Some, None, codes}
use Rattle.nectar_top.specs.declared.exit.Exit.{Exit}
use Rattle.nectar_top.specs.declared.exit.Exit.TheVariants.{Done, Usage, SourceFault, SinkFault, StoreFault, Memory, NotAStore, ScriptLimit}

-- the line on standard error, where there is one without a place
abbrev pub message_of : Exit → Option (List ℕ)
message_of Done = None
message_of Usage = Some (codes "usage: nectar FOLDER [--quiet] [--generate N]")
message_of SourceFault = Some (codes "nectar: input failed")
message_of SinkFault = Some (codes "nectar: output failed")
message_of StoreFault = Some (codes "nectar: folder failed")
message_of (NotAStore file at) = None
message_of Memory = Some (codes "nectar: out of memory")
message_of ScriptLimit = Some (codes "nectar: script too long")

-- the status of the process
abbrev pub status_of : Exit → ℕ
status_of Done = 0
status_of Usage = 2
status_of SourceFault = 3
status_of SinkFault = 4
status_of StoreFault = 5
status_of Memory = 6
status_of (NotAStore file at) = 7
status_of ScriptLimit = 8
