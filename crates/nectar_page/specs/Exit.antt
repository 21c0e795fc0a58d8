-- The status of the process.
use Rattle.std.specs.Prelude.{ℕ}
use Rattle.nectar_page.specs.declared.exit.Exit.{Exit}
use Rattle.nectar_page.specs.declared.exit.Exit.TheVariants.{Done, SourceFault, SinkFault, Memory, NotCatalogue}

abbrev pub status_of : Exit → ℕ
status_of Done = 0
status_of SourceFault = 3
status_of SinkFault = 4
status_of Memory = 6
status_of (NotCatalogue refusal) = 7
