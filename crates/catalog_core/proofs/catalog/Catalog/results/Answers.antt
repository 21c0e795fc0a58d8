use Rattle.entry_table.specs.Tables.{kept_of}
use Rattle.entry_table.proofs.KeyedEntries.{keyed-programs}
use Rattle.catalog_core.specs.Results.{digests_of}
use Rattle.catalog_core.specs.Streams.{states_of}
use Rattle.catalog_core.specs.Catalogs.{table_of}
use Rattle.catalog_core.proofs.AskedResults.{asked-sound}
use Rattle.catalog_core.proofs.catalog.Catalog.results.Goals as goal

pub results-requires : goal.results-requires
results-requires c =
    let t = c.args.self.now in
    keyed-programs (digests_of (states_of t.streams.items)) (kept_of t.kept).entries t.sound.keyed

pub returns-clause-sound : goal.returns-clause-sound
returns-clause-sound c = asked-sound (table_of c.args.self.now) c.args.left_out.now c.args.self.now.sound
