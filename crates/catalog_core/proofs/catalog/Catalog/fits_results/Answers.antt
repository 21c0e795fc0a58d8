use Rattle.entry_table.proofs.KeyedEntries.{keyed-programs}
use Rattle.entry_table.specs.Tables.{kept_of}
use Rattle.catalog_core.specs.Results.{digests_of}
use Rattle.catalog_core.specs.Streams.{states_of}
use Rattle.catalog_core.proofs.catalog.Catalog.fits_results.Goals as goal

pub fits_work-requires-clause-keyed : goal.fits_work-requires-clause-keyed
fits_work-requires-clause-keyed c =
    let t = c.args.self.now in
    keyed-programs (digests_of (states_of t.streams.items)) (kept_of t.kept).entries t.sound.keyed
