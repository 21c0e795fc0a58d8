-- The table that a checkpoint tells is spelled, and that of a table's checkpoint is the table.
use Rattle.std.proofs.Common.{◌≡◌, ◌∙◌, List, [], ◌∷◌, map}
use Rattle.std.specs.List.{AllByRecursion}
use Rattle.catalog_types.specs.PlainEntry.{PlainEntry}
use Rattle.catalog_types.specs.declared.change.Change.TheVariants.{Checkpoint}
use Rattle.catalog_types.specs.declared.snapshot.Snapshot.{Snapshot}
use Rattle.entry_table.specs.Keyed.{Digests, with_keys}
use Rattle.record_codec.specs.Forms.{newest}
use Rattle.record_codec.specs.Spelling.{HasEntrySpelling, HasSnapshotSpelling, no_key, keyless_snapshot}
use Rattle.catalog_core.specs.IsTable.{IsTable}
use Rattle.catalog_core.specs.Results.{digests_of}
use Rattle.catalog_core.specs.Table.{Table, empty_table, Fits, keyed}
use Rattle.catalog_core.proofs.StillKeyed.{keyed-anyway, keyed-table, checkpoint-fits}
use Rattle.folder.specs.Spelled.{IsSpelledEntry, IsSpelledTable}

-- keys aren't spelled
entries-spelled : (digests : Digests) (entries : List PlainEntry) → AllByRecursion HasEntrySpelling entries → AllByRecursion IsSpelledEntry (map (with_keys digests) entries)
entries-spelled digests [] has = tt
entries-spelled digests (e ∷ entries) has = (has.0.1, entries-spelled digests entries has.1)

pub restored-spelled : (whole : Snapshot) → HasSnapshotSpelling newest whole → IsSpelledTable (keyed whole)
restored-spelled whole has = record {
  streams = has.3.1;
  programs = has.4.0.1;
  entries = entries-spelled (digests_of whole.streams) whole.entries has.5.0.1;
}

-- ---- keys that are left out come back

pub table-back : (t : Table) → IsTable t → keyed (keyless_snapshot t) ≡ t
table-back t is = keyed-anyway t no_key no_key ∙ keyed-table t is

pub keyless-fits : (t : Table) → IsTable t → Fits (Checkpoint (keyless_snapshot t)) empty_table
keyless-fits t is = checkpoint-fits t (keyless_snapshot t) is (table-back t is)
