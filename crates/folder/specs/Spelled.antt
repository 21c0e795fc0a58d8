-- Tables that have a spelling as a checkpoint in the newest form.
use Rattle.std.specs.List.{AllByRecursion}
use Rattle.catalog_types.specs.PlainEntry.{PlainEntry}
use Rattle.record_codec.specs.Forms.{newest}
use Rattle.record_codec.specs.Spelling.{kept_of, HasStreamSpelling, HasProgramSpelling, HasNewEntrySpelling}
use Rattle.catalog_core.specs.Table.{Table}

-- it has a spelling as a result that is to be kept
abbrev pub IsSpelledEntry : PlainEntry → Type 0
IsSpelledEntry e = HasNewEntrySpelling (kept_of e)

-- Each stream, each program and each kept result has a spelling. What else a spelling asks is true of every table: its counts and
-- numbers fit their fields, and its programs and kept results stand in order.
pub record IsSpelledTable (t : Table) : Type 0 where
  pub streams : AllByRecursion (HasStreamSpelling newest) t.streams
  pub programs : AllByRecursion HasProgramSpelling t.programs
  pub entries : AllByRecursion IsSpelledEntry t.entries
