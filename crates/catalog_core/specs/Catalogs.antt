-- The table that a catalogue holds, and what it is prepared for.
use Rattle.std.specs.Prelude.{◌≡◌, ◌<◌, ℕ, List, [], ◌∷◌, ◌++◌, slice_get, Option, Some, IfSome, vec_len, vec_capacity}
use Rattle.std.specs.List.{AllByRecursion}
use Rattle.indexmap.specs.IndexSet.{spare}
use Rattle.rows_core.specs.declared.schema.Column.{Column}
use Rattle.rows_core.specs.Schema.{kinds_of}
use Rattle.plan_spelling.specs.Spelling.{HasPlanSpelling}
use Rattle.plan_core.specs.declared.schemas.Schemas.{Schemas}
use Rattle.catalog_types.specs.PlainEntry.{PlainNewEntry}
use Rattle.catalog_types.specs.declared.change.Change.{Change}
use Rattle.catalog_types.specs.declared.change.Change.TheVariants.{Stream, Append, Work, Collect, Checkpoint}
use Rattle.catalog_types.specs.declared.program.Program.{Program}
use Rattle.entry_table.specs.Tables.{kept_of, HasKeys}
use Rattle.entry_table.specs.Tables as results
use Rattle.catalog_core.specs.declared.stream.CatalogStream.{CatalogStream}
use Rattle.catalog_core.specs.declared.catalog.Catalog.{Catalog}
use Rattle.catalog_core.specs.Programs.{kinds_of_streams}
use Rattle.catalog_core.specs.Results.{digests_of}
use Rattle.catalog_core.specs.Streams.{states_of, HasRoomForExtent}
use Rattle.catalog_core.specs.Table.{Table, table_with, Fits}

abbrev pub table_of : Catalog → Table
table_of catalog =
    table_with catalog.tick catalog.next_file (kept_of catalog.kept).next_id (states_of catalog.streams.items) catalog.programs.items
    (kept_of catalog.kept).entries

-- ---- room for a change, so that making it wants no memory

-- the kinds of the columns of each stream, where one with these columns comes behind the others
abbrev pub next_schemas : List Column → Catalog → Schemas
next_schemas columns catalog = record { kinds = kinds_of_streams (states_of catalog.streams.items) ++ kinds_of columns ∷ [] }

pub record HasRoomForStream (name : List ℕ) (columns : List Column) (catalog : Catalog) : Type 0 where
  pub streams : vec_len catalog.streams < vec_capacity catalog.streams
  pub names : 0 < spare catalog.names
  pub next_name : catalog.spare_name ≡ Some name
  pub next_kinds : catalog.spare_schemas ≡ Some (next_schemas columns catalog)

abbrev pub HasRoomAt : ℕ → Catalog → Type 0
HasRoomAt place catalog = (stream : CatalogStream) → slice_get catalog.streams.items place ≡ Some stream → HasRoomForExtent stream

abbrev pub HasRoomForProgram : Option Program → Catalog → Type 0
HasRoomForProgram program catalog = IfSome program (λ _. vec_len catalog.programs < vec_capacity catalog.programs)

-- room for new results, whose keys are known
abbrev pub HasRoomForResults : List PlainNewEntry → Catalog → Type 0
HasRoomForResults kept catalog =
    results.HasRoom kept catalog.kept × HasKeys (digests_of (states_of catalog.streams.items)) kept catalog.kept

abbrev pub HasRoomForWork : Option Program → List PlainNewEntry → Catalog → Type 0
HasRoomForWork program kept catalog = HasRoomForProgram program catalog × HasRoomForResults kept catalog

abbrev pub HasRoom : Change → Catalog → Type 0
HasRoom (Stream name columns) catalog = HasRoomForStream name columns catalog
HasRoom (Append place extent) catalog = HasRoomAt place catalog
HasRoom (Work program reads dropped kept) catalog = HasRoomForWork program kept catalog
HasRoom (Collect ids) catalog = Unit {0}
HasRoom (Checkpoint whole) catalog = Unit {0}

-- the plan of each new result has a spelling
abbrev pub AreSpelled : Change → Type 0
AreSpelled (Work program reads dropped kept) = AllByRecursion (λ new. HasPlanSpelling new.plan) kept
AreSpelled _ = Unit {0}

-- the change fits, and there is room for it
pub record IsReady (catalog : Catalog) (change : Change) : Type 0 where
  pub fits : Fits change (table_of catalog)
  pub room : HasRoom change catalog
