-- What the streams of a catalogue are as plain data, and the chains of their extents.
use Rattle.std.specs.Prelude.{◌<◌, ◌≤◌, ℕ, List, length, map, min, vec_len, vec_capacity}
use Rattle.rows_core.specs.declared.schema.Column.{Column}
use Rattle.catalog_types.specs.declared.snapshot.StreamState.{StreamState}
use Rattle.catalog_core.specs.declared.stream.CatalogStream.{CatalogStream}

abbrev pub name_of : CatalogStream → List ℕ
name_of stream = stream.name

abbrev pub columns_of : CatalogStream → List Column
columns_of stream = stream.schema

abbrev pub state_of : CatalogStream → StreamState
state_of stream = record { name = stream.name; columns = stream.schema; extents = stream.extents.items }

abbrev pub states_of : List CatalogStream → List StreamState
states_of streams = map state_of streams

-- room for one more extent, so that appending wants no memory
abbrev pub HasRoomForExtent : CatalogStream → Type 0
HasRoomForExtent stream = vec_len stream.extents < vec_capacity stream.extents

-- the chains of the first extents are known, as many as this or all of them
abbrev pub KnowsChains : ℕ → CatalogStream → Type 0
KnowsChains count stream = min count (length stream.extents.items) ≤ length stream.chains.items
