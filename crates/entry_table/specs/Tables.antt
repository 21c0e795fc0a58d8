-- The entries that a table holds, and what it is prepared for.
use Rattle.std.specs.Prelude.{◌≡◌, ◌+◌, ◌≤◌, List, length, map, vec_capacity}
use Rattle.catalog_types.specs.PlainEntry.{PlainNewEntry}
use Rattle.cache_index.specs.Index as index
use Rattle.entry_table.specs.declared.table.EntryTable.{EntryTable}
use Rattle.entry_table.specs.Keyed.{Digests, keys_of}
use Rattle.entry_table.specs.Work.{Kept, kept_with}

abbrev pub kept_of : EntryTable → Kept
kept_of table = kept_with table.next_id table.entries.items

-- ---- room for a piece of work, so that it wants no memory

abbrev pub HasRoom : List PlainNewEntry → EntryTable → Type 0
HasRoom news table =
    (length table.spare_keys.items ≡ length news) × (length table.entries.items + length news ≤ vec_capacity table.entries)
    × index.HasRoom (length news) table.index

-- their keys are known
abbrev pub HasKeys : Digests → List PlainNewEntry → EntryTable → Type 0
HasKeys digests news table = table.spare_keys.items ≡ map (keys_of digests) news
