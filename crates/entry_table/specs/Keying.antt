-- New results as entries, with keys that are known.
use Rattle.std.specs.Prelude.{ℕ, ◌+◌, List, [], ◌∷◌}
use Rattle.catalog_types.specs.PlainEntry.{PlainEntry, PlainNewEntry}
use Rattle.entry_table.specs.declared.keys.Keys.{Keys}
use Rattle.entry_table.specs.Work.{new_entry}

-- each with its keys and the next id
abbrev pub keyed_entries : ℕ → ℕ → List Keys → List PlainNewEntry → List PlainEntry
keyed_entries tick id [] news = []
keyed_entries tick id (keys ∷ others) [] = []
keyed_entries tick id (keys ∷ others) (new ∷ news) = new_entry tick id keys new ∷ keyed_entries tick (id + 1) others news
