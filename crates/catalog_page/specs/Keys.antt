-- The keys of the line's objects.
use Rattle.std.specs.Prelude.{ℕ, List, codes}
use Rattle.catalog_page.specs.declared.key.Key.{Key}
use Rattle.catalog_page.specs.declared.key.Key.TheVariants as key

-- as the line spells it
abbrev pub key_word : Key → List ℕ
key_word key.Bytes = codes "bytes"
key_word key.Columns = codes "columns"
key_word key.Cuts = codes "cuts"
key_word key.Entries = codes "entries"
key_word key.Extents = codes "extents"
key_word key.Id = codes "id"
key_word key.Key = codes "key"
key_word key.Last = codes "last"
key_word key.Machine = codes "machine"
key_word key.Made = codes "made"
key_word key.Name = codes "name"
key_word key.Plan = codes "plan"
key_word key.Programs = codes "programs"
key_word key.Rows = codes "rows"
key_word key.Streams = codes "streams"
key_word key.Tick = codes "tick"
key_word key.Uses = codes "uses"
