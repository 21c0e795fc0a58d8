-- A table without some of its kept results.
use Rattle.std.specs.Prelude.{ℕ, List}
use Rattle.entry_table.specs.Work.{after_collection}
use Rattle.catalog_core.specs.Table.{Table, kept_of_table, with_kept}

-- without those of these ids
abbrev pub leaving_out : List ℕ → Table → Table
leaving_out ids t = with_kept (after_collection ids (kept_of_table t)) t
