-- The files of the ids so far.
use Rattle.std.proofs.Common.{◌≡◌, take}
use Rattle.catalog_core.specs.Catalogs.{table_of}
use Rattle.planning.specs.Collecting.{files_of}
use Rattle.planning.proofs.collected_files.files_of.Given as goal

abbrev pub invariant-loop-id : goal.invariant-loop-id
invariant-loop-id l = l.files.items ≡ files_of (table_of l.catalog) (take l.id-index l.ids)
