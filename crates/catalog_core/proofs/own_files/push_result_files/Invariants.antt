-- The files of the kept results so far stand behind the others.
use Rattle.std.proofs.Common.{◌≡◌, ◌++◌, take}
use Rattle.catalog_core.specs.OwnFiles.{result_files}
use Rattle.catalog_core.proofs.own_files.push_result_files.Given as goal

abbrev pub invariant-loop-entry : goal.invariant-loop-entry
invariant-loop-entry l = l.files.items ≡ l.initial.files.items ++ result_files (take l.entry-index l.entries)
