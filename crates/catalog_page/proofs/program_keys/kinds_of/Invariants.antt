-- The kinds so far are of the columns so far.
use Rattle.std.proofs.Common.{◌≡◌, take}
use Rattle.rows_core.specs.Schema.{kinds_of}
use Rattle.catalog_page.proofs.program_keys.kinds_of.Given as goal

abbrev pub invariant-loop-column : goal.invariant-loop-column
invariant-loop-column l = l.kinds.items ≡ kinds_of (take l.column-index l.columns)
