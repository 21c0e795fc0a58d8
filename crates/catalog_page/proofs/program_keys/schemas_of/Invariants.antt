-- The kinds so far are of the streams so far.
use Rattle.std.proofs.Common.{◌≡◌, take}
use Rattle.catalog_page.specs.ProgramKeys.{schemas_of}
use Rattle.catalog_page.proofs.program_keys.schemas_of.Given as goal

abbrev pub invariant-loop-stream : goal.invariant-loop-stream
invariant-loop-stream l = l.kinds.items ≡ schemas_of (take l.stream-index l.streams)
