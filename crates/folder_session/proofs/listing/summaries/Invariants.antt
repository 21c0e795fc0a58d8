-- What is told of the entries so far.
use Rattle.std.proofs.Common.{◌≡◌, map, take}
use Rattle.folder_session.specs.Machine.{summary_of}
use Rattle.folder_session.proofs.listing.summaries.Given as goal

abbrev pub invariant-loop-entry : goal.invariant-loop-entry
invariant-loop-entry l = l.summaries.items ≡ map summary_of (take l.entry-index l.entries)
