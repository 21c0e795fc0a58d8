-- Those of the entries passed are dropped.
use Rattle.std.proofs.Common.{◌≡◌, take}
use Rattle.work_turns.specs.Ends.{files_among, those_among}
use Rattle.work_turns.proofs.dropping.dropped_results.Given as goal

abbrev pub invariant-loop-entry : goal.invariant-loop-entry
invariant-loop-entry l = record {
  ids : l.ids.items ≡ those_among l.lost (take l.entry-index l.entries);
  files : l.files.items ≡ files_among l.lost (take l.entry-index l.entries);
}
