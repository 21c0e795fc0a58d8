-- The files so far rise from above 0 to the last of them, and all are below the next one.
use Rattle.std.proofs.Common.{take}
use Rattle.catalog_core.proofs.own_files.rise_below.Given as goal
use Rattle.catalog_core.proofs.Rising.{IsLast, RiseBelow}

abbrev pub invariant-loop-file : goal.invariant-loop-file
invariant-loop-file l = record {
  rise : RiseBelow l.next 0 (take l.file-index l.files);
  is_last : IsLast l.last 0 (take l.file-index l.files);
}
