-- The results that are left have the next files where all do.
use Rattle.std.proofs.Common.{◌↔◌, length}
use Rattle.entry_table.specs.Results.{HaveNextFiles}
use Rattle.entry_table.proofs.results.have_next_files.Given as goal

abbrev pub invariant-loop-rest : goal.invariant-loop-rest
invariant-loop-rest l = HaveNextFiles l.next_file l.kept ↔ HaveNextFiles l.file l.rest

abbrev pub decreases-loop-rest : goal.decreases-loop-rest
decreases-loop-rest l = length l.rest
