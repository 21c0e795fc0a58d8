-- What comes of the jobs so far.
use Rattle.std.proofs.Common.{take}
use Rattle.row_blob.specs.Kept.{AreEach}
use Rattle.catalog_core.specs.Catalogs.{table_of}
use Rattle.job_turns.specs.Jobs.{IsNextWithout}
use Rattle.session.proofs.recording.nexts_without.Given as goal

abbrev pub invariant-loop-opened : goal.invariant-loop-opened
invariant-loop-opened l = AreEach (λ opened next. IsNextWithout (table_of l.catalog) l.dropped opened.job next) (take l.opened-index l.jobs) l.nexts.items
