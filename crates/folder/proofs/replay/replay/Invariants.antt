use Rattle.gated_log.specs.Logs.{contents}
use Rattle.catalog_core.specs.Catalogs.{table_of}
use Rattle.folder.specs.Replay.{due_in, form_in}
use Rattle.folder.proofs.Going.{Going}
use Rattle.folder.proofs.replay.replay.Given as goal

abbrev pub invariant-loop-i : goal.invariant-loop-i
invariant-loop-i l = Going (form_in (contents l.bodies)) (due_in l.generation) l.bodies l.i l.due (table_of l.catalog)
