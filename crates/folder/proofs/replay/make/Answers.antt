use Rattle.std.proofs.Common.{sym, subst}
use Rattle.catalog_core.specs.Catalogs.{table_of}
use Rattle.folder.specs.Refusals.{IsStop}
use Rattle.folder.proofs.Unread.{unread_stops}
use Rattle.folder.proofs.replay.make.Goals as goal

pub returns-in-Err-clause-stops : goal.returns-in-Err-clause-stops
returns-in-Err-clause-stops c =
    subst (IsStop c.args.form c.args.due (table_of c.args.catalog.now) c.args.body.now) (sym c.of_change.ensures)
    (unread_stops c.args.form c.args.due (table_of c.args.catalog.now) c.args.body.now c.in-Err.refusal c.in-Err.ensures.place c.in-Err.ensures.only)
