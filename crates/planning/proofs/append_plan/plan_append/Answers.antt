use Rattle.catalog_core.specs.Catalogs.{table_of}
use Rattle.planning.proofs.AppendFits.{fits_accepted, plan_accepted}
use Rattle.planning.proofs.append_plan.plan_append.Goals as goal

pub record_append-requires : goal.record_append-requires
record_append-requires c =
    fits_accepted (table_of c.args.catalog.now) c.args.name c.args.lines c.in_ok-accepted.accepted c.know_table.ensures c.requires c.in_ok-accepted.ensures.place
    (rw c.items.ensures at c.in_ok-accepted.ensures.ok)

pub returns-clause-ok : goal.returns-clause-ok
returns-clause-ok c =
    plan_accepted (table_of c.args.catalog.now) c.args.name c.args.lines c.in_ok-accepted.accepted c.know_table.ensures c.requires c.in_ok-accepted.ensures.place
    (rw c.items.ensures at c.in_ok-accepted.ensures.ok) c.record_append.result c.record_append.ensures.change c.record_append.ensures.recorded c.record_append.ensures.bytes c.record_append.ensures.held
