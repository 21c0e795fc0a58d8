use Rattle.std.proofs.Common.{Ok, ap, subst}
use Rattle.catalog_core.specs.Catalogs.{table_of}
use Rattle.catalog_core.specs.Table.{Table}
use Rattle.planning.specs.Fetching.{IsFetching}
use Rattle.planning.specs.Running.{Target}
use Rattle.folder_session.specs.Wanted.{CanWork, target_at}
use Rattle.folder_session.specs.declared.wanting.Purpose.TheVariants as purpose
use Rattle.folder_session.proofs.ChosenLemmas.{own_planned, own_target}
use Rattle.folder_session.proofs.session.FolderSession.want_fetch.Goals as goal

pub returns-in-Ok-clause-ready : goal.returns-in-Ok-clause-ready
returns-in-Ok-clause-ready c =
    let is = c.in-Ok.ensures.ok in
    subst (λ (t : Table). CanWork t (record { typed = c.in-Ok.field-0.typed; purpose = purpose.Fetch c.in-Ok.field-0.cuts })) (ap table_of c.catalog.ensures)
    (record { planned = own_planned (table_of c.catalog.result.now) is.0 c.in-Ok.field-0.typed c.in-Ok.field-0.cuts is.2; fits = tt })

pub returns-in-Ok-clause-wanted : goal.returns-in-Ok-clause-wanted
returns-in-Ok-clause-wanted c =
    let is = c.in-Ok.ensures.ok in
    let t = table_of c.catalog.result.now in
    let own = own_target t is.0 c.in-Ok.field-0.typed c.in-Ok.field-0.cuts is.2.typed_at in
    subst (λ (t : Table). IsFetching t c.args.name c.args.as_run (Ok (target_at c.in-Ok.field-0.typed c.in-Ok.field-0.cuts))) (ap table_of c.catalog.ensures)
    (subst (λ (target : Target). IsFetching t c.args.name c.args.as_run (Ok target)) own is.1)
