use Rattle.std.proofs.Common.{◌≡◌, ◌∙◌, Ok, ap, sym, subst}
use Rattle.catalog_core.specs.Catalogs.{table_of}
use Rattle.catalog_core.specs.Table.{Table}
use Rattle.planning.specs.Running.{running, target_of}
use Rattle.folder_session.specs.Wanted.{CanWork}
use Rattle.folder_session.specs.declared.wanting.Purpose.TheVariants as purpose
use Rattle.folder_session.proofs.ChosenLemmas.{own_planned}
use Rattle.folder_session.proofs.session.FolderSession.want_run.Goals as goal

pub returns-in-Ok-clause-ready : goal.returns-in-Ok-clause-ready
returns-in-Ok-clause-ready c =
    let is = c.in-Ok.ensures.ok in
    subst (λ (t : Table). CanWork t (record { typed = c.in-Ok.field-0.typed; purpose = purpose.Run c.in-Ok.field-0.program })) (ap table_of c.catalog.ensures)
    (record { planned = own_planned (table_of c.catalog.result.now) (target_of is.0) c.in-Ok.field-0.typed c.in-Ok.field-0.program.cuts is.2.planned; fits = is.2.fits })

pub returns-in-Ok-clause-wanted : goal.returns-in-Ok-clause-wanted
returns-in-Ok-clause-wanted c =
    let is = c.in-Ok.ensures.ok in
    let own : is.0 ≡ record { plan = c.in-Ok.field-0.typed.plan; program = c.in-Ok.field-0.program } = λ i. record { plan = sym is.2.planned.typed_at.plan i; program = sym is.2.program_is i } in
    subst (λ (t : Table). running t c.args.name c.args.plan.now ≡ Ok (record { plan = c.in-Ok.field-0.typed.plan; program = c.in-Ok.field-0.program })) (ap table_of c.catalog.ensures) (is.1 ∙ ap Ok own)
