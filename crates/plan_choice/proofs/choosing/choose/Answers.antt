use Rattle.std.proofs.Common.{[], subst}
use Rattle.std.proofs.lemmas.Result.{IfOk-weaker}
use Rattle.plan_canon.specs.Normal.{IsNormalFormOf}
use Rattle.plan_core.specs.PlainPlan.{PlainPlan}
use Rattle.catalog_core.specs.Catalogs.{table_of}
use Rattle.catalog_core.specs.Programs.{kinds_of_streams}
use Rattle.catalog_core.specs.Table.{Table}
use Rattle.plan_choice.specs.Leaving.{leaving_out}
use Rattle.plan_choice.specs.Taken.{IsChoice}
use Rattle.plan_choice.specs.declared.choosing.Choice.{Choice}
use Rattle.plan_choice.proofs.NormalForms.{form_cuts}
use Rattle.plan_choice.proofs.choosing.choose.Goals as goal

pub choose_without-requires : goal.choose_without-requires
choose_without-requires c =
    let t = table_of c.args.catalog.now in
    form_cuts t.streams c.args.plan.plan c.in_ok-normal.normal.plan c.args.cuts.now c.in_ok-normal.ensures c.requires.cuts

pub returns-clause-chosen : goal.returns-clause-chosen
returns-clause-chosen c =
    let t = table_of c.args.catalog.now in
    let kinds = kinds_of_streams t.streams in
    let plan = c.args.plan.plan in
    let cuts = c.args.cuts.now in
    IfOk-weaker c.choose_without.result
    (λ (choice : Choice). (plan : PlainPlan) → IsNormalFormOf kinds plan c.in_ok-normal.normal.plan → IsChoice (leaving_out [] t) plan cuts choice)
    (IsChoice t plan cuts)
    (λ choice is. subst (λ (x : Table). IsChoice x plan cuts choice) (c.results_are_left_out.ensures.none t) (is plan c.in_ok-normal.ensures)) c.choose_without.ensures.chosen
