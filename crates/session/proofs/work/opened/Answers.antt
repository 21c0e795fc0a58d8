use Rattle.std.proofs.Common.{sym, refl, subst, ◌∙◌, []}
use Rattle.estimator.specs.Cuts.{Cuts}
use Rattle.catalog_core.specs.Catalogs.{table_of}
use Rattle.catalog_core.specs.Table.{Table}
use Rattle.catalog_types.specs.declared.program.Program.{Program}
use Rattle.plan_choice.specs.Taken.{IsTaken}
use Rattle.planning.specs.Running.{target_of}
use Rattle.folder_session.proofs.ChosenLemmas.{typed_there}
use Rattle.work_run.specs.Opened.{opened_rewriting}
use Rattle.work_turns.specs.Turns.{IsChosenOf}
use Rattle.session.proofs.work.opened.Goals as goal

pub open_job-requires-clause-chosen : goal.open_job-requires-clause-chosen
open_job-requires-clause-chosen c =
    let t = table_of c.args.catalog.now in
    let planned = c.in-Ok.ensures.ok in
    let target = target_of planned.0 in
    let cuts = c.in-Ok.plan.program.cuts in
    let taken = c.in-Ok-chosen.taken in (
      planned.0.plan,
      subst (λ (x : Cuts). IsChosenOf t [] planned.0.plan taken.normal.plan x taken.choice) c.items.ensures
          (c.in-Ok-chosen.ensures.of_form target (typed_there t t refl target c.in-Ok.plan.typed cuts c.items.result.now c.items.ensures planned.2.typed_at)),
    )

pub returns-in-Ok-open_job-clause-ok : goal.returns-in-Ok-open_job-clause-ok
returns-in-Ok-open_job-clause-ok c =
    let t = table_of c.args.catalog.now in
    let planned = c.in-Ok.ensures.ok in
    let run = planned.0 in
    let target = target_of run in
    let cuts = c.in-Ok.plan.program.cuts in
    let taken = c.in-Ok-chosen.taken in
    let chosen = subst (λ (x : Cuts). IsChosenOf t [] run.plan taken.normal.plan x taken.choice) c.items.ensures
    (c.in-Ok-chosen.ensures.of_form target (typed_there t t refl target c.in-Ok.plan.typed cuts c.items.result.now c.items.ensures planned.2.typed_at)) in
    let opened = c.in-Ok-open_job.ensures.opened run.plan chosen in
    let job = c.in-Ok-open_job.work in
    let same = opened.fresh.program_is in (
      run,
      planned.1,
      record {
        program_is = opened.fresh.program_is ∙ planned.2.program_is;
        taken = subst (λ (p : Program). IsTaken t run.plan job.normal.plan p.cuts (opened_rewriting job.work)) planned.2.program_is
            (subst (λ (form : _). IsTaken t run.plan form c.in-Ok.plan.program.cuts (opened_rewriting job.work)) (sym opened.form_is)
            (subst (λ (x : Table). IsTaken x run.plan taken.normal.plan c.in-Ok.plan.program.cuts (opened_rewriting job.work)) (c.results_are_left_out.ensures.none t) opened.fresh.taken));
        is_job = c.in-Ok-open_job.ensures.job run.plan chosen;
        unread = opened.fresh.unread;
        noted = opened.noted;
        before = opened.before;
        read = opened.fresh.read;
      },
    )
