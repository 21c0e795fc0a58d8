use Rattle.std.proofs.Common.{sym, subst}
use Rattle.plan_core.specs.PlainPlan.{leaves}
use Rattle.plan_canon.specs.Normal.{IsNormalFormOf}
use Rattle.estimator.specs.Cuts.{Cuts}
use Rattle.catalog_core.specs.Catalogs.{table_of}
use Rattle.catalog_core.specs.Programs.{AreCuts, kinds_of_streams}
use Rattle.plan_choice.specs.Leaving.{leaving_out}
use Rattle.plan_choice.specs.Taken.{IsChoice}
use Rattle.job_turns.proofs.Chosen.{is-chosen}
use Rattle.job_turns.proofs.choosing.fresh.Goals as goal

pub choose_without-requires : goal.choose_without-requires
choose_without-requires c = subst (AreCuts (table_of c.args.catalog.now).streams (leaves c.args.normal.now.plan)) (sym c.items.ensures) c.requires.suits.1.fit.over.are_cuts

pub begun-requires-clause-chosen : goal.begun-requires-clause-chosen
begun-requires-clause-chosen c =
    let t = table_of c.args.catalog.now in
    let ids = c.args.left_out.now in
    let q = c.requires.suits in
    let form = c.args.normal.now.plan in (
      ids,
      q.0,
      form,
      is-chosen c.taken_rewritings.ensures.serves t ids q.0 form c.args.program.cuts q.1 c.in_ok-choice.choice
          (subst (λ (cuts : Cuts). IsNormalFormOf (kinds_of_streams t.streams) q.0 form → IsChoice (leaving_out ids t) q.0 cuts c.in_ok-choice.choice) c.items.ensures (c.in_ok-choice.ensures.chosen q.0)) c.in_ok-choice.ensures.form,
    )

pub returns : goal.returns
returns c = λ plan suits.
    let t = table_of c.args.catalog.now in
    let ids = c.args.left_out.now in
    let form = c.args.normal.now.plan in
    c.in_ok-begun.ensures.fresh ids plan form
    (is-chosen c.taken_rewritings.ensures.serves t ids plan form c.args.program.cuts suits c.in_ok-choice.choice
    (subst (λ (cuts : Cuts). IsNormalFormOf (kinds_of_streams t.streams) plan form → IsChoice (leaving_out ids t) plan cuts c.in_ok-choice.choice) c.items.ensures (c.in_ok-choice.ensures.chosen plan)) c.in_ok-choice.ensures.form)
