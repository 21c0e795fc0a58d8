use Rattle.std.proofs.Common.{ℕ, List, Some, ap, sym, ◌∙◌, subst, refl, inl, inr}
use Rattle.catalog_core.specs.Catalogs.{table_of}
use Rattle.folder_session.specs.Machine.{IsOfExtent}
use Rattle.work_plan.specs.Planning.{IsWorkPlan}
use Rattle.work_turns.specs.Ends.{files_among}
use Rattle.session.specs.Work.{run_of}
use Rattle.session.proofs.LeftLemmas.{of_extent_read}
use Rattle.session.proofs.work.close_work.Goals as goal

pub returns-in-Some-clause-err : goal.returns-in-Some-clause-err
returns-in-Some-clause-err g c = λ plan is. inl (record {
  kind = c.in-Some.kind;
  why_is = refl;
  over = λ other. c.in-Some.ensures.some (run_of other c.args.work.now) refl;
  same = refl;
  unread = refl;
})

pub returns-in-Ok-clause-within : goal.returns-in-Ok-clause-within
returns-in-Ok-clause-within g c = λ plan. c.in_default.ensures.none (run_of plan c.args.work.now) refl

pub returns-in-Ok-clause-planned : goal.returns-in-Ok-clause-planned
returns-in-Ok-clause-planned g c =
    let t = table_of c.args.catalog.now in
    let done = c.in-Ok.done in
    let of = c.in-Ok.ensures in
    let program = Some c.args.work.now.work.program in
    record {
      program = program;
      lost = c.close.new.self.noted.items;
      dropped = of.dropped;
      mades = of.recorded.0;
      planned = subst (λ (ids : List ℕ). IsWorkPlan t program done.work.used.items ids of.recorded.0 done.work.plan) (sym of.dropped) of.recorded.1;
      gone = of.gone ∙ ap (λ (ids : List ℕ). files_among ids t.entries) (sym of.dropped);
    }

pub returns-in-Ok-clause-narrow : goal.returns-in-Ok-clause-narrow
returns-in-Ok-clause-narrow g c = (let few = c.in-Ok.ensures.narrow in (few.0, few.1, c.in-Ok.ensures.recorded.1.few))

pub returns-in-Err-clause-err : goal.returns-in-Err-clause-err
returns-in-Err-clause-err g c = λ plan is.
    let t = table_of c.args.catalog.now in
    let halts = c.in-Err.ensures.halts plan is in
    inr (record {
      within = λ other. c.in_default.ensures.none (run_of other c.args.work.now) refl;
      met = c.in-Err.refusal;
      why_is = c.refusal_of.ensures;
      of_extent = subst (IsOfExtent t) (sym c.refusal_of.ensures)
          (of_extent_read c.serving_rewritings.ensures.there c.results_are_left_out.ensures.table t c.know_table.ensures plan c.close.new.self (c.close.ensures.job plan is) c.in-Err.refusal halts.of_extent);
      halts = halts;
      whole = c.in-Err.ensures.made;
    })
