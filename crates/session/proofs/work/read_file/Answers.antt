use Rattle.std.proofs.Common.{sym, ap, ◌∙◌, subst, refl, inl, inr, List, length}
use Rattle.rewrite_core.specs.Files.{FileName}
use Rattle.estimator.specs.Bytes.{capped}
use Rattle.executor.specs.Runs.{of_reading}
use Rattle.catalog_core.specs.Catalogs.{table_of}
use Rattle.folder_session.specs.Machine.{IsOfExtent}
use Rattle.folder_session.specs.WorkRefusals.{refusal_of}
use Rattle.work_run.specs.Opened.{files_left}
use Rattle.job_turns.proofs.Reading.{reads-nothing}
use Rattle.session.proofs.LeftLemmas.{none_left, of_extent_read}
use Rattle.session.proofs.work.read_file.Goals as goal

-- ---- none is left

pub returns-then-left-eq0-clause-told : goal.returns-then-left-eq0-clause-told
returns-then-left-eq0-clause-told g c = λ plan is.
    let none = none_left (files_left c.args.work.now.work) (sym c.left.ensures ∙ c.if-left-eq0.true) in
    (ap (λ (files : List FileName). capped (length files)) (sym none), inl (none, refl, refl))

pub returns-then-left-eq0-clause-reads : goal.returns-then-left-eq0-clause-reads
returns-then-left-eq0-clause-reads g c = λ plan is. reads-nothing g.D.Store.tells (table_of c.args.catalog.now) (g.D.Store.view c.args.store.now) plan c.args.work.now (g.D.Store.counts c.args.store.now) is

-- ---- one is

pub returns-in-Ok-clause-told : goal.returns-in-Ok-clause-told
returns-in-Ok-clause-told g c = λ plan is. (
  c.left-in-Ok.ensures,
  inr ((λ none. c.if-left-eq0.false (c.left.ensures ∙ ap (λ (files : List FileName). capped (length files)) none)), c.in-Ok.field-0, c.in-Ok.ensures.step plan is),
)

pub returns-in-Err-clause-told : goal.returns-in-Err-clause-told
returns-in-Err-clause-told g c = λ plan is. ((λ none. c.if-left-eq0.false (c.left.ensures ∙ ap (λ (files : List FileName). capped (length files)) none)), c.in-Err.ensures.refused)

pub returns-in-Err-clause-reads : goal.returns-in-Err-clause-reads
returns-in-Err-clause-reads g c = λ plan is.
    let t = table_of c.args.catalog.now in
    let halts = c.in-Err.ensures.halts plan is in
    let same = c.refusal_of.ensures ∙ ap refusal_of c.from.ensures in (
      c.in-Err.refusal,
      same,
      subst (IsOfExtent t) (sym same)
          (of_extent_read c.serving_rewritings.ensures.there c.results_are_left_out.ensures.table t c.know_table.ensures plan c.step.new.self (c.step.ensures.job plan is) (of_reading c.in-Err.refusal) halts.of_extent),
      halts,
    )
