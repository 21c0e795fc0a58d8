use Rattle.std.proofs.Common.{◌≡◌, ◌∙◌, refl, ap, sym, subst, ℕ, List, [], map}
use Rattle.catalog_types.specs.PlainEntry.{PlainEntry}
use Rattle.catalog_core.specs.Catalogs.{table_of}
use Rattle.catalog_core.specs.IsTable.{IsTable}
use Rattle.catalog_core.specs.Table.{Table}
use Rattle.admission.specs.Admitting.{made_of}
use Rattle.entry_table.specs.Ids.{AreIdsOf}
use Rattle.work_plan.specs.Planning.{IsWorkPlan}
use Rattle.work_run.specs.declared.work.Work.{Work}
use Rattle.work_run.proofs.Worked.{Laws}
use Rattle.work_turns.specs.Ends.{files_among, those_among}
use Rattle.work_turns.specs.Turns.{IsChosenOf}
use Rattle.work_turns.proofs.Dropped.{among-twice, are-among-all, are-ids}
use Rattle.work_turns.proofs.WorkedTurns.{comes-in-turns}
use Rattle.work_turns.proofs.work.work_of_turns.Goals as goal

pub plan_work-requires-clause-used : goal.plan_work-requires-clause-used
plan_work-requires-clause-used c =
    let t = table_of c.args.catalog.now in
    subst (AreIdsOf t.entries) (sym (c.in_ok-reads.ensures ∙ c.as_slice-2.ensures.value)) (are-among-all c.args.last.lost.items t.entries c.args.last.turn.used.items c.requires.told.used)

pub plan_work-requires-clause-dropped : goal.plan_work-requires-clause-dropped
plan_work-requires-clause-dropped c =
    let t = table_of c.args.catalog.now in
    let gone = c.args.last.lost.items in
    let same : c.in_ok-dropped.dropped.ids.items ≡ those_among gone t.entries = c.in_ok-dropped.ensures.ids ∙ (λ i. those_among (c.as_slice.ensures.value i) (c.entries.ensures.entries i)) in
    subst (AreIdsOf t.entries) (sym same) (are-ids gone t.entries c.know_table.ensures.kept.ascend)

pub returns-clause-ok : goal.returns-clause-ok
returns-clause-ok c = λ care s plan form cuts choice valid means is is_last.
    let laws : Laws = record {
      entries = c.kept_results_of_tables.ensures.sound;
      meaning = c.serving_rewritings.ensures.meaning;
      same_leaves = c.serving_rewritings.ensures.leaves;
      places = c.places_of_fit_plans.ensures.made;
      shaped = c.kept_forms_have_their_shape.ensures;
    } in
    let t = table_of c.args.catalog.now in
    let last = c.args.last in
    let mades = map made_of last.turn.outcome.made.items in
    let gone = last.lost.items in
    let same : c.in_ok-dropped.dropped.ids.items ≡ those_among gone t.entries = c.in_ok-dropped.ensures.ids ∙ (λ i. those_among (c.as_slice.ensures.value i) (c.entries.ensures.entries i)) in
    let planned =
    subst (λ (ids : List ℕ). IsWorkPlan t c.args.program last.turn.used.items ids mades c.in_ok-plan.plan) same
    (subst (λ (ids : List ℕ). IsWorkPlan t c.args.program ids c.in_ok-dropped.dropped.ids.items mades c.in_ok-plan.plan) (c.in_ok-reads.ensures ∙ c.as_slice-2.ensures.value) c.in_ok-plan.ensures) in
    let work : Work = record { rows = last.turn.outcome.rows; used = last.turn.used; read = last.read; plan = c.in_ok-plan.plan } in
    comes-in-turns laws c.taken_rewritings.ensures.serves c.taken_rewritings.ensures.more care s valid (subst IsTable means c.know_table.ensures) plan form cuts choice
    (subst (λ (x : Table). IsChosenOf x [] plan form cuts choice) means is) last is_last c.args.program work refl refl refl
    (subst (λ (x : Table). IsWorkPlan x c.args.program last.turn.used.items (those_among gone x.entries) mades c.in_ok-plan.plan) means planned)

pub returns-clause-dropped : goal.returns-clause-dropped
returns-clause-dropped c = c.in_ok-goes.ensures ∙ c.as_slice-3.ensures.value ∙ c.in_ok-dropped.ensures.ids ∙ (λ i. those_among (c.as_slice.ensures.value i) (c.entries.ensures.entries i))

pub returns-clause-gone : goal.returns-clause-gone
returns-clause-gone c =
    let t = table_of c.args.catalog.now in
    let gone = c.args.last.lost.items in
    let files = c.in_ok-dropped.ensures.files ∙ (λ i. files_among (c.as_slice.ensures.value i) (c.entries.ensures.entries i)) in
    files ∙ ap (map (λ (e : PlainEntry). e.file.file)) (sym (among-twice gone t.entries))
