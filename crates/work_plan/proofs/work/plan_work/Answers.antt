use Rattle.std.proofs.Common.{◌≡◌, ◌∙◌, sym, ap, subst, ℕ, ◌<◌, List, [], length, map, arith}
use Rattle.plan_core.specs.PlainPlan.{plan_of}
use Rattle.plan_spelling.specs.Spelling.{HasPlanSpelling}
use Rattle.executor.specs.declared.outcome.KeptPlace.{KeptPlace}
use Rattle.catalog_types.specs.PlainEntry.{PlainNewEntry}
use Rattle.catalog_types.specs.declared.change.Change.TheVariants.{Work}
use Rattle.entry_table.proofs.Growth.{all-map}
use Rattle.catalog_core.specs.Catalogs.{table_of}
use Rattle.record_codec.specs.Spelling.{HasChangeSpelling}
use Rattle.admission.specs.Admitting.{made_of, Admits}
use Rattle.entry_table.specs.Ids.{without}
use Rattle.work_plan.specs.Fitting.{IsFit}
use Rattle.work_plan.specs.Planning.{ids_from}
use Rattle.work_plan.proofs.Recorded.{planned, is-work-plan}
use Rattle.work_plan.proofs.work.plan_work.Goals as goal

pub admitted_beside-requires : goal.admitted_beside-requires
admitted_beside-requires c =
    all-map (λ (kept : KeptPlace). IsFit (table_of c.args.catalog.now).streams (plan_of kept.plan) kept.cuts × (0 < kept.machine)) (λ (kept : KeptPlace). HasPlanSpelling (plan_of kept.plan))
    (λ kept is. is.0.spelled) c.args.made.items c.requires.made

pub ids_from-requires : goal.ids_from-requires
ids_from-requires c =
    let t = table_of c.args.catalog.now in
    let admits = subst (λ (ids : List ℕ). Admits (without ids t.entries) t.next_file [] (map made_of c.args.made.items) c.in_ok-admitted.admitted.items) c.as_slice.ensures.value c.in_ok-admitted.ensures in
    let good = planned (table_of c.args.catalog.now) c.know_table.ensures c.requires.counted c.counts_are_of_the_written_plan.ensures.limits c.admitted_results_may_be_kept.ensures
    c.args.program c.know_name.ensures c.requires.program c.args.used.items c.requires.used c.args.dropped.items c.requires.dropped c.args.made.items c.requires.made
    c.in_ok-admitted.admitted.items admits c.in_ok-parts.parts.entries.items c.in_ok-parts.ensures.entries c.in_ok-parts.ensures.numbers in
    let numbered = good.numbered in
    omega (arith, numbered, c.next_id.ensures, c.len-count.ensures)

pub spell_change-requires : goal.spell_change-requires
spell_change-requires c =
    let t = table_of c.args.catalog.now in
    let admits = subst (λ (ids : List ℕ). Admits (without ids t.entries) t.next_file [] (map made_of c.args.made.items) c.in_ok-admitted.admitted.items) c.as_slice.ensures.value c.in_ok-admitted.ensures in
    let good = planned (table_of c.args.catalog.now) c.know_table.ensures c.requires.counted c.counts_are_of_the_written_plan.ensures.limits c.admitted_results_may_be_kept.ensures
    c.args.program c.know_name.ensures c.requires.program c.args.used.items c.requires.used c.args.dropped.items c.requires.dropped c.args.made.items c.requires.made
    c.in_ok-admitted.admitted.items admits c.in_ok-parts.parts.entries.items c.in_ok-parts.ensures.entries c.in_ok-parts.ensures.numbers in
    subst HasChangeSpelling (sym (c.change_of-change.ensures ∙ ap (λ (entries : List PlainNewEntry). Work c.args.program c.args.used.items c.args.dropped.items entries) c.in_ok-parts.ensures.entries)) good.spelled

pub returns : goal.returns
returns c =
    let t = table_of c.args.catalog.now in
    let admits = subst (λ (ids : List ℕ). Admits (without ids t.entries) t.next_file [] (map made_of c.args.made.items) c.in_ok-admitted.admitted.items) c.as_slice.ensures.value c.in_ok-admitted.ensures in
    let good = planned (table_of c.args.catalog.now) c.know_table.ensures c.requires.counted c.counts_are_of_the_written_plan.ensures.limits c.admitted_results_may_be_kept.ensures
    c.args.program c.know_name.ensures c.requires.program c.args.used.items c.requires.used c.args.dropped.items c.requires.dropped c.args.made.items c.requires.made
    c.in_ok-admitted.admitted.items admits c.in_ok-parts.parts.entries.items c.in_ok-parts.ensures.entries c.in_ok-parts.ensures.numbers in
    let count : c.len-count.result ≡ length c.in_ok-admitted.admitted.items = omega (arith, c.len-count.ensures, c.in_ok-admitted.admitted.ok.0) in
    is-work-plan (table_of c.args.catalog.now) c.args.program c.args.used.items c.args.dropped.items (map made_of c.args.made.items) c.in_ok-admitted.admitted.items admits good c.changes_are_short.ensures
    (record { change = c.change_of-change.result; body = c.in_ok-body.body; files = c.in_ok-parts.parts.files; kept = c.in_ok-kept.kept })
    (c.change_of-change.ensures ∙ ap (λ (entries : List PlainNewEntry). Work c.args.program c.args.used.items c.args.dropped.items entries) c.in_ok-parts.ensures.entries)
    c.in_ok-body.ensures c.in_ok-parts.ensures.files (c.in_ok-kept.ensures ∙ (λ i. ids_from (c.next_id.ensures i) (count i)))
