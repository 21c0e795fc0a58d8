use Rattle.std.proofs.Common.{sym, subst, List, take, Vec, Global}
use Rattle.std.specs.List.{AllByRecursion}
use Rattle.std.proofs.lemmas.List.Elements.{recursion_from_All}
use Rattle.rows_core.specs.Value.{row_eq}
use Rattle.row_blob.specs.declared.kept.Acc.{Acc}
use Rattle.row_blob.specs.Kept.{AreEach}
use Rattle.plan_core.specs.Columns.{columns_of}
use Rattle.plan_laws.specs.GrowthOfGroups.{groups_of}
use Rattle.plan_laws.specs.GroupBounds.{IsAccOf, AreGroups, HaveAverages}
use Rattle.plan_laws.proofs.GroupBounds.{are_groups, have_averages}
use Rattle.group_fold.specs.Table.{groups_in}
use Rattle.group_fold.proofs.Tables.{if_found, fold_more, numbers_more, few_taken, finished}
use Rattle.group_fold.proofs.folding.fold.Goals as goal

abbrev items : Vec Acc Global → List Acc
items accs = accs.items

pub put_row-requires : goal.put_row-requires
put_row-requires c =
    let at = c.loop-row in
    let keys = c.args.keys.now in
    let aggs = c.args.aggs.now in
    let before = take at.row-index c.args.rows.now in
    if_found aggs items (AreEach IsAccOf aggs) (row_eq (columns_of keys c.row-item.result)) at.table.entries
    (subst (AllByRecursion (λ group. AreEach IsAccOf aggs group.accs)) (sym at.invariant.groups)
    (recursion_from_All (λ group. AreEach IsAccOf aggs group.accs) (groups_of keys aggs before)
    (are_groups keys aggs before at.invariant.numbers (few_taken at.row-index c.args.rows.now c.requires)).1))

pub loop-row-preserved : goal.loop-row-preserved
loop-row-preserved c =
    let at = c.loop-row in
    let keys = c.args.keys.now in
    let aggs = c.args.aggs.now in
    let rows = c.args.rows.now in
    record {
      groups =
          fold_more keys aggs rows (groups_in items at.table.entries) _ c.row-item.result at.row-index c.loop-row-test.true c.row-item.is at.invariant.groups c.in_ok-put_row.ensures.merged;
      numbers = numbers_more aggs rows c.row-item.result at.row-index c.loop-row-test.true c.row-item.is at.invariant.numbers c.in_ok-put_row.ensures.numbers;
    }

pub returns-clause-bounds : goal.returns-clause-bounds
returns-clause-bounds c =
    let at = c.loop-row in
    let keys = c.args.keys.now in
    let aggs = c.args.aggs.now in
    finished c.groups_of.result (groups_in items at.table.entries) (AreGroups aggs) c.groups_of.ensures
    (subst (AreGroups aggs) (sym at.invariant.groups) (are_groups keys aggs (take at.row-index c.args.rows.now) at.invariant.numbers (few_taken at.row-index c.args.rows.now c.requires)))

pub returns-clause-averages : goal.returns-clause-averages
returns-clause-averages c =
    let at = c.loop-row in
    let keys = c.args.keys.now in
    let aggs = c.args.aggs.now in
    finished c.groups_of.result (groups_in items at.table.entries) HaveAverages c.groups_of.ensures
    (subst HaveAverages (sym at.invariant.groups) (have_averages keys aggs (take at.row-index c.args.rows.now) at.invariant.numbers (few_taken at.row-index c.args.rows.now c.requires)))
