use Rattle.std.proofs.Common.{◌≡◌, ◌≤◌, sym, ◌∙◌, subst, List, ◌++◌, length, Vec, Global}
use Rattle.row_blob.specs.declared.kept.Acc.{Acc}
use Rattle.plan_core.specs.Columns.{Rows}
use Rattle.plan_laws.specs.GroupBounds.{AreGroups, HaveAverages}
use Rattle.plan_laws.specs.GrowthOfGroups.{groups_of, merged_groups}
use Rattle.plan_laws.proofs.GroupBounds.{HasNumbers, are_groups, have_averages}
use Rattle.plan_laws.proofs.ValidPlans.{all-append}
use Rattle.group_fold.specs.Numbers.{HaveNumbers}
use Rattle.group_fold.specs.Table.{groups_in}
use Rattle.group_fold.proofs.Tables.{fed_more, on_ok}
use Rattle.group_fold.proofs.groups.Groups.feed.Goals as goal

abbrev items : Vec Acc Global → List Acc
items accs = accs.items

pub returns-clause-bounds : goal.returns-clause-bounds
returns-clause-bounds c =
    let keys = c.args.keys.now in
    let aggs = c.args.aggs.now in
    let rows = c.args.rows.now in
    let news = c.in_ok-further.further.items in
    let before = groups_in items c.self.inside.table.entries in
    let after = groups_in items c.take_groups.new.table.entries in
    on_ok c.take_groups.result (after ≡ merged_groups aggs before news)
    ((fed : Rows) → c.args.self.now ≡ groups_of keys aggs fed → HaveNumbers aggs fed → length (fed ++ rows) ≤ 4294967295 → AreGroups aggs after)
    (λ merged fed is numbers few.
    subst (AreGroups aggs) (sym (fed_more keys aggs fed rows before after news (c.self.view_is ∙ is) c.in_ok-further.ensures.groups merged))
    (are_groups keys aggs (fed ++ rows) (all-append (HasNumbers aggs) fed rows numbers c.in_ok-further.ensures.numbers) few))
    c.take_groups.ensures.merged

pub returns-clause-averages : goal.returns-clause-averages
returns-clause-averages c =
    let keys = c.args.keys.now in
    let aggs = c.args.aggs.now in
    let rows = c.args.rows.now in
    let news = c.in_ok-further.further.items in
    let before = groups_in items c.self.inside.table.entries in
    let after = groups_in items c.take_groups.new.table.entries in
    on_ok c.take_groups.result (after ≡ merged_groups aggs before news)
    ((fed : Rows) → c.args.self.now ≡ groups_of keys aggs fed → HaveNumbers aggs fed → length (fed ++ rows) ≤ 4294967295 → HaveAverages after)
    (λ merged fed is numbers few.
    subst HaveAverages (sym (fed_more keys aggs fed rows before after news (c.self.view_is ∙ is) c.in_ok-further.ensures.groups merged))
    (have_averages keys aggs (fed ++ rows) (all-append (HasNumbers aggs) fed rows numbers c.in_ok-further.ensures.numbers) few))
    c.take_groups.ensures.merged
