use Rattle.std.proofs.Common.{refl, sym, ap, ◌∙◌, List, Vec, Global}
use Rattle.std.specs.Map.{lookup}
use Rattle.rows_core.specs.Value.{row_eq}
use Rattle.row_blob.specs.declared.kept.Acc.{Acc}
use Rattle.row_blob.specs.Kept.{AreEach}
use Rattle.plan_laws.specs.GrowthOfGroups.{joined_accs}
use Rattle.plan_laws.specs.GroupBounds.{IsAccOf}
use Rattle.group_fold.specs.Table.{groups_in}
use Rattle.group_fold.proofs.Tables.{same_keys, found_by, put_found_by, put_new_by, if_some}
use Rattle.group_fold.proofs.merging.put_group.Goals as goal

abbrev items : Vec Acc Global → List Acc
items accs = accs.items

pub join_accs-requires-clause-old : goal.join_accs-requires-clause-old
join_accs-requires-clause-old c =
    if_some (λ (accs : Vec Acc Global). AreEach IsAccOf c.args.aggs.now accs.items) (lookup (row_eq c.args.group.key) c.args.table.now.entries) c.index_mut.result.now
    (found_by same_keys c.args.aggs.now items c.args.table.now.entries c.args.group.key c.args.group.key c.in-Some.at c.index_mut.result.now refl c.in-Some.ensures.value c.index_mut.ensures.value) c.requires.old

pub returns-in-Some-clause-merged : goal.returns-in-Some-clause-merged
returns-in-Some-clause-merged c =
    put_found_by same_keys c.args.aggs.now items c.args.table.now.entries c.args.group c.args.group.key c.in-Some.at c.index_mut.result.now c.join_accs.new.olds refl (sym c.in-Some.ensures.index) c.index_mut.ensures.value c.in-Some.ensures.unique
    (c.join_accs.ensures ∙ ap (joined_accs c.args.aggs.now c.index_mut.result.now.items) c.into_vec.ensures)

pub returns-in-Ok-clause-merged : goal.returns-in-Ok-clause-merged
returns-in-Ok-clause-merged c =
    ap (groups_in items) c.in-Ok.ensures.entries
    ∙ put_new_by same_keys c.args.aggs.now items c.args.table.now.entries c.args.group c.args.group.key c.into_vec-in-None.result refl c.in-None.ensures.found c.in-None.ensures.unique c.into_vec-in-None.ensures
