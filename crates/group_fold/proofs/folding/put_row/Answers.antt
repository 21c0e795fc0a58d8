use Rattle.std.proofs.Common.{◌≡◌, sym, ap, ◌∙◌, List, [], ◌∷◌, map, Vec, Global}
use Rattle.std.specs.Map.{lookup}
use Rattle.rows_core.specs.Value.{row_eq}
use Rattle.row_blob.specs.declared.kept.Acc.{Acc}
use Rattle.row_blob.specs.declared.kept.GroupRow.{GroupRow}
use Rattle.row_blob.specs.Kept.{AreEach}
use Rattle.plan_core.specs.Columns.{columns_of}
use Rattle.plan_laws.specs.KeptForm.{acc_of}
use Rattle.plan_laws.specs.GrowthOfGroups.{groups_of, joined_accs, merged_groups}
use Rattle.plan_laws.specs.GroupBounds.{IsAccOf}
use Rattle.indexmap.specs.Layout.{set_value_at}
use Rattle.group_fold.specs.Table.{groups_in}
use Rattle.group_fold.proofs.Tables.{same_keys, found_by, put_found_by, put_new_by, one_row, if_some, on_ok}
use Rattle.group_fold.proofs.folding.put_row.Goals as goal

abbrev items : Vec Acc Global → List Acc
items accs = accs.items

pub take_in-requires : goal.take_in-requires
take_in-requires c =
    if_some (λ (accs : Vec Acc Global). AreEach IsAccOf c.args.aggs.now accs.items) (lookup (row_eq (columns_of c.args.keys.now c.args.row.now)) c.args.table.now.entries) c.index_mut.result.now
    (found_by same_keys c.args.aggs.now items c.args.table.now.entries (columns_of c.args.keys.now c.args.row.now) c.in_ok-key.key c.in-Some.at c.index_mut.result.now c.in_ok-key.ensures c.in-Some.ensures.value c.index_mut.ensures.value) c.requires

pub returns-in-Some-clause-merged : goal.returns-in-Some-clause-merged
returns-in-Some-clause-merged c =
    let keys = c.args.keys.now in
    let aggs = c.args.aggs.now in
    let row = c.args.row.now in
    let entries = c.args.table.now.entries in
    let g : GroupRow = record { key = columns_of keys row; accs = map (acc_of (row ∷ [])) aggs } in
    on_ok c.take_in.result (c.take_in.new.accs.items ≡ joined_accs aggs c.index_mut.result.now.items (map (acc_of (row ∷ [])) aggs))
    (groups_in items (set_value_at entries c.in-Some.at c.take_in.new.accs) ≡ merged_groups aggs (groups_in items entries) (groups_of keys aggs (row ∷ [])))
    (λ joined.
    put_found_by same_keys aggs items entries g c.in_ok-key.key c.in-Some.at c.index_mut.result.now c.take_in.new.accs c.in_ok-key.ensures (sym c.in-Some.ensures.index) c.index_mut.ensures.value c.in-Some.ensures.unique joined
    ∙ ap (merged_groups aggs (groups_in items entries)) (sym (one_row keys aggs row)))
    c.take_in.ensures.joined

pub returns-in_ok-insert-in-None-clause-merged : goal.returns-in_ok-insert-in-None-clause-merged
returns-in_ok-insert-in-None-clause-merged c =
    let keys = c.args.keys.now in
    let aggs = c.args.aggs.now in
    let row = c.args.row.now in
    let entries = c.args.table.now.entries in
    let g : GroupRow = record { key = columns_of keys row; accs = map (acc_of (row ∷ [])) aggs } in
    ap (groups_in items) c.in_ok-insert-in-None.ensures.entries
    ∙ put_new_by same_keys aggs items entries g c.in_ok-key.key c.in_ok-accs-in-None.accs c.in_ok-key.ensures c.in-None.ensures.found c.in-None.ensures.unique c.in_ok-accs-in-None.ensures.accs
    ∙ ap (merged_groups aggs (groups_in items entries)) (sym (one_row keys aggs row))
