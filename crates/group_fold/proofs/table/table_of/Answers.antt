use Rattle.std.proofs.Common.{◌≡◌, ◌++◌, ◌∷◌, [], List, length, sym, ap, ◌∙◌, append_assoc, Vec, Global, arith}
use Rattle.std.specs.Vec.Iter.{into_iter_items}
use Rattle.row_blob.specs.declared.kept.Acc.{Acc}
use Rattle.row_blob.specs.declared.kept.GroupRow.{GroupRow}
use Rattle.group_fold.specs.Table.{groups_in}
use Rattle.group_fold.proofs.Tables.{same_keys, appended_by, fresh_group}
use Rattle.group_fold.proofs.table.table_of.Goals as goal

abbrev items : Vec Acc Global → List Acc
items accs = accs.items

pub loop-group-preserved-in_ok-insert : goal.loop-group-preserved-in_ok-insert
loop-group-preserved-in_ok-insert c =
    let at = c.loop-group in
    let g = c.in-Some.group in
    let rest = into_iter_items c.next.new.self in
    let steps : into_iter_items at.group-iterator ≡ g ∷ rest = c.in-Some.ensures.steps.0 in
    let whole : at.yielded ++ g ∷ rest ≡ c.args.groups.items = ap (λ (l : List GroupRow). at.yielded ++ l) (sym steps) ∙ at.invariant.whole in
    record {
      whole = append_assoc at.yielded (g ∷ []) rest ∙ whole;
      left = (let was = at.invariant.left in let gone = c.in-Some.ensures.steps.1 in let short = ap length steps in omega arith);
      groups =
          ap (groups_in items) c.in_ok-insert.ensures.entries
          ∙ appended_by same_keys [] items at.table.entries at.yielded g c.into_vec.result at.invariant.groups (fresh_group at.yielded rest c.args.groups.items g whole c.requires) c.into_vec.ensures;
    }

pub loop-group-preserved : goal.loop-group-preserved
loop-group-preserved c =
    let at = c.loop-group in
    let g = c.in-Some.group in
    let rest = into_iter_items c.next.new.self in
    let steps : into_iter_items at.group-iterator ≡ g ∷ rest = c.in-Some.ensures.steps.0 in
    let whole : at.yielded ++ g ∷ rest ≡ c.args.groups.items = ap (λ (l : List GroupRow). at.yielded ++ l) (sym steps) ∙ at.invariant.whole in
    record {
      whole = append_assoc at.yielded (g ∷ []) rest ∙ whole;
      left = (let was = at.invariant.left in let gone = c.in-Some.ensures.steps.1 in let short = ap length steps in omega arith);
      groups =
          ap (groups_in items) c.in_ok-insert.ensures.entries
          ∙ appended_by same_keys [] items at.table.entries at.yielded g c.into_vec.result at.invariant.groups (fresh_group at.yielded rest c.args.groups.items g whole c.requires) c.into_vec.ensures;
    }
