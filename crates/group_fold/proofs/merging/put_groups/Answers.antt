use Rattle.std.proofs.Common.{rules, ◌≡◌, ◌++◌, ◌∷◌, [], List, length, sym, ap, ◌∙◌, append_assoc, Vec, Global, arith}
use Rattle.std.specs.Vec.Iter.{into_iter_items}
use Rattle.std.proofs.lemmas.List.Elements.{recursion_from_All}
use Rattle.row_blob.specs.declared.kept.Acc.{Acc}
use Rattle.row_blob.specs.declared.kept.GroupRow.{GroupRow}
use Rattle.row_blob.specs.Kept.{AreEach}
use Rattle.plan_laws.specs.GrowthOfGroups.{merged_groups}
use Rattle.plan_laws.specs.GroupBounds.{IsAccOf}
use Rattle.group_fold.specs.Table.{groups_in}
use Rattle.group_fold.proofs.Tables.{if_old, fresh_group, merged_nothing, one_more}
use Rattle.group_fold.proofs.merging.put_groups.Goals as goal

abbrev items : Vec Acc Global → List Acc
items accs = accs.items

pub loop-group-init : goal.loop-group-init
loop-group-init c = record {
  whole = search rules;
  left = search rules;
  room = search rules;
  merged = sym (merged_nothing c.args.aggs.now (groups_in items c.args.table.now.entries));
}

pub put_group-requires-clause-old : goal.put_group-requires-clause-old
put_group-requires-clause-old c =
    let at = c.loop-group in
    let aggs = c.args.aggs.now in
    let olds = groups_in items c.args.table.now.entries in
    let steps : into_iter_items at.group-iterator ≡ c.in-Some.group ∷ into_iter_items c.next.new.self = c.in-Some.ensures.steps.0 in
    let whole : at.yielded ++ c.in-Some.group ∷ into_iter_items c.next.new.self ≡ c.args.groups.items = ap (λ (l : List GroupRow). at.yielded ++ l) (sym steps) ∙ at.invariant.whole in
    if_old aggs items (AreEach IsAccOf aggs) c.in-Some.group.key at.table.entries olds at.yielded at.invariant.merged
    (fresh_group at.yielded (into_iter_items c.next.new.self) c.args.groups.items c.in-Some.group whole c.requires.new.0)
    (recursion_from_All (λ group. AreEach IsAccOf aggs group.accs) olds c.requires.old.1)

pub put_group-requires-clause-room : goal.put_group-requires-clause-room
put_group-requires-clause-room c =
    let steps : into_iter_items c.loop-group.group-iterator ≡ c.in-Some.group ∷ into_iter_items c.next.new.self = c.in-Some.ensures.steps.0 in
    let room = c.loop-group.invariant.room in
    let short = ap length steps in
    omega arith

pub loop-group-preserved : goal.loop-group-preserved
loop-group-preserved c =
    let at = c.loop-group in
    let aggs = c.args.aggs.now in
    let olds = groups_in items c.args.table.now.entries in
    let g = c.in-Some.group in
    let rest = into_iter_items c.next.new.self in
    let steps : into_iter_items at.group-iterator ≡ g ∷ rest = c.in-Some.ensures.steps.0 in
    let whole : at.yielded ++ g ∷ rest ≡ c.args.groups.items = ap (λ (l : List GroupRow). at.yielded ++ l) (sym steps) ∙ at.invariant.whole in
    record {
      whole = append_assoc at.yielded (g ∷ []) rest ∙ whole;
      left = (let was = at.invariant.left in let gone = c.in-Some.ensures.steps.1 in let short = ap length steps in omega arith);
      room = (let was = at.invariant.room in let kept = c.put_group.ensures.room in let short = ap length steps in omega arith);
      merged =
          c.put_group.ensures.merged ∙ ap (λ l. merged_groups aggs l (g ∷ [])) at.invariant.merged
          ∙ sym (one_more aggs g at.yielded (fresh_group at.yielded rest c.args.groups.items g whole c.requires.new.0) olds);
    }
