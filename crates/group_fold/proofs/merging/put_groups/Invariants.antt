-- The merged groups of the new groups so far, and room for the others.
use Rattle.std.proofs.Common.{◌≡◌, ◌≤◌, ◌++◌, length}
use Rattle.std.specs.Vec.Iter.{into_iter_items, into_iter_len}
use Rattle.plan_laws.specs.GrowthOfGroups.{merged_groups}
use Rattle.indexmap.specs.IndexMap.{spare}
use Rattle.group_fold.specs.Table.{groups_in}
use Rattle.group_fold.proofs.merging.put_groups.Given as goal

abbrev pub invariant-loop-group : goal.invariant-loop-group
invariant-loop-group l = record {
  whole : l.yielded ++ into_iter_items l.group-iterator ≡ l.fn.groups.items;
  left : into_iter_len l.group-iterator ≡ length (into_iter_items l.group-iterator);
  room : length (into_iter_items l.group-iterator) ≤ spare l.table;
  merged : groups_in (λ accs. accs.items) l.table.entries ≡ merged_groups l.aggs (groups_in (λ accs. accs.items) l.initial.table.entries) l.yielded;
}
