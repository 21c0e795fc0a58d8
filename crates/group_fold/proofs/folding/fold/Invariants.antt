-- The groups of the rows so far, and the numbers of these.
use Rattle.std.proofs.Common.{◌≡◌, take}
use Rattle.std.specs.List.{AllByRecursion}
use Rattle.plan_laws.specs.GrowthOfGroups.{groups_of}
use Rattle.plan_laws.proofs.GroupBounds.{HasNumbers}
use Rattle.group_fold.specs.Table.{groups_in}
use Rattle.group_fold.proofs.folding.fold.Given as goal

abbrev pub invariant-loop-row : goal.invariant-loop-row
invariant-loop-row l = record {
  groups : groups_in (λ accs. accs.items) l.table.entries ≡ groups_of l.keys l.aggs (take l.row-index l.rows);
  numbers : AllByRecursion (HasNumbers l.aggs) (take l.row-index l.rows);
}
