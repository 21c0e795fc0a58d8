-- The entries passed are counted, and the others are as they were.
use Rattle.std.proofs.Common.{◌≡◌, ◌++◌, map, take, drop, vec_capacity}
use Rattle.entry_table.specs.Work.{used}
use Rattle.entry_table.proofs.uses.add_uses.Given as goal

abbrev pub invariant-loop-place : goal.invariant-loop-place
invariant-loop-place l = record {
  items : l.entries.items ≡ map (used l.tick l.ids) (take l.place l.initial.entries.items) ++ drop l.place l.initial.entries.items;
  room : vec_capacity l.entries ≡ vec_capacity l.initial.entries;
}
